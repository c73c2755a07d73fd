-- The laws of the layers.
use Rattle.std.proofs.Common.{◌≡◌, ℕ, zero, suc, Bool, List, [], ◌∷◌, length, pos, neg_ℤ, Ok, Err, sym, refl, ap, ◌∙◌, arith}
use Rattle.std.proofs.lemmas.List.{take_at, length_push}
use Rattle.layers.specs.Sequence.{onward, moved, sequence, combined}
use Rattle.layers.specs.Laws.{SourceGivesWhatSinkHolds, PutIsUndone}
use Rattle.layers.proofs.Sequences.{on_shift, length-onward}
use Rattle.layers.proofs.Combining.{before_on}
use Rattle.layers.proofs.Scrambles.{moved_last}

length_moved : (n : ℕ) (w : List Bool) → length w ≡ 15 → length (moved onward n w) ≡ 15
length_moved zero w e = e
length_moved (suc n) w e = length_moved n (onward w) (length-onward w e)

-- some places on, looked at from as many places before
from_before : (n : ℕ) (w : List Bool) → length w ≡ 15 → (xs : List Bool)
    → combined (sequence (moved onward n w)) (neg_ℤ (pos n)) xs ≡ combined (sequence w) (pos 0) xs
from_before zero w e xs = refl
from_before (suc n) w e xs =
    ap (λ v. combined (sequence v) (neg_ℤ (pos (suc n))) xs) (sym (moved_last onward n w))
    ∙ before_on (sequence (onward (moved onward n w))) (sequence (moved onward n w)) (on_shift (moved onward n w) (length_moved n w e)) n xs
    ∙ from_before n w e xs

pub given_back : SourceGivesWhatSinkHolds
given_back given below e = from_before (length below) given e below

pub put_undone : PutIsUndone
put_undone s s' s'' b u (Ok tt) put cut =
    let held = cut.1 ∙ ap (λ l. lib.ListN.take (length s.held) l) put.0 ∙ take_at s.held (b ∷ []) (length s.held) refl in
    let space : s''.space ≡ s.space = omega (arith, cut.2, put.1, ap length put.0, length_push s.held b) in
    (refl, ap (λ l. record { held = l; space = s''.space }) held ∙ ap (λ n. record { held = s.held; space = n }) space)
put_undone s s' s'' b u (Err e) put cut =
    absurd (omega (arith, cut.1, ap length put.0, length_push s.held b))

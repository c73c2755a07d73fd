-- One bit through a scrambling layer, and a cut back.
use Rattle.std.proofs.Common.{◌≡◌, ℕ, zero, suc, ◌+◌, ◌-◌, ◌≤◌, Bool, eqb, List, [], ◌∷◌, ◌++◌, length, take, ℤ, pos, neg_ℤ, sym, refl, ap, ◌∙◌, arith}
use mathlib.Core.Bool.{xor}
use lib.Bits.{bit_and, and_mask}
use Rattle.std.proofs.lemmas.List.{length_push, length-take-le}
use Rattle.bits.specs.Octets.{low}
use Rattle.bits.proofs.Sent.{length-low}
use Rattle.layers.specs.Sequence.{onward, backward, moved, sequence, combined}
use Rattle.layers.proofs.Sequences.{xor_twice, on_shift}
use Rattle.layers.proofs.Combining.{combined_push, combined-take, before_on, before_back}

-- the register's lowest bit is the sequence's bit at its place
key_bit : (r : ℕ) → eqb (bit_and r 1) 1 ≡ sequence (low 15 r) (pos 0)
unfolding sequence low
key_bit r = ap (λ n. eqb n 1) (and_mask r 1)

pub none_out : (s : ℤ → Bool) (i : ℤ) (bits : List Bool) → bits ≡ [] → combined s i bits ≡ []
unfolding combined
none_out s i bits is = ap (combined s i) is

-- one bit put below, combined
pub last_in : (r r' : ℕ) (b : Bool) (held held' : List Bool) → low 15 r' ≡ onward (low 15 r) → held' ≡ held ++ xor b (eqb (bit_and r 1) 1) ∷ []
    → combined (sequence (low 15 r')) (neg_ℤ (pos (length held'))) held' ≡ combined (sequence (low 15 r)) (neg_ℤ (pos (length held))) held ++ b ∷ []
last_in r r' b held held' on is =
    let s = sequence (low 15 r) in
    let key = eqb (bit_and r 1) 1 in
    let long : length held' ≡ suc (length held) = omega (arith, ap length is, length_push held (xor b key)) in
    ap (λ n. combined (sequence (low 15 r')) (neg_ℤ (pos n)) held') long
    ∙ ap (λ w. combined (sequence w) (neg_ℤ (pos (suc (length held)))) held') on
    ∙ before_on (sequence (onward (low 15 r))) s (on_shift (low 15 r) (length-low 15 r)) (length held) held'
    ∙ ap (combined s (neg_ℤ (pos (length held)))) is
    ∙ combined_push s held (xor b key)
    ∙ ap (λ k. combined s (neg_ℤ (pos (length held))) held ++ xor (xor b key) k ∷ []) (sym (key_bit r))
    ∙ ap (λ x. combined s (neg_ℤ (pos (length held))) held ++ x ∷ []) (xor_twice b key)

pub moved_last : (step : List Bool → List Bool) (n : ℕ) (w : List Bool) → step (moved step n w) ≡ moved step (suc n) w
moved_last step zero w = refl
moved_last step (suc n) w = moved_last step n (step w)

-- the first bits held below, with the register moved back by as many places as were cut
pub cut_in : (r r' n : ℕ) (held held' : List Bool) → n ≤ length held → held' ≡ take n held
    → low 15 r' ≡ moved backward (length held - n) (low 15 r)
    → combined (sequence (low 15 r')) (neg_ℤ (pos (length held'))) held' ≡ take n (combined (sequence (low 15 r)) (neg_ℤ (pos (length held))) held)
cut_in r r' n held held' few is back =
    let w = low 15 r in
    let d = length held - n in
    let long : length held' ≡ n = ap length is ∙ length-take-le n held few in
    let whole : n + d ≡ length held = omega arith in
    ap (λ k. combined (sequence (low 15 r')) (neg_ℤ (pos k)) held') long
    ∙ ap (λ v. combined (sequence v) (neg_ℤ (pos n)) held') back
    ∙ before_back d n w (length-low 15 r) held'
    ∙ ap (λ k. combined (sequence w) (neg_ℤ (pos k)) held') whole
    ∙ ap (combined (sequence w) (neg_ℤ (pos (length held)))) is
    ∙ combined-take (sequence w) n (neg_ℤ (pos (length held))) held

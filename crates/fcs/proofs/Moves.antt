-- The table's rule, tested at all 256 entries at once, and the step by a whole octet that it gives.
use Rattle.std.proofs.Common.{◌≡◌, ℕ, zero, suc, ◌+◌, ◌*◌, ◌/◌, ◌%◌, ◌^◌, ◌<◌, Bool, true, false, ◌&&◌, T, eqb, List, [], ◌∷◌, length, get_or, sym, ap, ◌∙◌, add-zero, add-suc, suc-add, zero-add, arith, eqb→eq}
use lib.Bits.{bit_xor, xor_zero_r, xor_self, xor_assoc, xor_shifted, xor_lt}
use Rattle.bits.specs.Octets.{low}
use Rattle.fcs.specs.Sequence.{after}
use Rattle.fcs.specs.Table.{OctetMoves}
use Rattle.fcs.proofs.Linear.{after_xor, after_high, after_same}

both : (a b : Bool) → T (a && b) → T a × T b
both true b t = (tt, t)
both false b t = absurd t

entry_from : (xs : List ℕ) (i k : ℕ) → T (OctetMoves i xs) → k < length xs → get_or xs k 0 ≡ after (i + k) (low 8 0)
unfolding OctetMoves
entry_from [] i k t h = absurd (omega arith)
entry_from (x ∷ xs) i zero t h =
    eqb→eq x (after i (low 8 0)) (both (eqb x (after i (low 8 0))) (OctetMoves (suc i) xs) t).0 ∙ ap (λ n. after n (low 8 0)) (sym (add-zero i))
entry_from (x ∷ xs) i (suc k) t h =
    entry_from xs (suc i) k (both (eqb x (after i (low 8 0))) (OctetMoves (suc i) xs) t).1 (omega arith)
    ∙ ap (λ n. after n (low 8 0)) (suc-add i k ∙ sym (add-suc i k))

pub entry : (xs : List ℕ) (k : ℕ) → T (OctetMoves 0 xs) → k < length xs → get_or xs k 0 ≡ after k (low 8 0)
entry xs k t h = entry_from xs 0 k t h ∙ ap (λ n. after n (low 8 0)) (zero-add k)

-- an octet sent is eight zeros sent to the register combined with it
combined : (l o : ℕ) → o < 256 → after l (low 8 o) ≡ after (bit_xor l o) (low 8 0)
combined l o h =
    ap (λ n. after n (low 8 o)) (sym (xor_assoc l o o ∙ ap (bit_xor l) (xor_self o) ∙ xor_zero_r l))
    ∙ after_xor 8 (bit_xor l o) o 0 o
    ∙ ap (bit_xor (after (bit_xor l o) (low 8 0))) (after_same 8 o h)
    ∙ xor_zero_r (after (bit_xor l o) (low 8 0))

halves : (v : ℕ) → v ≡ bit_xor (v / 256 * 2 ^ 8) (v % 256)
halves v =
    let small : v % 256 < 256 = omega arith in
    let whole : v ≡ v / 256 * 256 + v % 256 = omega arith in
    whole ∙ sym (xor_shifted (v / 256) 8 (v % 256) small)

-- one octet: the table's entry at the octet combined with the low half, combined with the high half
pub octet_step : (xs : List ℕ) (v o : ℕ) → T (OctetMoves 0 xs) → length xs ≡ 256 → o < 256
    → bit_xor (v / 256) (get_or xs (bit_xor (v % 256) o) 0) ≡ after v (low 8 o)
octet_step xs v o t n h =
    let low_half : v % 256 < 2 ^ 8 = omega arith in
    let within : bit_xor (v % 256) o < length xs = omega (arith, xor_lt 8 (v % 256) o low_half h) in
    ap (bit_xor (v / 256)) (entry xs (bit_xor (v % 256) o) t within ∙ sym (combined (v % 256) o h))
    ∙ ap (λ n. bit_xor n (after (v % 256) (low 8 o))) (sym (after_high 8 (v / 256)))
    ∙ sym (ap (λ n. after n (low 8 o)) (halves v) ∙ after_xor 8 (v / 256 * 2 ^ 8) (v % 256) 0 o)

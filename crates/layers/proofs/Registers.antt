-- The register's moves are those of the fifteen bits that it holds.
use Rattle.std.proofs.Common.{◌≡◌, ℕ, ◌+◌, ◌*◌, ◌/◌, ◌%◌, ◌^◌, ◌<◌, false, eqb, [], ◌∷◌, ◌++◌, get_or, sym, refl, ap, ◌∙◌, arith}
use mathlib.Core.Bool.{xor}
use lib.Bits.{bit_and, bit_or, bit_xor, and_mask, or_shifted, or_shifted_r}
use Rattle.bits.specs.Octets.{low}
use Rattle.bits.proofs.Low.{odd_xor, low_more, low_double, low-take, low_mod}
use Rattle.bits.proofs.Sent.{low_at}
use Rattle.layers.specs.Sequence.{onward, backward}

lowest : (r : ℕ) → eqb (r % 2) 1 ≡ get_or (low 15 r) 0 false
unfolding low
lowest r = refl

-- the combination of the lowest bits of two numbers, as a bit
key : (a b : ℕ) → eqb (bit_and (bit_xor a b) 1 % 2) 1 ≡ xor (eqb (a % 2) 1) (eqb (b % 2) 1)
key a b =
    let m = and_mask (bit_xor a b) 1 in
    let one : bit_and (bit_xor a b) 1 % 2 ≡ bit_xor a b % 2 = omega arith in
    ap (λ n. eqb n 1) one ∙ odd_xor a b

pub on : (r : ℕ) → low 15 (bit_or (bit_and (r / 2) 16383) ((bit_and (bit_xor (r / 2) r) 1 * 2 ^ 14) % 65536)) ≡ onward (low 15 r)
unfolding low
on r =
    let next = bit_and (bit_xor (r / 2) r) 1 in
    let small : next < 2 = omega (arith, and_mask (bit_xor (r / 2) r) 1) in
    let rest : r / 2 % 2 ^ 14 < 2 ^ 14 = omega arith in
    let whole : (next * 2 ^ 14) % 65536 ≡ next * 2 ^ 14 = omega arith in
    ap (λ n. low 15 (bit_or n ((next * 2 ^ 14) % 65536))) (and_mask (r / 2) 14)
    ∙ ap (λ n. low 15 (bit_or (r / 2 % 2 ^ 14) n)) whole
    ∙ ap (low 15) (or_shifted_r next 14 (r / 2 % 2 ^ 14) rest)
    ∙ low_more 14 next (r / 2 % 2 ^ 14) rest
    ∙ ap (λ l. l ++ eqb (next % 2) 1 ∷ []) (low_mod 14 (r / 2))
    ∙ ap (λ b. low 14 (r / 2) ++ b ∷ []) (key (r / 2) r)

pub back : (r : ℕ) → low 15 (bit_or ((bit_and r 16383 * 2) % 65536) (bit_and (bit_xor (r / 16384) r) 1)) ≡ backward (low 15 r)
back r =
    let first = bit_and (bit_xor (r / 16384) r) 1 in
    let small : first < 2 = omega (arith, and_mask (bit_xor (r / 16384) r) 1) in
    let same : first % 2 ≡ first = omega arith in
    let rest : r % 2 ^ 14 < 2 ^ 14 = omega arith in
    let whole : (r % 2 ^ 14 * 2) % 65536 ≡ r % 2 ^ 14 * 2 ^ 1 = omega arith in
    let sum : r % 2 ^ 14 * 2 ^ 1 + first ≡ 2 * (r % 2 ^ 14) + first = omega arith in
    ap (λ n. low 15 (bit_or ((n * 2) % 65536) first)) (and_mask r 14)
    ∙ ap (λ n. low 15 (bit_or n first)) whole
    ∙ ap (low 15) (or_shifted (r % 2 ^ 14) 1 first small ∙ sum)
    ∙ low_double 14 (r % 2 ^ 14) first small
    ∙ ap (λ n. eqb n 1 ∷ low 14 (r % 2 ^ 14)) (sym same)
    ∙ ap (λ b. b ∷ low 14 (r % 2 ^ 14)) (key (r / 16384) r ∙ ends)
    ∙ ap (λ l. xor (get_or (low 15 r) 14 false) (get_or (low 15 r) 0 false) ∷ l) (low_mod 14 r ∙ sym (low-take 14 15 r (omega arith)))
  where
    ends : xor (eqb (r / 16384 % 2) 1) (eqb (r % 2) 1) ≡ xor (get_or (low 15 r) 14 false) (get_or (low 15 r) 0 false)
    ends = ap (λ b. xor b (eqb (r % 2) 1)) (sym (low_at 15 r 14 (omega arith))) ∙ ap (xor (get_or (low 15 r) 14 false)) (lowest r)

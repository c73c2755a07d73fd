-- The register is linear: registers and bits combined by exclusive or move to the registers' combination.
use Rattle.std.proofs.Common.{◌≡◌, ℕ, zero, suc, ◌*◌, ◌/◌, ◌%◌, ◌^◌, ◌<◌, Bool, true, false, cond, eqb, fold, sym, refl, ap, ◌∙◌, pow-suc, arith}
use mathlib.Core.Bool.{xor}
use lib.Bits.{bit_xor, xor_comm, xor_assoc, xor_shr, xor_zero_r, shifted_half, shifted_even}
use Rattle.bits.specs.Octets.{low}
use Rattle.bits.proofs.Low.{odd_xor}
use Rattle.fcs.specs.Sequence.{moved, after}

-- the lowest bit
abbrev odd : ℕ → Bool
odd n = eqb (n % 2) 1

-- what a bit that differs brings in
abbrev mask : Bool → ℕ
mask d = cond d 0x8408 0

mask_xor : (a b : Bool) → mask (xor a b) ≡ bit_xor (mask a) (mask b)
unfolding xor
mask_xor true true = refl
mask_xor true false = refl
mask_xor false true = refl
mask_xor false false = refl

xor_swap : (a b c d : Bool) → xor (xor a b) (xor c d) ≡ xor (xor a c) (xor b d)
unfolding xor
xor_swap true true true true = refl
xor_swap true true true false = refl
xor_swap true true false true = refl
xor_swap true true false false = refl
xor_swap true false true true = refl
xor_swap true false true false = refl
xor_swap true false false true = refl
xor_swap true false false false = refl
xor_swap false true true true = refl
xor_swap false true true false = refl
xor_swap false true false true = refl
xor_swap false true false false = refl
xor_swap false false true true = refl
xor_swap false false true false = refl
xor_swap false false false true = refl
xor_swap false false false false = refl

swap : (a b c d : ℕ) → bit_xor (bit_xor a b) (bit_xor c d) ≡ bit_xor (bit_xor a c) (bit_xor b d)
swap a b c d =
    xor_assoc a b (bit_xor c d)
    ∙ ap (bit_xor a) (sym (xor_assoc b c d) ∙ ap (λ n. bit_xor n d) (xor_comm b c) ∙ xor_assoc c b d)
    ∙ sym (xor_assoc a c (bit_xor b d))

moved_xor : (r s : ℕ) (b d : Bool) → moved (bit_xor r s) (xor b d) ≡ bit_xor (moved r b) (moved s d)
unfolding moved
moved_xor r s b d =
    ap (λ n. bit_xor n (mask (xor (odd (bit_xor r s)) (xor b d)))) (xor_shr r s 1)
    ∙ ap (bit_xor (bit_xor (r / 2) (s / 2)))
    (ap (λ o. mask (xor o (xor b d))) (odd_xor r s) ∙ ap mask (xor_swap (odd r) (odd s) b d) ∙ mask_xor (xor (odd r) b) (xor (odd s) d))
    ∙ swap (r / 2) (s / 2) (mask (xor (odd r) b)) (mask (xor (odd s) d))

pub after_xor : (k r s a b : ℕ) → after (bit_xor r s) (low k (bit_xor a b)) ≡ bit_xor (after r (low k a)) (after s (low k b))
unfolding after low
after_xor zero r s a b = refl
after_xor (suc k) r s a b =
    ap (λ o. fold moved (moved (bit_xor r s) o) (low k (bit_xor a b / 2))) (odd_xor a b)
    ∙ ap (λ n. fold moved n (low k (bit_xor a b / 2))) (moved_xor r s (odd a) (odd b))
    ∙ ap (λ n. fold moved (bit_xor (moved r (odd a)) (moved s (odd b))) (low k n)) (xor_shr a b 1)
    ∙ after_xor k (moved r (odd a)) (moved s (odd b)) (a / 2) (b / 2)

xor_same : (b : Bool) → xor b b ≡ false
unfolding xor
xor_same true = refl
xor_same false = refl

-- a bit that agrees only moves the register
moved_agreeing : (n : ℕ) (b : Bool) → odd n ≡ b → moved n b ≡ n / 2
unfolding moved
moved_agreeing n b e = ap (λ o. bit_xor (n / 2) (mask (xor o b))) e ∙ ap (λ d. bit_xor (n / 2) (mask d)) (xor_same b) ∙ xor_zero_r (n / 2)

-- a register whose low bits are zeros only moves while zeros are sent
pub after_high : (k h : ℕ) → after (h * 2 ^ k) (low k 0) ≡ h
unfolding after low
after_high zero h = omega arith
after_high (suc k) h =
    ap (λ n. fold moved n (low k 0))
    (moved_agreeing (h * 2 ^ suc k) false (ap (λ n. eqb n 1) (shifted_even h k)) ∙ shifted_half h k)
    ∙ after_high k h

-- a register that is sent its own bits is empty in the end
pub after_same : (k n : ℕ) → n < 2 ^ k → after n (low k n) ≡ 0
unfolding after low
after_same zero n h = omega arith
after_same (suc k) n h =
    ap (λ m. fold moved m (low k (n / 2))) (moved_agreeing n (odd n) refl) ∙ after_same k (n / 2) (half_lt k n h)
  where
    half_lt : (k n : ℕ) → n < 2 ^ suc k → n / 2 < 2 ^ k
    half_lt k n h = omega (arith, pow-suc 2 k)

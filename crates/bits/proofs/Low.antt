-- A number's lowest bits: taken apart and put together.
use Rattle.std.proofs.Common.{◌≡◌, ℕ, zero, suc, ◌+◌, ◌*◌, ◌/◌, ◌%◌, ◌^◌, ◌<◌, ◌≤◌, eqb, ◌⊎◌, [], ◌∷◌, ◌++◌, take, sym, refl, ap, ◌∙◌, inl, inr, pow-suc, arith}
use mathlib.Core.Bool.{xor}
use lib.Bits.{bit_xor, xor_mod, block_half, block_odd}
use Rattle.std.proofs.lemmas.Nat.{div-add-mod'}
use Rattle.bits.specs.Octets.{low}

parity : (n : ℕ) → (n % 2 ≡ 0) ⊎ (n % 2 ≡ 1)
parity n = grind arith

odd_by : (a b : ℕ) → (a ≡ 0) ⊎ (a ≡ 1) → (b ≡ 0) ⊎ (b ≡ 1) → eqb (bit_xor a b) 1 ≡ xor (eqb a 1) (eqb b 1)
unfolding xor
odd_by a b (inl p) (inl q) = rw (p, q)
odd_by a b (inl p) (inr q) = rw (p, q)
odd_by a b (inr p) (inl q) = rw (p, q)
odd_by a b (inr p) (inr q) = rw (p, q)

-- the lowest bit of a combination
pub odd_xor : (a b : ℕ) → eqb (bit_xor a b % 2) 1 ≡ xor (eqb (a % 2) 1) (eqb (b % 2) 1)
odd_xor a b = ap (λ n. eqb n 1) (xor_mod a b 1) ∙ odd_by (a % 2) (b % 2) (parity a) (parity b)

-- one bit more at the top
pub low_more : (k m n : ℕ) → n < 2 ^ k → low (suc k) (m * 2 ^ k + n) ≡ low k n ++ eqb (m % 2) 1 ∷ []
unfolding low
low_more zero m n h = let one : m * 1 + n ≡ m = omega arith in ap (λ x. eqb (x % 2) 1 ∷ []) one
low_more (suc k) m n h =
    let double = pow-suc 2 k in
    ap (λ x. eqb x 1 ∷ low (suc k) ((m * 2 ^ suc k + n) / 2)) (block_odd m k n)
    ∙ ap (λ x. eqb (n % 2) 1 ∷ low (suc k) x) (block_half m k n)
    ∙ ap (λ l. eqb (n % 2) 1 ∷ l) (low_more k m (n / 2) (omega arith))

-- one bit more at the bottom
pub low_double : (k n b : ℕ) → b < 2 → low (suc k) (2 * n + b) ≡ eqb b 1 ∷ low k n
unfolding low
low_double k n b h =
    let bit : (2 * n + b) % 2 ≡ b = omega arith in
    let rest : (2 * n + b) / 2 ≡ n = omega arith in
    ap (λ x. eqb x 1 ∷ low k ((2 * n + b) / 2)) bit ∙ ap (λ x. eqb b 1 ∷ low k x) rest

pub low-take : (j k n : ℕ) → j ≤ k → take j (low k n) ≡ low j n
unfolding low
low-take zero k n h = refl
low-take (suc j) zero n h = absurd (omega arith)
low-take (suc j) (suc k) n h = ap (λ l. eqb (n % 2) 1 ∷ l) (low-take j k (n / 2) (omega arith))

-- what lies above the lowest bits does not matter
pub low-over : (k m n : ℕ) → low k (m * 2 ^ k + n) ≡ low k n
unfolding low
low-over zero m n = refl
low-over (suc k) m n =
    ap (λ x. eqb x 1 ∷ low k ((m * 2 ^ suc k + n) / 2)) (block_odd m k n)
    ∙ ap (λ x. eqb (n % 2) 1 ∷ low k x) (block_half m k n)
    ∙ ap (λ l. eqb (n % 2) 1 ∷ l) (low-over k m (n / 2))

pub low_mod : (k n : ℕ) → low k (n % 2 ^ k) ≡ low k n
low_mod k n = sym (low-over k (n / 2 ^ k) (n % 2 ^ k)) ∙ ap (low k) (div-add-mod' n (2 ^ k))

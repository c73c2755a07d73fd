-- One bit of an octet written, tested at every octet, place and bit by one test that is computed.
use Rattle.std.proofs.Common.{◌≡◌, ℕ, ◌-◌, ◌*◌, ◌%◌, ◌^◌, ◌<◌, Bool, true, false, ◌&&◌, List, [], ◌∷◌, set, refl}
use lib.Bits.{bit_and, bit_or}
use Rattle.std.proofs.Math.Bool.{beq}
use Rattle.std.specs.Cmp.{booleans_Decides}
use Rattle.std.proofs.lemmas.Bool.{and_parts, both_ways, agree_below, agree_below_at}
use Rattle.bits.specs.Octets.{low}

-- two rows of bits compared
abbrev same : List Bool → List Bool → Bool
same [] [] = true
same (x ∷ xs) (y ∷ ys) = beq x y && same xs ys
same xs ys = false

same_true : (xs ys : List Bool) → same xs ys ≡ true → xs ≡ ys
same_true [] [] t = refl
same_true (x ∷ xs) (y ∷ ys) t =
    let p = and_parts (beq x y) (same xs ys) t in
    cc ((booleans_Decides x y).0 p.0, same_true xs ys p.1)
same_true xs ys t = absurd (both_ways false refl t)

-- the bit at a place set, and cleared
abbrev raised : ℕ → ℕ → ℕ
raised o k = bit_or o ((1 * 2 ^ k) % 256)

abbrev lowered : ℕ → ℕ → ℕ
lowered o k = bit_and o (255 - (1 * 2 ^ k) % 256)

right : ℕ → ℕ → Bool
right k o = same (low 8 (raised o k)) (set (low 8 o) k true) && same (low 8 (lowered o k)) (set (low 8 o) k false)

-- the test at every octet, for one place and for all
abbrev right_at : ℕ → Bool
right_at k = agree_below (right k) (λ o. true) 256

all_right : agree_below right_at (λ k. true) 8 ≡ true
unfolding right low
all_right = refl

at : (o k : ℕ) → o < 256 → k < 8 → right k o ≡ true
at o k few place = agree_below_at (right k) (λ o. true) 256 o (agree_below_at right_at (λ k. true) 8 k all_right place) few

both : (o k : ℕ) → o < 256 → k < 8 → (low 8 (raised o k) ≡ set (low 8 o) k true) × (low 8 (lowered o k) ≡ set (low 8 o) k false)
unfolding right
both o k few place =
    let p = and_parts _ _ (at o k few place) in (same_true _ _ p.0, same_true _ _ p.1)

pub raised-bit : (o k : ℕ) → o < 256 → k < 8 → low 8 (raised o k) ≡ set (low 8 o) k true
raised-bit o k few place = (both o k few place).0

pub lowered-bit : (o k : ℕ) → o < 256 → k < 8 → low 8 (lowered o k) ≡ set (low 8 o) k false
lowered-bit o k few place = (both o k few place).1

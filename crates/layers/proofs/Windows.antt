-- The first bits of a list, one bit on.
use Rattle.std.proofs.Common.{◌≡◌, ℕ, zero, suc, ◌-◌, ◌<◌, ◌≤◌, List, [], ◌∷◌, length, take, refl, ap, arith}
use native.Mathlib.Decide.{dec_le}
use Rattle.std.proofs.lemmas.List.{take_all, take-take}
use Rattle.bits.specs.Octets.{sent}
use Rattle.bits.specs.Packed.{usable}
use Rattle.bits.proofs.Sent.{length-sent}
use Rattle.layers.specs.Burst.{window}

pub take_first : {X : Type 0} (n : ℕ) (x : X) (xs : List X) → 0 < n → take n (x ∷ xs) ≡ x ∷ take (n - 1) xs
take_first zero x xs h = absurd (omega arith)
take_first (suc n) x xs h = let less : n ≡ suc n - 1 = omega arith in ap (λ m. x ∷ take m xs) less

-- a window never reaches the end of the packed memory that is used
pub window_octets : (n : ℕ) (os : List ℕ) → take (window n) (take (usable os 18446744073709551615) (sent os)) ≡ take (window n) (sent os)
window_octets n os = go (dec_le (length os) 16384)
  where
    go : Dec (length os ≤ 16384) → take (window n) (take (usable os 18446744073709551615) (sent os)) ≡ take (window n) (sent os)
    go (yes few) = ap (take (window n)) (take_all (usable os 18446744073709551615) (sent os) (omega (arith, length-sent os)))
    go (no many) = take-take (window n) (usable os 18446744073709551615) (sent os) (omega arith)

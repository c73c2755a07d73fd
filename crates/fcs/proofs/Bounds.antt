-- The register stays below 2^16, so the check sequence is two octets.
use Rattle.std.proofs.Common.{◌≡◌, ℕ, ◌/◌, ◌%◌, ◌^◌, ◌<◌, Bool, true, false, cond, eqb, List, [], ◌∷◌, length, refl, arith}
use mathlib.Core.Bool.{xor}
use lib.Bits.{xor_lt}
use Rattle.std.specs.List.{AllByRecursion}
use Rattle.bits.specs.Octets.{sent}
use Rattle.fcs.specs.Sequence.{moved, after, sequence, trailer}

moved_below : (r : ℕ) (b : Bool) → r < 2 ^ 16 → moved r b < 2 ^ 16
unfolding moved
moved_below r b h = xor_lt 16 (r / 2) (cond d 0x8408 0) (omega arith) (mask d)
  where
    d : Bool
    d = xor (eqb (r % 2) 1) b

    mask : (d : Bool) → cond d 0x8408 0 < 2 ^ 16
    mask true = omega arith
    mask false = omega arith

pub after_below : (r : ℕ) (bits : List Bool) → r < 2 ^ 16 → after r bits < 2 ^ 16
unfolding after
after_below r [] h = h
after_below r (b ∷ bits) h = after_below (moved r b) bits (moved_below r b h)

pub sequence_below : (os : List ℕ) → sequence os < 2 ^ 16
unfolding sequence
sequence_below os = xor_lt 16 (after 0xFFFF (sent os)) 0xFFFF (after_below 0xFFFF (sent os) (omega arith)) (omega arith)

pub trailer_below : (os : List ℕ) → AllByRecursion (λ o. o < 256) (trailer os)
unfolding trailer
trailer_below os = let h = sequence_below os in (omega arith, (omega arith, tt))

pub length-trailer : (os : List ℕ) → length (trailer os) ≡ 2
unfolding trailer
length-trailer os = refl

-- Stuffing, and the bits that a frame is put into.
use Rattle.std.specs.Prelude.{ℕ, zero, suc, ◌≤◌, true, false, List, [], ◌∷◌, ◌++◌, length}
use Rattle.bits.specs.Octets.{sent}
use Rattle.fcs.specs.Sequence.{trailer}
use Rattle.cutting.specs.Cutting.{Bits, flag, Octets}

-- stuffing puts a zero after every five ones; k more ones may come before the one that a zero follows
abbrev pub stuffing : ℕ → Bits → Bits
stuffing k [] = []
stuffing zero (true ∷ s) = true ∷ false ∷ stuffing 4 s
stuffing (suc k) (true ∷ s) = true ∷ stuffing k s
stuffing k (false ∷ s) = false ∷ stuffing 4 s

abbrev pub stuffed : Bits → Bits
stuffed s = stuffing 4 s

-- a frame between its flags: the octets and their check sequence, stuffed
abbrev pub frame_bits : List ℕ → Bits
frame_bits os = flag ++ (stuffed (sent (os ++ trailer os)) ++ flag)

-- frames, one behind the other
abbrev pub put_bits : List (List ℕ) → Bits
put_bits [] = []
put_bits (os ∷ fs) = frame_bits os ++ put_bits fs

-- the octets that a frame may have: nine to 2,061, so that with their check sequence they are neither too short nor too long
pub record Sendable (os : List ℕ) : Type 0 where
  pub each : Octets os
  pub enough : 9 ≤ length os
  pub fits : length os ≤ 2061

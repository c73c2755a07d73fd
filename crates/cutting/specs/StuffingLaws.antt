-- The laws of stuffing.
use Rattle.std.specs.Prelude.{◌≡◌, ℕ, ◌+◌, ◌/◌, ◌≤◌, ◌≢◌, List, [], ◌∷◌, length}
use Rattle.std.specs.List.{AllByRecursion}
use Rattle.cutting.specs.Cutting.{Bits, part, ones, removed, Applies, frame, Placed, AllDue}
use Rattle.cutting.specs.Stuffing.{stuffed, frame_bits, put_bits, Sendable}
use Rattle.cutting.specs.declared.Fault.TheVariants.{MissingZero}

-- removal undoes stuffing, and stuffed bits never end in five ones
abbrev pub StuffingIsUndone : Type 0
StuffingIsUndone = (s : Bits) → (removed (stuffed s) ≡ s) × (Applies MissingZero (stuffed s) → ⊥)

-- six ones never stand in stuffed bits
abbrev pub StuffingPartsOnes : Type 0
StuffingPartsOnes = (s : Bits) (a : ℕ) → part (stuffed s) a (a + 6) ≢ ones 6

-- stuffing takes at most a fifth more
abbrev pub StuffingFits : Type 0
StuffingFits = (s : Bits) → length (stuffed s) ≤ length s + length s / 5

-- frames put from place n on: each falls due where its closing flag ends
abbrev pub put_from : ℕ → List (List ℕ) → List Placed
put_from n [] = []
put_from n (os ∷ fs) = (record { place = n + length (frame_bits os); verdict = frame os }) ∷ put_from (n + length (frame_bits os)) fs

-- what is put is cut into what was put: those frames in that order, and nothing else
abbrev pub PutIsCut : Type 0
PutIsCut = (fs : List (List ℕ)) → AllByRecursion Sendable fs → AllDue (put_bits fs) 0 (put_from 0 fs)

-- two lists of frames never put the same bits
abbrev pub PutApart : Type 0
PutApart = (fs gs : List (List ℕ)) → AllByRecursion Sendable fs → AllByRecursion Sendable gs → put_bits fs ≡ put_bits gs → fs ≡ gs

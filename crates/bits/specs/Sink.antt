-- Bit sinks: what putting a bit and cutting back do to the bits held and to the room.
use Rattle.std.specs.Prelude.{◌≡◌, ℕ, ◌+◌, ◌-◌, ◌<◌, ◌≤◌, Bool, List, [], ◌∷◌, ◌++◌, length, take, Ok, Err, Result, slice_set}
use Rattle.bits.specs.declared.sink.SinkError.{SinkError}
use Rattle.bits.specs.declared.sink.SinkError.TheVariants.{NoRoom, AboveHeld}

-- the numbers of the refusals
abbrev pub sink_number : SinkError → ℕ
sink_number NoRoom = 40
sink_number AboveHeld = 45

-- what a sink shows: the bits held, in the order in which they were put, and how many bits more it takes
pub record Shown : Type 0 where
  pub held : List Bool
  pub space : ℕ

-- putting adds the bit at the end and lowers the room by one; it is refused exactly if the room is 0, and then the sink is the same
abbrev pub Put : Shown → Bool → Result (Unit {0}) SinkError → Shown → Type 0
Put s b (Ok _) s' = (s'.held ≡ s.held ++ b ∷ []) × (s.space ≡ s'.space + 1)
Put s b (Err e) s' = (e ≡ NoRoom) × (s.space ≡ 0) × (s' ≡ s)

-- cutting back to a count keeps that many first bits and raises the room by the bits cut; it is refused exactly if the count is above
-- the bits held, and then the sink is the same
abbrev pub CutBack : Shown → ℕ → Result (Unit {0}) SinkError → Shown → Type 0
CutBack s n (Ok _) s' = (n ≤ length s.held) × (s'.held ≡ take n s.held) × (s'.space ≡ s.space + (length s.held - n))
CutBack s n (Err e) s' = (e ≡ AboveHeld) × (length s.held < n) × (s' ≡ s)

-- what putting does to the bits of a memory: the bit at its own place, and no other; nothing where it is refused
abbrev pub BitPut : {X : Type 0} → List X → ℕ → X → Result (Unit {0}) SinkError → List X → Type 0
BitPut memory place x (Ok _) memory' = memory' ≡ slice_set memory place x
BitPut memory place x (Err e) memory' = memory' ≡ memory

-- Burst windows. Each meaning is given by the meaning of what is below.
use Rattle.std.specs.Prelude.{ℕ, min, Bool, List, take}
use Rattle.bits.specs.Sink.{Shown}
use Rattle.layers.specs.declared.burst.Burst.{Burst}

-- a window counts at most so many bits
abbrev pub window : ℕ → ℕ
window n = min n 131071

-- what waits in a window: the first bits waiting below, as many as are left to it
abbrev pub burst_waiting : {S : Type 0} → (S → List Bool) → Burst S → List Bool
burst_waiting waiting w = take w.left (waiting w.below)

-- what a window holds: the bits below; its room: the smaller of what is left to it and the room below
abbrev pub burst_shown : {S : Type 0} → (S → Shown) → Burst S → Shown
burst_shown shown w = record { held = (shown w.below).held; space = min w.left (shown w.below).space }

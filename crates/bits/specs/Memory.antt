-- Sinks over lent memory.
use Rattle.std.specs.Prelude.{◌-◌}
use Rattle.bits.specs.Sink.{Shown}
use Rattle.bits.specs.declared.coding.Coding.{Ghosts}
use Rattle.bits.specs.declared.memory_sink.MemorySink.{MemorySink}

-- what a sink over memory shows: the bits in the places that are filled, and room up to its end
abbrev pub memory_shown : {C : Type 0} {coding : Ghosts C} → MemorySink C coding → Shown
memory_shown {C = C} {coding = coding} s = record { held = coding.first s.count s.octets.now; space = s.end - s.count }

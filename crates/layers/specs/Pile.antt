-- The shipped pile: each meaning is the layers' meanings over that of octets in memory.
use Rattle.std.specs.Prelude.{Bool, List}
use Rattle.bits.specs.Memory.{memory_shown}
use Rattle.bits.specs.Packed.{packed_waiting}
use Rattle.bits.specs.Sink.{Shown}
use Rattle.bits.specs.declared.packed_source.PackedSource.{PackedSource}
use Rattle.bits.specs.declared.coding.Coding.{Ghosts}
use Rattle.bits.specs.declared.memory_sink.MemorySink.{MemorySink}
use Rattle.layers.specs.Burst.{burst_waiting, burst_shown}
use Rattle.layers.specs.Scrambling.{scrambled_waiting, scrambled_shown}
use Rattle.layers.specs.declared.burst.Burst.{Burst}
use Rattle.layers.specs.declared.scrambling.ScrambledSource.{ScrambledSource}
use Rattle.layers.specs.declared.scrambling.ScrambledSink.{ScrambledSink}

abbrev pub pile_waiting : ScrambledSource (Burst PackedSource) → List Bool
pile_waiting p = scrambled_waiting (burst_waiting packed_waiting) p

abbrev pub pile_shown : {C : Type 0} {coding : Ghosts C} → ScrambledSink (Burst (MemorySink C coding)) → Shown
pile_shown p = scrambled_shown (burst_shown memory_shown) p

-- The bits put so far and those left are the octet's.
use Rattle.std.proofs.Common.{◌≡◌, ◌-◌, ◌++◌}
use Rattle.bits.specs.Octets.{low}
use Rattle.cutting.specs.Cutting.{Bits}
use Rattle.writer.specs.Putting.{StuffedPut}
use Rattle.writer.proofs.put.Run.put_octet.Given as goal

abbrev pub invariant-loop : goal.invariant-loop
invariant-loop g l =
    (s : Bits) × (low 8 l.octet ≡ s ++ low (8 - l.counter) l.rest)
    × StuffedPut l.initial.self.ones s (g.S.BitSink.shown l.initial.sink) l.self.ones (g.S.BitSink.shown l.sink)

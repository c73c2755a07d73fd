-- The octets so far were put, and the register moved by them.
use Rattle.std.proofs.Common.{◌≡◌, take}
use Rattle.bits.specs.Octets.{sent}
use Rattle.fcs.specs.Sequence.{after}
use Rattle.writer.specs.Putting.{StuffedPut}
use Rattle.writer.proofs.put.Run.put_octets.Given as goal

abbrev pub invariant-loop-octet : goal.invariant-loop-octet
invariant-loop-octet g l =
    StuffedPut l.initial.self.ones (sent (take l.octet-index l.octets)) (g.S.BitSink.shown l.initial.sink)
    l.self.ones (g.S.BitSink.shown l.sink)
    × (l.register.value ≡ after l.initial.register.value (sent (take l.octet-index l.octets)))

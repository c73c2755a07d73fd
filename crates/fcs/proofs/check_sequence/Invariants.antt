use Rattle.std.proofs.Common.{◌≡◌, take}
use Rattle.bits.specs.Octets.{sent}
use Rattle.fcs.specs.Sequence.{after}
use Rattle.fcs.proofs.check_sequence.Given as goal

abbrev pub invariant-loop-octet : goal.invariant-loop-octet
invariant-loop-octet l = l.register.value ≡ after 0xFFFF (sent (take l.octet-index l.octets))

use Rattle.std.proofs.Common.{arith}
use Rattle.bits.proofs.Sent.{length-sent}
use Rattle.bits.proofs.packed_sink.MemorySink+Packed.new.Goals as goal

pub over-requires : goal.over-requires
over-requires c = omega (arith, c.usable_bits-end.ensures, length-sent c.args.octets.now)

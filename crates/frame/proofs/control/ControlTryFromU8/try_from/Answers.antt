use Rattle.std.proofs.Common.{arith}
use lib.Bits.{and_high}
use Rattle.frame.proofs.control.ControlTryFromU8.try_from.Goals as goal

pub by_low_bits-requires : goal.by_low_bits-requires
by_low_bits-requires c = let bit = and_high c.args.octet 1 4 in omega (arith, c.if-polled-ne0.true)

pub by_low_bits-requires-2 : goal.by_low_bits-requires-2
by_low_bits-requires-2 c = let bit = and_high c.args.octet 1 4 in omega (arith, c.if-polled-ne0.false)

use Rattle.std.proofs.Common.{arith}
use lib.Bits.{mask_lt}
use Rattle.frame.proofs.Septets.{septet-taken}
use Rattle.frame.proofs.address.bits_of.Goals as goal

pub returns : goal.returns
returns c = rw (c.from.ensures, c.reverse_bits.ensures) (septet-taken c.args.octet (omega arith), mask_lt _ 7)

use Rattle.std.proofs.Common.{set, sym, ap, ◌∙◌, arith}
use Rattle.bits.specs.Octets.{low}
use Rattle.bits.proofs.OneBit.{raised-bit, lowered-bit}
use Rattle.bits.proofs.packed_sink.with_bit.Goals as goal

pub returns-then-bit : goal.returns-then-bit
returns-then-bit c =
    raised-bit c.args.octet c.args.place (omega arith) c.requires ∙ ap (set (low 8 c.args.octet) c.args.place) (sym c.if-bit.true)

pub returns-else-bit : goal.returns-else-bit
returns-else-bit c =
    lowered-bit c.args.octet c.args.place (omega arith) c.requires ∙ ap (set (low 8 c.args.octet) c.args.place) (sym c.if-bit.false)

use Rattle.std.proofs.Common.{arith}
use Rattle.bits.proofs.PackedBits.{next_bit}
use Rattle.bits.proofs.packed_source.PackedSourceBitSource.take.Goals as goal

pub returns : goal.returns
returns c =
    let s = c.args.self.now in
    let steps = c.in_ok-at.ensures.steps in
    rw (steps.0, steps.1.1, steps.1.2) (next_bit s.octets.now s.places.start s.places.end (omega (arith, steps.1.0)) (omega (arith, steps.1.0)))

use Rattle.std.proofs.Common.{length, pos, neg_ℤ, sym, ◌∙◌}
use Rattle.bits.specs.Octets.{low}
use Rattle.layers.specs.Sequence.{sequence}
use Rattle.layers.proofs.Combining.{length-combined}
use Rattle.layers.proofs.scrambling.ScrambledSinkBitSink.count.Goals as goal

pub returns : goal.returns
returns g c =
    let held = (g.S.BitSink.shown c.args.self.now.below).held in
    c.count.ensures ∙ sym (length-combined (sequence (low 15 c.args.self.now.register)) (neg_ℤ (pos (length held))) held)

use Rattle.std.proofs.Common.{pos, ap, ◌∙◌}
use Rattle.layers.specs.Sequence.{sequence, combined}
use Rattle.layers.proofs.Ahead.{keyed_start}
use Rattle.layers.proofs.scrambling.ScrambledSource.new.Goals as goal

pub returns : goal.returns
returns g c =
    let bits = g.S.BitSource.waiting c.args.below in
    keyed_start c.holding-queue.result bits ∙ ap (λ w. combined (sequence w) (pos 0) bits) c.holding-queue.ensures

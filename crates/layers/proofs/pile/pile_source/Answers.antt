use Rattle.std.proofs.Common.{take, pos, ap, ◌∙◌}
use Rattle.bits.specs.Packed.{packed_waiting}
use Rattle.layers.specs.Burst.{window}
use Rattle.layers.specs.Sequence.{sequence, combined}
use Rattle.layers.proofs.Windows.{window_octets}
use Rattle.layers.proofs.pile.pile_source.Goals as goal

pub returns : goal.returns
returns c =
    let burst = ap (λ n. take n (packed_waiting c.new-burst.result.below)) c.new-burst.ensures.left ∙ ap (λ s. take (window c.args.n) (packed_waiting s)) c.new-burst.ensures.below in
    c.new.ensures
    ∙ ap (combined (sequence c.args.given.now) (pos 0))
    (burst ∙ ap (take (window c.args.n)) c.new-packed.ensures ∙ window_octets c.args.n c.args.octets.now)

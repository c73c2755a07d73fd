use Rattle.std.proofs.Common.{ap, ◌∙◌, arith}
use Rattle.bits.specs.Memory.{memory_shown}
use Rattle.layers.specs.Sequence.{sequence}
use Rattle.layers.proofs.Scrambles.{none_out}
use Rattle.layers.proofs.pile.pile_sink.Goals as goal

pub returns : goal.returns
returns c =
    let packed = c.new-packed.ensures in
    let below = ap (λ s. s.below) c.new.ensures.below ∙ c.new-burst.ensures.below in
    let burst = ap memory_shown c.new-burst.ensures.below in
    record {
      held = c.new.ensures.held ∙ none_out (sequence c.args.given.now) _ _ (ap (λ k. k.held) burst ∙ packed.held);
      space = c.new.ensures.space ∙ omega (arith, ap (λ k. k.space) burst, c.new-burst.ensures.left, packed.space);
      memory = ap (λ s. s.octets.now) below ∙ packed.memory;
      lent = ap (λ s. s.octets.ghost_name) below ∙ packed.lent;
    }

use Rattle.std.proofs.Common.{◌≡◌, ◌≤◌, true, [], ◌∷◌, length, arith, rules}
use Rattle.layers.specs.Pile.{pile_shown}
use Rattle.frame.specs.Opening.{layout}
use Rattle.writer.specs.Writing.{foretold}
use Rattle.reply.specs.Paying.{answer}
use Rattle.reply.proofs.Payable.{payable}
use Rattle.walkthrough.proofs.sending.answered.Goals as goal

pub unreachable-requires : goal.unreachable-requires
unfolding foretold
unreachable-requires c =
    let held : length c.args.memory.now ≡ 64 = search rules in
    let room : 512 ≤ (pile_shown c.pile_sink-sink.result).space = omega (arith, c.pile_sink-sink.ensures.space) in
    let enough : foretold (length (layout (answer c.args.debt true (0x82 ∷ [])))) ≤ (pile_shown c.pile_sink-sink.result).space = omega arith in
    payable c.args.debt true (0x82 ∷ []) (pile_shown c.pile_sink-sink.result).space c.in-Err.field-0.error (omega arith) enough c.in-Err.ensures.0.0

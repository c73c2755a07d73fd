use Rattle.std.proofs.Common.{◌≡◌, ◌≤◌, true, length, arith}
use Rattle.bits.specs.Memory.{memory_shown}
use Rattle.frame.specs.Opening.{layout}
use Rattle.writer.specs.Writing.{foretold}
use Rattle.reply.specs.Paying.{answer, declined}
use Rattle.reply.proofs.Payable.{payable}
use Rattle.reply_cases.proofs.paying.paid.Goals as goal

pub unreachable-requires : goal.unreachable-requires
unfolding foretold
unreachable-requires c =
    let room : (memory_shown c.new-sink.result).space ≡ 400 = c.new-sink.ensures.space in
    let enough : foretold (length (layout (answer c.args.debt true (declined 1 2)))) ≤ (memory_shown c.new-sink.result).space = omega arith in
    payable c.args.debt true (declined 1 2) (memory_shown c.new-sink.result).space c.in-Err.field-0.error (omega arith) enough c.in-Err.ensures.0.0

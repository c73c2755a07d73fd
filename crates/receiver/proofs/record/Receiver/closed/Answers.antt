use Rattle.std.proofs.Common.{arith}
use Rattle.receiver.specs.Hearing.{meant}
use Rattle.receiver.proofs.Closes.{closes_empty, closes_unclosed, closes_judged}
use Rattle.receiver.proofs.record.Receiver.closed.Goals as goal

pub returns-then-count-le6 : goal.returns-then-count-le6
returns-then-count-le6 c = λ h was. closes_empty h c.args.left_out c.args.self.now.store was (omega arith)

pub returns-then-left_out : goal.returns-then-left_out
returns-then-left_out c = λ h was. closes_unclosed h c.args.left_out c.args.self.now.store was (omega arith) c.if-left_out.true

pub returns-else-left_out : goal.returns-else-left_out
returns-else-left_out c =
    let store = c.args.self.now.store in
    λ h was. closes_judged h c.args.left_out store was (omega arith) c.if-left_out.false (meant c.judge.result store.octets) c.judge.ensures

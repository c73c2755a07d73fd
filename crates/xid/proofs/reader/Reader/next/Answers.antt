-- What is ahead is the answer, and the reader stands behind it.
use Rattle.std.proofs.Common.{Ok, refl, subst}
use mathlib.Core.Logic.{∥∥₁_map}
use Rattle.std.proofs.lemmas.Result.{err_from_is_err_and}
use Rattle.xid.specs.Moving.{Ahead}
use Rattle.xid.proofs.Answering.{next_end, next_fault, next-on}
use Rattle.xid.proofs.reader.Reader.next.Goals as goal

pub returns-in_err-taken : goal.returns-in_err-taken
returns-in_err-taken c =
    let p = err_from_is_err_and c.from_residual.result c.from_residual.ensures.1 in
    rw (p.1, p.2) (next_fault c.args.self.now c.in_err-taken.field-0.0 c.in_err-taken.ensures)

pub invariant_of-self : goal.invariant_of-self
invariant_of-self c =
    let r = c.args.self.now in
    record {
      stands =
          ∥∥₁_map r.stands
          (λ was.
          let on = subst (λ o. Ahead r.field.now was.0 (Ok o)) c.in-Some.is (c.in_ok-taken.ensures was.0 was.1) in
          (on.0, on.1.0));
    }

pub returns-in_default : goal.returns-in_default
returns-in_default c =
    let r = c.args.self.now in
    next_end r (λ b stands. subst (λ o. Ahead r.field.now b (Ok o)) c.in_default.is (c.in_ok-taken.ensures b stands))

pub returns : goal.returns
returns c =
    let r = c.args.self.now in
    next-on r c.in-Some.taken.parameter _ refl (λ b stands. subst (λ o. Ahead r.field.now b (Ok o)) c.in-Some.is (c.in_ok-taken.ensures b stands))

-- A value's fault is the first, and a parameter is one further.
use Rattle.std.proofs.Common.{◌≡◌, ◌++◌, Some, sym, refl, ap, ◌∙◌, subst, arith}
use Rattle.std.proofs.lemmas.Grind.{common_steps}
use Rattle.std.proofs.lemmas.Result.{err_from_is_err_and}
use Rattle.records.specs.Values.{shape}
use Rattle.records.specs.Records.{Records}
use Rattle.xid.specs.Fields.{param_octets}
use Rattle.xid.specs.Answers.{shown}
use Rattle.xid.proofs.Params.{cut, first-fault, parameter_stands}
use Rattle.xid.proofs.cursor.Cursor.take_parameter.Goals as goal

pub returns-in_err-parameter : goal.returns-in_err-parameter
returns-in_err-parameter c =
    let p = err_from_is_err_and c.from_residual.result c.from_residual.ensures.1 in
    let o = c.in-Some.open in
    let opened : c.args.self.open ≡ Some o = grind (arith, common_steps, c.filter.ensures) in
    let split = c.in-Some-split_at_checked in
    let octets = cut o.rest.now split.value.now split.rest.now c.from.result (omega arith) c.from.ensures split.ensures.cases in
    rw (p.1, p.2)
    (λ os b stands is.
    first-fault os b c.args.self stands o opened c.args.place _ split.value.now split.rest.now is octets c.in_err-parameter.field-0.0 c.in_err-parameter.ensures)

pub returns : goal.returns
returns c =
    let h = c.in_ok-parameter.ensures in
    let p = shown c.in_ok-parameter.parameter in
    let o = c.in-Some.open in
    let opened : c.args.self.open ≡ Some o = grind (arith, common_steps, c.filter.ensures) in
    let split = c.in-Some-split_at_checked in
    let octets = cut o.rest.now split.value.now split.rest.now c.from.result (omega arith) c.from.ensures split.ensures.cases in
    λ os b stands is. (
      parameter_stands os b c.args.self stands o opened _ _ p refl refl refl (ap (λ q. q.group) h.0) (octets ∙ sym (ap (λ q. param_octets q ++ split.rest.now) h.0)) h.1,
      subst (λ q. Records (shape q.group q.identifier) q.value c.in_ok-parameter.parameter.record) (sym h.0) h.2,
    )

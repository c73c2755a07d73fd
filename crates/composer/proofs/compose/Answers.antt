use Rattle.std.proofs.Common.{◌+◌, length, refl, ap, arith, length-set}
use Rattle.std.proofs.lemmas.Result.{err_from_is_err_and}
use Rattle.register.specs.declared.Group.TheVariants.{Public}
use Rattle.composer.specs.Checking.{params}
use Rattle.composer.proofs.Wholes.{accepted, group_more}
use Rattle.composer.proofs.compose.Goals as goal

pub returns-in_err-checked : goal.returns-in_err-checked
returns-in_err-checked c =
    let p = err_from_is_err_and c.from_residual.result c.from_residual.ensures.1 in
    rw (p.1, p.2) (c.in_err-checked.ensures (length c.args.out.now), refl)

pub loop-group-preserved : goal.loop-group-preserved
loop-group-preserved c =
    group_more (params c.in_ok-checked.checked) c.loop-group.group-index c.loop-group.end _ c.args.out.now c.loop-group.out _ c.write_group-end.new.out Public
    c.loop-group-test.true (omega arith) (simp length-set at c.loop-group.auto.out) c.loop-group.invariant (ap (λ n. c.loop-group.end + n) c.write_group-end.ensures.end) c.write_group-end.ensures.written refl

pub returns : goal.returns
returns c =
    accepted c.args.items.now c.args.values.now c.in_ok-checked.checked c.in_ok-checked.ensures c.args.out.now c.loop-group.out c.loop-group.end
    c.loop-group.group-index c.loop-group.auto.group-index-end c.loop-group-test.false (omega arith) (omega arith) c.loop-group.invariant

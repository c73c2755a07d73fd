use Rattle.std.proofs.lemmas.Result.{err_from_is_err_and}
use Rattle.register.specs.declared.Group.TheVariants.{Public, Private}
use Rattle.composer.proofs.Checks.{so_far_more, refused}
use Rattle.composer.proofs.checking.check_items.Goals as goal
use Rattle.composer.proofs.checking.check_items.Goals.{in-Public, in-Private}

pub returns-in_err-check_item : goal.returns-in_err-check_item
returns-in_err-check_item c =
    let p = err_from_is_err_and c.from_residual.result c.from_residual.ensures.1 in
    rw (p.1, p.2) (refused c.args.items.now c.args.values.now c.loop-index.index c.loop-index.totals c.loop-index-test.true c.loop-index.invariant
    c.in_err-check_item.field-0.0 c.in_err-check_item.ensures)

pub loop-index-preserved : goal.loop-index-preserved
loop-index-preserved c =
    let more = so_far_more c.args.items.now c.args.values.now c.loop-index.index c.loop-index.totals c.loop-index-test.true c.loop-index.invariant c.in_ok-check_item.field-0 in
    elim c.match-branch-2.branch [
      | in-Public w ↦ more Public c.match-branch-2.totals c.in_ok-check_item.ensures w.in-Public.is w.totals-is
      | in-Private w ↦ more Private c.match-branch-2.totals c.in_ok-check_item.ensures w.in-Private.is w.totals-is
    ]

-- Reading stops where a move does, and goes on where it does.
use mathlib.Core.Logic.{∥∥₁_elim}
use Rattle.std.proofs.Math.Bridge.{le_prop}
use Rattle.std.proofs.Common.{arith}
use Rattle.std.proofs.lemmas.Grind.{common_steps}
use Rattle.std.proofs.lemmas.Result.{err_from_is_err_and}
use Rattle.xid.proofs.Moves.{stops-new, on_led, on_still, stops-parameter, goes_over_parameter, stops-group, ends, goes_over-header, fewer}
use Rattle.xid.proofs.reader.Reader.ahead.Goals as goal
use Rattle.xid.proofs.reader.Reader.ahead.Goals.{then-is_none+in_ok-at, else-is_none}

pub returns-in_err-at : goal.returns-in_err-at
returns-in_err-at c =
    let p = err_from_is_err_and c.from_residual.result c.from_residual.ensures.1 in
    let r = c.args.self.now in
    rw (p.1, p.2) (λ b stands. stops-new r.field.now r.cursor b stands (grind (arith, common_steps, c.is_none.ensures)) c.in_err-at.field-0.0 c.in_err-at.ensures)

pub loop-taken-init : goal.loop-taken-init
loop-taken-init c =
    let r = c.args.self.now in
    λ b stands.
    elim c.if-is_none.branch [
      | then-is_none+in_ok-at w ↦
          rw w.at-is (on_led r.field.now r.cursor b stands (grind (arith, common_steps, c.is_none.ensures, w.if-is_none.true)) w.in_ok-at.at w.in_ok-at.ensures)
      | else-is_none w ↦ rw w.at-is (on_still r.field.now r.cursor b stands (λ e. grind (arith, common_steps, c.is_none.ensures, w.if-is_none.false)))
    ]

pub returns-in_err-taken : goal.returns-in_err-taken
returns-in_err-taken c =
    let p = err_from_is_err_and c.from_residual-in_err-taken.result c.from_residual-in_err-taken.ensures.1 in
    rw (p.1, p.2)
    (λ b stands.
    stops-parameter c.args.self.now.field.now b c.loop-taken.at (c.loop-taken.invariant b stands) c.place-place.result c.place-place.ensures
    c.in_err-taken.field-0.0 c.in_err-taken.ensures)

pub returns-in-Some : goal.returns-in-Some
returns-in-Some c =
    λ b stands.
    goes_over_parameter c.args.self.now.field.now b c.loop-taken.at (c.loop-taken.invariant b stands) c.place-place.result c.place-place.ensures
    c.in_ok-taken.field-0 c.in_ok-taken.ensures c.in-Some.taken c.in-Some.is

pub returns-in_err-begun : goal.returns-in_err-begun
returns-in_err-begun c =
    let p = err_from_is_err_and c.from_residual-in_err-begun.result c.from_residual-in_err-begun.ensures.1 in
    rw (p.1, p.2)
    (λ b stands.
    stops-group c.args.self.now.field.now b c.loop-taken.at (c.loop-taken.invariant b stands) c.place-place.result c.place-place.ensures
    c.in_ok-taken.field-0 c.in_ok-taken.ensures c.in_default.is c.in_err-begun.field-0.0 c.in_err-begun.ensures)

pub returns-in_default-2 : goal.returns-in_default-2
returns-in_default-2 c =
    λ b stands.
    ends c.args.self.now.field.now b c.loop-taken.at (c.loop-taken.invariant b stands) c.place-place.result c.place-place.ensures
    c.in_ok-taken.field-0 c.in_ok-taken.ensures c.in_default.is c.in_ok-begun.field-0 c.in_ok-begun.ensures c.in_default-2.is

pub loop-taken-smaller : goal.loop-taken-smaller
loop-taken-smaller c =
    ∥∥₁_elim c.args.self.now.stands le_prop
    (λ (b, stands).
    fewer c.args.self.now.field.now b c.loop-taken.at (c.loop-taken.invariant b stands) c.place-place.result c.place-place.ensures
    c.in_ok-taken.field-0 c.in_ok-taken.ensures c.in_default.is c.in_ok-begun.field-0 c.in_ok-begun.ensures c.in-Some-2.begun c.in-Some-2.is)

pub loop-taken-preserved : goal.loop-taken-preserved
loop-taken-preserved c =
    λ b stands.
    goes_over-header c.args.self.now.field.now b c.loop-taken.at (c.loop-taken.invariant b stands) c.place-place.result c.place-place.ensures
    c.in_ok-taken.field-0 c.in_ok-taken.ensures c.in_default.is c.in_ok-begun.field-0 c.in_ok-begun.ensures c.in-Some-2.begun c.in-Some-2.is

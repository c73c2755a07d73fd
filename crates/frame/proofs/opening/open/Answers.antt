-- Where opening refuses, its fault is the first; where it answers a frame, the octets are its layout.
use Rattle.std.proofs.Common.{arith, ltb-false}
use Rattle.std.proofs.lemmas.Result.{err_from_is_err_and}
use Rattle.frame.proofs.Firsts.{first-source-mark, first-source-type, first-at-control}
use Rattle.frame.proofs.Headers.{read_is_frame}
use Rattle.frame.proofs.opening.open.Goals as goal

pub returns-in-Some-wrong_mark : goal.returns-in-Some-wrong_mark
returns-in-Some-wrong_mark c =
    first-source-mark c.args.octets.now (omega (arith, ltb-false)) (omega arith)
    c.in_default-wrong_mark.ensures c.in-Some-wrong_mark.place c.in-Some-wrong_mark.ensures

pub returns-in_err-source : goal.returns-in_err-source
returns-in_err-source c =
    let p = err_from_is_err_and c.from_residual-in_err-source.result c.from_residual-in_err-source.ensures.1 in
    let h = c.in_err-source.ensures in
    rw (p.1, p.2, h.1)
    (first-source-type c.args.octets.now (omega (arith, ltb-false)) (omega arith)
    c.in_ok-destination.destination c.in_ok-destination.ensures c.in_default-wrong_mark-2.ensures h.0)

pub returns-in_err-control : goal.returns-in_err-control
returns-in_err-control c =
    let p = err_from_is_err_and c.from_residual-in_err-control.result c.from_residual-in_err-control.ensures.1 in
    rw (p.1, p.2)
    (first-at-control c.args.octets.now (omega (arith, ltb-false)) (omega arith)
    c.in_ok-destination.destination c.in_ok-destination.ensures
    c.in_ok-source.source c.in_ok-source.ensures
    c.in_err-control.field-0.0 c.in_err-control.ensures)

pub returns : goal.returns
returns c =
    read_is_frame c.args.octets.now (omega (arith, ltb-false)) (omega arith) (λ i. omega (arith, c.type_inv.octets i))
    c.in_ok-destination.destination c.in_ok-source.source
    c.in_ok-destination.ensures c.in_ok-source.ensures
    c.in_ok-control.control c.in_ok-control.ensures

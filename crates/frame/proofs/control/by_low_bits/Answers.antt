use Rattle.std.proofs.Common.{bit_and, arith}
use Rattle.std.proofs.lemmas.Nat.{and_mask}
use Rattle.std.proofs.lemmas.Result.{err_from_is_err_and}
use Rattle.frame.proofs.ControlOctets.{poll_worth, bare_read, unlisted}
use Rattle.frame.proofs.control.by_low_bits.Goals as goal

pub returns-in_err-function-in_default-2 : goal.returns-in_err-function-in_default-2
returns-in_err-function-in_default-2 c =
    let four = and_mask c.args.octet 4 in
    let one = and_mask (bit_and c.args.octet 15) 1 in
    let p = err_from_is_err_and c.from_residual.result c.from_residual.ensures.1 in
    let h = c.in_err-function-in_default-2.ensures in
    rw (p.1, p.2) (h.0, unlisted c.args.octet (omega arith) (omega arith) (omega arith) (omega arith) h.1)

pub returns-then-low-eq0 : goal.returns-then-low-eq0
returns-then-low-eq0 c =
    let four = and_mask c.args.octet 4 in
    let one = and_mask (bit_and c.args.octet 15) 1 in
    let poll = c.requires in
    ((omega arith, omega arith), omega (arith, poll_worth))

pub returns-in-1 : goal.returns-in-1
returns-in-1 c =
    let four = and_mask c.args.octet 4 in
    let poll = c.requires in
    (omega arith, omega (arith, poll_worth))

pub returns-in-13 : goal.returns-in-13
returns-in-13 c =
    let four = and_mask c.args.octet 4 in
    let poll = c.requires in
    (omega arith, omega (arith, poll_worth))

pub returns-in_ok-function-in_default-2 : goal.returns-in_ok-function-in_default-2
returns-in_ok-function-in_default-2 c =
    let poll = c.requires in
    let bare = bare_read c.args.octet (omega arith) in
    let function = c.in_ok-function-in_default-2.ensures in
    (tt, omega (arith, poll_worth))

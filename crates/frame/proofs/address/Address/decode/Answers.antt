use Rattle.std.proofs.Common.{◌∙◌, sym, arith}
use Rattle.frame.proofs.Words.{marks_wrong, marks_right, listed_some, listed_none, joined_laid, read_some, read_none}
use Rattle.frame.proofs.address.Address.decode.Goals as goal

pub returns-then-is_some : goal.returns-then-is_some
returns-then-is_some c = marks_wrong c.args.octets c.wrong_mark.result c.wrong_mark.ensures (sym c.is_some.ensures ∙ c.if-is_some.true)

pub returns-in_err-kind : goal.returns-in_err-kind
returns-in_err-kind c =
    let marks = marks_right c.args.octets c.wrong_mark.result c.wrong_mark.ensures (sym c.is_some.ensures ∙ c.if-is_some.false) in
    let laid = joined_laid c.args.octets (omega arith) c.bits_of.ensures c.bits_of-2.ensures c.bits_of-3.ensures c.bits_of-4.ensures marks in
    let unlisted = listed_none _ c.try_from.result c.try_from.ensures (sym c.ok.ensures.value ∙ c.in_err-kind.was) in
    rw c.from_residual.ensures (read_none c.args.octets _ laid (omega arith) (rw c.to_be_bytes.ensures at unlisted))

pub returns : goal.returns
returns c =
    let marks = marks_right c.args.octets c.wrong_mark.result c.wrong_mark.ensures (sym c.is_some.ensures ∙ c.if-is_some.false) in
    let laid = joined_laid c.args.octets (omega arith) c.bits_of.ensures c.bits_of-2.ensures c.bits_of-3.ensures c.bits_of-4.ensures marks in
    let listed = listed_some _ c.try_from.result c.try_from.ensures (sym c.ok.ensures.value ∙ c.in_ok-kind.was) in
    rw c.to_be_bytes.ensures (read_some c.args.octets _ laid (omega arith) c.in_ok-kind.kind (rw c.to_be_bytes.ensures at listed))

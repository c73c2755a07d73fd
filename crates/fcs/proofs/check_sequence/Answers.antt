use Rattle.std.proofs.Common.{get_or, take, sym, ap, ◌∙◌, arith}
use lib.Bits.{bit_xor}
use Rattle.std.proofs.lemmas.List.{take_all}
use Rattle.bits.specs.Octets.{low, sent}
use Rattle.bits.proofs.Sent.{sent_more}
use Rattle.fcs.specs.Sequence.{after, sequence}
use Rattle.fcs.proofs.Behind.{after-append}
use Rattle.fcs.proofs.check_sequence.Goals as goal

pub loop-octet-init : goal.loop-octet-init
unfolding after sent
loop-octet-init c = c.new-register.ensures

pub loop-octet-preserved : goal.loop-octet-preserved
loop-octet-preserved c =
    let os = c.args.octets.now in
    let i = c.loop-octet.octet-index in
    c.step.ensures
    ∙ ap (λ v. after v (low 8 (get_or os i 0))) c.loop-octet.invariant
    ∙ sym (ap (after 0xFFFF) (sent_more os i c.loop-octet-test.true) ∙ after-append 0xFFFF (sent (take i os)) (low 8 (get_or os i 0)))

pub returns : goal.returns
unfolding sequence
returns c =
    let os = c.args.octets.now in
    c.sequence.ensures
    ∙ ap (λ v. bit_xor v 0xFFFF) (c.loop-octet.invariant ∙ ap (λ l. after 0xFFFF (sent l)) (take_all c.loop-octet.octet-index os (omega arith)))

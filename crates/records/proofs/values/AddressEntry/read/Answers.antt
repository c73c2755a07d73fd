-- Four octets are an address of one status or of none.
use Rattle.std.proofs.Common.{sym, ◌∙◌}
use Rattle.records.proofs.Listings.{other_status}
use Rattle.records.proofs.Parts.{array_same}
use Rattle.records.proofs.values.AddressEntry.read.Goals as goal

pub returns-then-status : goal.returns-then-status
returns-then-status c a h e =
    other_status _ c.in_ok-address.field-0 c.in_ok-address.ensures c.if-status.true a h
    (e ∙ sym (array_same 4 c.args.octets.now c.in_ok-ok.field-0 c.try_into.result c.try_into.ensures.1 c.in_ok-ok.ensures.value))

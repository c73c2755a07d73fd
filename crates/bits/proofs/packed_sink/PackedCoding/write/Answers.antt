use Rattle.std.proofs.Common.{◌*◌, ◌<◌, length, sym, arith}
use Rattle.std.proofs.lemmas.List.{set_past}
use Rattle.bits.specs.Octets.{sent}
use Rattle.bits.proofs.Sent.{length-sent, sent_set}
use Rattle.bits.proofs.packed_sink.PackedCoding.write.Goals as goal

pub returns-then-place-octets : goal.returns-then-place-octets
returns-then-place-octets c =
    let os = c.args.octets.now in
    let within : c.args.place < 8 * length os = omega (arith, c.if-place-octets.true) in
    sent_set os c.args.place c.with_bit.result c.args.bit within c.with_bit.ensures

pub returns-else-place-octets : goal.returns-else-place-octets
returns-else-place-octets c =
    let os = c.args.octets.now in sym (set_past (sent os) c.args.place c.args.bit (omega (arith, c.if-place-octets.false, length-sent os)))

-- Each octet finds room; the register moves by the same bits.
use Rattle.std.proofs.Common.{ℕ, ◌+◌, List, get_or, drop, sym, refl, ap, ◌∙◌}
use Rattle.std.proofs.lemmas.List.{take_all}
use Rattle.bits.specs.Octets.{low, sent}
use Rattle.bits.proofs.Sent.{sent_more}
use Rattle.fcs.specs.Sequence.{after}
use Rattle.writer.proofs.OctetBits.{sent_split, register_more}
use Rattle.writer.proofs.Puts.{stuffed-none, stuffed_more, stuffed_as, next_room}
use Rattle.writer.proofs.put.Run.put_octets.Goals as goal

pub put_octet-requires : goal.put_octet-requires
put_octet-requires g c =
    let os = c.args.octets.now in
    let i = c.loop-octet.octet-index in
    next_room c.loop-octet.invariant.0 (sent os) (low 8 (get_or os i 0)) (sent (drop (i + 1) os)) (sent_split os i c.loop-octet-test.true) c.requires

pub loop-octet-init : goal.loop-octet-init
unfolding after sent
loop-octet-init g c =
    (stuffed-none c.args.self.now.ones (g.S.BitSink.shown c.args.sink.now), refl)

pub loop-octet-preserved : goal.loop-octet-preserved
loop-octet-preserved g c =
    let os = c.args.octets.now in
    let i = c.loop-octet.octet-index in
    let h = c.loop-octet-test.true in (
      stuffed_as (sym (sent_more os i h)) (stuffed_more c.loop-octet.invariant.0 c.put_octet.ensures),
      register_more os i c.args.register.now.value c.loop-octet.register.value c.step.new.self.value h c.loop-octet.invariant.1
          c.step.ensures,
    )

pub returns : goal.returns
returns g c =
    let os = c.args.octets.now in
    let all = take_all c.loop-octet.octet-index os c.loop-octet-test.false in
    record {
      put = stuffed_as (ap sent all) c.loop-octet.invariant.0;
      moved = c.loop-octet.invariant.1 ∙ ap (λ (l : List ℕ). after c.args.register.now.value (sent l)) all;
    }

-- Each bit finds room, and eight of them are the octet.
use Rattle.std.proofs.Common.{◌+◌, ◌-◌, ◌/◌, ◌%◌, eqb, [], ◌∷◌, ◌++◌, sym, refl, ap, ◌∙◌, append_assoc}
use Rattle.bits.specs.Octets.{low}
use Rattle.cutting.specs.Cutting.{Bits}
use Rattle.writer.proofs.OctetBits.{low_next, low_done}
use Rattle.writer.proofs.Puts.{stuffed-none, stuffed_more, stuffed_as, next_room}
use Rattle.writer.proofs.put.Run.put_octet.Goals as goal

pub put_bit-requires : goal.put_bit-requires
put_bit-requires g c =
    let i = c.loop.invariant in
    let j = c.loop.counter in
    let n = c.loop.rest in
    next_room i.2 (low 8 c.args.octet) (eqb (n % 2) 1 ∷ []) (low (8 - (j + 1)) (n / 2))
    (i.1 ∙ ap (λ (l : Bits). i.0 ++ l) (low_next j n c.loop-test.true)) c.requires

pub loop-init : goal.loop-init
loop-init g c = ([], refl, stuffed-none c.args.self.now.ones (g.S.BitSink.shown c.args.sink.now))

pub loop-preserved : goal.loop-preserved
loop-preserved g c =
    let i = c.loop.invariant in
    let j = c.loop.counter in
    let n = c.loop.rest in
    let b : Bits = eqb (n % 2) 1 ∷ [] in (
      i.0 ++ b,
      i.1 ∙ ap (λ (l : Bits). i.0 ++ l) (low_next j n c.loop-test.true) ∙ sym (append_assoc i.0 b (low (8 - (j + 1)) (n / 2))),
      stuffed_more i.2 c.put_bit.ensures,
    )

pub returns : goal.returns
returns g c =
    let i = c.loop.invariant in stuffed_as (sym (low_done c.loop.counter c.loop.rest i.0 c.loop-test.false) ∙ sym i.1) i.2

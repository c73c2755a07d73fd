-- Where two bits are put, they are the fifth one in a row and its zero.
use Rattle.std.proofs.Common.{false, arith}
use Rattle.writer.proofs.Puts.{put_done, appended_more, put_fifth, fifth_room}
use Rattle.writer.proofs.put.Run.put_bit.Goals as goal

pub returns : goal.returns
returns g c =
    let k = g.S.BitSink in
    let two = fifth_room c.args.self.now.ones c.args.bit c.if-not-bit.false c.if-self-lt4.false in
    let one =
    put_done (k.shown c.args.sink.now) (k.shown c.put.new.self) c.args.bit c.put.result c.put.ensures (omega (arith, c.requires))
    in
    put_fifth c.args.bit c.if-not-bit.false c.if-self-lt4.false
    (appended_more one
    (put_done (k.shown c.put.new.self) (k.shown c.put-2.new.self) false c.put-2.result c.put-2.ensures
    (omega (arith, c.requires, one.lowered))))

-- The room that was tested is enough for the frame's bits.
use Rattle.std.proofs.Common.{length, ap, arith}
use Rattle.writer.proofs.Foretelling.{foretold_room}
use Rattle.writer.proofs.single.write_frame.Goals as goal

pub put_frame-requires : goal.put_frame-requires
put_frame-requires g c =
    let h = c.in_ok-header.header in
    let enough = foretold_room h c.args.frame.now.information.now (ap length c.in_ok-header.ensures.3) in
    omega (arith, c.room.ensures, c.foretell.ensures, c.if-room-foretell.false)

-- The orders so far were accepted and their frames put.
use Rattle.std.proofs.Common.{length, take}
use Rattle.cutting.specs.Stuffing.{put_bits}
use Rattle.writer.specs.Lists.{layouts, AllAccepted}
use Rattle.writer.specs.Putting.{Appended}
use Rattle.writer.proofs.list.write_list.Given as goal

abbrev pub invariant-loop-index : goal.invariant-loop-index
invariant-loop-index g l =
    AllAccepted l.buffer (g.S.BitSink.shown l.initial.sink).space (take l.index l.orders)
    × Appended (put_bits (layouts l.buffer (take l.index l.orders))) (g.S.BitSink.shown l.initial.sink)
    (length (put_bits (layouts l.buffer (take l.index l.orders)))) (g.S.BitSink.shown l.sink)

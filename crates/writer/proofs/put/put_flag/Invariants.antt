-- As many ones were put as turns were made.
use Rattle.cutting.specs.Cutting.{ones}
use Rattle.writer.specs.Putting.{Appended}
use Rattle.writer.proofs.put.put_flag.Given as goal

abbrev pub invariant-loop : goal.invariant-loop
invariant-loop g l =
    Appended (ones l.counter) (g.S.BitSink.shown l.initial.sink) l.counter
    (g.S.BitSink.shown l.sink)

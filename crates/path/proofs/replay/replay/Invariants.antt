use Rattle.std.proofs.Common.{take, vec_items}
use Rattle.path.proofs.Turns.{Going}
use Rattle.path.proofs.replay.replay.Given as goal

abbrev pub invariant-loop-call : goal.invariant-loop-call
invariant-loop-call g l =
    Going (g.S.BitSource.waiting l.initial.source) l.receiver (g.S.BitSource.waiting l.source) (take l.call-index l.calls) (vec_items l.outcomes)

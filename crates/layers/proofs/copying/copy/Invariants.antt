-- Some bits were moved and counted, and as much room is used.
use Rattle.std.proofs.Common.{◌≡◌, ◌+◌, Bool, List, ◌++◌, length}
use Rattle.layers.proofs.copying.copy.Given as goal

abbrev pub invariant-loop-copied : goal.invariant-loop-copied
invariant-loop-copied g l =
    (t : List Bool) × (g.S.BitSource.waiting l.initial.source ≡ t ++ g.S.BitSource.waiting l.source)
    × ((g.K.BitSink.shown l.sink).held ≡ (g.K.BitSink.shown l.initial.sink).held ++ t)
    × ((g.K.BitSink.shown l.initial.sink).space ≡ (g.K.BitSink.shown l.sink).space + length t)
    × (length t ≡ l.copied)

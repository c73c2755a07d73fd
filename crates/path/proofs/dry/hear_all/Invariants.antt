-- What was heard so far, and that each turn leaves fewer bits waiting.
use Rattle.std.proofs.Common.{◌≡◌, map, length, vec_items}
use Rattle.receiver.specs.Hearing.{HasHeard}
use Rattle.path.specs.Dry.{placed}
use Rattle.path.proofs.Hearings.{Hearing}
use Rattle.path.proofs.dry.hear_all.Given as goal

abbrev pub invariant-loop-heard : goal.invariant-loop-heard
invariant-loop-heard g l =
    (length l.buffer ≡ 2061)
    × Hearing (HasHeard l.initial.receiver) (HasHeard l.receiver) (g.S.BitSource.waiting l.initial.source) (g.S.BitSource.waiting l.source) l.taken (map placed (vec_items l.events))

abbrev pub decreases-loop-heard : goal.decreases-loop-heard
decreases-loop-heard g l = length (g.S.BitSource.waiting l.source)

-- Some bits were taken and counted; the buffer is as it was; nothing fell due in them.
use Rattle.std.proofs.Common.{◌≡◌, Bool, List, ◌++◌, length}
use Rattle.cutting.specs.Cutting.{Bits}
use Rattle.receiver.specs.Hearing.{HasHeard}
use Rattle.receiver.specs.Listening.{Still}
use Rattle.receiver.proofs.record.Receiver.listen.Given as goal

abbrev pub invariant-loop-taken : goal.invariant-loop-taken
invariant-loop-taken g l =
    (t : List Bool) × (g.S.BitSource.waiting l.initial.source ≡ t ++ g.S.BitSource.waiting l.source) × (length t ≡ l.taken)
    × (l.buffer ≡ l.initial.buffer)
    × ((h : Bits) → HasHeard l.initial.self h → HasHeard l.self (h ++ t) × Still (h ++ t) (length h) (length (h ++ t)))

-- From where the reader stands, over groups' headers without parameters, and not at the very beginning.
use Rattle.std.proofs.Common.{length}
use Rattle.xid.specs.Fields.{Beginning}
use Rattle.xid.specs.Stands.{unread, Stands}
use Rattle.xid.proofs.Moves.{On}
use Rattle.xid.proofs.reader.Reader.ahead.Given as goal

abbrev pub invariant-loop-taken : goal.invariant-loop-taken
invariant-loop-taken l = (b : Beginning) → Stands l.self.field.now l.self.cursor b → On l.self.field.now b l.at

abbrev pub decreases-loop-taken : goal.decreases-loop-taken
decreases-loop-taken l = length (unread l.at)

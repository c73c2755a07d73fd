-- The reader stands behind the parameters that are counted; each took an octet of the field at least.
use Rattle.std.proofs.Common.{length}
use Rattle.xid.specs.Stands.{unread}
use Rattle.xid.proofs.Counting.{Counted}
use Rattle.xid.proofs.reader.moving.count_parameters.Given as goal

abbrev pub invariant-loop-count : goal.invariant-loop-count
invariant-loop-count l = Counted l.field l.reader l.count

abbrev pub decreases-loop-count : goal.decreases-loop-count
decreases-loop-count l = length (unread l.reader.cursor)

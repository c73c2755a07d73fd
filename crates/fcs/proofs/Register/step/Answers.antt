-- The table's rule, computed at all of its 256 entries.
use mathlib.Core.Bool.{xor}
use Rattle.bits.specs.Octets.{low}
use Rattle.fcs.specs.Sequence.{moved, after}
use Rattle.fcs.specs.Table.{OctetMoves}
use Rattle.fcs.proofs.Register.step.Goals as goal

pub moved_by-self-requires : goal.moved_by-self-requires
unfolding OctetMoves after moved low xor
moved_by-self-requires c = tt

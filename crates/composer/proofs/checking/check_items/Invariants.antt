use Rattle.composer.proofs.Checks.{SoFar}
use Rattle.composer.proofs.checking.check_items.Given as goal

abbrev pub invariant-loop-index : goal.invariant-loop-index
invariant-loop-index l = SoFar l.items l.values l.index l.totals

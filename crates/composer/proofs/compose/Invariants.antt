use Rattle.composer.specs.Checking.{params}
use Rattle.composer.proofs.Written.{Front}
use Rattle.composer.proofs.Wholes.{groups_so_far}
use Rattle.composer.proofs.compose.Given as goal

abbrev pub invariant-loop-group : goal.invariant-loop-group
invariant-loop-group l = Front (groups_so_far (params l.checked) l.group-index) l.fn.out l.out l.end

use Rattle.composer.proofs.Written.{Front, so_far}
use Rattle.composer.proofs.checked.Checked.write_group.Given as goal

abbrev pub invariant-loop-item : goal.invariant-loop-item
invariant-loop-item l = Front (so_far l.group l.octets l.self.items.now l.self.values.now l.item-index) l.fn.out l.out l.end

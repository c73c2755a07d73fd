use Rattle.layers.proofs.Registers.{on}
use Rattle.layers.proofs.register.moved_on.Goals as goal

pub returns : goal.returns
returns c = on c.args.register

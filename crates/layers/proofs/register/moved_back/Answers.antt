use Rattle.layers.proofs.Registers.{back}
use Rattle.layers.proofs.register.moved_back.Goals as goal

pub returns : goal.returns
returns c = back c.args.register

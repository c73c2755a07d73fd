use Rattle.layers.proofs.Ahead.{fourteen}
use Rattle.layers.proofs.register.fourteen_more.Goals as goal

pub returns : goal.returns
returns c = fourteen c.args.queue

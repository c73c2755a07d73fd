use Rattle.std.proofs.Common.{sym}
use Rattle.writer.proofs.Foretelling.{foretold_is}
use Rattle.writer.proofs.single.foretell.Goals as goal

pub returns : goal.returns
returns c = sym (foretold_is c.args.octets)

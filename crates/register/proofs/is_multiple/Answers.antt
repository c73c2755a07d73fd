use Rattle.register.proofs.Multiples.{told_multiple, none_multiple}
use Rattle.register.proofs.is_multiple.Goals as goal

pub returns-then-octets-gt0 : goal.returns-then-octets-gt0
returns-then-octets-gt0 c = told_multiple c.args.each c.args.octets c.is_multiple_of.result c.is_multiple_of.ensures c.if-octets-gt0.true

pub returns-else-octets-gt0 : goal.returns-else-octets-gt0
returns-else-octets-gt0 c = none_multiple c.args.each c.args.octets c.requires c.if-octets-gt0.false

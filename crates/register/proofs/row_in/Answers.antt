use Rattle.std.proofs.Common.{sym, ap, ◌∙◌, arith}
use Rattle.register.specs.Register.{row}
use Rattle.register.proofs.row_in.Goals as goal

pub returns-in-Public : goal.returns-in-Public
returns-in-Public c = c.requires.public c.args.identifier (omega arith) ∙ ap (λ g. row g c.args.identifier) (sym c.in-Public.is)

pub returns-in-Private : goal.returns-in-Private
returns-in-Private c = c.requires.private c.args.identifier (omega arith) ∙ ap (λ g. row g c.args.identifier) (sym c.in-Private.is)

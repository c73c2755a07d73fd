use Rattle.std.proofs.Common.{arith, rules}
use Rattle.frame.specs.Addresses.{IsAddress}
use Rattle.writer.proofs.single.header_of.Goals as goal

pub returns : goal.returns
returns c =
    let to : IsAddress c.args.frame.heading.destination = record { high = omega arith; middle = omega arith; low = omega arith } in
    let from : IsAddress c.args.frame.heading.source = record { high = omega arith; middle = omega arith; low = omega arith } in
    search (rules, to, from)

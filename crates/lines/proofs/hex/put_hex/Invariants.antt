use Rattle.std.proofs.Common.{◌≡◌, ◌*◌, take}
use Rattle.std.specs.List.{flat_map}
use Rattle.lines.specs.Lines.{hex_pair}
use Rattle.lines.proofs.hex.put_hex.Given as goal

abbrev pub invariant-loop-k : goal.invariant-loop-k
invariant-loop-k l = take (2 * l.k) l.pairs ≡ flat_map hex_pair (take l.k l.octets)

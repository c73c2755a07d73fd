-- The table by which the register moves over a whole octet.
use Rattle.std.specs.Prelude.{ℕ, suc, Bool, true, ◌&&◌, List, [], ◌∷◌, ◌==◌}
use Rattle.bits.specs.Octets.{low}
use Rattle.fcs.specs.Sequence.{after}

-- the entries, from place i on: each is the register that eight zeros make of its place
unfoldable pub OctetMoves : ℕ → List ℕ → Bool
OctetMoves i [] = true
OctetMoves i (x ∷ xs) = x == after i (low 8 0) && OctetMoves (suc i) xs

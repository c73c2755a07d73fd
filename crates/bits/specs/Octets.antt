-- Octets as bits, in the order in which they are sent.
use Rattle.std.specs.Prelude.{ℕ, zero, suc, ◌+◌, ◌*◌, ◌/◌, ◌%◌, Bool, cond, List, [], ◌∷◌, ◌==◌}
use Rattle.std.specs.List.{flat_map}

-- the lowest k bits of a number, the lowest first
unfoldable pub low : ℕ → ℕ → List Bool
low zero n = []
low (suc k) n = (n % 2 == 1) ∷ low k (n / 2)

-- the number whose bits these are, the lowest first
unfoldable pub value : List Bool → ℕ
value [] = 0
value (b ∷ bs) = cond b 1 0 + 2 * value bs

-- the bits of octets as they are sent: each octet's lowest bit first
unfoldable pub sent : List ℕ → List Bool
sent os = flat_map (low 8) os

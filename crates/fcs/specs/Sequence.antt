-- The frame check sequence, by the rule for one bit.
use Rattle.std.specs.Prelude.{ℕ, ◌/◌, ◌%◌, Bool, cond, List, [], ◌∷◌, fold, ◌==◌, bit_xor}
use Rattle.std.specs.Bool.{xor}
use Rattle.bits.specs.Octets.{sent}

-- one bit sent: the register moves right by one, and is combined with 8408h where its old lowest bit differs from the bit
unfoldable pub moved : ℕ → Bool → ℕ
moved r b = bit_xor (r / 2) (cond (xor (r % 2 == 1) b) 0x8408 0)

-- the register behind some bits
unfoldable pub after : ℕ → List Bool → ℕ
after r bits = fold moved r bits

-- the check sequence of octets: the register starts at FFFFh, and its complement follows
unfoldable pub sequence : List ℕ → ℕ
sequence os = bit_xor (after 0xFFFF (sent os)) 0xFFFF

-- the two octets that follow, the low one first
unfoldable pub trailer : List ℕ → List ℕ
trailer os = (sequence os % 256) ∷ (sequence os / 256) ∷ []

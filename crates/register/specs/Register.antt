-- The register of parameters: the lengths that a value may have.
use Rattle.std.specs.Prelude.{◌≡◌, ℕ, ◌+◌, ◌*◌, ◌<◌, ◌≤◌, Bool, true, false, cond, List, [], ◌∷◌, ◌==◌, slice_index_or}
use Rattle.register.specs.declared.Group.{Group}
use Rattle.register.specs.declared.Group.TheVariants.{Public, Private}
use Rattle.register.specs.declared.Lengths.{Lengths}
use Rattle.register.specs.declared.Lengths.TheVariants.{Any, Exactly, AtLeast, Fours, Sixes}

-- a listed identifier and its lengths
pub record Row : Type 0 where
  pub identifier : ℕ
  pub lengths : Lengths

abbrev lists : ℕ → Lengths → Row
lists i l = record { identifier = i; lengths = l }

-- the identifiers that are listed in each group
abbrev pub listed : Group → List Row
listed Public = lists 0x01 (AtLeast 1) ∷ lists 0x05 (Exactly 2) ∷ lists 0x06 (Exactly 2) ∷ lists 0x07 (Exactly 1) ∷ lists 0x08 (Exactly 1) ∷ lists 0x0A (Exactly 1) ∷ []
listed Private =
    lists 0x00 (Exactly 1) ∷ lists 0x01 (Exactly 1) ∷ lists 0x02 (Exactly 1) ∷ lists 0x04 (Exactly 1) ∷ lists 0x06 (AtLeast 3) ∷ lists 0x40 (Exactly 2)
    ∷ lists 0x41 Fours ∷ lists 0x82 Fours ∷ lists 0xC1 Fours ∷ lists 0xC0 Sixes ∷ lists 0xC4 Sixes
    ∷ lists 0x83 (Exactly 4) ∷ lists 0x84 (Exactly 4) ∷ lists 0xC3 (Exactly 4) ∷ lists 0xC5 (Exactly 4) ∷ lists 0xC8 (Exactly 3) ∷ []

-- an identifier's lengths in a list of rows; any where it is not listed
abbrev pub found : ℕ → List Row → Lengths
found i [] = Any
found i (r ∷ rs) = cond (i == r.identifier) r.lengths (found i rs)

unfoldable pub row : Group → ℕ → Lengths
row g i = found i (listed g)

-- n is k times some number that is at least 1
abbrev pub Multiple : ℕ → ℕ → Type 0
Multiple k n = (m : ℕ) × ((1 ≤ m) × (n ≡ k * m))

-- the lengths that a row allows
abbrev pub Allows : Lengths → ℕ → Type 0
Allows Any n = Unit {0}
Allows (Exactly k) n = n ≡ k
Allows (AtLeast k) n = k ≤ n
Allows Fours n = Multiple 4 n
Allows Sixes n = Multiple 6 n

-- an answer that tells whether something holds
abbrev pub Told : Type 0 → Bool → Type 0
Told p true = p
Told p false = p → ⊥

-- a table that follows the register: 256 public rows, then 256 private ones
pub record Rows (rows : List Lengths) : Type 0 where
  pub public : (i : ℕ) → i < 256 → slice_index_or rows i Any ≡ row Public i
  pub private : (i : ℕ) → i < 256 → slice_index_or rows (256 + i) Any ≡ row Private i

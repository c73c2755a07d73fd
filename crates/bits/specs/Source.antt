-- Bit sources: what taking a bit does to the bits that wait.
use Rattle.std.specs.Prelude.{◌≡◌, Bool, List, [], ◌∷◌, Some, None, Option}

-- none exactly if no bit waits, and then none waits after; else the first bit, which is removed
abbrev pub Taken : List Bool → Option Bool → List Bool → Type 0
Taken before None after = (before ≡ []) × (after ≡ [])
Taken before (Some b) after = before ≡ b ∷ after

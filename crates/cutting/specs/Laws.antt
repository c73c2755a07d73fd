-- The laws of cutting.
use Rattle.std.specs.Prelude.{◌≡◌, ℕ, ◌+◌, ◌<◌, ◌≤◌, ◌⊎◌, ◌↔◌, List, [], ◌∷◌, ◌++◌, length}
use Rattle.cutting.specs.Cutting.{Bits, flag, Verdict, Due, Placed, AllDue}

-- the verdict due at a place is one
abbrev pub DueIsOne : Type 0
DueIsOne = (s : Bits) (e : ℕ) (v w : Verdict) → Due s e v → Due s e w → v ≡ w

-- every row of bits has its list of all verdicts due, and only one
abbrev pub AllDueIsOne : Type 0
AllDueIsOne = (s : Bits) → (l : List Placed) × AllDue s 0 l × ((m : List Placed) → AllDue s 0 m → m ≡ l)

abbrev pub In : Placed → List Placed → Type 0
In p [] = ⊥
In p (q ∷ l) = (p ≡ q) ⊎ In p l

-- that list has a verdict at a place exactly if it falls due there
abbrev pub AllDueIsAll : Type 0
AllDueIsAll = (s : Bits) (l : List Placed) → AllDue s 0 l → (p : Placed) → In p l ↔ Due s p.place p.verdict

-- what is due at a place depends on the bits before it alone
abbrev pub CuttingIsCausal : Type 0
CuttingIsCausal = (p q : Bits) (e : ℕ) (v : Verdict) → e ≤ length p → Due (p ++ q) e v ↔ Due p e v

-- what is due behind a whole flag does not depend on what came before the flag
abbrev pub CuttingIsLocal : Type 0
CuttingIsLocal = (pre rest : Bits) (e : ℕ) (v : Verdict) → 8 < e → Due (pre ++ (flag ++ rest)) (length pre + e) v ↔ Due (flag ++ rest) e v

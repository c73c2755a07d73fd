-- The scrambling sequence: a bit s(i) at every place i, before 0 too.
use Rattle.std.specs.Prelude.{◌≡◌, ℕ, zero, suc, ◌<◌, Bool, false, List, [], ◌∷◌, ◌++◌, take, drop, ℤ, pos, negsuc, ◌-ℤ◌, slice_index_or}
use Rattle.std.specs.Bool.{xor}
use Rattle.std.proofs.Math.IntN.{suc_ℤ}

-- the rule: each bit is the exclusive or of the bits fourteen and fifteen places before it, at every place
abbrev pub Rule : (ℤ → Bool) → Type 0
Rule s = (i : ℤ) → s i ≡ xor (s (i -ℤ pos 14)) (s (i -ℤ pos 15))

-- the bits at places 0 to 14 are those given
abbrev pub Begins : (ℤ → Bool) → List Bool → Type 0
Begins s given = (k : ℕ) → k < 15 → s (pos k) ≡ slice_index_or given k false

-- the fifteen bits one place on, and one place back, by the rule
abbrev pub onward : List Bool → List Bool
onward w = drop 1 w ++ xor (slice_index_or w 1 false) (slice_index_or w 0 false) ∷ []

abbrev pub backward : List Bool → List Bool
backward w = xor (slice_index_or w 14 false) (slice_index_or w 0 false) ∷ take 14 w

abbrev pub moved : (List Bool → List Bool) → ℕ → List Bool → List Bool
moved step zero w = w
moved step (suc n) w = moved step n (step w)

-- the sequence that begins with fifteen given bits
unfoldable pub sequence : List Bool → ℤ → Bool
sequence given (pos n) = slice_index_or (moved onward n given) 0 false
sequence given (negsuc n) = slice_index_or (moved backward (suc n) given) 0 false

-- bits combined by exclusive or with the sequence from place i on
unfoldable pub combined : (ℤ → Bool) → ℤ → List Bool → List Bool
combined s i [] = []
combined s i (b ∷ bs) = xor b (s i) ∷ combined s (suc_ℤ i) bs

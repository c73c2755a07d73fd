-- The array that a slice is turned into.
use Rattle.std.proofs.Common.{◌≡◌, ℕ, List, length, Some, Ok, Err, Result, ◌≢◌, MatchResult, ◌∙◌}
use Rattle.std.specs.Array.{IsWholeChunk}
use Rattle.std.specs.Result.{result_ok}

pub array_same : {E : Type 0} (n : ℕ) (os ys : List ℕ) (r : Result (List ℕ) E)
    → MatchResult r (λ zs. IsWholeChunk os zs n) (λ _. length os ≢ n) → Some ys ≡ result_ok r → ys ≡ os
array_same n os ys (Ok zs) h e = let same : ys ≡ zs = cc in same ∙ h.same
array_same n os ys (Err x) h e = absurd cc

-- The register behind one list of bits and then another.
use Rattle.std.proofs.Common.{◌≡◌, ℕ, Bool, List, [], ◌∷◌, ◌++◌, refl}
use Rattle.fcs.specs.Sequence.{moved, after}

pub after-append : (r : ℕ) (xs ys : List Bool) → after r (xs ++ ys) ≡ after (after r xs) ys
unfolding after
after-append r [] ys = refl
after-append r (x ∷ xs) ys = after-append (moved r x) xs ys

-- Verdicts noted with their places.
use Rattle.std.proofs.Common.{◌≡◌, ℕ, ◌+◌, List, [], ◌∷◌, ◌++◌, map, Some, None, Option, sym, refl, ap, ◌∙◌}
use Rattle.std.proofs.lemmas.List.{map_push}
use Rattle.cutting.specs.Cutting.{Verdict}
use Rattle.path.specs.Dry.{placed}
use Rattle.path.specs.Runs.{noted, later}
use Rattle.path.specs.declared.dry.Event.{Event}

-- one event more
pub event_more : (items items' : List Event) (e : Event) (o : Option Verdict) (n : ℕ) → items' ≡ items ++ e ∷ [] → noted o n ≡ placed e ∷ []
    → map placed items' ≡ map placed items ++ noted o n
event_more items items' e o n is one =
    ap (map placed) is ∙ map_push placed items e ∙ ap (λ l. map placed items ++ l) (sym one)

-- noted some places later
pub noted-later : (m n : ℕ) (o : Option Verdict) → noted o (m + n) ≡ map (later m) (noted o n)
noted-later m n None = refl
noted-later m n (Some v) = refl

-- The events so far, opened.
use Rattle.std.proofs.Common.{◌≡◌, map, take, vec_items}
use Rattle.std.specs.List.{AllByRecursion}
use Rattle.path.specs.Carrying.{arrived_placed, Judges}
use Rattle.path.specs.Dry.{placed}
use Rattle.path.proofs.carrying.open_all.Given as goal

abbrev pub invariant-loop-event : goal.invariant-loop-event
invariant-loop-event l = (map arrived_placed (vec_items l.arrivals) ≡ map placed (take l.event-index l.events)) × AllByRecursion (λ x. Judges x.found) (vec_items l.arrivals)

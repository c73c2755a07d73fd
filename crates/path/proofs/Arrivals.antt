-- Verdicts whose frames are opened, one behind the other.
use Rattle.std.proofs.Common.{◌≡◌, ℕ, ◌+◌, ◌<◌, List, [], ◌∷◌, ◌++◌, map, length, get_or, take, vec_items, Result, Vec, sym, refl, ap, ◌∙◌, subst}
use Rattle.std.specs.List.{AllByRecursion}
use Rattle.std.specs.declared.alloc.Global.{Global}
use Rattle.std.proofs.ByRecursion.{All-push}
use Rattle.std.proofs.lemmas.List.{map_push, take_more}
use Rattle.cutting.specs.Cutting.{Verdict, frame, Placed}
use Rattle.cutting.specs.declared.Fault.{Fault}
use Rattle.frame.specs.Opening.{content_of, layout, Layable}
use Rattle.frame.specs.declared.opening.Heading.{Heading}
use Rattle.faults.specs.declared.ExchangeFault.{ExchangeFault}
use Rattle.path.specs.Carrying.{arrived_placed, found_verdict, Judges}
use Rattle.xid.specs.Information.{ReadAs}
use Rattle.path.specs.Dry.{told, placed}
use Rattle.path.specs.declared.carrying.Arrived.{Arrived}
use Rattle.path.specs.declared.carrying.Found.{Found}
use Rattle.path.specs.declared.carrying.Found.TheVariants.{Aborted, Refused}
use Rattle.path.specs.declared.dry.Event.{Event}
use Rattle.path.specs.declared.dry.Verdict.{Verdict as Told}
use Rattle.path.specs.declared.dry.Verdict.TheVariants as verdict

-- octets that opened, kept with a copy of their information
pub opened_one : (h : Heading) (l i os : List ℕ) (r : Result ℕ ExchangeFault) → l ≡ i → Layable (content_of h i) × (layout (content_of h i) ≡ os) → ReadAs h.control i r
    → (◌≡◌ {A = Verdict} (frame (layout (content_of h l))) (frame os)) × (Layable (content_of h l) × ReadAs h.control l r)
opened_one h l i os r e o read =
    let same : layout (content_of h l) ≡ os = ap (λ (x : List ℕ). layout (content_of h x)) e ∙ o.1 in
    (ap {B = Verdict} frame same, (subst (λ (x : List ℕ). Layable (content_of h x)) (sym e) o.0, subst (λ (x : List ℕ). ReadAs h.control x r) (sym e) read))

-- what a verdict comes to
abbrev pub OpenedAs : Found → Told → Type 0
OpenedAs f v = (found_verdict f ≡ told v) × Judges f

pub opened_aborted : {f : Found} {v : Told} → f ≡ Aborted → v ≡ verdict.Aborted → OpenedAs f v
opened_aborted p q = rw (p, q) (refl, tt)

pub opened_refused : {f : Found} {v : Told} (fault : Fault) → f ≡ Refused fault → v ≡ verdict.Refused fault → OpenedAs f v
opened_refused fault p q = rw (p, q) (refl, tt)

pub opened_frame : {f : Found} {v : Told} (b : Found) (octets : Vec ℕ Global) (os : List ℕ) → f ≡ b → v ≡ verdict.Frame octets → os ≡ vec_items octets
    → (found_verdict b ≡ frame os) × Judges b → OpenedAs f v
opened_frame b octets os p q same one = rw (p, q) (one.0 ∙ ap {B = Verdict} frame same, one.1)

-- one verdict more
pub opened_more : (arrivals arrivals' : List Arrived) (a : Arrived) (es : List Event) (i : ℕ) (e : Event) → i < length es → e ≡ get_or es i e → arrivals' ≡ arrivals ++ a ∷ []
    → (a.place ≡ e.place) × OpenedAs a.found e.verdict → (map arrived_placed arrivals ≡ map placed (take i es)) × AllByRecursion (λ x. Judges x.found) arrivals
    → (map arrived_placed arrivals' ≡ map placed (take (i + 1) es)) × AllByRecursion (λ x. Judges x.found) arrivals'
opened_more arrivals arrivals' a es i e inside here more one so_far =
    let same : arrived_placed a ≡ placed e =
    ap {B = Placed} (λ n. record { place = n; verdict = found_verdict a.found }) one.0 ∙ ap {B = Placed} (λ v. record { place = e.place; verdict = v }) one.1.0 in
    let last : take (i + 1) es ≡ take i es ++ e ∷ [] = take_more es i e inside ∙ ap {B = List Event} (λ x. take i es ++ x ∷ []) (sym here) in (
      ap {B = List Placed} (map arrived_placed) more ∙ map_push arrived_placed arrivals a
          ∙ ap {B = List Placed} (λ l. l ++ arrived_placed a ∷ []) so_far.0
          ∙ ap {B = List Placed} (λ p. map placed (take i es) ++ p ∷ []) same
          ∙ sym (map_push placed (take i es) e) ∙ ap {B = List Placed} (map placed) (sym last),
      subst (AllByRecursion (λ x. Judges x.found)) (sym more) (All-push (λ x. Judges x.found) arrivals a so_far.1 one.1.1),
    )

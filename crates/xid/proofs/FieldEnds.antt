-- A beginning that stops has no piece behind it, and stops in one way.
use Rattle.std.proofs.Common.{◌≡◌, ℕ, ◌+◌, ◌≤◌, List, ◌∷◌, ◌++◌, length, Some, None, Option, refl, ap, arith}
use lib.Seq.{take-append_seam}
use Rattle.std.proofs.lemmas.Grind.{common_steps}
use Rattle.faults.specs.declared.ExchangeFault.{ExchangeFault}
use Rattle.faults.specs.declared.ExchangeFault.TheVariants.{OtherGroup, GroupOrder}
use Rattle.register.specs.declared.Group.{Group}
use Rattle.xid.specs.Fields.{Param, param_octets, Readable, Beginning, nothing, left, last_group, Follows, Whole}
use Rattle.xid.specs.Reading.{Wrong, First, Stops}
use Rattle.xid.proofs.SamePieces.{headed, whole_left, same_group}

-- behind a beginning that a piece follows nothing is wrong: where the leading octet follows
not_leading : (s : List ℕ) (f : ExchangeFault) → Wrong nothing (0x82 ∷ s) f → ⊥
not_leading s f w = grind (arith, common_steps)

-- where a group's header follows, with its octets
not_header : (b : Beginning) (g : Group) (n : ℕ) (s : List ℕ) → Whole b → Follows (last_group b) g → n ≤ length s
    → (f : ExchangeFault) → Wrong b (headed g n s) f → ⊥
not_header b g n s w h few (OtherGroup p) e = e.1 g refl
not_header b g n s w h few (GroupOrder p) e = e.1.1.1 (rw (same_group e.1.0 g e.1.1.0) h)
not_header b g n s w h few f e = grind (arith, common_steps, whole_left)

-- where a parameter follows
not_parameter : (b : Beginning) (p : Param) (s : List ℕ) → last_group b ≡ Some p.group → 2 + length p.value ≤ left b → Readable p
    → (f : ExchangeFault) → Wrong b (param_octets p ++ s) f → ⊥
not_parameter b p s l few r f e = grind (arith, common_steps, whole_left, take-append_seam p.value s)

-- a beginning that a piece follows does not stop
pub goes_behind_nothing : (s : List ℕ) (stop : Option ExchangeFault) → Stops nothing (0x82 ∷ s) stop → ⊥
goes_behind_nothing s None h = h.0
goes_behind_nothing s (Some f) h = not_leading s f h.wrong

pub goes_behind-header : (b : Beginning) (g : Group) (n : ℕ) (s : List ℕ) → Whole b → Follows (last_group b) g → n ≤ length s
    → (stop : Option ExchangeFault) → Stops b (headed g n s) stop → ⊥
goes_behind-header b g n s w h few None (end, e) = let z : ◌≡◌ {A = ℕ} 0 1 = cc in omega arith
goes_behind-header b g n s w h few (Some f) stops = not_header b g n s w h few f stops.wrong

pub goes_behind_parameter : (b : Beginning) (p : Param) (s : List ℕ) → last_group b ≡ Some p.group → 2 + length p.value ≤ left b → Readable p
    → (stop : Option ExchangeFault) → Stops b (param_octets p ++ s) stop → ⊥
goes_behind_parameter b p s l few r None (end, e) = let z : ◌≡◌ {A = ℕ} 0 1 = cc in omega arith
goes_behind_parameter b p s l few r (Some f) stops = not_parameter b p s l few r f stops.wrong

-- at the end of the octets nothing is wrong
not_at_end : (b : Beginning) (rest : List ℕ) → Whole b → length rest ≡ 0 → (f : ExchangeFault) → Wrong b rest f → ⊥
not_at_end b rest w none f e = grind (arith, common_steps, whole_left)

first_is_one : (b : Beginning) (rest : List ℕ) (f g : ExchangeFault) → First b rest f → First b rest g → f ≡ g
first_is_one b rest f g h k = grind (arith, common_steps)

pub stop_is_one : (b : Beginning) (rest : List ℕ) (s t : Option ExchangeFault) → Stops b rest s → Stops b rest t → s ≡ t
stop_is_one b rest None None h k = refl
stop_is_one b rest None (Some g) h k = absurd (not_at_end b rest h.0 (ap length h.1) g k.wrong)
stop_is_one b rest (Some f) None h k = absurd (not_at_end b rest k.0 (ap length k.1) f h.wrong)
stop_is_one b rest (Some f) (Some g) h k = ap Some (first_is_one b rest f g h k)

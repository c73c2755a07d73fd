-- The parameters of a group, and how many octets they take, parameter by parameter.
use Rattle.std.proofs.Common.{◌≡◌, ℕ, ◌+◌, ◌<◌, ◌≤◌, Bool, true, false, eqb, List, [], ◌∷◌, ◌++◌, length, take, drop, sym, refl, ap, ◌∙◌, append-nil, arith, length-append, length-drop}
use Rattle.std.specs.List.{flat_map, AllByRecursion as All}
use Rattle.std.proofs.lemmas.List.Elements.{filter-append}
use Rattle.std.proofs.lemmas.Grind.{flat_map-append}
use Rattle.std.proofs.ByRecursion.{all_kept_by, kept_by_passes, All-weaker}
use Rattle.std.proofs.lemmas.List.{flat_map_more, map-append, map_more, length-take-le, take-append-drop}
use Rattle.std.proofs.lemmas.Bool.{cond-true, cond-false, eqb-true, eq-eqb, ne_eqb}
use Rattle.register.specs.Groups.{group_octet}
use Rattle.register.specs.declared.Group.{Group}
use Rattle.xid.specs.Fields.{Param, param_octets}
use Rattle.xid.proofs.SamePieces.{same_group}
use Rattle.composer.specs.Composing.{of_group, group_octets, param_of, params_of, item_at}
use Rattle.composer.specs.Sizes.{ItemRight, group_size}
use Rattle.composer.specs.declared.Item.{Item}

abbrev pub is_of : Group → Param → Bool
is_of g p = eqb (group_octet p.group) (group_octet g)

of_group_in : (g : Group) (ps : List Param) (p : Param) → is_of g p ≡ true → of_group g (ps ++ p ∷ []) ≡ of_group g ps ++ p ∷ []
of_group_in g ps p is = filter-append (is_of g) ps (p ∷ []) ∙ ap (λ l. of_group g ps ++ l) (cond-true (is_of g p) (p ∷ []) [] is)

of_group_out : (g : Group) (ps : List Param) (p : Param) → is_of g p ≡ false → of_group g (ps ++ p ∷ []) ≡ of_group g ps
of_group_out g ps p is = filter-append (is_of g) ps (p ∷ []) ∙ ap (λ l. of_group g ps ++ l) (cond-false (is_of g p) (p ∷ []) [] is) ∙ append-nil (of_group g ps)

-- a group that takes no octets has no parameters
pub size_none : (ps : List Param) → length (flat_map param_octets ps) ≡ 0 → ps ≡ []
size_none [] none = refl
size_none (p ∷ ps) none = absurd (omega arith)

-- a group with parameters, as long as they and a header
pub group_some : (g : Group) (ps : List Param) → 0 < length (flat_map param_octets ps) → length (group_octets g ps) ≡ 3 + length (flat_map param_octets ps)
group_some g [] some = absurd (omega arith)
group_some g (p ∷ ps) some = omega arith

pub all_of_group : (P : Param → Type 0) (g : Group) (ps : List Param) → All P ps → All P (of_group g ps)
all_of_group P g ps all = all_kept_by (is_of g) P ps all

pub of_group_same : (g : Group) (ps : List Param) → All (λ p. p.group ≡ g) (of_group g ps)
of_group_same g ps =
    All-weaker (λ p. is_of g p ≡ true) (λ p. p.group ≡ g)
    (λ p is. same_group p.group g (eqb-true (group_octet p.group) (group_octet g) is)) (of_group g ps) (kept_by_passes (is_of g) ps)

pub params_more : (items : List Item) (values : List ℕ) (i : ℕ) → i < length items
    → params_of (take (i + 1) items) values ≡ params_of (take i items) values ++ param_of values (item_at items i) ∷ []
params_more items values i within = map_more (param_of values) items i (record { group = 0; identifier = 0; place = 0; length = 0 }) within

pub length-value : (item : Item) (values : List ℕ) → item.place + item.length ≤ length values → length (param_of values item).value ≡ item.length
length-value item values inside = length-take-le item.length (drop item.place values) (rw length-drop (omega arith))

-- the first items of a list take no more than all of them
pub size_upto : (g : Group) (items : List Item) (values : List ℕ) (n : ℕ) → group_size g (params_of (take n items) values) ≤ group_size g (params_of items values)
size_upto g items values n =
    let ps = params_of (take n items) values in
    let qs = params_of (drop n items) values in
    let all : params_of items values ≡ ps ++ qs =
    ap (λ l. params_of l values) (sym (take-append-drop n items)) ∙ map-append (param_of values) (take n items) (drop n items) in
    let octets : flat_map param_octets (of_group g (params_of items values)) ≡ flat_map param_octets (of_group g ps) ++ flat_map param_octets (of_group g qs) =
    ap (λ l. flat_map param_octets (of_group g l)) all
    ∙ ap (flat_map param_octets) (filter-append (is_of g) ps qs)
    ∙ flat_map-append param_octets (of_group g ps) (of_group g qs) in
    omega (arith, ap length octets, length-append (flat_map param_octets (of_group g ps)) (flat_map param_octets (of_group g qs)))

-- one item more, of the group or of the other
module _ (g : Group) (items : List Item) (values : List ℕ) (i : ℕ) (within : i < length items) (right : ItemRight values (item_at items i)) where
  pub parts_more : (item_at items i).group ≡ group_octet g
      → of_group g (params_of (take (i + 1) items) values) ≡ of_group g (params_of (take i items) values) ++ param_of values (item_at items i) ∷ []
  parts_more same =
      ap (of_group g) (params_more items values i within)
      ∙ of_group_in g (params_of (take i items) values) (param_of values (item_at items i))
      (eq-eqb (group_octet (param_of values (item_at items i)).group) (group_octet g) (right.named ∙ same))

  pub parts_as_before : ((item_at items i).group ≡ group_octet g → ⊥) → of_group g (params_of (take (i + 1) items) values) ≡ of_group g (params_of (take i items) values)
  parts_as_before other =
      ap (of_group g) (params_more items values i within)
      ∙ of_group_out g (params_of (take i items) values) (param_of values (item_at items i))
      (ne_eqb (group_octet (param_of values (item_at items i)).group) (group_octet g) (λ e. other (sym right.named ∙ e)))

  pub octets_more : (item_at items i).group ≡ group_octet g
      → flat_map param_octets (of_group g (params_of (take (i + 1) items) values))
      ≡ flat_map param_octets (of_group g (params_of (take i items) values)) ++ param_octets (param_of values (item_at items i))
  octets_more same =
      ap (flat_map param_octets) (parts_more same)
      ∙ sym (flat_map_more param_octets [] (of_group g (params_of (take i items) values)) (param_of values (item_at items i)))

  pub size_more : (item_at items i).group ≡ group_octet g
      → group_size g (params_of (take (i + 1) items) values) ≡ group_size g (params_of (take i items) values) + (2 + (item_at items i).length)
  size_more same =
      omega (
        arith,
        ap length (octets_more same),
        length-append (flat_map param_octets (of_group g (params_of (take i items) values))) (param_octets (param_of values (item_at items i))),
        length-value (item_at items i) values right.inside,
      )

-- Items checked and summed up one by one.
use Rattle.std.proofs.Common.{◌≡◌, ℕ, ◌+◌, ◌*◌, ◌<◌, ◌≤◌, Bool, cond, eqb, ltb, ◌⊎◌, List, [], ◌∷◌, ◌++◌, length, take, Ok, Err, sym, refl, ap, ◌∙◌, subst, inl, inr, append_assoc, append-nil, arith}
use Rattle.std.specs.List.{All, AllByRecursion, flat_map}
use Rattle.std.proofs.ByRecursion.{All-push as push_by_recursion}
use Rattle.std.proofs.lemmas.List.Elements.{All-more}
use Rattle.std.proofs.lemmas.Bool.{cases_order, ltb-true, lt-ltb}
use Rattle.register.specs.Groups.{group_octet}
use Rattle.register.specs.declared.Group.{Group}
use Rattle.register.specs.declared.Group.TheVariants.{Public, Private}
use Rattle.xid.specs.Fields.{param_octets, Readable}
use Rattle.composer.specs.Composing.{of_group, param_of, params_of, item_at, Wrong, turn, compose_number}
use Rattle.composer.specs.Checking.{Outside, Disordered, ItemChecked, NoneBefore, ItemsChecked}
use Rattle.composer.specs.Sizes.{ItemRight, group_size}
use Rattle.composer.specs.declared.Item.{Item}
use Rattle.composer.specs.declared.checked.Totals.{Totals}
use Rattle.composer.specs.declared.ComposeError.{ComposeError}
use Rattle.composer.specs.declared.ComposeError.TheVariants.{TooManyItems, ValueOutside, GroupOrder, Unreadable, TooLong}
use Rattle.composer.proofs.Groups.{params_more, parts_more, parts_as_before, size_more, size_none}

named : (n : ℕ) (g : Group) → group_octet g ≡ n → group_octet (cond (eqb n 0x80) Public Private) ≡ n
named n Public is = subst (λ (m : ℕ). group_octet (cond (eqb m 0x80) Public Private) ≡ m) is refl
named n Private is = subst (λ (m : ℕ). group_octet (cond (eqb m 0x80) Public Private) ≡ m) is refl

pub item_right : (i : ℕ) (item : Item) (values : List ℕ) (behind : Bool) (g : Group) → ItemChecked i item values behind (Ok g) → ItemRight values item
item_right i item values behind g checked =
    record {
      inside = grind (arith, checked.1);
      short = grind (arith, checked.1);
      named = named item.group g checked.0;
    }

-- items that may stand in a field one behind the other, and how many octets the parameters of each group take
pub record Sums (items : List Item) (values : List ℕ) (t : Totals) : Type 0 where
  pub each : All (ItemRight values) items
  pub readable : AllByRecursion Readable (params_of items values)
  pub ordered : params_of items values ≡ of_group Public (params_of items values) ++ of_group Private (params_of items values)
  pub public : t.public ≡ group_size Public (params_of items values)
  pub private : t.private ≡ group_size Private (params_of items values)

-- the items before an index stand, and these are their sums
pub record SoFar (items : List Item) (values : List ℕ) (i : ℕ) (t : Totals) : Type 0 where
  pub sums : Sums (take i items) values t
  pub few : t.public + t.private ≤ 257 * i
  pub none : NoneBefore items values (1 + i)
  pub behind : 0 < t.private → (k : ℕ) × ((k < i) × ((item_at items k).group ≡ 0xF0))
  pub private : (k : ℕ) → k < i → (item_at items k).group ≡ 0xF0 → 0 < t.private

pub none_first : (items : List Item) (values : List ℕ) → length items ≤ 255 → NoneBefore items values 1
none_first items values few room TooManyItems wrong = absurd (omega arith)
none_first items values few room (ValueOutside j) wrong = omega arith
none_first items values few room (GroupOrder j) wrong = omega arith
none_first items values few room (Unreadable j) wrong = omega arith
none_first items values few room TooLong wrong = omega arith

pub so_far_none : (items : List Item) (values : List ℕ) → length items ≤ 255 → SoFar items values 0 (record { public = 0; private = 0 })
so_far_none items values few =
    record {
      sums = record { each = λ k d within. absurd (omega arith); readable = tt; ordered = refl; public = refl; private = refl };
      few = omega arith;
      none = none_first items values few;
      behind = λ h. absurd (omega arith);
      private = λ k h e. absurd (omega arith);
    }

-- the item at an index
module _ (items : List Item) (values : List ℕ) (i : ℕ) (t : Totals) (within : i < length items) (so_far : SoFar items values i t) where
  -- a private item before it, as the sums tell it
  order_wrong : (room : ℕ) → Disordered (item_at items i) (ltb 0 t.private) → Wrong items values room (GroupOrder i)
  order_wrong room (inl other) = (within, inl other)
  order_wrong room (inr (is, behind)) = (within, inr (is, so_far.behind (ltb-true 0 t.private behind)))

  order_told : (room : ℕ) → Wrong items values room (GroupOrder i) → Disordered (item_at items i) (ltb 0 t.private)
  order_told room (_, inl other) = inl other
  order_told room (_, inr (is, (k, (before, group)))) = inr (is, lt-ltb 0 t.private (so_far.private k before group))

  -- what is wrong with the item itself
  abbrev Here : ComposeError → Type 0
  Here (ValueOutside j) = Outside (item_at items i) values
  Here (GroupOrder j) = Disordered (item_at items i) (ltb 0 t.private)
  Here (Unreadable j) = Readable (param_of values (item_at items i)) → ⊥
  Here TooManyItems = ⊥
  Here TooLong = ⊥

  -- what is wrong is wrong with it, or comes later
  here_or_later : (room : ℕ) (f : ComposeError) → Wrong items values room f → (1 + i < turn items f) ⊎ ((1 + i ≡ turn items f) × Here f)
  here_or_later room TooManyItems wrong = absurd (omega (arith, so_far.none room TooManyItems wrong))
  here_or_later room (ValueOutside j) wrong =
      elim (cases_order i j) [
        | inl same ↦ inr (omega arith, subst (λ (k : ℕ). Outside (item_at items k) values) (sym same) wrong.1)
        | inr (inl before) ↦ inl (omega arith)
        | inr (inr behind) ↦ absurd (omega (arith, so_far.none room (ValueOutside j) wrong))
      ]
  here_or_later room (GroupOrder j) wrong =
      elim (cases_order i j) [
        | inl same ↦ inr (omega arith, order_told room (subst (λ (k : ℕ). Wrong items values room (GroupOrder k)) (sym same) wrong))
        | inr (inl before) ↦ inl (omega arith)
        | inr (inr behind) ↦ absurd (omega (arith, so_far.none room (GroupOrder j) wrong))
      ]
  here_or_later room (Unreadable j) wrong =
      elim (cases_order i j) [
        | inl same ↦ inr (omega arith, subst (λ (k : ℕ). Readable (param_of values (item_at items k)) → ⊥) (sym same) wrong.1)
        | inr (inl before) ↦ inl (omega arith)
        | inr (inr behind) ↦ absurd (omega (arith, so_far.none room (Unreadable j) wrong))
      ]
  here_or_later room TooLong wrong = inl (omega arith)

  -- a refusal of the item is the first, where none with a lower number is right
  first_here : (e : ComposeError) → turn items e ≡ 1 + i → ((room : ℕ) → Wrong items values room e) → ((f : ComposeError) → Here f → compose_number e ≤ compose_number f)
      → ItemsChecked items values (Err e)
  first_here e at wrong least room =
      record {
        wrong = wrong room;
        first = λ f also. elim (here_or_later room f also) [ inl later ↦ inl (omega arith) | inr (now, here) ↦ inr (omega arith, least f here) ];
      }

  least_outside : (f : ComposeError) → Here f → 52 ≤ compose_number f
  least_outside (ValueOutside j) here = omega arith
  least_outside (GroupOrder j) here = omega arith
  least_outside (Unreadable j) here = omega arith
  least_outside TooManyItems here = absurd here
  least_outside TooLong here = absurd here

  least_order : (Outside (item_at items i) values → ⊥) → (f : ComposeError) → Here f → 53 ≤ compose_number f
  least_order inside (ValueOutside j) here = absurd (inside here)
  least_order inside (GroupOrder j) here = omega arith
  least_order inside (Unreadable j) here = omega arith
  least_order inside TooManyItems here = absurd here
  least_order inside TooLong here = absurd here

  least_unreadable : (Outside (item_at items i) values → ⊥) → (Disordered (item_at items i) (ltb 0 t.private) → ⊥) → (f : ComposeError) → Here f → 54 ≤ compose_number f
  least_unreadable inside order (ValueOutside j) here = absurd (inside here)
  least_unreadable inside order (GroupOrder j) here = absurd (order here)
  least_unreadable inside order (Unreadable j) here = omega arith
  least_unreadable inside order TooManyItems here = absurd here
  least_unreadable inside order TooLong here = absurd here

  pub refused : (e : ComposeError) → ItemChecked i (item_at items i) values (ltb 0 t.private) (Err e) → ItemsChecked items values (Err e)
  refused e (inl (is, outside)) = rw is (first_here (ValueOutside i) refl (λ room. (within, outside)) least_outside)
  refused e (inr (inl (is, inside, order))) = rw is (first_here (GroupOrder i) refl (λ room. order_wrong room order) (least_order inside))
  refused e (inr (inr (is, inside, order, unreadable))) =
      rw is (first_here (Unreadable i) refl (λ room. (within, unreadable)) (least_unreadable inside order))

  -- an item with which nothing is wrong
  module _ (g : Group) (checked : ItemChecked i (item_at items i) values (ltb 0 t.private) (Ok g)) where
    right : ItemRight values (item_at items i)
    right = item_right i (item_at items i) values (ltb 0 t.private) g checked

    clear : (f : ComposeError) → Here f → ⊥
    clear (ValueOutside j) here = checked.1 here
    clear (GroupOrder j) here = checked.2 here
    clear (Unreadable j) here = here checked.3
    clear TooManyItems here = here
    clear TooLong here = here

    none_more : NoneBefore items values (1 + (i + 1))
    none_more room f wrong = elim (here_or_later room f wrong) [ inl later ↦ omega arith | inr (now, here) ↦ absurd (clear f here) ]

    -- what holds of the items up to it in either group
    sums_more : (u : Totals) → u.public ≡ group_size Public (params_of (take (i + 1) items) values) → u.private ≡ group_size Private (params_of (take (i + 1) items) values)
        → params_of (take (i + 1) items) values ≡ of_group Public (params_of (take (i + 1) items) values) ++ of_group Private (params_of (take (i + 1) items) values)
        → Sums (take (i + 1) items) values u
    sums_more u public private ordered =
        record {
          each = All-more (ItemRight values) items i (record { group = 0; identifier = 0; place = 0; length = 0 }) within so_far.sums.each right;
          readable = rw (params_more items values i within) (push_by_recursion Readable (params_of (take i items) values) (param_of values (item_at items i)) so_far.sums.readable checked.3);
          ordered = ordered;
          public = public;
          private = private;
        }

  -- the sums behind it
  abbrev added : Group → Totals
  added Public = record { public = t.public + (2 + (item_at items i).length); private = t.private }
  added Private = record { public = t.public; private = t.private + (2 + (item_at items i).length) }

  more : (g : Group) → ItemChecked i (item_at items i) values (ltb 0 t.private) (Ok g) → SoFar items values (i + 1) (added g)
  more Public checked =
      let ps = params_of (take i items) values in
      let p = param_of values (item_at items i) in
      let here = right Public checked in
      let same : (item_at items i).group ≡ group_octet Public = sym checked.0 in
      let other : (item_at items i).group ≡ group_octet Private → ⊥ = λ e. omega (arith, checked.0) in
      let none : t.private ≡ 0 = elim (cases_order 0 t.private) [
        | inl e ↦ sym e
        | inr (inl l) ↦ absurd (checked.2 (inr (same, lt-ltb 0 t.private l)))
        | inr (inr l) ↦ absurd (omega arith)
      ] in
      let no-private : of_group Private ps ≡ [] = size_none (of_group Private ps) (sym so_far.sums.private ∙ none) in
      let all : ps ≡ of_group Public ps = so_far.sums.ordered ∙ ap (λ l. of_group Public ps ++ l) no-private ∙ append-nil (of_group Public ps) in
      record {
        sums = sums_more Public checked (added Public)
            (omega (arith, so_far.sums.public, size_more Public items values i within here same))
            (so_far.sums.private ∙ sym (ap (λ l. length (flat_map param_octets l)) (parts_as_before Private items values i within here other)))
            (params_more items values i within
            ∙ ap (λ l. l ++ p ∷ []) all
            ∙ sym (parts_more Public items values i within here same)
            ∙ sym (append-nil (of_group Public (params_of (take (i + 1) items) values)))
            ∙ ap (λ l. of_group Public (params_of (take (i + 1) items) values) ++ l) (sym (parts_as_before Private items values i within here other ∙ no-private)));
        few = omega (arith, so_far.few, here.short);
        none = none_more Public checked;
        behind = λ some. absurd (omega arith);
        private = λ k before is. elim (cases_order i k) [
          | inl e ↦ let at : (item_at items i).group ≡ 0xF0 = subst (λ (j : ℕ). (item_at items j).group ≡ 0xF0) (sym e) is in absurd (other at)
          | inr (inl l) ↦ absurd (omega arith)
          | inr (inr l) ↦ so_far.private k l is
        ];
      }
  more Private checked =
      let ps = params_of (take i items) values in
      let p = param_of values (item_at items i) in
      let here = right Private checked in
      let same : (item_at items i).group ≡ group_octet Private = sym checked.0 in
      let other : (item_at items i).group ≡ group_octet Public → ⊥ = λ e. omega (arith, checked.0) in
      record {
        sums = sums_more Private checked (added Private)
            (so_far.sums.public ∙ sym (ap (λ l. length (flat_map param_octets l)) (parts_as_before Public items values i within here other)))
            (omega (arith, so_far.sums.private, size_more Private items values i within here same))
            (params_more items values i within
            ∙ ap (λ l. l ++ p ∷ []) so_far.sums.ordered
            ∙ append_assoc (of_group Public ps) (of_group Private ps) (p ∷ [])
            ∙ ap (λ l. l ++ (of_group Private ps ++ p ∷ [])) (sym (parts_as_before Public items values i within here other))
            ∙ ap (λ l. of_group Public (params_of (take (i + 1) items) values) ++ l) (sym (parts_more Private items values i within here same)));
        few = omega (arith, so_far.few, here.short);
        none = none_more Private checked;
        behind = λ some. (i, (omega arith, sym checked.0));
        private = λ k before is. omega arith;
      }

  pub so_far_more : (g h : Group) (u : Totals) → ItemChecked i (item_at items i) values (ltb 0 t.private) (Ok g) → g ≡ h → u ≡ added h → SoFar items values (i + 1) u
  so_far_more g h u checked same is = subst (SoFar items values (i + 1)) (ap added same ∙ sym is) (more g checked)

-- A whole field: how long it is, when it is too long, and what stands in the output.
use Rattle.std.proofs.Common.{◌≡◌, ℕ, zero, suc, ◌+◌, ◌-◌, ◌<◌, ◌≤◌, List, [], ◌∷◌, ◌++◌, length, get_or, take, drop, None, sym, refl, ap, ◌∙◌, subst, inl, inr, append-nil, arith, length-append}
use Rattle.std.specs.List.{flat_map}
use Rattle.std.proofs.lemmas.List.{take_at, take_more, flat_map_more}
use borrow.Rule.Slice.PartMut.{put_mid, mid_of}
use Rattle.bits.specs.Buffers.{over}
use Rattle.register.specs.declared.Group.{Group}
use Rattle.register.specs.declared.Group.TheVariants.{Public, Private}
use Rattle.xid.specs.Fields.{Param}
use Rattle.xid.specs.Reading.{Reading}
use Rattle.composer.specs.Composing.{of_group, group_octets, field_octets, params_of, Wrong, Accepted}
use Rattle.composer.specs.Checking.{Stand, params}
use Rattle.composer.specs.declared.Item.{Item}
use Rattle.composer.specs.declared.checked.Checked.{Checked}
use Rattle.composer.specs.declared.ComposeError.{ComposeError}
use Rattle.composer.specs.declared.ComposeError.TheVariants.{TooManyItems, ValueOutside, GroupOrder, Unreadable, TooLong}
use Rattle.composer.proofs.Written.{Front, front_same, front_more}
use Rattle.composer.proofs.Readers.{field_reads}

abbrev both : List Group
both = Public ∷ Private ∷ []

-- the leading octet, and the first groups
abbrev pub groups_so_far : List Param → ℕ → List ℕ
groups_so_far ps i = 0x82 ∷ flat_map (λ g. group_octets g (of_group g ps)) (take i both)

groups_all : (ps : List Param) → groups_so_far ps 2 ≡ field_octets ps
groups_all ps = ap (λ l. 0x82 ∷ group_octets Public (of_group Public ps) ++ l) (append-nil (group_octets Private (of_group Private ps)))

groups_within : (ps : List Param) (i : ℕ) → i < 2 → length (groups_so_far ps (i + 1)) ≤ length (field_octets ps)
groups_within ps zero within =
    let one = group_octets Public (of_group Public ps) in
    omega (arith, length-append one (group_octets Private (of_group Private ps)), ap length (append-nil one))
groups_within ps (suc zero) within = omega (arith, ap length (groups_all ps))
groups_within ps (suc (suc i)) within = absurd (omega arith)

-- a group behind those before it
pub group_more : (ps : List Param) (i start stop : ℕ) (was mid new part : List ℕ) (d : Group) → i < 2 → length (field_octets ps) ≤ length was → length mid ≡ length was
    → Front (groups_so_far ps i) was mid start → stop ≡ start + length (group_octets (get_or both i d) (of_group (get_or both i d) ps))
    → part ≡ over (group_octets (get_or both i d) (of_group (get_or both i d) ps)) (mid_of start (length mid - start) mid)
    → new ≡ put_mid start (length mid - start) mid part → Front (groups_so_far ps (i + 1)) was new stop
group_more ps i start stop was mid new part d within room kept front end is put =
    let octets = λ (g : Group). group_octets g (of_group g ps) in
    let g = get_or both i d in
    let joins : groups_so_far ps i ++ octets g ≡ groups_so_far ps (i + 1) =
    ap (λ l. 0x82 ∷ l) (flat_map_more octets [] (take i both) g) ∙ ap (λ l. 0x82 ∷ flat_map octets l) (sym (take_more both i d within)) in
    let fits : start + length (octets g) ≤ length mid =
    omega (arith, groups_within ps i within, ap length joins, length-append (groups_so_far ps i) (octets g), front.end) in
    front_same (groups_so_far ps i ++ octets g) (groups_so_far ps (i + 1)) was new stop joins
    (front_more (groups_so_far ps i) (octets g) was mid new part start stop (length mid - start) front fits (omega arith) end is put)

module _ (items : List Item) (values : List ℕ) (c : Checked) (stand : Stand items values c) where
  only_long : (room : ℕ) (e : ComposeError) → Wrong items values room e → e ≡ TooLong
  only_long room TooManyItems wrong = absurd (omega (arith, stand.none room TooManyItems wrong))
  only_long room (ValueOutside j) wrong = absurd (omega (arith, stand.none room (ValueOutside j) wrong, wrong.0))
  only_long room (GroupOrder j) wrong = absurd (omega (arith, stand.none room (GroupOrder j) wrong, wrong.0))
  only_long room (Unreadable j) wrong = absurd (omega (arith, stand.none room (Unreadable j) wrong, wrong.0))
  only_long room TooLong wrong = refl

  nothing_wrong : (room : ℕ) → length (field_octets (params_of items values)) ≤ 2052 → length (field_octets (params_of items values)) ≤ room
      → (e : ComposeError) → Wrong items values room e → ⊥
  nothing_wrong room most within e wrong =
      elim (subst (Wrong items values room) (only_long room e wrong) wrong) [ inl long ↦ omega arith | inr long ↦ omega arith ]

  -- all groups stand in the output
  pub accepted : (old new : List ℕ) (n i : ℕ) → i ≤ 2 → 2 ≤ i → length (field_octets (params c)) ≤ 2052 → length (field_octets (params c)) ≤ length old
      → Front (groups_so_far (params c) i) old new n → Accepted items values old new n
  accepted old new n i most all few room front =
      let ps = params_of items values in
      let same : params c ≡ ps = ap (λ l. params_of l c.values.now) stand.same_items ∙ ap (params_of items) stand.same_values in
      let two : i ≡ 2 = omega arith in
      let whole : groups_so_far (params c) i ≡ field_octets ps = ap (λ l. groups_so_far l i) same ∙ ap (groups_so_far ps) two ∙ groups_all ps in
      let short : length (field_octets ps) ≤ 2052 = rw (← ap (λ l. length (field_octets l)) same) few in
      let fits : length (field_octets ps) ≤ length old = rw (← ap (λ l. length (field_octets l)) same) room in
      let end : n ≡ length (field_octets ps) = front.end ∙ ap length whole in
      let written : new ≡ over (field_octets ps) old = front.written ∙ ap (λ l. over l old) whole in
      let octets : take n new ≡ field_octets ps = ap (take n) written ∙ take_at (field_octets ps) (drop (length (field_octets ps)) old) n (sym end) in
      record {
        right = nothing_wrong (length old) short fits;
        counted = end;
        written = written;
        read = subst (λ (l : List ℕ). Reading l ps None) (sym octets) (field_reads ps stand.readable stand.ordered short);
      }

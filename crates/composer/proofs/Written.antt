-- Octets written from the front of a buffer, part by part.
use Rattle.std.proofs.Common.{◌≡◌, ℕ, ◌+◌, ◌-◌, ◌/◌, ◌%◌, ◌<◌, ◌≤◌, List, ◌∷◌, ◌++◌, length, take, drop, sym, ap, ◌∙◌, inl, inr, append_assoc, arith, length-append, length-drop}
use borrow.Rule.Slice.PartMut.{put_mid, mid_of}
use Rattle.std.specs.List.{flat_map}
use Rattle.std.proofs.lemmas.List.{take_at, drop_at, drop-drop, drop-append-le, take-append-drop, take_all, length-take-le}
use Rattle.std.proofs.lemmas.Bool.{cases_lt}
use Rattle.bits.specs.Buffers.{over}
use Rattle.register.specs.Groups.{group_octet}
use Rattle.register.specs.declared.Group.{Group}
use Rattle.xid.specs.Fields.{param_octets}
use Rattle.composer.specs.Composing.{of_group, group_octets, param_of, params_of, item_at}
use Rattle.composer.specs.Checking.{params}
use Rattle.composer.specs.Sizes.{ItemRight, total_of}
use Rattle.composer.specs.declared.checked.Checked.{Checked}
use Rattle.std.proofs.lemmas.List.Elements.{All-get_or}
use Rattle.composer.specs.declared.Item.{Item}
use Rattle.composer.proofs.Groups.{octets_more, parts_as_before, length-value, size_more, size_upto, group_some}

-- octets over the front of a buffer, and their end
pub record Front (os was new : List ℕ) (stop : ℕ) : Type 0 where
  pub end : stop ≡ length os
  pub written : new ≡ over os was

pub front_same : (xs ys was new : List ℕ) (stop : ℕ) → xs ≡ ys → Front xs was new stop → Front ys was new stop
front_same xs ys was new stop same front = rw same at front

-- a part fits in the first octets of a rest that has room for it
room_in : (k n : ℕ) (xs : List ℕ) → n ≤ k → n ≤ length xs → n ≤ length (take k xs)
room_in k n xs fits enough = elim (cases_lt k (length xs)) [
  | inl part ↦ rw (length-take-le k xs (omega arith)) fits
  | inr all ↦ rw (take_all k xs all) enough
]

-- a part behind them, written over the front of the rest
pub front_more : (os more was mid new part : List ℕ) (start stop k : ℕ) → Front os was mid start → start + length more ≤ length mid
    → length more ≤ k → stop ≡ start + length more → part ≡ over more (mid_of start k mid) → new ≡ put_mid start k mid part
    → Front (os ++ more) was new stop
front_more os more was mid new part start stop k front room fits end is put =
    let behind = drop (length os) was in
    let long : length os ≡ start = sym front.end in
    let at : take start mid ≡ os = ap (take start) front.written ∙ take_at os behind start long in
    let rest : drop start mid ≡ behind = ap (drop start) front.written ∙ drop_at os behind start long in
    let enough : length more ≤ length behind = omega (arith, ap length front.written, length-append os behind) in
    let within : length more ≤ length (take k behind) = room_in k (length more) behind fits enough in
    let stays : drop (length more) (take k behind) ++ drop k behind ≡ drop (length more) behind =
    sym (drop-append-le (length more) (take k behind) (drop k behind) within) ∙ ap (drop (length more)) (take-append-drop k behind) in
    let joined : put_mid start k mid part ≡ os ++ (over more (take k behind) ++ drop k behind) =
    ap (λ l. l ++ (part ++ drop k (drop start mid))) at
    ∙ ap (λ l. os ++ (part ++ drop k l)) rest
    ∙ ap (λ l. os ++ (l ++ drop k behind)) (is ∙ ap (λ l. over more (take k l)) rest) in
    record {
      end = end ∙ ap (λ n. n + length more) front.end ∙ sym (length-append os more);
      written = put
          ∙ joined
          ∙ ap (λ l. os ++ l) (append_assoc more (drop (length more) (take k behind)) (drop k behind) ∙ ap (λ l. more ++ l) (stays ∙ drop-drop (length more) (length os) was))
          ∙ sym (append_assoc os more (drop (length os + length more) was))
          ∙ ap (λ n. (os ++ more) ++ drop n was) (sym (length-append os more));
    }

-- a group's header, and the parameters of the first items
abbrev pub so_far : Group → ℕ → List Item → List ℕ → ℕ → List ℕ
so_far g n items values i = group_octet g ∷ n / 256 ∷ n % 256 ∷ flat_map param_octets (of_group g (params_of (take i items) values))

-- a group of checked items, for which there is room
module _ (g : Group) (n : ℕ) (c : Checked) (was : List ℕ) (is : n ≡ total_of c.totals g) (some : 0 < n) (room : length (group_octets g (of_group g (params c))) ≤ length was) where
  -- an item behind those before it
  module _ (i end : ℕ) (mid : List ℕ) (within : i < length c.items.now) (before : Front (so_far g n c.items.now c.values.now i) was mid end) (kept : length mid ≡ length was) where
    right : ItemRight c.values.now (item_at c.items.now i)
    right = All-get_or (ItemRight c.values.now) c.items.now i (record { group = 0; identifier = 0; place = 0; length = 0 }) within c.each

    fits : (item_at c.items.now i).group ≡ group_octet g → end + (2 + (item_at c.items.now i).length) ≤ length mid
    fits same =
        omega (
          arith,
          c.sums g,
          before.end,
          size_more g c.items.now c.values.now i within right same,
          size_upto g c.items.now c.values.now (i + 1),
          group_some g (of_group g (params c)) (omega (arith, c.sums g)),
        )

    pub item_room : (item_at c.items.now i).group ≡ group_octet g → 2 + (item_at c.items.now i).length ≤ length (mid_of end (length mid - end) mid)
    item_room same =
        let room = fits same in rw (length-take-le (length mid - end) (drop end mid) (rw length-drop (omega arith))) (omega arith)

    pub item_more : (next : ℕ) (new part : List ℕ) → (item_at c.items.now i).group ≡ group_octet g
        → next ≡ end + (2 + (item_at c.items.now i).length) → part ≡ over (param_octets (param_of c.values.now (item_at c.items.now i))) (mid_of end (length mid - end) mid)
        → new ≡ put_mid end (length mid - end) mid part → Front (so_far g n c.items.now c.values.now (i + 1)) was new next
    item_more next new part same stop is put =
        let octets = param_octets (param_of c.values.now (item_at c.items.now i)) in
        let long : length octets ≡ 2 + (item_at c.items.now i).length = omega (arith, length-value (item_at c.items.now i) c.values.now right.inside) in
        let room = fits same in
        front_same (so_far g n c.items.now c.values.now i ++ octets) (so_far g n c.items.now c.values.now (i + 1)) was new next
        (ap (λ l. group_octet g ∷ n / 256 ∷ n % 256 ∷ l) (sym (octets_more g c.items.now c.values.now i within right same)))
        (front_more (so_far g n c.items.now c.values.now i) octets was mid new part end next (length mid - end) before (omega arith) (omega arith) (omega arith) is put)

    pub item_past : (next : ℕ) (new : List ℕ) → ((item_at c.items.now i).group ≡ group_octet g → ⊥) → next ≡ end → new ≡ mid → Front (so_far g n c.items.now c.values.now (i + 1)) was new next
    item_past next new other stop put =
        rw (stop, put) (front_same (so_far g n c.items.now c.values.now i) (so_far g n c.items.now c.values.now (i + 1)) was mid end
        (ap (λ l. group_octet g ∷ n / 256 ∷ n % 256 ∷ flat_map param_octets l) (sym (parts_as_before g c.items.now c.values.now i within right other))) before)

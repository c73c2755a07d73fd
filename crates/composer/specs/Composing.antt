-- Composing: the layout of a field from its items, and what composing does.
use Rattle.std.specs.Prelude.{◌≡◌, ℕ, ◌+◌, ◌/◌, ◌%◌, ◌<◌, ◌≤◌, cond, ◌≢◌, ◌⊎◌, List, [], ◌∷◌, ◌++◌, map, filter, length, take, drop, None, Ok, Err, Result, ◌==◌, slice_index_or}
use Rattle.std.specs.List.{flat_map}
use Rattle.bits.specs.Buffers.{over}
use Rattle.register.specs.Groups.{group_octet}
use Rattle.register.specs.declared.Group.{Group}
use Rattle.register.specs.declared.Group.TheVariants.{Public, Private}
use Rattle.xid.specs.Fields.{Param, param_octets, Readable}
use Rattle.xid.specs.Reading.{Reading}
use Rattle.composer.specs.declared.Item.{Item}
use Rattle.composer.specs.declared.ComposeError.{ComposeError}
use Rattle.composer.specs.declared.ComposeError.TheVariants.{TooManyItems, ValueOutside, GroupOrder, Unreadable, TooLong}

-- the parameters of a group, in order
abbrev pub of_group : Group → List Param → List Param
of_group g ps = filter (λ p. group_octet p.group == group_octet g) ps

-- a group: its identifier, two octets of length, high first, and its parameters; nothing where there are none
abbrev pub group_octets : Group → List Param → List ℕ
group_octets g [] = []
group_octets g (p ∷ ps) =
    group_octet g ∷ length (flat_map param_octets (p ∷ ps)) / 256 ∷ length (flat_map param_octets (p ∷ ps)) % 256 ∷ flat_map param_octets (p ∷ ps)

-- the layout: 82h, the public group, the private group
abbrev pub field_octets : List Param → List ℕ
field_octets ps = 0x82 ∷ (group_octets Public (of_group Public ps) ++ group_octets Private (of_group Private ps))

-- the parameter that an item names, with its value in the value buffer
abbrev pub param_of : List ℕ → Item → Param
param_of values item =
    record { group = cond (item.group == 0x80) Public Private; identifier = item.identifier; value = take item.length (drop item.place values) }

abbrev pub params_of : List Item → List ℕ → List Param
params_of items values = map (param_of values) items

abbrev pub item_at : List Item → ℕ → Item
item_at items i = slice_index_or items i (record { group = 0; identifier = 0; place = 0; length = 0 })

-- the numbers of the refusals
abbrev pub compose_number : ComposeError → ℕ
compose_number TooManyItems = 51
compose_number (ValueOutside item) = 52
compose_number (GroupOrder item) = 53
compose_number (Unreadable item) = 54
compose_number TooLong = 55

-- what is wrong with items, for each refusal, where the output has so many octets
abbrev pub Wrong : List Item → List ℕ → ℕ → ComposeError → Type 0
Wrong items values room TooManyItems = 255 < length items
Wrong items values room (ValueOutside i) =
    (i < length items) × ((length values < (item_at items i).place + (item_at items i).length) ⊎ (255 < (item_at items i).length))
Wrong items values room (GroupOrder i) =
    (i < length items)
    × (((g : Group) → group_octet g ≢ (item_at items i).group)
    ⊎ (((item_at items i).group ≡ 0x80) × ((k : ℕ) × ((k < i) × ((item_at items k).group ≡ 0xF0)))))
Wrong items values room (Unreadable i) = (i < length items) × (Readable (param_of values (item_at items i)) → ⊥)
Wrong items values room TooLong = (2052 < length (field_octets (params_of items values))) ⊎ (room < length (field_octets (params_of items values)))

-- the order of the tests: the count, then item by item, then the length
abbrev pub turn : List Item → ComposeError → ℕ
turn items TooManyItems = 0
turn items (ValueOutside i) = 1 + i
turn items (GroupOrder i) = 1 + i
turn items (Unreadable i) = 1 + i
turn items TooLong = 1 + length items

-- the first refusal: no other comes before it, and none of the same item has a lower number
pub record First (items : List Item) (values : List ℕ) (room : ℕ) (e : ComposeError) : Type 0 where
  pub wrong : Wrong items values room e
  pub first : (f : ComposeError) → Wrong items values room f
      → (turn items e < turn items f) ⊎ ((turn items e ≡ turn items f) × (compose_number e ≤ compose_number f))

-- composing: where nothing is wrong, the field stands at the front of the output, its length is answered, octets behind it stay, and a reader
-- of it answers each item's parameter in order, and then the end; else the first refusal, and the output is as it was
pub record Accepted (items : List Item) (values old new : List ℕ) (n : ℕ) : Type 0 where
  pub right : (e : ComposeError) → Wrong items values (length old) e → ⊥
  pub counted : n ≡ length (field_octets (params_of items values))
  pub written : new ≡ over (field_octets (params_of items values)) old
  pub read : Reading (take n new) (params_of items values) None

abbrev pub Composed : List Item → List ℕ → List ℕ → List ℕ → Result ℕ ComposeError → Type 0
Composed items values old new (Ok n) = Accepted items values old new n
Composed items values old new (Err e) = First items values (length old) e × (new ≡ old)

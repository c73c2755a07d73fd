-- What the parts of composing answer.
use Rattle.std.specs.Prelude.{◌≡◌, ℕ, ◌+◌, ◌<◌, ◌≤◌, Bool, true, ◌≢◌, ◌⊎◌, List, ◌++◌, length, Ok, Err, Result}
use Rattle.std.specs.List.{AllByRecursion}
use Rattle.register.specs.Groups.{group_octet}
use Rattle.register.specs.declared.Group.{Group}
use Rattle.register.specs.declared.Group.TheVariants.{Public, Private}
use Rattle.xid.specs.Fields.{Param, Readable}
use Rattle.composer.specs.Composing.{of_group, group_octets, param_of, params_of, Wrong, turn, First}
use Rattle.composer.specs.declared.Item.{Item}
use Rattle.composer.specs.declared.ComposeError.{ComposeError}
use Rattle.composer.specs.declared.ComposeError.TheVariants.{ValueOutside, GroupOrder, Unreadable}
use Rattle.composer.specs.declared.checked.Checked.{Checked}

-- one item, where it is known whether a private one stands before it
abbrev pub Outside : Item → List ℕ → Type 0
Outside item values = (length values < item.place + item.length) ⊎ (255 < item.length)

abbrev pub Disordered : Item → Bool → Type 0
Disordered item behind = ((g : Group) → group_octet g ≢ item.group) ⊎ ((item.group ≡ 0x80) × (behind ≡ true))

abbrev pub ItemChecked : ℕ → Item → List ℕ → Bool → Result Group ComposeError → Type 0
ItemChecked i item values behind (Ok g) =
    (group_octet g ≡ item.group) × (Outside item values → ⊥) × (Disordered item behind → ⊥) × Readable (param_of values item)
ItemChecked i item values behind (Err e) =
    ((e ≡ ValueOutside i) × Outside item values)
    ⊎ ((e ≡ GroupOrder i) × (Outside item values → ⊥) × Disordered item behind)
    ⊎ ((e ≡ Unreadable i) × (Outside item values → ⊥) × (Disordered item behind → ⊥) × (Readable (param_of values item) → ⊥))

-- no refusal comes before this turn
abbrev pub NoneBefore : List Item → List ℕ → ℕ → Type 0
NoneBefore items values n = (room : ℕ) (e : ComposeError) → Wrong items values room e → n ≤ turn items e

-- the parameters of checked items
abbrev pub params : Checked → List Param
params c = params_of c.items.now c.values.now

-- a group of checked items as it stands in the field; nothing where no item is of the group
abbrev pub group_of : Checked → Group → List ℕ
group_of c g = group_octets g (of_group g (params c))

-- all items in order: they are checked, a reader takes their values, and the groups stand in order; or the first refusal, whatever the output
pub record Stand (items : List Item) (values : List ℕ) (c : Checked) : Type 0 where
  pub same_items : c.items.now ≡ items
  pub same_values : c.values.now ≡ values
  pub readable : AllByRecursion Readable (params_of items values)
  pub ordered : params_of items values ≡ of_group Public (params_of items values) ++ of_group Private (params_of items values)
  pub none : NoneBefore items values (1 + length items)

abbrev pub ItemsChecked : List Item → List ℕ → Result Checked ComposeError → Type 0
ItemsChecked items values (Ok c) = Stand items values c
ItemsChecked items values (Err e) = (room : ℕ) → First items values room e

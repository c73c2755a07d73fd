-- What is known of an item that was checked, and how many octets the parameters of a group take.
use Rattle.std.specs.Prelude.{◌≡◌, ℕ, ◌+◌, ◌≤◌, List, length}
use Rattle.std.specs.List.{flat_map}
use Rattle.register.specs.Groups.{group_octet}
use Rattle.register.specs.declared.Group.{Group}
use Rattle.register.specs.declared.Group.TheVariants.{Public, Private}
use Rattle.xid.specs.Fields.{Param, param_octets}
use Rattle.composer.specs.Composing.{of_group, param_of}
use Rattle.composer.specs.declared.Item.{Item}
use Rattle.composer.specs.declared.checked.Totals.{Totals}

-- its value lies in the value buffer, and its group's identifier is one
pub record ItemRight (values : List ℕ) (item : Item) : Type 0 where
  pub inside : item.place + item.length ≤ length values
  pub short : item.length ≤ 255
  pub named : group_octet (param_of values item).group ≡ item.group

-- how many octets the parameters of a group take
abbrev pub group_size : Group → List Param → ℕ
group_size g ps = length (flat_map param_octets (of_group g ps))

abbrev pub total_of : Totals → Group → ℕ
total_of t Public = t.public
total_of t Private = t.private

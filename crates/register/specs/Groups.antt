-- The identifiers of the two groups.
use Rattle.std.specs.Prelude.{◌≡◌, ℕ, ◌≢◌, Ok, Err, Result}
use Rattle.register.specs.declared.Group.{Group}
use Rattle.register.specs.declared.NoGroup.{NoGroup}
use Rattle.register.specs.declared.Group.TheVariants.{Public, Private}

abbrev pub group_octet : Group → ℕ
group_octet Public = 0x80
group_octet Private = 0xF0

-- the group that an octet names, or none
abbrev pub GroupRead : ℕ → Result Group NoGroup → Type 0
GroupRead o (Ok g) = group_octet g ≡ o
GroupRead o (Err none) = (g : Group) → group_octet g ≢ o

-- Exchange fields: their layout, as a leading octet, groups' headers and parameters, one behind the other.
use Rattle.std.specs.Prelude.{◌≡◌, ℕ, ◌+◌, ◌-◌, ◌/◌, ◌%◌, ◌<◌, ◌≤◌, List, [], ◌∷◌, ◌++◌, length, Some, None, Option}
use Rattle.register.specs.Groups.{group_octet}
use Rattle.register.specs.Register.{row, Allows}
use Rattle.register.specs.declared.Group.{Group}
use Rattle.register.specs.declared.Group.TheVariants.{Public, Private}
use Rattle.records.specs.Values.{shape, LaidOut}

-- a parameter: its group, identifier and value octets
pub record Param : Type 0 where
  pub group : Group
  pub identifier : ℕ
  pub value : List ℕ

-- identifier, length, value
abbrev pub param_octets : Param → List ℕ
param_octets p = p.identifier ∷ length p.value ∷ p.value

-- a parameter that the register and its layout allow
pub record Readable (p : Param) : Type 0 where
  pub length : Allows (row p.group p.identifier) (length p.value)
  pub layout : LaidOut (shape p.group p.identifier) p.value

-- a beginning of a field: nothing, the leading octet, a beginning and a group's header, or a beginning and a parameter
pub data Beginning : Type 0 where
  nothing : Beginning
  leading : Beginning
  header : Beginning → Group → ℕ → Beginning
  parameter : Beginning → Param → Beginning

-- its octets: 82h; a group's identifier and two octets of length, high first; a parameter's octets
abbrev pub begun : Beginning → List ℕ
begun nothing = []
begun leading = 0x82 ∷ []
begun (header b g n) = begun b ++ (group_octet g ∷ n / 256 ∷ n % 256 ∷ [])
begun (parameter b p) = begun b ++ param_octets p

-- how many octets of the last group are still to come
abbrev pub left : Beginning → ℕ
left nothing = 0
left leading = 0
left (header b g n) = n
left (parameter b p) = left b - (2 + length p.value)

-- the last group
abbrev pub last_group : Beginning → Option Group
last_group nothing = None
last_group leading = None
last_group (header b g n) = Some g
last_group (parameter b p) = last_group b

-- the parameters, in order
abbrev pub parameters : Beginning → List Param
parameters nothing = []
parameters leading = []
parameters (header b g n) = parameters b
parameters (parameter b p) = parameters b ++ (p ∷ [])

-- a group may follow: none is repeated, and public never comes behind private
abbrev pub Follows : Option Group → Group → Type 0
Follows None g = Unit {0}
Follows (Some Public) Public = ⊥
Follows (Some Public) Private = Unit {0}
Follows (Some Private) g = ⊥

-- a group may begin here: the leading octet is there, and the group before it is whole
abbrev pub Whole : Beginning → Type 0
Whole nothing = ⊥
Whole leading = Unit {0}
Whole (header b g n) = n ≡ 0
Whole (parameter b p) = left b ≡ 2 + length p.value

abbrev pub WellFormed : Beginning → Type 0
WellFormed nothing = Unit {0}
WellFormed leading = Unit {0}
WellFormed (header b g n) = WellFormed b × Whole b × Follows (last_group b) g × (n < 65536)
WellFormed (parameter b p) = WellFormed b × (last_group b ≡ Some p.group) × (2 + length p.value ≤ left b) × Readable p

-- Reading a whole field: its longest well-formed beginning, and then the end or the first fault.
use Rattle.std.specs.Prelude.{◌≡◌, ℕ, ◌+◌, ◌*◌, ◌<◌, ◌≤◌, ◌≢◌, ◌⊎◌, List, [], ◌∷◌, ◌++◌, length, take, drop, Some, None, Option, slice_index}
use Rattle.faults.specs.Faults.{exchange_number}
use Rattle.faults.specs.declared.ExchangeFault.{ExchangeFault}
use Rattle.faults.specs.declared.ExchangeFault.TheVariants.{NoLeading, ShortGroup, OtherGroup, GroupOrder, GroupBeyond, ParameterBeyond, Parameter}
use Rattle.faults.specs.declared.ParameterFault.TheVariants.{WrongLength, WrongValue}
use Rattle.register.specs.Groups.{group_octet}
use Rattle.register.specs.Register.{row, Allows}
use Rattle.register.specs.declared.Group.{Group}
use Rattle.records.specs.Values.{shape, LaidOut}
use Rattle.xid.specs.Fields.{Param, Beginning, nothing, begun, left, last_group, parameters, Follows, Whole, WellFormed}

-- a beginning of these octets, with the octets behind it, among them those of the last group that are still to come
pub record Begins (os : List ℕ) (b : Beginning) (rest : List ℕ) : Type 0 where
  pub octets : os ≡ begun b ++ rest
  pub formed : WellFormed b
  pub within : left b ≤ length rest

-- where a group or a parameter that follows would have its first octet
abbrev pub place : Beginning → ℕ
place b = length (begun b)

-- octets follow where a group may begin, or a group's octets are still to come
abbrev pub GroupHere : Beginning → List ℕ → ℕ → Type 0
GroupHere b rest p = Whole b × (1 ≤ length rest) × (p ≡ place b)

abbrev pub ParameterHere : Beginning → ℕ → Type 0
ParameterHere b p = (1 ≤ left b) × (p ≡ place b)

-- what is wrong with the octets behind a beginning, for each fault
abbrev pub Wrong : Beginning → List ℕ → ExchangeFault → Type 0
Wrong b rest NoLeading = (b ≡ nothing) × (take 1 rest ≢ 0x82 ∷ [])
Wrong b rest (ShortGroup p) = GroupHere b rest p × (length rest < 3)
Wrong b rest (OtherGroup p) = GroupHere b rest p × ((g : Group) → group_octet g ≢ slice_index rest 0)
Wrong b rest (GroupOrder p) = GroupHere b rest p × ((g : Group) × ((group_octet g ≡ slice_index rest 0) × (Follows (last_group b) g → ⊥)))
Wrong b rest (GroupBeyond p) = GroupHere b rest p × (length rest < 3 + (slice_index rest 1 * 256 + slice_index rest 2))
Wrong b rest (ParameterBeyond p) = ParameterHere b p × ((left b < 2) ⊎ (left b < 2 + slice_index rest 1))
Wrong b rest (Parameter (WrongLength p)) =
    ParameterHere b p × ((g : Group) × ((last_group b ≡ Some g) × (Allows (row g (slice_index rest 0)) (slice_index rest 1) → ⊥)))
Wrong b rest (Parameter (WrongValue p)) =
    ParameterHere b p × ((g : Group) × ((last_group b ≡ Some g) × (LaidOut (shape g (slice_index rest 0)) (take (slice_index rest 1) (drop 2 rest)) → ⊥)))

-- the first fault: no other has a lower number
pub record First (b : Beginning) (rest : List ℕ) (f : ExchangeFault) : Type 0 where
  pub wrong : Wrong b rest f
  pub first : (g : ExchangeFault) → Wrong b rest g → exchange_number f ≤ exchange_number g

-- where a beginning goes no further: at the end of the octets, or at the first fault
abbrev pub Stops : Beginning → List ℕ → Option ExchangeFault → Type 0
Stops b rest None = Whole b × (rest ≡ [])
Stops b rest (Some f) = First b rest f

-- reading octets: the parameters of the beginning that goes no further, and the end or the fault that it stops at
pub record Reading (os : List ℕ) (ps : List Param) (stop : Option ExchangeFault) : Type 0 where
  pub beginning : Beginning
  pub rest : List ℕ
  pub begins : Begins os beginning rest
  pub stops : Stops beginning rest stop
  pub read : parameters beginning ≡ ps

-- What reading one parameter answers.
use Rattle.std.specs.Prelude.{◌≡◌, ℕ, List, length, Ok, Err, Result}
use Rattle.faults.specs.declared.ParameterFault.{ParameterFault}
use Rattle.faults.specs.declared.ParameterFault.TheVariants.{WrongLength, WrongValue}
use Rattle.register.specs.Register.{row, Allows}
use Rattle.register.specs.declared.Group.{Group}
use Rattle.records.specs.Values.{shape, LaidOut}
use Rattle.records.specs.Records.{Records}
use Rattle.xid.specs.Fields.{Readable}
use Rattle.xid.specs.Answers.{shown}
use Rattle.xid.specs.declared.parameter.Parameter.{Parameter}

abbrev pub ParameterRead : ℕ → Group → ℕ → List ℕ → Result Parameter ParameterFault → Type 0
ParameterRead place g i v (Ok p) = (shown p ≡ record { group = g; identifier = i; value = v }) × Readable (shown p) × Records (shape g i) v p.record
ParameterRead place g i v (Err (WrongLength at)) = (at ≡ place) × (Allows (row g i) (length v) → ⊥)
ParameterRead place g i v (Err (WrongValue at)) = (at ≡ place) × Allows (row g i) (length v) × (LaidOut (shape g i) v → ⊥)

-- A reader's answers.
use Rattle.std.specs.Prelude.{◌≡◌, ℕ, ◌≤◌, ◌⊎◌, List, [], ◌∷◌, length, take, drop, Some, None, Ok, Err, Option, Result}
use Rattle.faults.specs.declared.ExchangeFault.{ExchangeFault}
use Rattle.records.specs.Values.{shape}
use Rattle.records.specs.Records.{Records}
use Rattle.xid.specs.Fields.{Param, Beginning, parameters}
use Rattle.xid.specs.Reading.{Reading}
use Rattle.xid.specs.Stands.{Stands}
use Rattle.xid.specs.declared.parameter.Parameter.{Parameter}
use Rattle.xid.specs.declared.reader.Reader.{Reader}

-- what a parameter shows
abbrev pub shown : Parameter → Param
shown p = record { group = p.group; identifier = p.identifier; value = p.value.now }

-- the n-th answer, counted from 0: each parameter in order with its record, and then the end or the fault for ever
abbrev pub Answers : List Param → Option ExchangeFault → ℕ → Result (Option Parameter) ExchangeFault → Type 0
Answers ps stop n (Ok (Some p)) = (take 1 (drop n ps) ≡ shown p ∷ []) × Records (shape p.group p.identifier) p.value.now p.record
Answers ps stop n (Ok None) = (length ps ≤ n) × (stop ≡ None)
Answers ps stop n (Err f) = (length ps ≤ n) × (stop ≡ Some f)

-- a reader has given n answers: it stands behind n parameters, or behind fewer where the field stops
pub record Given (r : Reader) (n : ℕ) : Type 0 where
  pub beginning : Beginning
  pub stands : Stands r.field.now r.cursor beginning
  pub answered : (n ≡ length (parameters beginning))
      ⊎ ((length (parameters beginning) ≤ n) × ((stop : Option ExchangeFault) × Reading r.field.now (parameters beginning) stop))

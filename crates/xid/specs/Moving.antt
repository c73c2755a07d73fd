-- What a reader's moves do.
use Rattle.std.specs.Prelude.{◌≡◌, ℕ, suc, ◌<◌, List, [], ◌∷◌, ◌++◌, length, Some, None, Ok, Err, Option, Result}
use Rattle.faults.specs.declared.ExchangeFault.{ExchangeFault}
use Rattle.register.specs.declared.Group.{Group}
use Rattle.records.specs.Values.{shape}
use Rattle.records.specs.Records.{Records}
use Rattle.xid.specs.Fields.{Param, Beginning, nothing, leading, header, parameter, left, parameters, Whole}
use Rattle.xid.specs.Reading.{place, First, Reading}
use Rattle.xid.specs.Stands.{unread, Stands}
use Rattle.xid.specs.Answers.{shown, Answers, Given}
use Rattle.xid.specs.declared.cursor.Cursor.{Cursor}
use Rattle.xid.specs.declared.parameter.Parameter.{Parameter}
use Rattle.xid.specs.declared.reader.Reader.{Reader}
use Rattle.xid.specs.declared.cursor.Taken.{Taken}

-- where the reader stands behind its answer: one parameter further, or where it stood, and there reading ends
abbrev pub Moved : List ℕ → Beginning → Result (Option Parameter) ExchangeFault → Reader → Reader → Type 0
Moved os b (Ok (Some p)) before r = (c : Beginning) × (Stands os r.cursor c × (parameters c ≡ parameters b ++ (shown p ∷ [])))
Moved os b (Ok None) before r = Reading os (parameters b) None × (r ≡ before)
Moved os b (Err f) before r = Reading os (parameters b) (Some f) × (r ≡ before)

-- the next parameter and where the reader would stand behind it, from the beginning at which it stands
abbrev pub Ahead : List ℕ → Beginning → Result (Option Taken) ExchangeFault → Type 0
Ahead os b (Ok (Some t)) =
    (c : Beginning) × (Stands os t.behind c × (place b < place c) × (parameters c ≡ parameters b ++ (shown t.parameter ∷ []))
    × Records (shape t.parameter.group t.parameter.identifier) t.parameter.value.now t.parameter.record)
Ahead os b (Ok None) = Reading os (parameters b) None
Ahead os b (Err f) = Reading os (parameters b) (Some f)

-- the next answer: where the reader stands, and, as the n-th answer since it was new, what the reading of the whole field has there
pub record Next (before : Reader) (answer : Result (Option Parameter) ExchangeFault) (r : Reader) : Type 0 where
  pub field : r.field.now ≡ before.field.now
  pub moved : (b : Beginning) → Stands before.field.now before.cursor b → Moved before.field.now b answer before r
  pub shorter : (p : Parameter) → answer ≡ Ok (Some p) → length (unread r.cursor) < length (unread before.cursor)
  pub given : (n : ℕ) → Given before n → Given r (suc n)
  pub answers : (n : ℕ) → Given before n → (ps : List Param) (stop : Option ExchangeFault) → Reading before.field.now ps stop → Answers ps stop n answer

-- a field read to its end: the count of its parameters, or the fault that it stops at
abbrev pub Counts : List ℕ → Result ℕ ExchangeFault → Type 0
Counts os (Ok n) = (ps : List Param) × (Reading os ps None × (n ≡ length ps))
Counts os (Err f) = (ps : List Param) × Reading os ps (Some f)

-- over the leading octet
abbrev pub Led : List ℕ → Result Cursor ExchangeFault → Type 0
Led os (Ok c) = Stands os c leading
Led os (Err f) = First nothing os f

-- over a group's header: no octet follows, or one header further, or the first fault
abbrev pub GroupStep : List ℕ → Cursor → Beginning → Result (Option Cursor) ExchangeFault → Type 0
GroupStep os at b (Ok None) = unread at ≡ []
GroupStep os at b (Ok (Some c)) = (g : Group) × ((n : ℕ) × Stands os c (header b g n))
GroupStep os at b (Err f) = First b (unread at) f

-- over a parameter: no octet of the group is to come, or one parameter further, or the first fault
abbrev pub ParameterStep : List ℕ → Cursor → Beginning → Result (Option Taken) ExchangeFault → Type 0
ParameterStep os at b (Ok None) = left b ≡ 0
ParameterStep os at b (Ok (Some t)) =
    Stands os t.behind (parameter b (shown t.parameter))
    × Records (shape t.parameter.group t.parameter.identifier) t.parameter.value.now t.parameter.record
ParameterStep os at b (Err f) = First b (unread at) f

-- these moves, told the place, from whatever beginning the cursor stands behind
abbrev pub GroupBegun : ℕ → Cursor → Result (Option Cursor) ExchangeFault → Type 0
GroupBegun p at r = (os : List ℕ) (b : Beginning) → Stands os at b → Whole b → p ≡ place b → GroupStep os at b r

abbrev pub ParameterTaken : ℕ → Cursor → Result (Option Taken) ExchangeFault → Type 0
ParameterTaken p at r = (os : List ℕ) (b : Beginning) → Stands os at b → p ≡ place b → ParameterStep os at b r

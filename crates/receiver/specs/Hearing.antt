-- What a receiver has heard, and what one bit more does: the inner contracts of listening.
use Rattle.std.specs.Prelude.{ℕ, Bool, List, [], ◌∷◌, ◌++◌, length, take, Some, None, Option}
use Rattle.cutting.specs.Cutting.{Bits, Verdict, aborted, refused, frame, Due}
use Rattle.receiver.specs.Stands.{Stands}
use Rattle.receiver.specs.declared.verdict.Verdict.{Verdict as Found}
use Rattle.receiver.specs.declared.verdict.Verdict.TheVariants as found
use Rattle.receiver.specs.declared.record.Receiver.{Receiver}

-- r has heard the bits h since it was new, or since the last carrier loss
abbrev pub HasHeard : Receiver → Bits → Type 0
HasHeard r h = Stands r.state r.store h

-- the verdict due at the end of h, or that there is none
abbrev pub DueNow : Bits → Option Verdict → Type 0
DueNow h None = (v : Verdict) → Due h (length h) v → ⊥
DueNow h (Some v) = Due h (length h) v

-- the verdict that was found, given the octets in the store
abbrev pub meant : Found → List ℕ → Verdict
meant found.Aborted octets = aborted
meant (found.Refused f) octets = refused f
meant (found.Frame l) octets = frame (take l.octets octets)

abbrev pub verdict_if_any : Option Found → List ℕ → Option Verdict
verdict_if_any None octets = None
verdict_if_any (Some v) octets = Some (meant v octets)

-- behind the history h came the bit b: the record stands for both, and the verdict that was found is due there, or none is
pub record Hears (h : Bits) (b : Bool) (v : Option Found) (r : Receiver) : Type 0 where
  pub heard : HasHeard r (h ++ b ∷ [])
  pub due : DueNow (h ++ b ∷ []) (verdict_if_any v r.store.octets)

-- hearing the bit b took the record from old to new, and told v: right for every history that the old record stands for
abbrev pub Tells : Receiver → Bool → Option Found → Receiver → Type 0
Tells old b v new = (h : Bits) → HasHeard old h → Hears h b v new

-- Any list of calls performed on a new receiver, and all that was answered.
use Rattle.std.specs.Prelude.{◌≡◌, ℕ, ◌<◌, ◌≤◌, List, [], ◌∷◌, ◌++◌, length, vec_items}
use Rattle.cutting.specs.Cutting.{Bits}
use Rattle.receiver.specs.Hearing.{HasHeard}
use Rattle.receiver.specs.Listening.{Listens}
use Rattle.receiver.specs.declared.answer.Answer.{Answer}
use Rattle.receiver.specs.declared.record.Receiver.{Receiver}
use Rattle.path.specs.Runs.{Leg, Turn, refused, heard, lost, frame_of, Run, Result}
use Rattle.path.specs.declared.replay.Call.{Call}
use Rattle.path.specs.declared.replay.Call.TheVariants.{Listen, CarrierLoss}
use Rattle.path.specs.declared.replay.Outcome.{Outcome}
use Rattle.path.specs.declared.replay.Outcome.TheVariants.{Refused, Heard, Lost}

-- a call and its outcome, as a turn of a run; none where the outcome is not of that call
abbrev pub turn_of : Call → Outcome → List Turn
turn_of (Listen allowance room) Refused = refused allowance room ∷ []
turn_of (Listen allowance room) (Heard taken a octets) = heard allowance room taken a (vec_items octets) ∷ []
turn_of (Listen allowance room) Lost = []
turn_of CarrierLoss Refused = []
turn_of CarrierLoss (Heard taken a octets) = []
turn_of CarrierLoss Lost = lost ∷ []

abbrev pub turns_of : List Call → List Outcome → List Turn
turns_of [] os = []
turns_of (c ∷ cs) [] = []
turns_of (c ∷ cs) (o ∷ os) = turn_of c o ++ turns_of cs os

-- every call has its outcome; they are a run from the bits that waited to those that wait, and so come to what every run comes to
pub record Replayed (start w : Bits) (calls : List Call) (outcomes : List Outcome) : Type 0 where
  pub receiver : Receiver
  pub legs : List Leg
  pub leg : Leg
  pub each : (length outcomes ≡ length calls) × (length (turns_of calls outcomes) ≡ length calls)
  pub run : Run start receiver w legs leg (turns_of calls outcomes)
  pub result : Result start w legs leg

-- a listening with a buffer of `room` octets, of which just a frame's are kept
pub record Listened (r r' : Receiver) (before after : Bits) (allowance room taken : ℕ) (a : Answer) (kept : List ℕ) : Type 0 where
  pub old : List ℕ
  pub new : List ℕ
  pub room_is : length old ≡ room
  pub wide : 2061 ≤ room
  pub listens : Listens (HasHeard r) (HasHeard r') before after allowance taken old new a
  pub kept_is : kept ≡ frame_of a new

-- one call and its outcome: what it does to the receiver and to the bits that wait; no call has the outcome of another
abbrev pub Performs : Call → Outcome → Receiver → Receiver → Bits → Bits → Type 0
Performs (Listen allowance room) Refused r r' before after = (room < 2061) × (r' ≡ r) × (after ≡ before)
Performs (Listen allowance room) (Heard taken a octets) r r' before after = Listened r r' before after allowance room taken a (vec_items octets)
Performs (Listen allowance room) Lost r r' before after = ⊥
Performs CarrierLoss Refused r r' before after = ⊥
Performs CarrierLoss (Heard taken a octets) r r' before after = ⊥
Performs CarrierLoss Lost r r' before after = HasHeard r' [] × (after ≡ before)

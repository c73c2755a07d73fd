-- Runs of a receiver under any list of calls, and what they come to, in words of bits and verdicts.
use Rattle.std.specs.Prelude.{◌≡◌, ℕ, ◌+◌, ◌<◌, ◌≤◌, List, [], ◌∷◌, ◌++◌, map, length, take, Some, None, Option}
use Rattle.std.specs.List.{flat_map, AllByRecursion}
use Rattle.cutting.specs.Cutting.{Bits, flag, Verdict, Placed, AllDue}
use Rattle.receiver.specs.Answers.{verdict_of}
use Rattle.receiver.specs.Hearing.{HasHeard}
use Rattle.receiver.specs.Listening.{Listens}
use Rattle.receiver.specs.declared.answer.Answer.{Answer}
use Rattle.receiver.specs.declared.answer.Answer.TheVariants.{Aborted, Refused, Frame, Paused, Dry}
use Rattle.receiver.specs.declared.record.Receiver.{Receiver}

-- a leg: the bits taken between two carrier losses, and the verdicts answered for them, each with the place at which it fell due
pub record Leg : Type 0 where
  pub bits : Bits
  pub verdicts : List Placed

abbrev pub none : Leg
none = record { bits = []; verdicts = [] }

abbrev pub noted : Option Verdict → ℕ → List Placed
noted None e = []
noted (Some v) e = (record { place = e; verdict = v }) ∷ []

-- one call and what it answered: a refused listening, with its allowance and the buffer's length; a listening, with the bits taken, the answer
-- and a frame's octets; a carrier loss
pub data Turn : Type 0 where
  refused : (allowance room : ℕ) → Turn
  heard : (allowance room taken : ℕ) (a : Answer) (octets : List ℕ) → Turn
  lost : Turn

-- a frame's octets; none of any other answer
abbrev pub frame_of : Answer → List ℕ → List ℕ
frame_of Aborted buffer = []
frame_of (Refused f) buffer = []
frame_of (Frame n) buffer = take n buffer
frame_of Paused buffer = []
frame_of Dry buffer = []

-- a run of a receiver that was new when the bits `start` waited: its record now, what waits now, the legs that carrier losses ended, the leg
-- since, and the calls so far; each step is what the contract of that call says
pub data Run (start : Bits) : Receiver → Bits → List Leg → Leg → List Turn → Type 0 where
  new : {r : Receiver} → HasHeard r [] → Run start r start [] none []
  refuses : {r : Receiver} {w : Bits} {legs : List Leg} {leg : Leg} {turns : List Turn} (allowance : ℕ) (buffer : List ℕ)
      → length buffer < 2061 → Run start r w legs leg turns → Run start r w legs leg (turns ++ refused allowance (length buffer) ∷ [])
  listens : {r r' : Receiver} {before after : Bits} {legs : List Leg} {leg : Leg} {turns : List Turn} (allowance taken : ℕ) (old new : List ℕ) (a : Answer)
      → 2061 ≤ length old → Run start r before legs leg turns → (l : Listens (HasHeard r) (HasHeard r') before after allowance taken old new a)
      → Run start r' after legs
      (record { bits = leg.bits ++ l.bits; verdicts = leg.verdicts ++ noted (verdict_of a new) (length (leg.bits ++ l.bits)) })
      (turns ++ heard allowance (length old) taken a (frame_of a new) ∷ [])
  loses : {r r' : Receiver} {w : Bits} {legs : List Leg} {leg : Leg} {turns : List Turn} → Run start r w legs leg turns → HasHeard r' []
      → Run start r' w (legs ++ leg ∷ []) none (turns ++ lost ∷ [])

-- a placed verdict, n places later
abbrev pub later : ℕ → Placed → Placed
later n p = record { place = n + p.place; verdict = p.verdict }

-- behind a flag that ends eight places behind place n, the verdicts are `own`, n places later
abbrev pub SameBehind : ℕ → List Placed → List Placed → Type 0
SameBehind n verdicts own = (before : List Placed) × (verdicts ≡ before ++ map (later n) own) × AllByRecursion (λ p. p.place ≤ n + 8) before

-- what every leg of a run comes to:
-- its verdicts are exactly those due in its bits, in order;
-- behind every whole flag they are those that cutting gives for that flag and the bits after it;
-- and those that a new receiver answers that is run dry where just that flag and those bits wait
pub record Told (leg : Leg) : Type 0 where
  pub all : AllDue leg.bits 0 leg.verdicts
  pub behind : (pre rest : Bits) (own : List Placed) → leg.bits ≡ pre ++ (flag ++ rest) → AllDue (flag ++ rest) 0 own
      → SameBehind (length pre) leg.verdicts own
  pub again : (pre rest : Bits) (r : Receiver) (own : Leg) (turns : List Turn) → leg.bits ≡ pre ++ (flag ++ rest)
      → Run (flag ++ rest) r [] [] own turns → SameBehind (length pre) leg.verdicts own.verdicts

-- what every run comes to: the bits taken are the first that waited, each leg's behind the one before, and each leg comes to the above
pub record Result (start w : Bits) (legs : List Leg) (leg : Leg) : Type 0 where
  pub taken : start ≡ flat_map (λ x. x.bits) legs ++ (leg.bits ++ w)
  pub ended : AllByRecursion Told legs
  pub since : Told leg

abbrev pub RunsAreCut : Type 0
RunsAreCut = (start : Bits) (r : Receiver) (w : Bits) (legs : List Leg) (leg : Leg) (turns : List Turn)
    → Run start r w legs leg turns → HasHeard r leg.bits × Result start w legs leg

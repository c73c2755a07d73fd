-- Listening until no bit waits, from any history.
use Rattle.std.specs.Prelude.{◌≡◌, ℕ, ◌≤◌, List, [], ◌++◌, map, length, vec_items}
use Rattle.cutting.specs.Cutting.{Bits, Verdict, aborted, refused, frame, Placed, AllDue}
use Rattle.receiver.specs.declared.answer.Answer.{Answer}
use Rattle.receiver.specs.declared.answer.Answer.TheVariants as answer
use Rattle.path.specs.Runs.{later}
use Rattle.path.specs.declared.dry.Event.{Event}
use Rattle.path.specs.declared.dry.Verdict.{Verdict as Told}
use Rattle.path.specs.declared.dry.Verdict.TheVariants.{Aborted, Refused, Frame}

-- the verdict that was told, and an event as a placed verdict; its place counts the bits of this call
abbrev pub told : Told → Verdict
told Aborted = aborted
told (Refused fault) = refused fault
told (Frame octets) = frame (vec_items octets)

abbrev pub placed : Event → Placed
placed e = record { place = e.place; verdict = told e.verdict }

-- a frame lies within the buffer
abbrev pub FitsIn : Answer → ℕ → Type 0
FitsIn answer.Aborted n = Unit {0}
FitsIn (answer.Refused f) n = Unit {0}
FitsIn (answer.Frame k) n = k ≤ n
FitsIn answer.Paused n = Unit {0}
FitsIn answer.Dry n = Unit {0}

-- all bits that waited are taken and counted; for every history that the record stood for, the events are exactly the verdicts due in these
-- bits behind it, in order
pub record HearsAll (was is : Bits → Type 0) (before after : Bits) (taken : ℕ) (events : List Event) : Type 0 where
  pub dry : after ≡ []
  pub counts : taken ≡ length before
  pub told : (h : Bits) → was h → is (h ++ before) × AllDue (h ++ before) (length h) (map (λ e. later (length h) (placed e)) events)

-- where memory ends before that: the bits taken are the first that waited, and the record stands for them too
pub record HearsSome (was is : Bits → Type 0) (before after : Bits) : Type 0 where
  pub bits : Bits
  pub lost : before ≡ bits ++ after
  pub told : (h : Bits) → was h → is (h ++ bits)

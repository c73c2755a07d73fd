-- Frames written at one end, and heard, opened and read at the other.
use Rattle.std.specs.Prelude.{◌≡◌, ℕ, ◌+◌, ◌<◌, ◌≤◌, List, [], ◌++◌, map, length, Some, None, Ok, Err, vec_items, Option}
use Rattle.std.specs.List.{AllByRecursion}
use Rattle.bits.specs.Sink.{Shown}
use Rattle.cutting.specs.Cutting.{Bits, flag, Verdict, aborted, refused, frame, Placed, AllDue}
use Rattle.frame.specs.Opening.{Content, content_of, layout, Layable, First}
use Rattle.receiver.specs.Hearing.{HasHeard}
use Rattle.receiver.specs.declared.record.Receiver.{Receiver}
use Rattle.xid.specs.Information.{ReadAs}
use Rattle.writer.specs.Lists.{ordered, ListWritten}
use Rattle.writer.specs.declared.list.Order.{Order}
use Rattle.path.specs.Dry.{HearsSome}
use Rattle.path.specs.Runs.{later}
use Rattle.path.specs.declared.carrying.Arrival.{Arrival}
use Rattle.path.specs.declared.carrying.Arrived.{Arrived}
use Rattle.path.specs.declared.carrying.Found.{Found}
use Rattle.path.specs.declared.carrying.Found.TheVariants.{Aborted, Refused, Unopened, Opened}
use Rattle.path.specs.declared.carrying.CarryError.{CarryError}
use Rattle.path.specs.declared.carrying.CarryError.TheVariants.{NotWritten, NotHeard, NoMemory}

-- what an arrival says
abbrev pub arrived_content : Arrival → Content
arrived_content a = content_of a.heading (vec_items a.information)

-- the verdict that came to this, and an arrival as a placed verdict; its place counts the bits of this call
abbrev pub found_verdict : Found → Verdict
found_verdict Aborted = aborted
found_verdict (Refused fault) = refused fault
found_verdict (Unopened octets fault) = frame (vec_items octets)
found_verdict (Opened a) = frame (layout (arrived_content a))

abbrev pub arrived_placed : Arrived → Placed
arrived_placed a = record { place = a.place; verdict = found_verdict a.found }

-- a frame's octets are opened, and an XID is read; octets with a fault are kept with the first
abbrev pub Judges : Found → Type 0
Judges Aborted = Unit {0}
Judges (Refused fault) = Unit {0}
Judges (Unopened octets fault) = First (vec_items octets) fault
Judges (Opened a) = Layable (arrived_content a) × ReadAs a.heading.control (vec_items a.information) a.parameters

-- what was opened; none of anything else
abbrev pub opened_content : Found → Option Content
opened_content Aborted = None
opened_content (Refused fault) = None
opened_content (Unopened octets fault) = None
opened_content (Opened a) = Some (arrived_content a)

-- behind a place the arrivals are these frames, opened, in order, and no others; n bits were heard before this call
pub record Arrives (n place : ℕ) (arrivals : List Arrived) (frames : List Content) : Type 0 where
  pub before : List Arrived
  pub after : List Arrived
  pub all : arrivals ≡ before ++ after
  pub sooner : AllByRecursion (λ a. n + (arrived_placed a).place ≤ place) before
  pub later : AllByRecursion (λ a. place < n + (arrived_placed a).place) after
  pub are : map (λ a. opened_content a.found) after ≡ map Some frames

-- all that carrying a list of frames does: the list is written; all bits that waited are taken; for every history that the receiver stood for
-- the arrivals are exactly the verdicts due in these bits, opened and read; and where the bits behind some whole flag that was not followed by
-- anything before this call are those that were written, the arrivals behind that flag are exactly the frames written, in order
pub record Carries (was is : Bits → Type 0) (before after : Bits) (sink sink' : Shown) (orders : List Order) (buffer : List ℕ) (bits taken : ℕ) (arrivals : List Arrived) : Type 0 where
  pub written : ListWritten orders buffer sink (Ok bits) sink'
  pub dry : after ≡ []
  pub counts : taken ≡ length before
  pub told : (h : Bits) → was h → is (h ++ before) × AllDue (h ++ before) (length h) (map (λ a. later (length h) (arrived_placed a)) arrivals)
  pub judged : AllByRecursion (λ a. Judges a.found) arrivals
  pub kept : (h pre put : Bits) → was h → length h ≤ length pre + 8 → h ++ before ≡ pre ++ (flag ++ put) → sink'.held ≡ sink.held ++ put
      → Arrives (length h) (length pre + 8) arrivals (map (ordered buffer) orders)

-- why frames are not carried: the list is refused, and sink, receiver and source are as they were; or it is written, and the bits taken are the
-- first that waited
abbrev pub NotCarried : CarryError → Receiver → Receiver → Bits → Bits → Shown → Shown → List Order → List ℕ → Type 0
NotCarried (NotWritten error) r r' before after sink sink' orders buffer = ListWritten orders buffer sink (Err error) sink' × (r' ≡ r) × (after ≡ before)
NotCarried (NotHeard error) r r' before after sink sink' orders buffer =
    ((n : ℕ) × ListWritten orders buffer sink (Ok n) sink') × HearsSome (HasHeard r) (HasHeard r') before after
NotCarried NoMemory r r' before after sink sink' orders buffer =
    ((n : ℕ) × ListWritten orders buffer sink (Ok n) sink') × HearsSome (HasHeard r) (HasHeard r') before after

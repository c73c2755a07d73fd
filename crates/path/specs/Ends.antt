-- Runs of the writer, and the promise that ties both ends: what is written is what is heard.
use Rattle.std.specs.Prelude.{◌≡◌, ℕ, ◌+◌, ◌<◌, ◌≤◌, List, [], ◌∷◌, ◌++◌, map, length, take, None, Ok, Err, Result}
use Rattle.std.specs.List.{AllByRecursion}
use Rattle.bits.specs.Sink.{Shown}
use Rattle.cutting.specs.Cutting.{Bits, flag, Verdict, frame, Placed}
use Rattle.frame.specs.Opening.{Content, content, layout, Opened}
use Rattle.faults.specs.declared.FrameFault.{FrameFault}
use Rattle.frame.specs.declared.opening.Frame.{Frame}
use Rattle.xid.specs.Reading.{Reading}
use Rattle.composer.specs.Composing.{params_of, Accepted as Composed}
use Rattle.composer.specs.declared.Item.{Item}
use Rattle.writer.specs.Writing.{Written}
use Rattle.writer.specs.Lists.{ordered, ListWritten}
use Rattle.writer.specs.declared.single.WriteError.{WriteError}
use Rattle.writer.specs.declared.list.Order.{Order}
use Rattle.writer.specs.declared.list.ListError.{ListError}
use Rattle.receiver.specs.declared.record.Receiver.{Receiver}
use Rattle.path.specs.Runs.{Leg, Turn, Run}

-- the frames that a writing accepted: the frame, or those of the list; none where it is refused
abbrev pub wrote : Content → Result ℕ WriteError → List Content
wrote c (Ok n) = c ∷ []
wrote c (Err e) = []

abbrev pub wrote_list : List Order → List ℕ → Result ℕ ListError → List Content
wrote_list orders buffer (Ok n) = map (ordered buffer) orders
wrote_list orders buffer (Err e) = []

-- a run of the writer into one sink that nothing else touches: what the sink shows at the start and now, and the frames that were accepted, in
-- order; each step is what the contract of that call says
pub data Writes (start : Shown) : Shown → List Content → Type 0 where
  begins : Writes start start []
  writes : {k k' : Shown} {frames : List Content} → Writes start k frames
      → (c : Content) (r : Result ℕ WriteError) → Written c k r k' → Writes start k' (frames ++ wrote c r)
  lists : {k k' : Shown} {frames : List Content} → Writes start k frames
      → (orders : List Order) (buffer : List ℕ) (r : Result ℕ ListError) → ListWritten orders buffer k r k'
      → Writes start k' (frames ++ wrote_list orders buffer r)

-- the accepted frames, and the bits that they added
pub record Puts (frames : List Content) (bits : Bits) : Type 0 where
  pub start : Shown
  pub now : Shown
  pub run : Writes start now frames
  pub added : now.held ≡ start.held ++ bits

-- behind a place the verdicts are these, in order, and no others
pub record Behind (n : ℕ) (verdicts : List Placed) (these : List Verdict) : Type 0 where
  pub before : List Placed
  pub after : List Placed
  pub all : verdicts ≡ before ++ after
  pub sooner : AllByRecursion (λ p. p.place ≤ n) before
  pub later : AllByRecursion (λ p. n < p.place) after
  pub are : map (λ p. p.verdict) after ≡ these

-- opening a frame's octets gives its addresses, status bits, control and information
abbrev pub OpensTo : Content → Type 0
OpensTo c = (r : Result Frame FrameFault) → Opened (layout c) r → (f : Frame) × ((r ≡ Ok f) × (content f ≡ c))

-- information that was composed is read as its items' groups, identifiers and values, in order, and then the end
abbrev pub ReadsTo : Content → Type 0
ReadsTo c = (items : List Item) (values old new : List ℕ) (n : ℕ) → Composed items values old new n → c.information ≡ take n new
    → Reading c.information (params_of items values) None

-- a receiver under any list of calls that has run dry: if the bits behind some whole flag taken since the last carrier loss are what the writer
-- put for some frames, the verdicts behind that flag are exactly those frames' octets, in order
abbrev pub WrittenIsHeard : Type 0
WrittenIsHeard = (start : Bits) (r : Receiver) (legs : List Leg) (leg : Leg) (turns : List Turn) (pre bits : Bits) (frames : List Content)
    → Run start r [] legs leg turns → leg.bits ≡ pre ++ (flag ++ bits) → Puts frames bits
    → Behind (length pre + 8) leg.verdicts (map (λ c. frame (layout c)) frames)

-- each opens to what was written, and composed information is read back
abbrev pub WrittenIsRead : Type 0
WrittenIsRead = (frames : List Content) (bits : Bits) → Puts frames bits → AllByRecursion OpensTo frames × AllByRecursion ReadsTo frames

-- two different lists of accepted frames never put the same bits
abbrev pub WrittenApart : Type 0
WrittenApart = (frames others : List Content) (bits : Bits) → Puts frames bits → Puts others bits → frames ≡ others

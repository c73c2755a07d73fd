-- Writing a list of frames whose information lies in one buffer.
use Rattle.std.specs.Prelude.{◌≡◌, ℕ, ◌+◌, ◌-◌, ◌≤◌, List, [], ◌∷◌, ◌++◌, map, length, take, drop, Ok, Err, Result}
use Rattle.bits.specs.Sink.{Shown}
use Rattle.cutting.specs.Stuffing.{frame_bits, put_bits}
use Rattle.frame.specs.Opening.{Content, content_of, layout}
use Rattle.writer.specs.Putting.{Appended}
use Rattle.writer.specs.Writing.{write_number, Refused as FrameRefused, Accepted}
use Rattle.writer.specs.declared.list.Order.{Order}
use Rattle.writer.specs.declared.list.ListError.{ListError}
use Rattle.writer.specs.declared.list.ListError.TheVariants.{Outside, Refused}

-- the numbers of the refusals
abbrev pub list_number : ListError → ℕ
list_number (Outside frame) = 44
list_number (Refused frame error) = write_number error

-- the frame that an order asks for
abbrev pub ordered : List ℕ → Order → Content
ordered buffer o = content_of o.heading (take o.length (drop o.place buffer))

abbrev pub layouts : List ℕ → List Order → List (List ℕ)
layouts buffer orders = map (λ o. layout (ordered buffer o)) orders

-- information that lies in its buffer
abbrev pub Inside : List ℕ → Order → Type 0
Inside buffer o = o.place + o.length ≤ length buffer

-- frames that are accepted one behind the other, each against the room then left
abbrev pub AllAccepted : List ℕ → ℕ → List Order → Type 0
AllAccepted buffer room [] = Unit {0}
AllAccepted buffer room (o ∷ os) =
    Inside buffer o × Accepted (ordered buffer o) room × AllAccepted buffer (room - length (frame_bits (layout (ordered buffer o)))) os

-- the first order that is refused: those before it are accepted, and it is refused against the room then left
abbrev pub OrderRefused : List ℕ → ℕ → ℕ → Order → ListError → Type 0
OrderRefused buffer room i o (Outside frame) = (frame ≡ i) × (Inside buffer o → ⊥)
OrderRefused buffer room i o (Refused frame error) = (frame ≡ i) × Inside buffer o × FrameRefused (ordered buffer o) room error

pub record FirstRefused (orders : List Order) (buffer : List ℕ) (room : ℕ) (e : ListError) : Type 0 where
  pub before : List Order
  pub order : Order
  pub behind : List Order
  pub list : orders ≡ before ++ (order ∷ behind)
  pub accepted : AllAccepted buffer room before
  pub refused : OrderRefused buffer (room - length (put_bits (layouts buffer before))) (length before) order e

-- writing a list: the bits of all its frames in order, and their number; or the first refusal, and the sink is as it was
abbrev pub ListWritten : List Order → List ℕ → Shown → Result ℕ ListError → Shown → Type 0
ListWritten orders buffer was (Ok n) is = AllAccepted buffer was.space orders × Appended (put_bits (layouts buffer orders)) was n is
ListWritten orders buffer was (Err e) is = FirstRefused orders buffer was.space e × (is ≡ was)

-- one frame of a list
abbrev pub OrderWritten : ℕ → Order → List ℕ → Shown → Result ℕ ListError → Shown → Type 0
OrderWritten i o buffer was (Ok n) is =
    Inside buffer o × Accepted (ordered buffer o) was.space × Appended (frame_bits (layout (ordered buffer o))) was n is
OrderWritten i o buffer was (Err e) is = OrderRefused buffer was.space i o e × (is ≡ was)

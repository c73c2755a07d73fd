-- Writing one frame: what is put, and when it is refused.
use Rattle.std.specs.Prelude.{◌≡◌, ℕ, ◌+◌, ◌*◌, ◌/◌, ◌<◌, ◌≤◌, length, Ok, Err, Result}
use Rattle.bits.specs.Sink.{Shown}
use Rattle.cutting.specs.Stuffing.{frame_bits}
use Rattle.frame.specs.Controls.{Numbered, Suits}
use Rattle.frame.specs.Opening.{Content, layout, Layable}
use Rattle.writer.specs.Putting.{Appended}
use Rattle.writer.specs.declared.single.WriteError.{WriteError}
use Rattle.writer.specs.declared.single.WriteError.TheVariants.{Unsuited, TooLong, NoRoom}

-- the numbers of the refusals
abbrev pub write_number : WriteError → ℕ
write_number Unsuited = 41
write_number TooLong = 42
write_number NoRoom = 43

-- the room that a frame of so many octets must find: both flags, the bits before stuffing, its two octets of check sequence among them, and a
-- fifth of these
unfoldable pub foretold : ℕ → ℕ
foretold octets = 16 + 8 * (octets + 2) + 8 * (octets + 2) / 5

-- information that suits the control, whose numbers are at most 7
abbrev pub Suited : Content → Type 0
Suited c = Suits c.control (length c.information) × Numbered c.control

-- why a frame is refused, where the sink has so much room
abbrev pub Refused : Content → ℕ → WriteError → Type 0
Refused c room Unsuited = Suited c → ⊥
Refused c room TooLong = Suited c × (2052 < length c.information)
Refused c room NoRoom = Suited c × (length c.information ≤ 2052) × (room < foretold (length (layout c)))

-- why it is not
pub record Accepted (c : Content) (room : ℕ) : Type 0 where
  pub layable : Layable c
  pub enough : foretold (length (layout c)) ≤ room

-- writing a frame: its bits behind what the sink held, and their number; or the first refusal, and the sink is as it was
abbrev pub Written : Content → Shown → Result ℕ WriteError → Shown → Type 0
Written c was (Ok n) is = Accepted c was.space × Appended (frame_bits (layout c)) was n is
Written c was (Err e) is = Refused c was.space e × (is ≡ was)

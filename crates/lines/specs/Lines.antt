-- The octets of a trace line.
use Rattle.std.specs.Prelude.{◌≡◌, ℕ, ◌+◌, ◌/◌, ◌%◌, ◌<◌, ◌≤◌, cond, List, [], ◌∷◌, ◌++◌, length, Ok, Err, codes, decimal, Result, nat_lt}
use Rattle.std.specs.List.{flat_map}
use Rattle.bits.specs.Buffers.{over}
use Rattle.cutting.specs.Faults.{fault_number}
use Rattle.lines.specs.declared.Stamp.{Stamp}
use Rattle.lines.specs.declared.Line.{Line}
use Rattle.lines.specs.declared.Line.TheVariants.{Refused, Aborted, Frame, Taken}
use Rattle.lines.specs.declared.LineError.{LineError}
use Rattle.lines.specs.declared.LineError.TheVariants.{ShortBuffer}

-- capital hexadecimal digits
abbrev pub hex_digit : ℕ → ℕ
hex_digit n = cond (nat_lt n 10) (48 + n) (55 + n)

abbrev pub hex_pair : ℕ → List ℕ
hex_pair o = hex_digit (o / 16) ∷ hex_digit (o % 16) ∷ []

-- a verdict's ordinal and all bits taken so far
abbrev pub stamp : Stamp → List ℕ
stamp s = decimal s.ordinal ++ codes " " ++ decimal s.taken ++ codes " "

-- a line up to a frame's octets
abbrev pub head_text : Line → List ℕ
head_text (Refused s fault) = stamp s ++ codes "refused " ++ decimal (fault_number fault)
head_text (Aborted s) = stamp s ++ codes "aborted"
head_text (Frame s octets) = stamp s ++ codes "frame "
head_text (Taken total) = codes "taken " ++ decimal total

-- a frame's octets; none in any other line
abbrev pub frame_octets : Line → List ℕ
frame_octets (Frame s octets) = octets.now
frame_octets other = []

-- the whole line: its octets as pairs without spaces, and 0Ah at the end
abbrev pub line_text : Line → List ℕ
line_text l = head_text l ++ flat_map hex_pair (frame_octets l) ++ codes "\n"

-- a line made in a buffer: it stands at the front, its length is answered, and octets behind it stay; refused exactly if the buffer is shorter
-- than the line, and then the buffer is as it was
abbrev pub Made : List ℕ → List ℕ → List ℕ → Result ℕ LineError → Type 0
Made line old new (Ok n) = (length line ≤ length old) × (n ≡ length line) × (new ≡ over line old)
Made line old new (Err e) = (length old < length line) × (new ≡ old)

-- the number of the refusal
abbrev pub error_number : LineError → ℕ
error_number ShortBuffer = 61

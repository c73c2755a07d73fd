-- Worked values, over the definitions that the contracts use.
use Rattle.std.specs.Prelude.{◌≡◌, ℕ, true, false, List, [], ◌∷◌, ◌++◌, pos, negsuc, codes}
use Rattle.bits.specs.Octets.{sent}
use Rattle.bits.specs.Text.{text_bits}
use Rattle.fcs.specs.Sequence.{sequence}
use Rattle.cutting.specs.Cutting.{flag, ones, Verdict, aborted, refused, Placed, AllDue}
use Rattle.cutting.specs.Stuffing.{stuffed}
use Rattle.cutting.specs.declared.Fault.TheVariants.{MissingZero, NotOctets, TooShort}
use Rattle.frame.specs.Addresses.{address_octets}
use Rattle.frame.specs.Controls.{control_octet}
use Rattle.frame.specs.declared.address.Kind.TheVariants.{Aircraft, GroundAdministered, Broadcast}
use Rattle.frame.specs.declared.control.Control.TheVariants.{Information, Unnumbered}
use Rattle.frame.specs.declared.control.Unnumbered.TheVariants.{Xid}
use Rattle.records.specs.Values.{tuning_octets, location_octets}
use Rattle.lines.specs.Lines.{line_text}
use Rattle.lines.specs.declared.Line.TheVariants as line

-- 1Fh 22h stuffs to 11111000001000100
abbrev pub Stuffing : Type 0
Stuffing = stuffed (sent (0x1F ∷ 0x22 ∷ [])) ≡ text_bits (codes "11111000001000100")

-- 50h 00h 00h 81h: status 0, aircraft 400001h
abbrev pub AircraftAddress : Type 0
AircraftAddress = address_octets false (record { kind = Aircraft; high = 0x40; middle = 0x00; low = 0x01 }) ≡ 0x50 ∷ 0x00 ∷ 0x00 ∷ 0x81 ∷ []

-- FCh FEh FEh FFh: status 0, broadcast, all ones
abbrev pub BroadcastAddress : Type 0
BroadcastAddress = address_octets false (record { kind = Broadcast; high = 0xFF; middle = 0xFF; low = 0xFF }) ≡ 0xFC ∷ 0xFE ∷ 0xFE ∷ 0xFF ∷ []

-- 06h 00h 00h 81h: status 1, type 100, number 1
abbrev pub GroundAddress : Type 0
GroundAddress = address_octets true (record { kind = GroundAdministered; high = 0x00; middle = 0x00; low = 0x01 }) ≡ 0x06 ∷ 0x00 ∷ 0x00 ∷ 0x81 ∷ []

-- B6h: INFO, N(S) 3, P 1, N(R) 5
abbrev pub InfoControl : Type 0
InfoControl = control_octet (Information 3 true 5) ≡ 0xB6

-- BFh: XID, P 1
abbrev pub XidControl : Type 0
XidControl = control_octet (Unnumbered Xid true) ≡ 0xBF

-- 2Ch 64h: modulation 2, f 3,172
abbrev pub TuningValue : Type 0
TuningValue = tuning_octets (record { modulation = 2; steps = 3172 }) ≡ 0x2C ∷ 0x64 ∷ []

-- EAh D5h E8h 23h: −339, 1,512, altitude 35
abbrev pub LocationValue : Type 0
LocationValue = location_octets (record { latitude = negsuc 338; longitude = pos 1512 }) ++ (35 ∷ []) ≡ 0xEA ∷ 0xD5 ∷ 0xE8 ∷ 0x23 ∷ []

-- ASCII 123456789 has check sequence 906Eh
abbrev pub CheckSequence : Type 0
CheckSequence = sequence (codes "123456789") ≡ 0x906E

abbrev due : ℕ → Verdict → Placed
due e v = record { place = e; verdict = v }

-- flag, 11111, flag: refused 11
abbrev pub ZeroIsMissing : Type 0
ZeroIsMissing = AllDue (flag ++ (ones 5 ++ flag)) 0 (due 21 (refused MissingZero) ∷ [])

-- 011111101111110: no verdict
abbrev pub SharedZero : Type 0
SharedZero = AllDue (text_bits (codes "011111101111110")) 0 []

-- the trace example: its verdicts, and its four lines
abbrev pub trace_input : List ℕ
trace_input = codes "01111110 0000000 01111110 01010101 01111110 001111111"

abbrev pub Traced : Type 0
Traced =
    AllDue (text_bits trace_input) 0 (due 23 (refused NotOctets) ∷ due 39 (refused TooShort) ∷ due 48 aborted ∷ [])
    × (line_text (line.Refused (record { ordinal = 1; taken = 23 }) NotOctets) ≡ codes "1 23 refused 13\n")
    × (line_text (line.Refused (record { ordinal = 2; taken = 39 }) TooShort) ≡ codes "2 39 refused 14\n")
    × (line_text (line.Aborted (record { ordinal = 3; taken = 48 })) ≡ codes "3 48 aborted\n")
    × (line_text (line.Taken 48) ≡ codes "taken 48\n")

-- The number and the place of every fault.
use Rattle.std.specs.Prelude.{◌≡◌, ℕ}
use Rattle.faults.specs.declared.FrameFault.{FrameFault}
use Rattle.faults.specs.declared.FrameFault.TheVariants.{Length, DestinationMark, SourceMark, UnlistedType, UnlistedControl, UnsuitedInformation, Exchange}
use Rattle.faults.specs.declared.ExchangeFault.{ExchangeFault}
use Rattle.faults.specs.declared.ExchangeFault.TheVariants.{NoLeading, ShortGroup, OtherGroup, GroupOrder, GroupBeyond, ParameterBeyond, Parameter}
use Rattle.faults.specs.declared.ParameterFault.{ParameterFault}
use Rattle.faults.specs.declared.ParameterFault.TheVariants.{WrongLength, WrongValue}

abbrev pub parameter_number : ParameterFault → ℕ
parameter_number (WrongLength place) = 37
parameter_number (WrongValue place) = 38

abbrev pub parameter_place : ParameterFault → ℕ
parameter_place (WrongLength place) = place
parameter_place (WrongValue place) = place

abbrev pub exchange_number : ExchangeFault → ℕ
exchange_number NoLeading = 31
exchange_number (ShortGroup place) = 32
exchange_number (OtherGroup place) = 33
exchange_number (GroupOrder place) = 34
exchange_number (GroupBeyond place) = 35
exchange_number (ParameterBeyond place) = 36
exchange_number (Parameter fault) = parameter_number fault

-- counted in the information, also where it stands inside a frame fault
abbrev pub exchange_place : ExchangeFault → ℕ
exchange_place NoLeading = 0
exchange_place (ShortGroup place) = place
exchange_place (OtherGroup place) = place
exchange_place (GroupOrder place) = place
exchange_place (GroupBeyond place) = place
exchange_place (ParameterBeyond place) = place
exchange_place (Parameter fault) = parameter_place fault

abbrev pub frame_number : FrameFault → ℕ
frame_number (Length octets) = 21
frame_number (DestinationMark place) = 22
frame_number (SourceMark place) = 23
frame_number (UnlistedType place) = 24
frame_number UnlistedControl = 25
frame_number UnsuitedInformation = 26
frame_number (Exchange fault) = exchange_number fault

-- the first offending octet, counted from 0; the octet count where there are too few or too many
abbrev pub frame_place : FrameFault → ℕ
frame_place (Length octets) = octets
frame_place (DestinationMark place) = place
frame_place (SourceMark place) = place
frame_place (UnlistedType place) = place
frame_place UnlistedControl = 8
frame_place UnsuitedInformation = 9
frame_place (Exchange fault) = exchange_place fault

-- a fault stands whole inside the next
abbrev pub ParameterInside : ParameterFault → ExchangeFault → Type 0
ParameterInside fault r = r ≡ Parameter fault

abbrev pub ExchangeInside : ExchangeFault → FrameFault → Type 0
ExchangeInside fault r = r ≡ Exchange fault

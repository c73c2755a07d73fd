-- What the parts of opening answer.
use Rattle.std.specs.Prelude.{◌≡◌, ℕ, ◌%◌, ◌<◌, ◌≢◌, ◌⊎◌, List, Some, None, Ok, Err, Option, Result, slice_index}
use Rattle.frame.specs.Addresses.{AddressRead}
use Rattle.frame.specs.Controls.{unnumbered_octet, ControlRead, Suits}
use Rattle.frame.specs.Opening.{mark}
use Rattle.frame.specs.declared.address.Addressed.{Addressed}
use Rattle.frame.specs.declared.control.Control.{Control}
use Rattle.frame.specs.declared.control.Unnumbered.{Unnumbered}
use Rattle.faults.specs.declared.FrameFault.{FrameFault}
use Rattle.faults.specs.declared.FrameFault.TheVariants.{UnlistedType, UnlistedControl, UnsuitedInformation}

-- the first place of four whose mark is wrong, or none where all are right
abbrev pub MarksRead : List ℕ → Option ℕ → Type 0
MarksRead os (Some p) = (p < 4) × (slice_index os p % 2 ≢ mark p) × ((k : ℕ) → k < p → slice_index os k % 2 ≡ mark k)
MarksRead os None = (k : ℕ) → k < 4 → slice_index os k % 2 ≡ mark k

abbrev pub AddressTaken : ℕ → List ℕ → Result Addressed FrameFault → Type 0
AddressTaken place os (Ok a) = AddressRead os (Some a)
AddressTaken place os (Err f) = AddressRead os None × (f ≡ UnlistedType place)

-- the unnumbered frame whose octet this is without its poll bit, or that it is unlisted
abbrev pub UnnumberedRead : ℕ → Result Unnumbered FrameFault → Type 0
UnnumberedRead o (Ok f) = unnumbered_octet f ≡ o
UnnumberedRead o (Err e) = (e ≡ UnlistedControl) × ((f : Unnumbered) → unnumbered_octet f ≢ o)

abbrev pub ControlTaken : ℕ → ℕ → Result Control FrameFault → Type 0
ControlTaken o n (Ok c) = ControlRead o (Ok c) × Suits c n
ControlTaken o n (Err f) = ControlRead o (Err f) ⊎ ((f ≡ UnsuitedInformation) × ((c : Control) × (ControlRead o (Ok c) × (Suits c n → ⊥))))

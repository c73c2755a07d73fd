-- The control field's octet, and which information suits it.
use Rattle.std.specs.Prelude.{◌≡◌, ℕ, ◌+◌, ◌*◌, ◌≤◌, Bool, true, false, cond, ◌≢◌, Ok, Err, Result}
use Rattle.frame.specs.declared.control.Control.{Control}
use Rattle.frame.specs.declared.control.Control.TheVariants.{Information, Supervisory as S, Unnumbered as U}
use Rattle.frame.specs.declared.control.Supervisory.{Supervisory}
use Rattle.frame.specs.declared.control.Supervisory.TheVariants.{Rr, Srej}
use Rattle.frame.specs.declared.control.Unnumbered.{Unnumbered}
use Rattle.frame.specs.declared.control.Unnumbered.TheVariants.{Ui, Dm, Disc, Ua, Frmr, Xid, Test}
use Rattle.frame.specs.declared.control.ControlError.{ControlError}
use Rattle.frame.specs.declared.control.ControlError.TheVariants.{NumberAbove7}
use Rattle.faults.specs.declared.FrameFault.{FrameFault}
use Rattle.faults.specs.declared.FrameFault.TheVariants.{UnlistedControl}

-- N(S) and N(R), where the control has them, are at most 7
abbrev pub Numbered : Control → Type 0
Numbered (Information send poll receive) = (send ≤ 7) × (receive ≤ 7)
Numbered (S function poll receive) = receive ≤ 7
Numbered (U function poll) = Unit {0}

abbrev pub supervisory_octet : Supervisory → ℕ
supervisory_octet Rr = 0x01
supervisory_octet Srej = 0x0D

abbrev pub unnumbered_octet : Unnumbered → ℕ
unnumbered_octet Ui = 0x03
unnumbered_octet Dm = 0x0F
unnumbered_octet Disc = 0x43
unnumbered_octet Ua = 0x63
unnumbered_octet Frmr = 0x87
unnumbered_octet Xid = 0xAF
unnumbered_octet Test = 0xE3

-- the layout: N(S) in bits 2 to 4, the poll bit in bit 5, N(R) in bits 6 to 8
abbrev pub control_octet : Control → ℕ
control_octet (Information send poll receive) = send * 2 + cond poll 16 0 + receive * 32
control_octet (S function poll receive) = supervisory_octet function + cond poll 16 0 + receive * 32
control_octet (U function poll) = unnumbered_octet function + cond poll 16 0

-- making a control's octet: refused exactly if a number is above 7
abbrev pub ControlMade : Control → Result ℕ ControlError → Type 0
ControlMade c (Ok o) = Numbered c × (o ≡ control_octet c)
ControlMade c (Err NumberAbove7) = Numbered c → ⊥

-- reading an octet: the control that is laid out as it, or that it is unlisted where no control is
abbrev pub ControlRead : ℕ → Result Control FrameFault → Type 0
ControlRead o (Ok c) = Numbered c × (control_octet c ≡ o)
ControlRead o (Err f) = (f ≡ UnlistedControl) × ((c : Control) → Numbered c → control_octet c ≢ o)

-- how many octets of information a control may have
abbrev pub Suits : Control → ℕ → Type 0
Suits (Information send poll receive) n = Unit {0}
Suits (S Rr poll receive) n = n ≡ 0
Suits (S Srej poll receive) n = 1 ≤ n
Suits (U Ui poll) n = Unit {0}
Suits (U Dm poll) n = n ≡ 0
Suits (U Disc poll) n = n ≡ 0
Suits (U Ua poll) n = n ≡ 0
Suits (U Frmr poll) n = n ≡ 3
Suits (U Xid poll) n = Unit {0}
Suits (U Test poll) n = Unit {0}

abbrev pub Suited : Control → ℕ → Bool → Type 0
Suited c n true = Suits c n
Suited c n false = Suits c n → ⊥

-- the number of the refusal
abbrev pub control_error_number : ControlError → ℕ
control_error_number NumberAbove7 = 41

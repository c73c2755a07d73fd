-- Checking: a frame and its count of parameters, or its fault; and the reply that it leaves owed.
use Rattle.std.specs.Prelude.{◌≡◌, ℕ, true, false, ◌≢◌, ◌⊎◌, List, Some, None, Ok, Err, Option, Result}
use Rattle.frame.specs.Opening.{Opened}
use Rattle.frame.specs.declared.address.Kind.TheVariants.{Broadcast}
use Rattle.frame.specs.declared.control.Control.TheVariants.{Unnumbered}
use Rattle.frame.specs.declared.control.Unnumbered.TheVariants.{Xid}
use Rattle.faults.specs.declared.ExchangeFault.{ExchangeFault}
use Rattle.faults.specs.declared.FrameFault.{FrameFault}
use Rattle.faults.specs.declared.FrameFault.TheVariants.{Exchange}
use Rattle.frame.specs.declared.opening.Frame.{Frame}
use Rattle.frame.specs.declared.opening.Heading.{Heading}
use Rattle.xid.specs.Information.{ReadAs}
use Rattle.reply.specs.declared.checking.Checked.{Checked}
use Rattle.reply.specs.declared.debt.Debt.{Debt}

-- a reply is owed for an XID command with P at 1 that was not sent to a broadcast type
pub record Owed (c : Heading) : Type 0 where
  pub control : c.control ≡ Unnumbered Xid true
  pub command : c.response ≡ false
  pub single : c.destination.kind ≢ Broadcast

-- the debt stands for the command's two addresses: the reply goes to its source, from its destination
abbrev pub Owes : Heading → Option Debt → Type 0
Owes c (Some d) = Owed c × (d.to ≡ c.source) × (d.from ≡ c.destination)
Owes c None = Owed c → ⊥

-- a fault of opening, or of reading the information of a frame that opens; the exchange fault stands whole inside
abbrev pub Faulty : List ℕ → FrameFault → Type 0
Faulty os f = Opened os (Err f) ⊎ ((g : Frame) × ((e : ExchangeFault) × (Opened os (Ok g) × ReadAs g.heading.control g.information.now (Err e) × (f ≡ Exchange e))))

-- checking octets
abbrev pub Checks : List ℕ → Result Checked FrameFault → Type 0
Checks os (Ok c) = Opened os (Ok c.frame) × ReadAs c.frame.heading.control c.frame.information.now (Ok c.parameters) × Owes c.frame.heading c.debt
Checks os (Err f) = Faulty os f

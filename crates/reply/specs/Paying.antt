-- Replying and declining: the frame that is sent, and what becomes of the debt.
use Rattle.std.specs.Prelude.{◌≡◌, ℕ, ◌/◌, ◌%◌, Bool, true, List, [], ◌∷◌, Ok, Err, Result}
use Rattle.bits.specs.Sink.{Shown}
use Rattle.frame.specs.Opening.{Content}
use Rattle.frame.specs.declared.control.Control.TheVariants.{Unnumbered}
use Rattle.frame.specs.declared.control.Unnumbered.TheVariants.{Xid}
use Rattle.register.specs.declared.Group.TheVariants.{Private}
use Rattle.xid.specs.Fields.{Param}
use Rattle.composer.specs.Composing.{field_octets}
use Rattle.writer.specs.Writing.{Written}
use Rattle.reply.specs.declared.debt.Debt.{Debt}
use Rattle.reply.specs.declared.paying.Unpaid.{Unpaid}

-- the reply: XID with F at 1 to the command's source, from its destination as a response
abbrev pub answer : Debt → Bool → List ℕ → Content
answer d from_ground information =
    record { destination = d.to; from_ground = from_ground; source = d.from; response = true; control = Unnumbered Xid true; information = information }

-- what a decline says: set identification, and 06h with a cause and a delay of two octets, high first
abbrev pub declined_params : ℕ → ℕ → List Param
declined_params cause delay =
    record { group = Private; identifier = 0x00; value = 0x56 ∷ [] }
    ∷ record { group = Private; identifier = 0x06; value = cause ∷ delay / 256 ∷ delay % 256 ∷ [] } ∷ []

abbrev pub declined : ℕ → ℕ → List ℕ
declined cause delay = field_octets (declined_params cause delay)

-- the reply is written as any frame is; where it is refused the debt is handed back as it was
abbrev pub Pays : Debt → Content → Shown → Result ℕ Unpaid → Shown → Type 0
Pays d c was (Ok n) is = Written c was (Ok n) is
Pays d c was (Err u) is = Written c was (Err u.error) is × (u.debt ≡ d)

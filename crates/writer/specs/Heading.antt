-- The octets before a frame's information.
use Rattle.std.specs.Prelude.{◌≡◌, ℕ, List, Ok, Err, Result}
use Rattle.frame.specs.Addresses.{IsAddress}
use Rattle.frame.specs.Opening.{content, header}
use Rattle.frame.specs.declared.opening.Frame.{Frame}
use Rattle.writer.specs.Writing.{Suited}
use Rattle.writer.specs.declared.single.WriteError.{WriteError}
use Rattle.writer.specs.declared.single.WriteError.TheVariants.{Unsuited}

-- a frame that suits has its nine octets, and its addresses are addresses; one that does not is refused
abbrev pub Headed : Frame → Result (List ℕ) WriteError → Type 0
Headed f (Ok os) = Suited (content f) × IsAddress f.heading.destination × IsAddress f.heading.source × (os ≡ header (content f))
Headed f (Err e) = (Suited (content f) → ⊥) × (e ≡ Unsuited)

use Rattle.std.proofs.Common.{false, [], ◌∷◌, refl}
use Rattle.cutting.specs.Cutting.{flag, ones}
use Rattle.receiver.proofs.Turns.{begins}
use Rattle.receiver.proofs.record.Receiver.begin.Goals as goal

pub invariant_of-self : goal.invariant_of-self
invariant_of-self c = record { heard = ∣ (flag, begins (false ∷ ones 6) c.clear.new.self c.clear.ensures.empty ([], refl)) ∣₁ }

pub returns : goal.returns
returns c = record { opened = λ h behind. begins h c.clear.new.self c.clear.ensures.empty behind; same = c.clear.ensures.same }

use Rattle.receiver.proofs.Turns.{fresh, still_idle}
use Rattle.receiver.proofs.record.Receiver.carrier_loss.Goals as goal

pub invariant_of-self : goal.invariant_of-self
invariant_of-self c = record { heard = still_idle c.args.self.now.store }

pub returns : goal.returns
returns c = fresh c.args.self.now.store

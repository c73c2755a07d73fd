use Rattle.receiver.proofs.Turns.{fresh, still_idle}
use Rattle.receiver.proofs.record.Receiver.new.Goals as goal

pub invariant_of-result : goal.invariant_of-result
invariant_of-result c = record { heard = still_idle c.new.result }

pub returns : goal.returns
returns c = fresh c.new.result

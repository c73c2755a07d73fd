use Rattle.std.proofs.Common.{refl}
use Rattle.receiver.proofs.Packs.{holds_none}
use Rattle.receiver.proofs.store.Store.clear.Goals as goal

pub returns : goal.returns
returns c = record { empty = holds_none _ refl; same = refl }

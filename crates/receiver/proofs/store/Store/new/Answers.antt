use Rattle.std.proofs.Common.{refl}
use Rattle.receiver.proofs.Packs.{holds_none}
use Rattle.receiver.proofs.store.Store.new.Goals as goal

pub returns : goal.returns
returns c = holds_none _ refl

-- The law of reading, of which the function's contract consists.
use Rattle.xid.proofs.Readings.{reading_is_one}
use Rattle.xid.proofs.reading_stands.Goals as goal

pub returns : goal.returns
returns c = reading_is_one

-- What waits stays the same while octets that stand for no bit are passed over.
use Rattle.std.proofs.Common.{◌≡◌, length}
use Rattle.bits.specs.Text.{text_bits}
use Rattle.bits.proofs.text.TextSourceBitSource.take.Given as goal

abbrev pub invariant-loop-self : goal.invariant-loop-self
invariant-loop-self l = text_bits l.self.rest.now ≡ text_bits l.initial.self.rest.now

abbrev pub decreases-loop-self : goal.decreases-loop-self
decreases-loop-self l = length l.self.rest.now

-- The register goes back one place a turn; what is below stays.
use Rattle.std.proofs.Common.{◌≡◌, ◌-◌}
use Rattle.bits.specs.Octets.{low}
use Rattle.layers.specs.Sequence.{backward, moved}
use Rattle.layers.proofs.scrambling.ScrambledSinkBitSink.cut_back.Given as goal

abbrev pub invariant-loop : goal.invariant-loop
invariant-loop g l =
    (low 15 l.self.register ≡ moved backward (l.counter - l.count) (low 15 l.initial.self.register)) × (l.self.below ≡ l.initial.self.below)

-- The bits taken so far, the last of them first, are the register's lowest.
use Rattle.std.proofs.Common.{◌≡◌, ◌^◌, ◌<◌, Bool, List, ◌++◌, length}
use Rattle.bits.specs.Octets.{low}
use Rattle.layers.proofs.register.holding.Given as goal

abbrev pub invariant-loop-bit : goal.invariant-loop-bit
invariant-loop-bit l =
    (done : List Bool) × (l.bits ≡ l.bit-iterator.iter.rest.now ++ done) × (low (length done) l.register ≡ done) × (l.register < 2 ^ length done)

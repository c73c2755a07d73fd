-- The octets before were whole entries: those left are a list just if all are.
use Rattle.std.proofs.Common.{◌≡◌, ◌%◌, ◌↔◌, length}
use Rattle.records.specs.Values.{Joined}
use Rattle.records.proofs.entries.Entries.read.Given as goal

abbrev pub invariant-loop-entry : goal.invariant-loop-entry
invariant-loop-entry g l =
    (l.entry-iterator.size ≡ g.E.Entry.OCTETS) × (length l.entry-iterator.rest.now % g.E.Entry.OCTETS ≡ 0)
    × (Joined g.E.Entry.Is g.E.Entry.layout l.octets ↔ Joined g.E.Entry.Is g.E.Entry.layout l.entry-iterator.rest.now)

-- Packed octets: eight bits to an octet, the lowest first.
use Rattle.std.specs.Prelude.{ℕ, ◌*◌, min, Bool, List, length, take, drop}
use Rattle.bits.specs.Octets.{sent}
use Rattle.bits.specs.declared.packed_source.PackedSource.{PackedSource}

-- how many bits of a memory are used: those asked for, of those that are there, in at most 16,384 octets
abbrev pub usable : List ℕ → ℕ → ℕ
usable octets bits = min bits (8 * min 16384 (length octets))

-- what waits in a packed source: the bits up to its end that are not yet taken
abbrev pub packed_waiting : PackedSource → List Bool
packed_waiting s = drop s.places.start (take s.places.end (sent s.octets.now))

-- the bits in the first places of packed octets, as many as a count says
abbrev pub packed_first : ℕ → List ℕ → List Bool
packed_first n os = take n (sent os)

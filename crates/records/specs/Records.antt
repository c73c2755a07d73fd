-- The record that a value is read as.
use Rattle.std.specs.Prelude.{◌≡◌, ℕ, ◌<◌, List, [], ◌∷◌, ◌++◌, Some, None, Option}
use Rattle.records.specs.Values.{Shape, identified, tuned, listed, supported, aircraft, ground, unlaid, LaidOut, IsTuning, tuning_octets, IsLocation, location_octets}
use Rattle.records.specs.declared.record.Record.{Record}
use Rattle.records.specs.declared.record.Record.TheVariants.{SetIdentification, Tuned, Listed, Supported, Aircraft, Ground, Unlaid}

abbrev pub shape_of : Record → Shape
shape_of SetIdentification = identified
shape_of (Tuned tuning) = tuned
shape_of (Listed stations) = listed
shape_of (Supported frequencies) = supported
shape_of (Aircraft location altitude) = aircraft
shape_of (Ground location) = ground
shape_of (Unlaid octets) = unlaid

-- the octets that a record is laid out as
abbrev pub record_octets : Record → List ℕ
record_octets SetIdentification = 0x56 ∷ []
record_octets (Tuned tuning) = tuning_octets tuning
record_octets (Listed stations) = stations.octets.now
record_octets (Supported frequencies) = frequencies.octets.now
record_octets (Aircraft location altitude) = location_octets location ++ (altitude ∷ [])
record_octets (Ground location) = location_octets location
record_octets (Unlaid octets) = octets.now

-- a record's numbers have their widths and bounds
abbrev pub Bounded : Record → Type 0
Bounded SetIdentification = Unit {0}
Bounded (Tuned tuning) = IsTuning tuning
Bounded (Listed stations) = Unit {0}
Bounded (Supported frequencies) = Unit {0}
Bounded (Aircraft location altitude) = IsLocation location × (altitude < 256)
Bounded (Ground location) = IsLocation location
Bounded (Unlaid octets) = Unit {0}

-- a value's record: that of its layout, whose octets the value is
pub record Records (s : Shape) (v : List ℕ) (r : Record) : Type 0 where
  pub shaped : shape_of r ≡ s
  pub bounded : Bounded r
  pub laid : record_octets r ≡ v

-- reading a value: its record, or none exactly if it is against its layout
abbrev pub ValueRead : Shape → List ℕ → Option Record → Type 0
ValueRead s v (Some r) = LaidOut s v × Records s v r
ValueRead s v None = LaidOut s v → ⊥

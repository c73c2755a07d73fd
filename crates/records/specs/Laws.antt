-- The laws of values: the layouts are exact.
use Rattle.std.specs.Prelude.{◌≡◌, ℕ, zero, suc, List, [], ◌∷◌, Some, None, Option}
use Rattle.std.specs.List.{flat_map, AllByRecursion}
use Rattle.frame.specs.Addresses.{IsAddress}
use Rattle.records.specs.Values.{IsTuning, tuning_octets, IsLocation, location_octets, station_octets, IsFrequency, frequency_octets, EntryAt}

-- octets are the layout of one value at most
abbrev pub LayoutIsOne : {X : Type 0} → (X → Type 0) → (X → List ℕ) → Type 0
LayoutIsOne {X} P layout = (x y : X) → P x → P y → layout x ≡ layout y → x ≡ y

abbrev pub TuningIsOne : Type 0
TuningIsOne = LayoutIsOne IsTuning tuning_octets

abbrev pub LocationIsOne : Type 0
LocationIsOne = LayoutIsOne IsLocation location_octets

-- the element at an index, or none
abbrev pub element : {X : Type 0} → List X → ℕ → Option X
element [] i = None
element (x ∷ xs) zero = Some x
element (x ∷ xs) (suc i) = element xs i

-- the entries of a list laid out are its elements, and no more
abbrev pub EntriesAreListed : {X : Type 0} → (X → Type 0) → (X → List ℕ) → ℕ → Type 0
EntriesAreListed {X} P layout w =
    (xs : List X) (i : ℕ) (r : Option X) → AllByRecursion P xs → EntryAt P layout w (flat_map layout xs) i r → r ≡ element xs i

abbrev pub StationsAreListed : Type 0
StationsAreListed = EntriesAreListed IsAddress station_octets 4

abbrev pub FrequenciesAreListed : Type 0
FrequenciesAreListed = EntriesAreListed IsFrequency frequency_octets 6

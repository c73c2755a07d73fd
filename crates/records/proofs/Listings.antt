-- Stations and frequencies: what their octets tell, alone and in a list.
use Rattle.std.proofs.Common.{◌≡◌, ℕ, Bool, true, false, List, Some, None, sym, refl, ◌∙◌, arith}
use Rattle.frame.specs.Addresses.{IsAddress, AddressRead}
use Rattle.frame.specs.declared.address.Address.{Address}
use Rattle.frame.specs.declared.address.Addressed.{Addressed}
use Rattle.frame.proofs.Words.{address_octets_one}
use Rattle.records.specs.Values.{tuning_octets, LayoutRead, station_octets, IsFrequency, frequency_octets}
use Rattle.records.specs.Laws.{LayoutIsOne, StationsAreListed, FrequenciesAreListed}
use Rattle.records.specs.declared.values.Tuning.{Tuning}
use Rattle.records.specs.declared.values.Frequency.{Frequency}
use Rattle.records.proofs.Joins.{listed_once}
use Rattle.records.proofs.Tunings.{tuning_one}

station_one : LayoutIsOne IsAddress station_octets
station_one a b h k e = (address_octets_one false false a b h k e).1

-- four octets of status 1 are no address's of status 0
pub other_status : (os : List ℕ) (a : Addressed) → AddressRead os (Some a) → a.status ≡ true → LayoutRead IsAddress station_octets os None
other_status os a read e b h same =
    let one = (address_octets_one false a.status b a.address h read.0 (same ∙ sym read.1)).0 in
    let z : ◌≡◌ {A = Bool} false true = cc in
    let n : ◌≡◌ {A = ℕ} 0 1 = cc in
    omega arith

pub stations_listed : StationsAreListed
stations_listed = listed_once IsAddress station_octets 4 (λ a. refl) station_one (omega arith)

same_frequency : (t u : Tuning) (a b : Address) → t ≡ u → a ≡ b → ◌≡◌ {A = Frequency} (record { tuning = t; station = a }) (record { tuning = u; station = b })
same_frequency t u a b p q = cc

frequency_one : LayoutIsOne IsFrequency frequency_octets
frequency_one f g h k e =
    let first : tuning_octets f.tuning ≡ tuning_octets g.tuning = cc in
    let after : station_octets f.station ≡ station_octets g.station = cc in
    same_frequency f.tuning g.tuning f.station g.station
    (tuning_one f.tuning g.tuning h.tuning k.tuning first)
    (station_one f.station g.station h.station k.station after)

pub frequencies_listed : FrequenciesAreListed
frequencies_listed = listed_once IsFrequency frequency_octets 6 (λ f. refl) frequency_one (omega arith)

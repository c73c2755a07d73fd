-- Parameter values with a layout: which layout each identifier has, and the octets of each value.
use Rattle.std.specs.Prelude.{◌≡◌, ℕ, ◌+◌, ◌-◌, ◌*◌, ◌/◌, ◌%◌, ◌<◌, ◌≤◌, false, cond, ◌≢◌, List, [], ◌∷◌, ◌++◌, take, drop, ℤ, pos, negsuc, Some, None, Option, ◌==◌}
use Rattle.std.specs.List.{flat_map, AllByRecursion}
use Rattle.frame.specs.Addresses.{IsAddress, address_octets}
use Rattle.frame.specs.declared.address.Address.{Address}
use Rattle.register.specs.declared.Group.{Group}
use Rattle.register.specs.declared.Group.TheVariants.{Public, Private}
use Rattle.records.specs.declared.values.Tuning.{Tuning}
use Rattle.records.specs.declared.values.Location.{Location}
use Rattle.records.specs.declared.values.Frequency.{Frequency}

-- the layouts, and that of an identifier; public values and all others have none
pub data Shape : Type 0 where
  identified : Shape
  tuned : Shape
  listed : Shape
  supported : Shape
  aircraft : Shape
  ground : Shape
  unlaid : Shape

abbrev private_shape : ℕ → Shape
private_shape i =
    cond (i == 0x00) identified (cond (i == 0x40) tuned (cond (i == 0x41) listed (cond (i == 0x82) listed
    (cond (i == 0xC0) supported (cond (i == 0x84) aircraft (cond (i == 0xC8) ground unlaid))))))

unfoldable pub shape : Group → ℕ → Shape
shape Public i = unlaid
shape Private i = private_shape i

-- a tuning: four bits of modulation, twelve of frequency
pub record IsTuning (t : Tuning) : Type 0 where
  pub modulation : t.modulation < 16
  pub steps : t.steps < 4096

abbrev pub tuning_octets : Tuning → List ℕ
tuning_octets t = (t.modulation * 16 + t.steps / 256) ∷ (t.steps % 256) ∷ []

-- twelve bits in two's complement
abbrev pub twelve : ℤ → ℕ
twelve (pos n) = n
twelve (negsuc n) = 4095 - n

abbrev pub Within : ℕ → ℤ → Type 0
Within most (pos n) = n ≤ most
Within most (negsuc n) = n < most

-- a place: latitude within 900 tenths of a degree either way, longitude within 1,800
pub record IsLocation (l : Location) : Type 0 where
  pub latitude : Within 900 l.latitude
  pub longitude : Within 1800 l.longitude

-- latitude and longitude, twelve bits each, most significant first
abbrev pub location_octets : Location → List ℕ
location_octets l =
    (twelve l.latitude / 16) ∷ (twelve l.latitude % 16 * 16 + twelve l.longitude / 256) ∷ (twelve l.longitude % 256) ∷ []

-- an address of status 0
abbrev pub station_octets : Address → List ℕ
station_octets a = address_octets false a

-- a tuning, then an address of status 0
pub record IsFrequency (f : Frequency) : Type 0 where
  pub tuning : IsTuning f.tuning
  pub station : IsAddress f.station

abbrev pub frequency_octets : Frequency → List ℕ
frequency_octets f = tuning_octets f.tuning ++ station_octets f.station

-- octets that are a list of values laid out one after another
abbrev pub Joined : {X : Type 0} → (X → Type 0) → (X → List ℕ) → List ℕ → Type 0
Joined {X} P layout v = (xs : List X) × (AllByRecursion P xs × (flat_map layout xs ≡ v))

-- a value that follows a layout
abbrev pub LaidOut : Shape → List ℕ → Type 0
LaidOut identified v = v ≡ 0x56 ∷ []
LaidOut tuned v = (t : Tuning) × (IsTuning t × (tuning_octets t ≡ v))
LaidOut listed v = Joined IsAddress station_octets v
LaidOut supported v = Joined IsFrequency frequency_octets v
LaidOut aircraft v = (l : Location) × ((h : ℕ) × (IsLocation l × (h < 256) × (location_octets l ++ (h ∷ []) ≡ v)))
LaidOut ground v = (l : Location) × (IsLocation l × (location_octets l ≡ v))
LaidOut unlaid v = Unit {0}

-- what reading octets answers: the value whose layout they are, or none
abbrev pub TuningRead : List ℕ → Tuning → Type 0
TuningRead os t = IsTuning t × (tuning_octets t ≡ os)

abbrev pub TwelveRead : ℕ → ℤ → Type 0
TwelveRead n z = Within 2048 z × (twelve z ≡ n)

-- of values that fulfil P, the one whose layout the octets are, or none
abbrev pub LayoutRead : {X : Type 0} → (X → Type 0) → (X → List ℕ) → List ℕ → Option X → Type 0
LayoutRead P layout os (Some x) = P x × (layout x ≡ os)
LayoutRead {X} P layout os None = (x : X) → P x → layout x ≢ os

abbrev pub LocationRead : List ℕ → Option Location → Type 0
LocationRead = LayoutRead IsLocation location_octets

-- the entry at an index of a list, whose entries are w octets each
abbrev pub EntryAt : {X : Type 0} → (X → Type 0) → (X → List ℕ) → ℕ → List ℕ → ℕ → Option X → Type 0
EntryAt P layout w os i r = LayoutRead P layout (take w (drop (w * i) os)) r

-- Addresses and the four octets that they are laid out as.
use Rattle.std.specs.Prelude.{◌≡◌, ℕ, ◌+◌, ◌*◌, ◌/◌, ◌<◌, ◌≤◌, Bool, true, false, cond, ◌≢◌, List, [], ◌∷◌, reverse, Some, None, Ok, Err, Option, Result}
use Rattle.bits.specs.Octets.{low, value}
use Rattle.frame.specs.declared.address.Kind.{Kind}
use Rattle.frame.specs.declared.address.Kind.TheVariants.{Aircraft, GroundAdministered, GroundDelegated, Broadcast}
use Rattle.frame.specs.declared.address.Address.{Address}
use Rattle.frame.specs.declared.address.Addressed.{Addressed}
use Rattle.frame.specs.declared.address.AddressError.{AddressError}
use Rattle.frame.specs.declared.address.AddressError.TheVariants.{UnlistedType, NumberTooLarge}

-- the three bits of each type
abbrev pub type_bits : Kind → ℕ
type_bits Aircraft = 1
type_bits GroundAdministered = 4
type_bits GroundDelegated = 5
type_bits Broadcast = 7

-- the number of 24 bits
abbrev pub address_number : Address → ℕ
address_number a = a.high * 65536 + a.middle * 256 + a.low

-- what every value of the type fulfils: its number is three octets
pub record IsAddress (a : Address) : Type 0 where
  pub high : a.high < 256
  pub middle : a.middle < 256
  pub low : a.low < 256

-- an octet that has seven bits in its bits 2 to 8, the most significant in bit 2, and the mark in bit 1
unfoldable pub septet : Bool → ℕ → ℕ
septet mark bits = value (mark ∷ reverse (low 7 bits))

-- status, type and number as one number of 28 bits
abbrev pub word : Bool → Address → ℕ
word status a = cond status 1 0 * 134217728 + type_bits a.kind * 16777216 + address_number a

-- the layout: seven bits to an octet, most significant first; the mark is 0 in the first three octets and 1 in the fourth
abbrev pub address_octets : Bool → Address → List ℕ
address_octets status a =
    septet false (word status a / 2097152) ∷ septet false (word status a / 16384) ∷ septet false (word status a / 128) ∷ septet true (word status a) ∷ []

-- the kind that has these type bits, or that the type is unlisted where no kind has them
abbrev pub Listed : ℕ → Result Kind AddressError → Type 0
Listed bits (Ok k) = type_bits k ≡ bits
Listed bits (Err e) = (e ≡ UnlistedType) × ((k : Kind) → type_bits k ≢ bits)

-- making an address from type bits and a number: the one that has them; else the type is unlisted, or the number is above 24 bits
abbrev pub AddressMade : ℕ → ℕ → Result Address AddressError → Type 0
AddressMade bits n (Ok a) = IsAddress a × (type_bits a.kind ≡ bits) × (address_number a ≡ n)
AddressMade bits n (Err UnlistedType) = (k : Kind) → type_bits k ≢ bits
AddressMade bits n (Err NumberTooLarge) = ((k : Kind) × (type_bits k ≡ bits)) × (16777216 ≤ n)

-- reading four octets: the address and status whose layout they are, or none where they are no address's layout
abbrev pub AddressRead : List ℕ → Option Addressed → Type 0
AddressRead os (Some a) = IsAddress a.address × (address_octets a.status a.address ≡ os)
AddressRead os None = (status : Bool) (a : Address) → IsAddress a → address_octets status a ≢ os

-- the number of the refusals
abbrev pub address_error_number : AddressError → ℕ
address_error_number UnlistedType = 24
address_error_number NumberTooLarge = 24

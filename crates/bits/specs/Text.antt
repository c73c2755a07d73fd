-- Bits as text: octet 30h is a 0 and 31h a 1; all else is passed over.
use Rattle.std.specs.Prelude.{ℕ, Bool, true, false, cond, List, [], ◌∷◌, map, take, ◌==◌, nat_eq}
use Rattle.std.specs.List.{flat_map}
use Rattle.bits.specs.declared.text.TextSource.{TextSource}

-- the bit that an octet stands for, or none
abbrev pub text_bit : ℕ → List Bool
text_bit o = cond (o == 48) (false ∷ []) (cond (o == 49) (true ∷ []) [])

-- the bits that a text stands for
abbrev pub text_bits : List ℕ → List Bool
text_bits os = flat_map text_bit os

-- what waits in a text source: the bits of the text not yet passed
abbrev pub text_waiting : TextSource → List Bool
text_waiting s = text_bits s.rest.now

-- the octet that a bit is written as
abbrev pub text_octet : Bool → ℕ
text_octet b = cond b 49 48

-- the bits in the first octets of a text, as many as a count says: 1 for 31h
abbrev pub is_one : ℕ → Bool
is_one o = nat_eq o 49

abbrev pub text_first : ℕ → List ℕ → List Bool
text_first n os = map is_one (take n os)

-- Octets of seven bits and a mark: every value of the seven bits, and every octet, tested by tests that are computed.
use Rattle.std.proofs.Common.{◌≡◌, ℕ, ◌%◌, ◌<◌, Bool, true, false, cond, eqb, ◌∷◌, reverse, sym, refl, ap, ◌∙◌, arith}
use lib.Bits.{bit_and, bit_or}
use mir.Val.{bool_byte}
use Rattle.std.specs.Int.{reverse_bits_onto}
use Rattle.std.proofs.lemmas.Bool.{eqb-true, agree_below, agree_below_at}
use Rattle.bits.specs.Octets.{low, value}
use Rattle.bits.proofs.Low.{low_mod}
use Rattle.bits.proofs.Values.{value_below}
use Rattle.frame.specs.Addresses.{septet}

-- seven bits laid behind a mark, and taken from behind it, as the code does it
abbrev pub made : Bool → ℕ → ℕ
made mark g = bit_or (reverse_bits_onto 8 g 0) (bool_byte mark)

abbrev pub taken : ℕ → ℕ
taken o = bit_and (reverse_bits_onto 8 o 0) 127

made_right : Bool → ℕ → Bool
made_right mark g = eqb (made mark g) (septet mark g)

taken_right : Bool → ℕ → Bool
taken_right mark g = eqb (taken (septet mark g)) g

read_right : ℕ → Bool
read_right o = eqb (septet (eqb (o % 2) 1) (taken o)) o

all_made : (mark : Bool) → agree_below (made_right mark) (λ n. true) 128 ≡ true
unfolding made_right septet low value reverse_bits_onto
all_made true = refl
all_made false = refl

all_taken : (mark : Bool) → agree_below (taken_right mark) (λ n. true) 128 ≡ true
unfolding taken_right septet low value reverse_bits_onto
all_taken true = refl
all_taken false = refl

all_read : agree_below read_right (λ n. true) 256 ≡ true
unfolding read_right septet low value reverse_bits_onto
all_read = refl

-- what lies above seven bits does not matter
pub septet_mod : (mark : Bool) (n : ℕ) → septet mark (n % 128) ≡ septet mark n
unfolding septet
septet_mod mark n = ap (λ l. value (mark ∷ reverse l)) (low_mod 7 n)

pub septet_below : (mark : Bool) (n : ℕ) → septet mark n < 256
unfolding septet low
septet_below mark n = value_below (mark ∷ reverse (low 7 n))

-- the mark is bit 1
pub septet-odd : (mark : Bool) (n : ℕ) → septet mark n % 2 ≡ cond mark 1 0
unfolding septet value
septet-odd true n = omega arith
septet-odd false n = omega arith

pub septet-made : (mark : Bool) (n : ℕ) → made mark (n % 128) ≡ septet mark n
unfolding made_right
septet-made mark n = eqb-true _ _ (agree_below_at (made_right mark) (λ n. true) 128 (n % 128) (all_made mark) (omega arith)) ∙ septet_mod mark n

pub taken-septet : (mark : Bool) (n : ℕ) → taken (septet mark n) ≡ n % 128
unfolding taken_right
taken-septet mark n =
    sym (ap taken (septet_mod mark n)) ∙ eqb-true _ _ (agree_below_at (taken_right mark) (λ n. true) 128 (n % 128) (all_taken mark) (omega arith))

pub septet-taken : (o : ℕ) → o < 256 → septet (eqb (o % 2) 1) (taken o) ≡ o
unfolding read_right
septet-taken o h = eqb-true _ _ (agree_below_at read_right (λ n. true) 256 o all_read h)

-- so the octet tells the seven bits
pub septet_one : (mark : Bool) (m n : ℕ) → septet mark m ≡ septet mark n → m % 128 ≡ n % 128
septet_one mark m n e = sym (taken-septet mark m) ∙ ap taken e ∙ taken-septet mark n

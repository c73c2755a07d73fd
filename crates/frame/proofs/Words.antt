-- The number of 28 bits that an address and its status make up: what its four octets tell of it.
use Rattle.std.proofs.Common.{◌≡◌, ℕ, zero, suc, ◌+◌, ◌*◌, ◌/◌, ◌%◌, ◌<◌, Bool, true, false, cond, eqb, ◌≢◌, List, [], ◌∷◌, length, get_or, Some, None, Ok, Err, Option, Result, sym, refl, ap, ◌∙◌, arith, lit<}
use Rattle.std.specs.Option.{is_some}
use Rattle.std.specs.Result.{result_ok}
use Rattle.std.proofs.lemmas.List.{take_all}
use Rattle.std.specs.List.{AllByRecursion}
use Rattle.frame.specs.Addresses.{type_bits, IsAddress, septet, word, address_octets, Listed, AddressRead}
use Rattle.frame.specs.Opening.{mark}
use Rattle.frame.specs.Parts.{MarksRead}
use Rattle.frame.specs.declared.address.Kind.{Kind}
use Rattle.frame.specs.declared.address.Kind.TheVariants.{Aircraft, GroundAdministered, GroundDelegated, Broadcast}
use Rattle.frame.specs.declared.address.Address.{Address}
use Rattle.frame.specs.declared.address.AddressError.{AddressError}
use Rattle.frame.proofs.Digits.{digit_below, digit_one}
use Rattle.frame.proofs.Headers.{four-taken}
use Rattle.frame.proofs.Septets.{septet_mod, septet_below, septet-odd, septet_one}

type_below : (k : Kind) → type_bits k < 8
type_below Aircraft = omega arith
type_below GroundAdministered = omega arith
type_below GroundDelegated = omega arith
type_below Broadcast = omega arith

-- the kind that type bits tell
kind_of : ℕ → Kind
kind_of n = cond (eqb n 1) Aircraft (cond (eqb n 4) GroundAdministered (cond (eqb n 5) GroundDelegated Broadcast))

kind_back : (k : Kind) → kind_of (type_bits k) ≡ k
unfolding kind_of
kind_back Aircraft = refl
kind_back GroundAdministered = refl
kind_back GroundDelegated = refl
kind_back Broadcast = refl

type_one : (j k : Kind) → type_bits j ≡ type_bits k → j ≡ k
type_one j k e = sym (kind_back j) ∙ ap kind_of e ∙ kind_back k

word_below : (s : Bool) (a : Address) → IsAddress a → word s a < 268435456
word_below s a h = omega (arith, digit_below s, type_below a.kind)

-- the type bits that a word tells
word_type : (s : Bool) (a : Address) → IsAddress a → word s a / 16777216 % 8 ≡ type_bits a.kind
word_type s a h = omega (arith, digit_below s, type_below a.kind)

word_one : (s t : Bool) (a b : Address) → IsAddress a → IsAddress b → word s a ≡ word t b → (s ≡ t) × (a ≡ b)
word_one s t a b h k e =
    let m = digit_below s in
    let n = digit_below t in
    let p = type_below a.kind in
    let q = type_below b.kind in
    let kind = type_one a.kind b.kind (omega arith) in
    let high : a.high ≡ b.high = omega arith in
    let middle : a.middle ≡ b.middle = omega arith in
    let low : a.low ≡ b.low = omega arith in
    (digit_one s t (omega arith), λ i. record { kind = kind i; high = high i; middle = middle i; low = low i })

-- a number of 28 bits, laid seven bits to an octet
abbrev pub septets : ℕ → List ℕ
septets w = septet false (w / 2097152) ∷ septet false (w / 16384) ∷ septet false (w / 128) ∷ septet true w ∷ []

digits_one : (v w : ℕ) → v < 268435456 → w < 268435456
    → v / 2097152 % 128 ≡ w / 2097152 % 128 → v / 16384 % 128 ≡ w / 16384 % 128 → v / 128 % 128 ≡ w / 128 % 128 → v % 128 ≡ w % 128
    → v ≡ w
digits_one v w few less e f g h = omega arith

septets_one : (v w : ℕ) → v < 268435456 → w < 268435456 → septets v ≡ septets w → v ≡ w
septets_one v w few less e =
    let first : septet false (v / 2097152) ≡ septet false (w / 2097152) = cc in
    let second : septet false (v / 16384) ≡ septet false (w / 16384) = cc in
    let third : septet false (v / 128) ≡ septet false (w / 128) = cc in
    let fourth : septet true v ≡ septet true w = cc in
    digits_one v w few less
    (septet_one false (v / 2097152) (w / 2097152) first)
    (septet_one false (v / 16384) (w / 16384) second)
    (septet_one false (v / 128) (w / 128) third)
    (septet_one true v w fourth)

pub address_octets_one : (s t : Bool) (a b : Address) → IsAddress a → IsAddress b → address_octets s a ≡ address_octets t b → (s ≡ t) × (a ≡ b)
address_octets_one s t a b h k e =
    word_one s t a b h k (septets_one (word s a) (word t b) (word_below s a h) (word_below t b k) e)

pub address_octets_below : (s : Bool) (a : Address) → AllByRecursion (λ o. o < 256) (address_octets s a)
address_octets_below s a =
    let w = word s a in
    (septet_below false (w / 2097152), (septet_below false (w / 16384), (septet_below false (w / 128), (septet_below true w, tt))))

septets_marks : (w k : ℕ) → k < 4 → get_or (septets w) k 0 % 2 ≡ mark k
septets_marks w zero h = septet-odd false (w / 2097152)
septets_marks w (suc zero) h = septet-odd false (w / 16384)
septets_marks w (suc (suc zero)) h = septet-odd false (w / 128)
septets_marks w (suc (suc (suc zero))) h = septet-odd true w
septets_marks w (suc (suc (suc (suc k)))) h = absurd (omega arith)

pub laid_marks : (os : List ℕ) (s : Bool) (a : Address) → address_octets s a ≡ os → (k : ℕ) → k < 4 → get_or os k 0 % 2 ≡ mark k
laid_marks os s a e k h = ap (λ l. get_or l k 0 % 2) (sym e) ∙ septets_marks (word s a) k h

-- seven bits that stand behind an octet's mark
abbrev Behind : ℕ → ℕ → Type 0
Behind o g = (septet (eqb (o % 2) 1) g ≡ o) × (g < 128)

laid_digit : (m : Bool) (n g o : ℕ) → o % 2 ≡ cond m 1 0 → Behind o g → n % 128 ≡ g → septet m n ≡ o
laid_digit true n g o odd b e = sym (septet_mod true n) ∙ ap (septet true) e ∙ rw odd at b.0
laid_digit false n g o even b e = sym (septet_mod false n) ∙ ap (septet false) e ∙ rw even at b.0

-- four octets whose marks are right are the layout of the number that their bits make up
pub joined_laid : (os : List ℕ) {a b c d : ℕ} → length os ≡ 4
    → Behind (get_or os 0 0) a → Behind (get_or os 1 0) b → Behind (get_or os 2 0) c → Behind (get_or os 3 0) d
    → ((k : ℕ) → k < 4 → get_or os k 0 % 2 ≡ mark k)
    → septets (((a * 128 + b) * 128 + c) * 128 + d) ≡ os
joined_laid os {a} {b} {c} {d} n p q r t marks =
    let w : ℕ = ((a * 128 + b) * 128 + c) * 128 + d in
    let first = laid_digit false (w / 2097152) a (get_or os 0 0) (marks 0 (lit< tt)) p (omega arith) in
    let second = laid_digit false (w / 16384) b (get_or os 1 0) (marks 1 (lit< tt)) q (omega arith) in
    let third = laid_digit false (w / 128) c (get_or os 2 0) (marks 2 (lit< tt)) r (omega arith) in
    let fourth = laid_digit true w d (get_or os 3 0) (marks 3 (lit< tt)) t (omega arith) in
    let whole = sym (four-taken os 0 (omega arith)) ∙ take_all 4 os (omega arith) in
    cc

-- no address is laid out with a wrong mark
pub marks_wrong : (os : List ℕ) (r : Option ℕ) → MarksRead os r → is_some r ≡ true → AddressRead os None
marks_wrong os (Some p) (few, wrong, before) e = λ s a h laid. wrong (laid_marks os s a laid p few)
marks_wrong os None all e = absurd (cc)

pub marks_right : (os : List ℕ) (r : Option ℕ) → MarksRead os r → is_some r ≡ false → (k : ℕ) → k < 4 → get_or os k 0 % 2 ≡ mark k
marks_right os (Some p) h e = absurd (cc)
marks_right os None all e = all

-- the kind that type bits were read as, if any
pub listed_some : (t : ℕ) (r : Result Kind AddressError) → Listed t r → {k : Kind} → result_ok r ≡ Some k → type_bits k ≡ t
listed_some t (Ok k) h e = cc
listed_some t (Err f) h e = absurd (cc)

pub listed_none : (t : ℕ) (r : Result Kind AddressError) → Listed t r → result_ok r ≡ None → (k : Kind) → type_bits k ≢ t
listed_none t (Ok k) h e = absurd (cc)
listed_none t (Err f) h e = h.1

module _ (os : List ℕ) (w : ℕ) (laid : septets w ≡ os) (few : w < 268435456) where
  -- the address whose parts a word has is laid out as that word
  pub read_some : (k : Kind) → type_bits k ≡ w / 16777216 % 256 % 8
      → AddressRead os
      (Some
      (record {
        address = record { kind = k; high = w / 65536 % 256; middle = w / 256 % 256; low = w % 256 };
        status = eqb (w / 16777216 % 256 / 8) 1;
      }))
  read_some k type =
      let a : Address = record { kind = k; high = w / 65536 % 256; middle = w / 256 % 256; low = w % 256 } in
      let top : cond (eqb (w / 16777216 % 256 / 8) 1) 1 0 ≡ w / 134217728 = grind arith in
      let whole : word (eqb (w / 16777216 % 256 / 8) 1) a ≡ w = omega arith in
      (record { high = omega arith; middle = omega arith; low = omega arith }, ap septets whole ∙ laid)

  -- where no kind has a word's type bits, no address is laid out as it
  pub read_none : ((k : Kind) → type_bits k ≢ w / 16777216 % 256 % 8) → AddressRead os None
  read_none none s a h e =
      let same = septets_one (word s a) w (word_below s a h) few (e ∙ sym laid) in
      none a.kind (sym (word_type s a h) ∙ ap (λ n. n / 16777216 % 8) same ∙ omega arith)

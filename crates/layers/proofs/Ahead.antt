-- Bits of the sequence computed ahead: the queue's bits are those of the sequence, and a bit taken uses one of them.
use Rattle.std.proofs.Common.{◌≡◌, ℕ, zero, suc, ◌+◌, ◌-◌, ◌*◌, ◌/◌, ◌%◌, ◌^◌, ◌<◌, ◌≤◌, Bool, false, eqb, List, [], ◌∷◌, ◌++◌, length, get_or, drop, ℤ, pos, sym, refl, ap, ◌∙◌, mod-lt, mul_comm, arith, pow_pos}
use mathlib.Core.Bool.{xor}
use native.Mathlib.Nat.{div-div-eq-div-mul, pow-succ'}
use lib.Bits.{bit_and, bit_or, bit_xor, and_mask, or_shifted_r, xor_shr}
use Rattle.std.proofs.lemmas.Nat.{div-add-mod'}
use Rattle.bits.specs.Octets.{low}
use Rattle.bits.proofs.Low.{odd_xor, low_more, low-over, low_mod}
use Rattle.bits.proofs.Sent.{length-low, low_at}
use Rattle.layers.specs.Sequence.{onward, moved, sequence, combined}
use Rattle.layers.specs.Scrambling.{keyed}
use Rattle.layers.proofs.Sequences.{on_shift, length-onward}
use Rattle.layers.proofs.Combining.{combined_on}
use Rattle.layers.proofs.Scrambles.{moved_last}

-- a number without its lowest bits, and these taken off one by one or in another order
half_first : (n k : ℕ) → n / 2 / 2 ^ k ≡ n / 2 ^ suc k
half_first n k = div-div-eq-div-mul n 2 (2 ^ k) ∙ ap (λ m. n / m) (sym (pow-succ' 2 k))

other_order : (n a b : ℕ) → n / a / b ≡ n / b / a
other_order n a b = div-div-eq-div-mul n a b ∙ ap (λ m. n / m) (mul_comm a b) ∙ sym (div-div-eq-div-mul n b a)

-- bit k of a number
abbrev bit : ℕ → ℕ → Bool
bit n k = eqb (n / 2 ^ k % 2) 1

-- numbers with the same lowest bits have the same bit at each of these places
same_bit : (w m n k : ℕ) → low w m ≡ low w n → k < w → bit m k ≡ bit n k
same_bit w m n k same few = sym (low_at w m k few) ∙ ap (λ l. get_or l k false) same ∙ low_at w n k few

-- the lowest bits, the highest of them apart
low_last : (k n : ℕ) → low (suc k) n ≡ low k n ++ bit n k ∷ []
low_last k n =
    let rest : n % 2 ^ k < 2 ^ k = mod-lt n (pow_pos k) in
    ap (low (suc k)) (sym (div-add-mod' n (2 ^ k)))
    ∙ low_more k (n / 2 ^ k) (n % 2 ^ k) rest
    ∙ ap (λ l. l ++ bit n k ∷ []) (low_mod k n)

low-rest : (k n : ℕ) → drop 1 (low (suc k) n) ≡ low k (n / 2)
unfolding low
low-rest k n = refl

-- one bit off: the fifteen lowest are then those one place on, if the bit that comes in is the one by the rule
one_off : (n : ℕ) → bit n 15 ≡ xor (bit n 1) (bit n 0) → low 15 (n / 2) ≡ onward (low 15 n)
one_off n rule =
    low_last 14 (n / 2)
    ∙ ap (λ x. low 14 (n / 2) ++ x ∷ []) (ap (λ m. eqb (m % 2) 1) (half_first n 14) ∙ rule ∙ two)
    ∙ ap (λ l. l ++ xor (get_or (low 15 n) 1 false) (get_or (low 15 n) 0 false) ∷ []) (sym (low-rest 14 n))
  where
    two : xor (bit n 1) (bit n 0) ≡ xor (get_or (low 15 n) 1 false) (get_or (low 15 n) 0 false)
    two =
        ap (λ x. xor x (bit n 0)) (sym (low_at 15 n 1 (omega arith))) ∙ ap (xor (get_or (low 15 n) 1 false)) (sym (low_at 15 n 0 (omega arith)))

-- Fifteen bits, and fourteen more above them

module _ (q : ℕ) where
  first : ℕ
  first = q % 2 ^ 15

  next : ℕ
  next = bit_xor (first / 2) first % 2 ^ 14

  queue : ℕ
  queue = next * 2 ^ 15 + first

  above : queue / 2 ^ 15 ≡ next
  unfolding queue first next
  above = omega arith

  same_first : low 15 queue ≡ low 15 first
  unfolding queue
  same_first = low-over 15 next first

  next_bit : (k : ℕ) → k < 14 → bit next k ≡ xor (bit first (suc k)) (bit first k)
  unfolding next
  next_bit k few =
      same_bit 14 next (bit_xor (first / 2) first) k (low_mod 14 (bit_xor (first / 2) first)) few
      ∙ ap (λ n. eqb (n % 2) 1) (xor_shr (first / 2) first k)
      ∙ odd_xor (first / 2 / 2 ^ k) (first / 2 ^ k)
      ∙ ap (λ n. xor (eqb (n % 2) 1) (bit first k)) (half_first first k)

  -- the fourteen are by the rule
  by_rule : (k : ℕ) → k < 14 → bit (queue / 2 ^ k) 15 ≡ xor (bit (queue / 2 ^ k) 1) (bit (queue / 2 ^ k) 0)
  by_rule k few =
      let second : queue / 2 ^ suc k ≡ queue / 2 ^ k / 2 ^ 1 = sym (half_first queue k) ∙ other_order queue 2 (2 ^ k) in
      let whole : queue / 2 ^ k ≡ queue / 2 ^ k / 2 ^ 0 = omega arith in
      ap (λ n. eqb (n % 2) 1) (other_order queue (2 ^ k) (2 ^ 15))
      ∙ ap (λ n. bit n k) above
      ∙ next_bit k few
      ∙ ap (λ x. xor x (bit first k)) (sym (same_bit 15 queue first (suc k) same_first (omega arith)))
      ∙ ap (xor (bit queue (suc k))) (sym (same_bit 15 queue first k same_first (omega arith)))
      ∙ ap (λ n. xor (eqb (n % 2) 1) (bit queue k)) second
      ∙ ap (λ n. xor (bit (queue / 2 ^ k) 1) (eqb (n % 2) 1)) whole

  queued : (k : ℕ) → k ≤ 14 → low 15 (queue / 2 ^ k) ≡ moved onward k (low 15 q)
  unfolding first
  queued zero few = let whole : queue / 1 ≡ queue = omega arith in ap (low 15) whole ∙ same_first ∙ low_mod 15 q
  queued (suc k) few =
      ap (low 15) (sym (half_first queue k) ∙ other_order queue 2 (2 ^ k))
      ∙ one_off (queue / 2 ^ k) (by_rule k (omega arith))
      ∙ ap onward (queued k (omega arith))
      ∙ moved_last onward k (low 15 q)

  put_together : bit_or (bit_and q 32767) ((bit_and (bit_xor (bit_and q 32767 / 2) (bit_and q 32767)) 16383 * 2 ^ 15) % 2 ^ 32) ≡ queue
  unfolding queue next first
  put_together =
      let whole : next * 2 ^ 15 % 2 ^ 32 ≡ next * 2 ^ 15 = omega arith in
      let small : first < 2 ^ 15 = omega arith in
      ap (λ n. bit_or n ((bit_and (bit_xor (n / 2) n) 16383 * 2 ^ 15) % 2 ^ 32)) (and_mask q 15)
      ∙ ap (λ n. bit_or first ((n * 2 ^ 15) % 2 ^ 32)) (and_mask (bit_xor (first / 2) first) 14)
      ∙ ap (bit_or first) whole
      ∙ or_shifted_r next 15 first small

pub fourteen : (q k : ℕ) → k ≤ 14
    → low 15 (bit_or (bit_and q 32767) ((bit_and (bit_xor (bit_and q 32767 / 2) (bit_and q 32767)) 16383 * 2 ^ 15) % 2 ^ 32) / 2 ^ k)
    ≡ moved onward k (low 15 q)
fourteen q k few = ap (λ n. low 15 (n / 2 ^ k)) (put_together q) ∙ queued q k few

-- Bits combined with keys

-- keys that are the sequence's first bits, and the sequence behind them
keyed_on : (n e : ℕ) (w bits : List Bool) → length w ≡ 15 → ((k : ℕ) → k ≤ n → low 15 (e / 2 ^ k) ≡ moved onward k w)
    → keyed (low n e) (sequence (low 15 (e / 2 ^ n))) bits ≡ combined (sequence w) (pos 0) bits
unfolding keyed low combined sequence
keyed_on zero e w bits long is = ap (λ v. combined (sequence v) (pos 0) bits) (is 0 (omega arith))
keyed_on (suc n) e w [] long is = refl
keyed_on (suc n) e w (b ∷ bs) long is =
    let whole : e ≡ e / 1 = omega arith in
    ap (λ x. xor b x ∷ keyed (low n (e / 2)) (sequence (low 15 (e / 2 ^ suc n))) bs)
    (ap (λ m. get_or (low 15 m) 0 false) whole ∙ ap (λ v. get_or v 0 false) (is 0 (omega arith)))
    ∙ ap (λ m. xor b (get_or w 0 false) ∷ keyed (low n (e / 2)) (sequence (low 15 m)) bs) (sym (half_first e n))
    ∙ ap (λ l. xor b (get_or w 0 false) ∷ l) (keyed_on n (e / 2) (onward w) bs (length-onward w long)
    (λ k few. ap (low 15) (half_first e k) ∙ is (suc k) (omega arith)))
    ∙ ap (λ l. xor b (get_or w 0 false) ∷ l) (combined_on (sequence (onward w)) (sequence w) (on_shift w long) (pos 0) bs)

pub keyed-none : (keys : List Bool) (s : ℤ → Bool) (bits : List Bool) → bits ≡ [] → keyed keys s bits ≡ []
unfolding keyed combined
keyed-none [] s bits is = ap (combined s (pos 0)) is
keyed-none (k ∷ ks) s bits is = ap (keyed (k ∷ ks) s) is

-- no key ahead
pub keyed_start : (q : ℕ) (bits : List Bool) → keyed (low 0 q) (sequence (low 15 (q / 2 ^ 0))) bits ≡ combined (sequence (low 15 q)) (pos 0) bits
unfolding keyed low
keyed_start q bits = let whole : q / 1 ≡ q = omega arith in ap (λ n. combined (sequence (low 15 n)) (pos 0) bits) whole

-- fourteen keys ahead in place of none
pub keyed_fourteen : (q e a : ℕ) (bits : List Bool) → a ≡ 0 → ((k : ℕ) → k ≤ 14 → low 15 (e / 2 ^ k) ≡ moved onward k (low 15 q))
    → keyed (low a q) (sequence (low 15 (q / 2 ^ a))) bits ≡ keyed (low 14 e) (sequence (low 15 (e / 2 ^ 14))) bits
keyed_fourteen q e a bits none is =
    ap (λ n. keyed (low n q) (sequence (low 15 (q / 2 ^ n))) bits) none
    ∙ keyed_start q bits
    ∙ sym (keyed_on 14 e (low 15 q) bits (length-low 15 q) is)

-- the first bit waiting below, combined with the first key
pub keyed_first : (q a : ℕ) (b : Bool) (before after : List Bool) → 0 < a → before ≡ b ∷ after
    → keyed (low a q) (sequence (low 15 (q / 2 ^ a))) before
    ≡ xor b (eqb (bit_and q 1) 1) ∷ keyed (low (a - 1) (q / 2)) (sequence (low 15 (q / 2 / 2 ^ (a - 1)))) after
unfolding keyed low
keyed_first q zero b before after some is = absurd (omega arith)
keyed_first q (suc a) b before after some is =
    let rest : a ≡ suc a - 1 = omega arith in
    ap (keyed (low (suc a) q) (sequence (low 15 (q / 2 ^ suc a)))) is
    ∙ ap (λ n. xor b (eqb n 1) ∷ keyed (low a (q / 2)) (sequence (low 15 (q / 2 ^ suc a))) after) (sym (and_mask q 1))
    ∙ ap (λ n. xor b (eqb (bit_and q 1) 1) ∷ keyed (low a (q / 2)) (sequence (low 15 n)) after) (sym (half_first q a))
    ∙ ap (λ n. xor b (eqb (bit_and q 1) 1) ∷ keyed (low n (q / 2)) (sequence (low 15 (q / 2 / 2 ^ n))) after) rest

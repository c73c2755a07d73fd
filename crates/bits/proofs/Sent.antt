-- Laws of octets as bits.
use Rattle.std.proofs.Common.{◌≡◌, ℕ, zero, suc, ◌+◌, ◌-◌, ◌*◌, ◌/◌, ◌%◌, ◌^◌, ◌<◌, Bool, false, eqb, List, [], ◌∷◌, ◌++◌, length, get_or, take, set, sym, refl, ap, ◌∙◌, append_assoc, arith, length-append}
use native.Mathlib.Nat.{div-div-eq-div-mul, pow-succ'}
use Rattle.std.proofs.lemmas.List.{append-nil, take_more, get_or_append_left, get_or-append_right, set-append_left, set-append_right}
use Rattle.bits.specs.Octets.{low, sent}

pub sent-append : (xs ys : List ℕ) → sent (xs ++ ys) ≡ sent xs ++ sent ys
unfolding sent
sent-append [] ys = refl
sent-append (x ∷ xs) ys = ap (λ l. low 8 x ++ l) (sent-append xs ys) ∙ sym (append_assoc (low 8 x) (sent xs) (sent ys))

pub sent_one : (o : ℕ) → sent (o ∷ []) ≡ low 8 o
unfolding sent
sent_one o = append-nil (low 8 o)

-- one octet more
pub sent_more : (os : List ℕ) (i : ℕ) → i < length os → sent (take (i + 1) os) ≡ sent (take i os) ++ low 8 (get_or os i 0)
sent_more os i h =
    ap sent (take_more os i 0 h) ∙ sent-append (take i os) (get_or os i 0 ∷ []) ∙ ap (λ l. sent (take i os) ++ l) (sent_one (get_or os i 0))

pub length-low : (w n : ℕ) → length (low w n) ≡ w
unfolding low
length-low zero n = refl
length-low (suc w) n = ap suc (length-low w (n / 2))

pub length-sent : (os : List ℕ) → length (sent os) ≡ 8 * length os
unfolding sent
length-sent [] = refl
length-sent (o ∷ os) =
    let here = length-append (low 8 o) (sent os) in
    let eight = length-low 8 o in
    let rest = length-sent os in
    omega arith

-- bit k of a number
pub low_at : (w n k : ℕ) → k < w → get_or (low w n) k false ≡ eqb (n / 2 ^ k % 2) 1
unfolding low
low_at zero n k h = absurd (omega arith)
low_at (suc w) n zero h = let one : n / 1 % 2 ≡ n % 2 = omega arith in ap (λ m. eqb m 1) (sym one)
low_at (suc w) n (suc k) h =
    low_at w (n / 2) k (omega arith)
    ∙ ap (λ m. eqb (m % 2) 1) (div-div-eq-div-mul n 2 (2 ^ k) ∙ ap (λ m. n / m) (sym (pow-succ' 2 k)))

block_at : (os : List ℕ) (i k : ℕ) → i < length os → k < 8 → get_or (sent os) (8 * i + k) false ≡ get_or (low 8 (get_or os i 0)) k false
unfolding sent
block_at [] i k h few = absurd (omega arith)
block_at (o ∷ os) zero k h few =
    let eight = length-low 8 o in
    let here : 8 * 0 + k ≡ k = omega arith in
    ap (λ n. get_or (low 8 o ++ sent os) n false) here ∙ get_or_append_left (low 8 o) (sent os) false k (omega arith)
block_at (o ∷ os) (suc i) k h few =
    let there : 8 * suc i + k - 8 ≡ 8 * i + k = omega arith in
    get_or-append_right (low 8 o) (sent os) 8 (8 * suc i + k) false (length-low 8 o) (omega arith)
    ∙ ap (λ n. get_or (sent os) n false) there
    ∙ block_at os i k (omega arith) few

block_set : (os : List ℕ) (i k o : ℕ) (b : Bool) → i < length os → k < 8 → low 8 o ≡ set (low 8 (get_or os i 0)) k b
    → sent (set os i o) ≡ set (sent os) (8 * i + k) b
unfolding sent
block_set [] i k o b h few is = absurd (omega arith)
block_set (x ∷ os) zero k o b h few is =
    let eight = length-low 8 x in
    let here : 8 * 0 + k ≡ k = omega arith in
    ap (λ l. l ++ sent os) is
    ∙ sym (set-append_left (low 8 x) (sent os) k b (omega arith))
    ∙ ap (λ n. set (low 8 x ++ sent os) n b) (sym here)
block_set (x ∷ os) (suc i) k o b h few is =
    let there : 8 * suc i + k - 8 ≡ 8 * i + k = omega arith in
    ap (λ l. low 8 x ++ l) (block_set os i k o b (omega arith) few is)
    ∙ ap (λ n. low 8 x ++ set (sent os) n b) (sym there)
    ∙ sym (set-append_right (low 8 x) (sent os) 8 (8 * suc i + k) b (length-low 8 x) (omega arith))

-- bit n of octets: bit n % 8 of octet n / 8
pub sent_at : (os : List ℕ) (n : ℕ) → n < 8 * length os → get_or (sent os) n false ≡ get_or (low 8 (get_or os (n / 8) 0)) (n % 8) false
sent_at os n h =
    let whole : 8 * (n / 8) + n % 8 ≡ n = omega arith in
    ap (λ m. get_or (sent os) m false) (sym whole) ∙ block_at os (n / 8) (n % 8) (omega arith) (omega arith)

-- one bit of one octet changed
pub sent_set : (os : List ℕ) (n o : ℕ) (b : Bool) → n < 8 * length os → low 8 o ≡ set (low 8 (get_or os (n / 8) 0)) (n % 8) b
    → sent (set os (n / 8) o) ≡ set (sent os) n b
sent_set os n o b h is =
    let whole : 8 * (n / 8) + n % 8 ≡ n = omega arith in
    block_set os (n / 8) (n % 8) o b (omega arith) (omega arith) is ∙ ap (λ m. set (sent os) m b) whole

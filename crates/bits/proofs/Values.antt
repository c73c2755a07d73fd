-- Bits packed into octets: the octets whose bits, as they are sent, are these.
use Rattle.std.proofs.Common.{◌≡◌, ℕ, zero, suc, ◌+◌, ◌-◌, ◌*◌, ◌/◌, ◌%◌, ◌^◌, ◌<◌, Bool, true, false, cond, eqb, List, [], ◌∷◌, ◌++◌, length, sym, refl, ap, ◌∙◌, mul_assoc, pow-suc, arith}
use Rattle.std.specs.List.{AllByRecursion}
use Rattle.bits.specs.Octets.{low, value, sent}
use Rattle.bits.proofs.Sent.{length-low, length-sent}

pub value_below : (bs : List Bool) → value bs < 2 ^ length bs
unfolding value
value_below [] = omega arith
value_below (true ∷ bs) = omega (arith, value_below bs, pow-suc 2 (length bs))
value_below (false ∷ bs) = omega (arith, value_below bs, pow-suc 2 (length bs))

odd-value : (n : ℕ) → cond (eqb (n % 2) 1) 1 0 ≡ n % 2
odd-value n = grind arith

pub value_low : (k n : ℕ) → n < 2 ^ k → value (low k n) ≡ n
unfolding value low
value_low zero n h = omega arith
value_low (suc k) n h =
    let lowest = odd-value n in
    let less : n / 2 < 2 ^ k = omega (arith, pow-suc 2 k) in
    let higher = value_low k (n / 2) less in
    omega arith

more : (c k v w x : ℕ) → w ≡ v + c * 2 ^ k → x + 2 * w ≡ x + 2 * v + c * 2 ^ suc k
more c k v w x e = let p : c * 2 ^ suc k ≡ c * 2 ^ k * 2 = ap (λ (n : ℕ). c * n) (pow-suc 2 k) ∙ sym (mul_assoc c (2 ^ k) 2) in omega arith

-- one bit more, on top
pub value_push : (bs : List Bool) (b : Bool) → value (bs ++ (b ∷ [])) ≡ value bs + cond b 1 0 * 2 ^ length bs
unfolding value
value_push [] true = refl
value_push [] false = refl
value_push (true ∷ bs) b = let r = value_push bs b in more (cond b 1 0) (length bs) (value bs) (value (bs ++ (b ∷ []))) 1 r
value_push (false ∷ bs) b = let r = value_push bs b in more (cond b 1 0) (length bs) (value bs) (value (bs ++ (b ∷ []))) 0 r

pub low_value : (bs : List Bool) → low (length bs) (value bs) ≡ bs
unfolding value low
low_value [] = refl
low_value (true ∷ bs) =
    let a : eqb (value (true ∷ bs) % 2) 1 ≡ true = grind arith in
    let b : value (true ∷ bs) / 2 ≡ value bs = omega arith in
    let r = low_value bs in cc
low_value (false ∷ bs) =
    let a : eqb (value (false ∷ bs) % 2) 1 ≡ false = grind arith in
    let b : value (false ∷ bs) / 2 ≡ value bs = omega arith in
    let r = low_value bs in cc

-- the octets that bits make up; what does not fill an octet is left out
unfoldable pub octets_of : List Bool → List ℕ
octets_of [] = []
octets_of (a ∷ []) = []
octets_of (a ∷ b ∷ []) = []
octets_of (a ∷ b ∷ c ∷ []) = []
octets_of (a ∷ b ∷ c ∷ d ∷ []) = []
octets_of (a ∷ b ∷ c ∷ d ∷ e ∷ []) = []
octets_of (a ∷ b ∷ c ∷ d ∷ e ∷ f ∷ []) = []
octets_of (a ∷ b ∷ c ∷ d ∷ e ∷ f ∷ g ∷ []) = []
octets_of (a ∷ b ∷ c ∷ d ∷ e ∷ f ∷ g ∷ h ∷ bs) = value (a ∷ b ∷ c ∷ d ∷ e ∷ f ∷ g ∷ h ∷ []) ∷ octets_of bs

-- each is an octet
pub octets_of_below : (bs : List Bool) → AllByRecursion (λ o. o < 256) (octets_of bs)
unfolding octets_of
octets_of_below [] = tt
octets_of_below (a ∷ []) = tt
octets_of_below (a ∷ b ∷ []) = tt
octets_of_below (a ∷ b ∷ c ∷ []) = tt
octets_of_below (a ∷ b ∷ c ∷ d ∷ []) = tt
octets_of_below (a ∷ b ∷ c ∷ d ∷ e ∷ []) = tt
octets_of_below (a ∷ b ∷ c ∷ d ∷ e ∷ f ∷ []) = tt
octets_of_below (a ∷ b ∷ c ∷ d ∷ e ∷ f ∷ g ∷ []) = tt
octets_of_below (a ∷ b ∷ c ∷ d ∷ e ∷ f ∷ g ∷ h ∷ bs) = (value_below (a ∷ b ∷ c ∷ d ∷ e ∷ f ∷ g ∷ h ∷ []), octets_of_below bs)

octets_of-none : octets_of [] ≡ []
unfolding octets_of
octets_of-none = refl

-- eight bits more
pub octets_of_cons : (o : ℕ) (w bs : List Bool) → length w ≡ 8 → value w ≡ o → octets_of (w ++ bs) ≡ o ∷ octets_of bs
unfolding octets_of
octets_of_cons o [] bs n e = absurd (omega arith)
octets_of_cons o (a ∷ []) bs n e = absurd (omega arith)
octets_of_cons o (a ∷ b ∷ []) bs n e = absurd (omega arith)
octets_of_cons o (a ∷ b ∷ c ∷ []) bs n e = absurd (omega arith)
octets_of_cons o (a ∷ b ∷ c ∷ d ∷ []) bs n e = absurd (omega arith)
octets_of_cons o (a ∷ b ∷ c ∷ d ∷ e1 ∷ []) bs n e = absurd (omega arith)
octets_of_cons o (a ∷ b ∷ c ∷ d ∷ e1 ∷ f ∷ []) bs n e = absurd (omega arith)
octets_of_cons o (a ∷ b ∷ c ∷ d ∷ e1 ∷ f ∷ g ∷ []) bs n e = absurd (omega arith)
octets_of_cons o (a ∷ b ∷ c ∷ d ∷ e1 ∷ f ∷ g ∷ h ∷ []) bs n e = ap {B = List ℕ} (λ (x : ℕ). x ∷ octets_of bs) e
octets_of_cons o (a ∷ b ∷ c ∷ d ∷ e1 ∷ f ∷ g ∷ h ∷ i ∷ w) bs n e = absurd (omega arith)

-- octets that are sent are packed into themselves again
pub octets_of-sent : (os : List ℕ) → AllByRecursion (λ o. o < 256) os → octets_of (sent os) ≡ os
unfolding sent
octets_of-sent [] h = octets_of-none
octets_of-sent (o ∷ os) h =
    octets_of_cons o (low 8 o) (sent os) (length-low 8 o) (value_low 8 o h.0) ∙ ap {B = List ℕ} (λ (l : List ℕ). o ∷ l) (octets_of-sent os h.1)

-- behind whole octets of bits
octets_of-behind : (n : ℕ) (front bs : List Bool) → length front ≡ 8 * n → octets_of (front ++ bs) ≡ octets_of front ++ octets_of bs
unfolding octets_of
octets_of-behind n [] bs z = refl
octets_of-behind n (a ∷ []) bs z = absurd (omega arith)
octets_of-behind n (a ∷ b ∷ []) bs z = absurd (omega arith)
octets_of-behind n (a ∷ b ∷ c ∷ []) bs z = absurd (omega arith)
octets_of-behind n (a ∷ b ∷ c ∷ d ∷ []) bs z = absurd (omega arith)
octets_of-behind n (a ∷ b ∷ c ∷ d ∷ e ∷ []) bs z = absurd (omega arith)
octets_of-behind n (a ∷ b ∷ c ∷ d ∷ e ∷ f ∷ []) bs z = absurd (omega arith)
octets_of-behind n (a ∷ b ∷ c ∷ d ∷ e ∷ f ∷ g ∷ []) bs z = absurd (omega arith)
octets_of-behind n (a ∷ b ∷ c ∷ d ∷ e ∷ f ∷ g ∷ h ∷ front) bs z =
    ap {B = List ℕ} (λ (l : List ℕ). value (a ∷ b ∷ c ∷ d ∷ e ∷ f ∷ g ∷ h ∷ []) ∷ l) (octets_of-behind (n - 1) front bs (omega arith))

pub octets_of-append : (front bs : List Bool) → length front % 8 ≡ 0 → octets_of (front ++ bs) ≡ octets_of front ++ octets_of bs
octets_of-append front bs h = octets_of-behind (length front / 8) front bs (omega arith)

-- so two lists of octets that are sent alike are one
pub sent_injective : (os ps : List ℕ) → AllByRecursion (λ o. o < 256) os → AllByRecursion (λ o. o < 256) ps → sent os ≡ sent ps → os ≡ ps
sent_injective os ps h k e = sym (octets_of-sent os h) ∙ ap {B = List ℕ} octets_of e ∙ octets_of-sent ps k

-- whole octets of bits are the bits of the octets that they are packed into
sent_packed : (n : ℕ) (bs : List Bool) → length bs ≡ 8 * n → sent (octets_of bs) ≡ bs
unfolding octets_of sent
sent_packed n [] z = refl
sent_packed n (a ∷ []) z = absurd (omega arith)
sent_packed n (a ∷ b ∷ []) z = absurd (omega arith)
sent_packed n (a ∷ b ∷ c ∷ []) z = absurd (omega arith)
sent_packed n (a ∷ b ∷ c ∷ d ∷ []) z = absurd (omega arith)
sent_packed n (a ∷ b ∷ c ∷ d ∷ e ∷ []) z = absurd (omega arith)
sent_packed n (a ∷ b ∷ c ∷ d ∷ e ∷ f ∷ []) z = absurd (omega arith)
sent_packed n (a ∷ b ∷ c ∷ d ∷ e ∷ f ∷ g ∷ []) z = absurd (omega arith)
sent_packed n (a ∷ b ∷ c ∷ d ∷ e ∷ f ∷ g ∷ h ∷ bs) z =
    let w : List Bool = a ∷ b ∷ c ∷ d ∷ e ∷ f ∷ g ∷ h ∷ [] in
    ap {B = List Bool} (λ (l : List Bool). l ++ sent (octets_of bs)) (low_value w)
    ∙ ap {B = List Bool} (λ (l : List Bool). w ++ l) (sent_packed (n - 1) bs (omega arith))

pub sent-octets_of : (bs : List Bool) → length bs % 8 ≡ 0 → sent (octets_of bs) ≡ bs
sent-octets_of bs h = sent_packed (length bs / 8) bs (omega arith)

pub length-octets_of : (bs : List Bool) → length bs % 8 ≡ 0 → 8 * length (octets_of bs) ≡ length bs
length-octets_of bs h = sym (length-sent (octets_of bs)) ∙ ap length (sent-octets_of bs h)

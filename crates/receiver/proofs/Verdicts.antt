-- The verdict on a closed stretch, from what the store holds.
use Rattle.std.proofs.Common.{◌≡◌, ℕ, zero, suc, ◌+◌, ◌-◌, ◌*◌, ◌/◌, ◌%◌, ◌<◌, ◌≤◌, min, List, [], ◌∷◌, ◌++◌, length, get_or, take, drop, sym, refl, ap, ◌∙◌, arith}
use Rattle.std.proofs.lemmas.List.{take-take, length-take-le, drop-take}
use Rattle.bits.specs.Octets.{low, sent}
use Rattle.bits.proofs.Sent.{length-sent}
use Rattle.fcs.specs.Sequence.{sequence, trailer}
use Rattle.fcs.proofs.Bounds.{sequence_below}
use Rattle.cutting.specs.Cutting.{Bits, removed, Octets, Applies, Judged, Verdict, refused, frame}
use Rattle.cutting.specs.declared.Fault.TheVariants.{MissingZero, TooLong, NotOctets, TooShort, WrongSequence}
use Rattle.cutting.proofs.Judging.{front, is_judged}
use Rattle.cutting.proofs.Verdicts.{judged_long, judged_ragged, judged_short, judged-right, judged-wrong}
use Rattle.receiver.specs.declared.store.Store.{Store}
use Rattle.receiver.specs.Stands.{Holds}

-- the bits of the first k octets
take-sent : (k : ℕ) (os : List ℕ) → k ≤ length os → take (8 * k) (sent os) ≡ sent (take k os)
unfolding sent low
take-sent zero os h = refl
take-sent (suc k) [] h = absurd (omega arith)
take-sent (suc k) (o ∷ os) h =
    let e : 8 * suc k ≡ suc (suc (suc (suc (suc (suc (suc (suc (8 * k)))))))) = omega arith in
    ap {B = Bits} (λ (n : ℕ). take n (low 8 o ++ sent os)) e ∙ ap {B = Bits} (λ (l : Bits). low 8 o ++ l) (take-sent k os (omega arith))

octets_front : (os : List ℕ) → ((i : ℕ) → get_or os i 0 < 256) → (n : ℕ) → Octets (take n os)
octets_front os h zero = tt
octets_front [] h (suc n) = tt
octets_front (o ∷ os) h (suc n) = (h 0, octets_front os (λ i. h (suc i)) n)

-- the store holds `held`, more than the closing flag's six bits, and what removal left of the stretch x is the rest
module _ (s : Store) (x held : Bits) (whole : Applies MissingZero x → ⊥) (was : Holds s held) (is : removed x ≡ take (length held - 6) held) (many : 6 < s.count) where
  size : length (removed x) ≡ length held - 6
  size = ap length is ∙ length-take-le (length held - 6) held (omega arith)

  pub held_long : 16504 < s.count - 6 → Judged x (refused TooLong)
  held_long a = let n = was.counted in is_judged x (refused TooLong) (judged_long x whole (omega (arith, size)))

  module _ (fits : s.count - 6 ≤ 16504) where
    exact : length (removed x) ≡ s.count - 6
    exact = let n = was.counted in omega (arith, size)

    pub held-ragged : ((s.count - 6) % 8 ≡ 0 → ⊥) → Judged x (refused NotOctets)
    held-ragged a = let n = exact in is_judged x (refused NotOctets) (judged_ragged x whole (omega arith) (λ e. a (omega arith)))

    module _ (even : (s.count - 6) % 8 ≡ 0) where
      pub held-short : s.count - 6 < 88 → Judged x (refused TooShort)
      held-short a = let n = exact in is_judged x (refused TooShort) (judged_short x whole (omega arith) (omega arith))

      -- octets: the last two are compared with the two of the check sequence q of those in front
      module _ (enough : 88 ≤ s.count - 6) (room : length s.octets ≡ 2063) (small : (i : ℕ) → get_or s.octets i 0 < 256) (q : ℕ) (two : List ℕ)
          (q-is : q ≡ sequence (take ((s.count - 6) / 8 - 2 - 0) s.octets)) (two-are : two ≡ q % 256 ∷ q / 256 % 256 ∷ []) where
        abbrev end : ℕ
        end = (s.count - 6) / 8 - 2

        abbrev all : List ℕ
        all = take (end + 2) s.octets

        all-long : length all ≡ end + 2
        all-long = length-take-le (end + 2) s.octets (omega arith)

        all-sent : removed x ≡ sent all
        all-sent =
            let c = was.counted in
            let n : length held - 6 ≡ 8 * (end + 2) = omega arith in
            let long = length-sent s.octets in
            is ∙ ap {B = Bits} (λ (m : ℕ). take m held) n
            ∙ sym (take-take (8 * (end + 2)) 16504 held (omega arith)) ∙ sym (ap {B = Bits} (take (8 * (end + 2))) was.packed)
            ∙ take-take (8 * (end + 2)) (min 16504 s.count) (sent s.octets) (omega arith)
            ∙ take-sent (end + 2) s.octets (omega arith)

        in-front : length all - 2 ≡ end
        in-front = let l = all-long in omega arith

        front_is : front all ≡ take end s.octets
        front_is = ap {B = List ℕ} (λ (k : ℕ). take k all) in-front ∙ take-take end (end + 2) s.octets (omega arith)

        last-is : drop (length all - 2) all ≡ take (end + 2 - end) (drop end s.octets)
        last-is =
            let two_more : 2 ≡ end + 2 - end = omega arith in
            ap {B = List ℕ} (λ (k : ℕ). drop k all) in-front ∙ drop-take end 2 s.octets ∙ ap {B = List ℕ} (λ (k : ℕ). take k (drop end s.octets)) two_more

        trailer-is : trailer (front all) ≡ two
        unfolding trailer
        trailer-is =
            let z : end - 0 ≡ end = omega arith in
            let e : q ≡ sequence (take end s.octets) = q-is ∙ ap (λ (k : ℕ). sequence (take k s.octets)) z in
            let b = sequence_below (take end s.octets) in
            let high : q / 256 ≡ q / 256 % 256 = omega arith in
            ap {B = List ℕ} trailer front_is ∙ ap {B = List ℕ} (λ (n : ℕ). n % 256 ∷ n / 256 ∷ []) (sym e) ∙ ap {B = List ℕ} (λ (n : ℕ). q % 256 ∷ n ∷ []) high ∙ sym two-are

        pub held-right : take (end + 2 - end) (drop end s.octets) ≡ two → Judged x (frame (take end s.octets))
        held-right e =
            let l = all-long in
            is_judged x (frame (take end s.octets))
            (judged-right x whole all (octets_front s.octets small (end + 2)) all-sent (omega arith) (omega arith) (last-is ∙ e ∙ sym trailer-is) ∙ ap {B = Verdict} frame front_is)

        pub held-wrong : (take (end + 2 - end) (drop end s.octets) ≡ two → ⊥) → Judged x (refused WrongSequence)
        held-wrong ne =
            let l = all-long in
            is_judged x (refused WrongSequence)
            (judged-wrong x whole all (octets_front s.octets small (end + 2)) all-sent (omega arith) (omega arith) (λ e. ne (sym last-is ∙ e ∙ trailer-is)))

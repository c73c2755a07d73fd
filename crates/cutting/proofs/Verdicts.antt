-- The verdict on a closed stretch from what is known of it, refusal by refusal.
use Rattle.std.proofs.Common.{◌≡◌, ℕ, ◌-◌, ◌*◌, ◌%◌, ◌<◌, ◌≤◌, ◌≢◌, List, ◌++◌, length, drop, sym, ap, ◌∙◌, arith, length-append, take-append-drop, drop_at}
use Rattle.std.proofs.ByRecursion.{All-take}
use Rattle.bits.specs.Octets.{sent}
use Rattle.bits.proofs.Sent.{length-sent}
use Rattle.bits.proofs.Values.{sent_injective}
use Rattle.fcs.specs.Sequence.{trailer}
use Rattle.fcs.proofs.Bounds.{length-trailer}
use Rattle.cutting.specs.Faults.{fault_number}
use Rattle.cutting.specs.Cutting.{Bits, removed, Octets, Applies, Verdict, refused, frame, refuses, frames}
use Rattle.cutting.specs.declared.Fault.{Fault}
use Rattle.cutting.specs.declared.Fault.TheVariants.{MissingZero, TooLong, NotOctets, TooShort, WrongSequence}
use Rattle.cutting.proofs.Judging.{checked, checked_octets, front, front-checked, before, judged, judged_one}

pub judged_missing : (x : Bits) → Applies MissingZero x → judged x ≡ refused MissingZero
judged_missing x a = judged_one x (refused MissingZero) (refuses MissingZero a
    (before x 11 (λ h. absurd (omega arith)) (λ h. absurd (omega arith)) (λ h. absurd (omega arith)) (λ h. absurd (omega arith)) (λ h. absurd (omega arith))))

-- a stretch whose last five bits are not all ones
module _ (x : Bits) (whole : Applies MissingZero x → ⊥) where
  pub judged_long : 16504 < length (removed x) → judged x ≡ refused TooLong
  judged_long a = judged_one x (refused TooLong) (refuses TooLong a
      (before x 12 (λ h. whole) (λ h. absurd (omega arith)) (λ h. absurd (omega arith)) (λ h. absurd (omega arith)) (λ h. absurd (omega arith))))

  pub judged_ragged : length (removed x) ≤ 16504 → length (removed x) % 8 ≢ 0 → judged x ≡ refused NotOctets
  judged_ragged n a = judged_one x (refused NotOctets) (refuses NotOctets a
      (before x 13 (λ h. whole) (λ h b. omega arith) (λ h. absurd (omega arith)) (λ h. absurd (omega arith)) (λ h. absurd (omega arith))))

  pub judged_short : length (removed x) % 8 ≡ 0 → length (removed x) < 88 → judged x ≡ refused TooShort
  judged_short e a = judged_one x (refused TooShort) (refuses TooShort a
      (before x 14 (λ h. whole) (λ h b. omega arith) (λ h b. b e) (λ h. absurd (omega arith)) (λ h. absurd (omega arith))))

  -- what is left of it is octets, as many as a frame may have with its check sequence
  module _ (os : List ℕ) (each : Octets os) (is : removed x ≡ sent os) (enough : 11 ≤ length os) (fits : length os ≤ 2063) where
    bits : length (removed x) ≡ 8 * length os
    bits = ap length is ∙ length-sent os

    in-front : (f : Fault) → fault_number f < 15 → Applies f x → ⊥
    in-front = let n = bits in before x 15 (λ h. whole) (λ h b. omega arith) (λ h b. b (omega arith)) (λ h b. omega arith) (λ h. absurd (omega arith))

    pub judged-right : drop (length os - 2) os ≡ trailer (front os) → judged x ≡ frame (front os)
    judged-right e =
        let same : os ≡ checked (front os) = sym (take-append-drop (length os - 2) os) ∙ ap {B = List ℕ} (λ (l : List ℕ). front os ++ l) e in
        let r : removed x ≡ sent (checked (front os)) = is ∙ ap {B = Bits} sent same in
        let o = All-take (λ o. o < 256) (length os - 2) os each in
        judged_one x (frame (front os)) (frames (front os) (nothing r o) o r)
      where
        nothing : removed x ≡ sent (checked (front os)) → Octets (front os) → (f : Fault) → Applies f x → ⊥
        nothing r o MissingZero = in-front MissingZero (omega arith)
        nothing r o TooLong = in-front TooLong (omega arith)
        nothing r o NotOctets = in-front NotOctets (omega arith)
        nothing r o TooShort = in-front TooShort (omega arith)
        nothing r o WrongSequence = λ w. w (front os) o r

    pub judged-wrong : drop (length os - 2) os ≢ trailer (front os) → judged x ≡ refused WrongSequence
    judged-wrong ne = judged_one x (refused WrongSequence) (refuses WrongSequence wrong in-front)
      where
        behind : (ps : List ℕ) → os ≡ checked ps → drop (length os - 2) os ≡ trailer (front os)
        behind ps q =
            let n = length-append ps (trailer ps) in
            let t = length-trailer ps in
            let d : drop (length (checked ps) - 2) (checked ps) ≡ trailer ps = drop_at ps (trailer ps) (length (checked ps) - 2) (omega arith) in
            ap {B = List ℕ} (λ (l : List ℕ). drop (length l - 2) l) q ∙ d ∙ ap {B = List ℕ} trailer (sym (front-checked ps)) ∙ sym (ap {B = List ℕ} (λ (l : List ℕ). trailer (front l)) q)

        wrong : (ps : List ℕ) → Octets ps → removed x ≡ sent (checked ps) → ⊥
        wrong ps h e = ne (behind ps (sent_injective os (checked ps) each (checked_octets ps h) (sym is ∙ e)))

-- a stretch that is left with a frame's octets and their check sequence is that frame
pub judged_frame : (x : Bits) → (Applies MissingZero x → ⊥) → (os : List ℕ) → Octets os → 9 ≤ length os → length os ≤ 2061 → removed x ≡ sent (checked os) → judged x ≡ frame os
judged_frame x whole os each enough fits is =
    let n = length-append os (trailer os) in
    let t = length-trailer os in
    let f = front-checked os in
    let d : drop (length (checked os) - 2) (checked os) ≡ trailer os = drop_at os (trailer os) (length (checked os) - 2) (omega arith) in
    judged-right x whole (checked os) (checked_octets os each) is (omega arith) (omega arith) (d ∙ ap {B = List ℕ} trailer (sym f)) ∙ ap {B = Verdict} frame f

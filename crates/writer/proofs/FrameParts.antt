-- A frame's bits, put part by part between the flags.
use Rattle.std.proofs.Common.{◌≡◌, ℕ, ◌+◌, ◌-◌, ◌/◌, ◌%◌, ◌≤◌, List, [], ◌∷◌, ◌++◌, length, get_or, sym, refl, ap, ◌∙◌, append_assoc, arith, length-append}
use lib.Bits.{bit_xor}
use Rattle.bits.specs.Octets.{low, sent}
use Rattle.bits.specs.Sink.{Shown}
use Rattle.bits.proofs.Low.{low_mod}
use Rattle.bits.proofs.Sent.{sent-append, sent_one}
use Rattle.fcs.specs.Sequence.{after, sequence, trailer}
use Rattle.fcs.proofs.Behind.{after-append}
use Rattle.cutting.specs.Cutting.{Bits, flag}
use Rattle.cutting.specs.Stuffing.{stuffed, frame_bits}
use Rattle.writer.specs.Putting.{Appended, StuffedPut}
use Rattle.writer.proofs.Puts.{appended_more, appended_to, appended_count, stuffed_more, stuffed_as}

-- the bits between the flags, before stuffing
abbrev pub inner : List ℕ → Bits
inner os = sent (os ++ trailer os)

-- the bits of two octets
abbrev pub two : ℕ → ℕ → Bits
two low_octet high_octet = low 8 low_octet ++ low 8 high_octet

-- the register behind header and information gives their sequence
pub register_is : (h i : List ℕ) {a b d q : ℕ} → a ≡ 0xFFFF → b ≡ after a (sent h) → d ≡ after b (sent i) → q ≡ bit_xor d 0xFFFF → q ≡ sequence (h ++ i)
unfolding sequence
register_is h i {a} {b} {d} {q} ea eb ed eq =
    let whole : after 0xFFFF (sent (h ++ i)) ≡ after (after 0xFFFF (sent h)) (sent i)
    = ap (after 0xFFFF) (sent-append h i) ∙ after-append 0xFFFF (sent h) (sent i) in
    let start : after a (sent h) ≡ after 0xFFFF (sent h) = ap (λ (x : ℕ). after x (sent h)) ea in
    let behind : after b (sent i) ≡ after (after 0xFFFF (sent h)) (sent i) = ap (λ (x : ℕ). after x (sent i)) (eb ∙ start) in
    eq ∙ ap (λ (x : ℕ). bit_xor x 0xFFFF) (ed ∙ behind ∙ sym whole)

two-sent : (os : List ℕ) → sent (trailer os) ≡ two (sequence os % 256) (sequence os / 256 % 256)
unfolding trailer
two-sent os =
    let q = sequence os in
    sent-append (q % 256 ∷ []) (q / 256 ∷ [])
    ∙ ap (λ (l : Bits). l ++ sent (q / 256 ∷ [])) (sent_one (q % 256))
    ∙ ap (λ (l : Bits). low 8 (q % 256) ++ l) (sent_one (q / 256) ∙ sym (low_mod 8 (q / 256)))

-- the four parts are all that stands between the flags: the header, the information and the sequence's two octets, the low one first
abbrev pub Parts : (h i two_octets : List ℕ) → Type 0
Parts h i ts = inner (h ++ i) ≡ sent h ++ (sent i ++ two (get_or ts 0 0) (get_or ts 1 0))

pub inner_parts : (h i two_octets : List ℕ) (q : ℕ) → q ≡ sequence (h ++ i) → two_octets ≡ q % 256 ∷ q / 256 % 256 ∷ [] → Parts h i two_octets
inner_parts h i ts q e f =
    let l = ap {B = Bits} (λ (n : ℕ). two (n % 256) (n / 256 % 256)) (sym e) ∙ ap {B = Bits} (λ (l : List ℕ). two (get_or l 0 0) (get_or l 1 0)) (sym f) in
    sent-append (h ++ i) (trailer (h ++ i))
    ∙ ap (λ (l : Bits). l ++ sent (trailer (h ++ i))) (sent-append h i)
    ∙ append_assoc (sent h) (sent i) (sent (trailer (h ++ i)))
    ∙ ap (λ (l : Bits). sent h ++ (sent i ++ l)) (two-sent (h ++ i) ∙ l)

-- behind the first flag there is room for the rest
pub inner_room : (os : List ℕ) {k k₁ : Shown} → length (frame_bits os) ≤ k.space → Appended flag k 8 k₁ → length (stuffed (inner os)) + 8 ≤ k₁.space
inner_room os h a =
    let e : length (frame_bits os) ≡ 8 + length (stuffed (inner os) ++ flag) = length-append flag (stuffed (inner os) ++ flag) in
    let f : length (stuffed (inner os) ++ flag) ≡ length (stuffed (inner os)) + 8 = length-append (stuffed (inner os)) flag in
    omega (arith, a.lowered)

pub inner_put : (h i ts : List ℕ) → Parts h i ts → {k₁ k₂ k₃ k₄ k₅ : Shown} {o₁ o₂ o₃ o₄ : ℕ} → StuffedPut 0 (sent h) k₁ o₁ k₂ → StuffedPut o₁ (sent i) k₂ o₂ k₃
    → StuffedPut o₂ (low 8 (get_or ts 0 0)) k₃ o₃ k₄ → StuffedPut o₃ (low 8 (get_or ts 1 0)) k₄ o₄ k₅ → StuffedPut 0 (inner (h ++ i)) k₁ o₄ k₅
inner_put h i ts are a b c d = stuffed_as (sym are) (stuffed_more a (stuffed_more b (stuffed_more c d)))

-- a flag, what stands behind it, and a flag
pub frame_put : (os : List ℕ) {k k₁ k₂ k₃ : Shown} {o : ℕ} → Appended flag k 8 k₁ → StuffedPut 0 (inner os) k₁ o k₂ → Appended flag k₂ 8 k₃
    → Appended (frame_bits os) k (length k₃.held - length k.held) k₃
frame_put os a s b =
    let m = appended_more (appended_more a (record { counted = refl; added = s.added; lowered = s.lowered })) b in
    appended_to (appended_count m) m

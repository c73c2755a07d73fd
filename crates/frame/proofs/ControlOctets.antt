-- What a control's octet tells of the control, and which octets are a control's.
use Rattle.std.proofs.Common.{◌≡◌, ℕ, ◌+◌, ◌*◌, ◌/◌, ◌%◌, ◌<◌, Bool, true, false, cond, eqb, ◌≢◌, sym, refl, ap, ◌∙◌, arith}
use lib.Bits.{bit_and}
use Rattle.std.proofs.lemmas.Bool.{eqb-true, agree_below, agree_below_at}
use Rattle.frame.specs.Controls.{Numbered, supervisory_octet, unnumbered_octet, control_octet}
use Rattle.frame.specs.declared.control.Control.{Control}
use Rattle.frame.specs.declared.control.Control.TheVariants.{Information, Supervisory as S, Unnumbered as U}
use Rattle.frame.specs.declared.control.Supervisory.{Supervisory}
use Rattle.frame.specs.declared.control.Supervisory.TheVariants.{Rr, Srej}
use Rattle.frame.specs.declared.control.Unnumbered.{Unnumbered}
use Rattle.frame.specs.declared.control.Unnumbered.TheVariants.{Ui, Dm, Disc, Ua, Frmr, Xid, Test}
use Rattle.frame.proofs.Digits.{digit_below, digit_one}

-- the poll bit as a digit
pub poll_worth : (poll : Bool) → (cond poll 16 0 ≡ cond poll 1 0 * 16) × (cond poll 1 0 < 2)
poll_worth true = (refl, digit_below true)
poll_worth false = (refl, digit_below false)

-- bits 1 and 2 tell the three forms apart, and bit 5 is 0 without the poll bit
supervisory_bits : (f : Supervisory) → (supervisory_octet f < 16) × (supervisory_octet f % 4 ≡ 1)
supervisory_bits Rr = (omega arith, refl)
supervisory_bits Srej = (omega arith, refl)

unnumbered_bits : (f : Unnumbered) → (unnumbered_octet f < 256) × (unnumbered_octet f / 16 % 2 ≡ 0) × (unnumbered_octet f % 4 ≡ 3)
unnumbered_bits Ui = (omega arith, refl, refl)
unnumbered_bits Dm = (omega arith, refl, refl)
unnumbered_bits Disc = (omega arith, refl, refl)
unnumbered_bits Ua = (omega arith, refl, refl)
unnumbered_bits Frmr = (omega arith, refl, refl)
unnumbered_bits Xid = (omega arith, refl, refl)
unnumbered_bits Test = (omega arith, refl, refl)

pub control_octet_below : (c : Control) → Numbered c → control_octet c < 256
control_octet_below (Information send poll receive) n = omega (arith, poll_worth poll)
control_octet_below (S f poll receive) n = omega (arith, poll_worth poll, supervisory_bits f)
control_octet_below (U f poll) n = omega (arith, poll_worth poll, unnumbered_bits f)

-- the function that an octet tells
supervisory : ℕ → Supervisory
supervisory o = cond (eqb o 0x01) Rr Srej

supervisory_back : (f : Supervisory) → supervisory (supervisory_octet f) ≡ f
unfolding supervisory
supervisory_back Rr = refl
supervisory_back Srej = refl

unnumbered : ℕ → Unnumbered
unnumbered o =
    cond (eqb o 0x03) Ui (cond (eqb o 0x0F) Dm (cond (eqb o 0x43) Disc (cond (eqb o 0x63) Ua (cond (eqb o 0x87) Frmr (cond (eqb o 0xAF) Xid Test)))))

unnumbered_back : (f : Unnumbered) → unnumbered (unnumbered_octet f) ≡ f
unfolding unnumbered
unnumbered_back Ui = refl
unnumbered_back Dm = refl
unnumbered_back Disc = refl
unnumbered_back Ua = refl
unnumbered_back Frmr = refl
unnumbered_back Xid = refl
unnumbered_back Test = refl

pub control_octet_one : (c d : Control) → Numbered c → Numbered d → control_octet c ≡ control_octet d → c ≡ d
control_octet_one (Information s p r) (Information t q u) n m e =
    let send : s ≡ t = omega (arith, poll_worth p, poll_worth q) in
    let poll = digit_one p q (omega (arith, poll_worth p, poll_worth q)) in
    let receive : r ≡ u = omega (arith, poll_worth p, poll_worth q) in
    cc
control_octet_one (Information s p r) (S g q u) n m e = absurd (omega (arith, poll_worth p, poll_worth q, supervisory_bits g))
control_octet_one (Information s p r) (U g q) n m e = absurd (omega (arith, poll_worth p, poll_worth q, unnumbered_bits g))
control_octet_one (S f p r) (Information t q u) n m e = absurd (omega (arith, poll_worth p, poll_worth q, supervisory_bits f))
control_octet_one (S f p r) (S g q u) n m e =
    let same : supervisory_octet f ≡ supervisory_octet g = omega (arith, poll_worth p, poll_worth q, supervisory_bits f, supervisory_bits g) in
    let function = sym (supervisory_back f) ∙ ap supervisory same ∙ supervisory_back g in
    let poll = digit_one p q (omega (arith, poll_worth p, poll_worth q, supervisory_bits f)) in
    let receive : r ≡ u = omega (arith, poll_worth p, poll_worth q, supervisory_bits f) in
    cc
control_octet_one (S f p r) (U g q) n m e = absurd (omega (arith, poll_worth p, poll_worth q, supervisory_bits f, unnumbered_bits g))
control_octet_one (U f p) (Information t q u) n m e = absurd (omega (arith, poll_worth p, poll_worth q, unnumbered_bits f))
control_octet_one (U f p) (S g q u) n m e = absurd (omega (arith, poll_worth p, poll_worth q, unnumbered_bits f, supervisory_bits g))
control_octet_one (U f p) (U g q) n m e =
    let same : unnumbered_octet f ≡ unnumbered_octet g = omega (arith, poll_worth p, poll_worth q, unnumbered_bits f, unnumbered_bits g) in
    let function = sym (unnumbered_back f) ∙ ap unnumbered same ∙ unnumbered_back g in
    let poll = digit_one p q (omega (arith, poll_worth p, poll_worth q, unnumbered_bits f)) in
    cc

-- an octet without its poll bit
bare_right : ℕ → Bool
bare_right o = eqb (bit_and o 239 + o / 16 % 2 * 16) o

all_bare : agree_below bare_right (λ n. true) 256 ≡ true
unfolding bare_right
all_bare = refl

pub bare_read : (o : ℕ) → o < 256 → bit_and o 239 + o / 16 % 2 * 16 ≡ o
unfolding bare_right
bare_read o h = eqb-true _ _ (agree_below_at bare_right (λ n. true) 256 o all_bare h)

-- an octet is no control's that is neither an information frame's, nor a supervisory frame's, nor an unnumbered frame's without its poll bit
pub unlisted : (o : ℕ) → o < 256 → o % 2 ≢ 0 → o % 16 ≢ 1 → o % 16 ≢ 13 → ((f : Unnumbered) → unnumbered_octet f ≢ bit_and o 239)
    → (c : Control) → Numbered c → control_octet c ≢ o
unlisted o h odd rr srej none (Information send poll receive) n e = omega (arith, poll_worth poll)
unlisted o h odd rr srej none (S Rr poll receive) n e = omega (arith, poll_worth poll)
unlisted o h odd rr srej none (S Srej poll receive) n e = omega (arith, poll_worth poll)
unlisted o h odd rr srej none (U f poll) n e = none f (omega (arith, poll_worth poll, unnumbered_bits f, bare_read o h))

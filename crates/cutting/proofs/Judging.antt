-- The verdict on a closed stretch as a function: the relation holds of that verdict and of no other.
use Rattle.std.proofs.Common.{◌≡◌, ℕ, ◌-◌, ◌%◌, ◌<◌, cond, eqb, ◌↔◌, List, ◌++◌, length, take, sym, refl, ap, ◌∙◌, subst, arith, length-append, take_at}
use mathlib.Core.Bool.{Bool-discrete}
use mathlib.Core.List.{List-discrete}
use native.Mathlib.Decide.{dec_lt, ℕ_discrete}
use Rattle.std.proofs.ByRecursion.{All-append, All-take}
use Rattle.bits.specs.Octets.{sent}
use Rattle.bits.proofs.Values.{octets_of, octets_of_below, octets_of-sent}
use Rattle.fcs.specs.Sequence.{trailer}
use Rattle.fcs.proofs.Bounds.{trailer_below, length-trailer}
use Rattle.cutting.specs.Faults.{fault_number}
use Rattle.cutting.specs.Cutting.{Bits, part, ones, removed, Octets, Applies, Verdict, refused, frame, Judged, refuses, frames}
use Rattle.cutting.specs.declared.Fault.{Fault}
use Rattle.cutting.specs.declared.Fault.TheVariants.{MissingZero, TooLong, NotOctets, TooShort, WrongSequence}

-- octets with the two of their check sequence behind them
abbrev pub checked : List ℕ → List ℕ
checked os = os ++ trailer os

pub checked_octets : (os : List ℕ) → Octets os → Octets (checked os)
checked_octets os h = All-append (λ o. o < 256) os (trailer os) h (trailer_below os)

-- octets without the last two
abbrev pub front : List ℕ → List ℕ
front os = take (length os - 2) os

pub front-checked : (os : List ℕ) → front (checked os) ≡ os
front-checked os =
    let n = length-append os (trailer os) in
    let t = length-trailer os in
    take_at os (trailer os) (length (checked os) - 2) (omega arith)

-- the octets that bits with a check sequence would have in front of it
unfoldable pub framed : Bits → List ℕ
framed kept = front (octets_of kept)

pub framed_octets : (kept : Bits) → Octets (framed kept)
unfolding framed
framed_octets kept = All-take (λ o. o < 256) (length (octets_of kept) - 2) (octets_of kept) (octets_of_below kept)

pub framed-sent : (os : List ℕ) → Octets os → framed (sent (checked os)) ≡ os
unfolding framed
framed-sent os h = ap {B = List ℕ} front (octets_of-sent (checked os) (checked_octets os h)) ∙ front-checked os

-- what is left of a stretch is octets with their check sequence exactly if it is what those in front would send with theirs
abbrev pub Right : Bits → Type 0
Right kept = kept ≡ sent (checked (framed kept))

pub right_from : (kept : Bits) (os : List ℕ) → Octets os → kept ≡ sent (checked os) → framed kept ≡ os
right_from kept os h e = ap {B = List ℕ} framed e ∙ framed-sent os h

right : (kept : Bits) → Dec (Right kept)
right kept = List-discrete Bool-discrete kept (sent (checked (framed kept)))

flip : {A : Type 0} → Dec A → Dec (A → ⊥)
flip (yes a) = no (λ f. f a)
flip (no n) = yes n

wrong_from : (kept : Bits) → (Right kept → ⊥) → (os : List ℕ) → Octets os → kept ≡ sent (checked os) → ⊥
wrong_from kept n os h e = n (e ∙ sym (ap {B = Bits} (λ (l : List ℕ). sent (checked l)) (right_from kept os h e)))

wrong : (kept : Bits) → Dec (Right kept) → Dec ((os : List ℕ) → Octets os → kept ≡ sent (checked os) → ⊥)
wrong kept (yes r) = no (λ f. f (framed kept) (framed_octets kept) r)
wrong kept (no n) = yes (wrong_from kept n)

-- each refusal applies or does not
pub applies : (f : Fault) (x : Bits) → Dec (Applies f x)
applies MissingZero x = List-discrete Bool-discrete (part x (length x - 5) (length x)) (ones 5)
applies TooLong x = dec_lt 16504 (length (removed x))
applies NotOctets x = flip (ℕ_discrete (length (removed x) % 8) 0)
applies TooShort x = dec_lt (length (removed x)) 88
applies WrongSequence x = wrong (removed x) (right (removed x))

abbrev unless : {A : Type 0} → Dec A → Verdict → Verdict → Verdict
unless (yes a) v w = v
unless (no n) v w = w

-- the verdict: each refusal in its turn, unless none applies
unfoldable pub judged : Bits → Verdict
judged x =
    unless (applies MissingZero x) (refused MissingZero)
    (unless (applies TooLong x) (refused TooLong)
    (unless (applies NotOctets x) (refused NotOctets)
    (unless (applies TooShort x) (refused TooShort)
    (unless (applies WrongSequence x) (refused WrongSequence)
    (frame (framed (removed x)))))))

-- where no refusal applies, the octets in front are the frame
right_of : (kept : Bits) → (((os : List ℕ) → Octets os → kept ≡ sent (checked os) → ⊥) → ⊥) → Right kept
right_of kept n = go (right kept)
  where
    go : Dec (Right kept) → Right kept
    go (yes r) = r
    go (no m) = absurd (n (wrong_from kept m))

-- what does not apply before a number, refusal by refusal
pub before : (x : Bits) (n : ℕ) → (11 < n → Applies MissingZero x → ⊥) → (12 < n → Applies TooLong x → ⊥) → (13 < n → Applies NotOctets x → ⊥)
    → (14 < n → Applies TooShort x → ⊥) → (15 < n → Applies WrongSequence x → ⊥) → (g : Fault) → fault_number g < n → Applies g x → ⊥
before x n a b c d e MissingZero h = a h
before x n a b c d e TooLong h = b h
before x n a b c d e NotOctets h = c h
before x n a b c d e TooShort h = d h
before x n a b c d e WrongSequence h = e h

pub judged_is : (x : Bits) → Judged x (judged x)
unfolding judged
judged_is x = go (applies MissingZero x) (applies TooLong x) (applies NotOctets x) (applies TooShort x) (applies WrongSequence x)
  where
    go : (a : Dec (Applies MissingZero x)) (b : Dec (Applies TooLong x)) (c : Dec (Applies NotOctets x)) (d : Dec (Applies TooShort x)) (e : Dec (Applies WrongSequence x))
        → Judged x (unless a (refused MissingZero) (unless b (refused TooLong) (unless c (refused NotOctets) (unless d (refused TooShort) (unless e (refused WrongSequence) (frame (framed (removed x))))))))
    go (yes a) b c d e = refuses MissingZero a (before x 11 (λ h. absurd (omega arith)) (λ h. absurd (omega arith)) (λ h. absurd (omega arith)) (λ h. absurd (omega arith)) (λ h. absurd (omega arith)))
    go (no a) (yes b) c d e = refuses TooLong b (before x 12 (λ h. a) (λ h. absurd (omega arith)) (λ h. absurd (omega arith)) (λ h. absurd (omega arith)) (λ h. absurd (omega arith)))
    go (no a) (no b) (yes c) d e = refuses NotOctets c (before x 13 (λ h. a) (λ h. b) (λ h. absurd (omega arith)) (λ h. absurd (omega arith)) (λ h. absurd (omega arith)))
    go (no a) (no b) (no c) (yes d) e = refuses TooShort d (before x 14 (λ h. a) (λ h. b) (λ h. c) (λ h. absurd (omega arith)) (λ h. absurd (omega arith)))
    go (no a) (no b) (no c) (no d) (yes e) = refuses WrongSequence e (before x 15 (λ h. a) (λ h. b) (λ h. c) (λ h. d) (λ h. absurd (omega arith)))
    go (no a) (no b) (no c) (no d) (no e) = frames (framed (removed x)) (λ f. nothing f) (framed_octets (removed x)) (right_of (removed x) e)
      where
        nothing : (f : Fault) → Applies f x → ⊥
        nothing MissingZero = a
        nothing TooLong = b
        nothing NotOctets = c
        nothing TooShort = d
        nothing WrongSequence = e

-- a refusal by its number
fault_of : ℕ → Fault
fault_of n = cond (eqb n 11) MissingZero (cond (eqb n 12) TooLong (cond (eqb n 13) NotOctets (cond (eqb n 14) TooShort WrongSequence)))

fault_of_number : (f : Fault) → fault_of (fault_number f) ≡ f
unfolding fault_of
fault_of_number MissingZero = refl
fault_of_number TooLong = refl
fault_of_number NotOctets = refl
fault_of_number TooShort = refl
fault_of_number WrongSequence = refl

-- the relation holds of one verdict
judged-same : (x : Bits) (v w : Verdict) → Judged x v → Judged x w → v ≡ w
judged-same x _ _ (refuses f a p) (refuses g b q) = go (dec_lt (fault_number f) (fault_number g)) (dec_lt (fault_number g) (fault_number f))
  where
    go : Dec (fault_number f < fault_number g) → Dec (fault_number g < fault_number f) → refused f ≡ refused g
    go (yes h) _ = absurd (q f h a)
    go (no h) (yes k) = absurd (p g k b)
    go (no h) (no k) =
        let n : fault_number f ≡ fault_number g = omega arith in
        ap {B = Verdict} refused (sym (fault_of_number f) ∙ ap {B = Fault} fault_of n ∙ fault_of_number g)
judged-same x _ _ (refuses f a p) (frames os n h e) = absurd (n f a)
judged-same x _ _ (frames os n h e) (refuses f a p) = absurd (n f a)
judged-same x _ _ (frames os n h e) (frames ps m k d) = ap {B = Verdict} frame (sym (right_from (removed x) os h e) ∙ right_from (removed x) ps k d)

pub judged_one : (x : Bits) (v : Verdict) → Judged x v → judged x ≡ v
judged_one x v j = judged-same x (judged x) v (judged_is x) j

pub is_judged : (x : Bits) (v : Verdict) → judged x ≡ v → Judged x v
is_judged x v e = subst (Judged x) e (judged_is x)

pub judged_related : (x : Bits) (v : Verdict) → Judged x v ↔ (judged x ≡ v)
judged_related x v = (judged_one x v, is_judged x v)

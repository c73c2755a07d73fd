-- Laws of stuffing: removal undoes it, five ones never end it, six never stand in it, and it takes at most a fifth more.
use Rattle.std.proofs.Common.{◌≡◌, ℕ, zero, suc, ◌+◌, ◌-◌, ◌*◌, ◌/◌, ◌≤◌, true, false, ◌≢◌, [], ◌∷◌, reverse, length, take, drop, sym, refl, ap, ◌∙◌, arith, take-take}
use mathlib.Core.List.{reverse_aux}
use Rattle.cutting.specs.Cutting.{Bits, part, ones, removal, removed, Applies}
use Rattle.cutting.specs.Stuffing.{stuffing, stuffed}
use Rattle.cutting.specs.declared.Fault.TheVariants.{MissingZero}
use Rattle.cutting.proofs.Back.{part-take}
use Rattle.cutting.proofs.Last.{lead, last_to}
use Rattle.cutting.proofs.Removal.{left}

removal-stuffing : (k : ℕ) (s : Bits) → removal (suc k) (stuffing k s) ≡ s
removal-stuffing k [] = refl
removal-stuffing zero (true ∷ s) = ap {B = Bits} (λ (l : Bits). true ∷ l) (removal-stuffing 4 s)
removal-stuffing (suc k) (true ∷ s) = ap {B = Bits} (λ (l : Bits). true ∷ l) (removal-stuffing k s)
removal-stuffing k (false ∷ s) = ap {B = Bits} (λ (l : Bits). false ∷ l) (removal-stuffing 4 s)

pub removed-stuffed : (s : Bits) → removed (stuffed s) ≡ s
removed-stuffed s = removal-stuffing 4 s

-- at most four ones end stuffed bits
lead-stuffing : (k : ℕ) (s r : Bits) → lead r + k ≡ 4 → lead (reverse_aux (stuffing k s) r) ≤ 4
lead-stuffing k [] r h = omega arith
lead-stuffing zero (true ∷ s) r h = lead-stuffing 4 s (false ∷ true ∷ r) refl
lead-stuffing (suc k) (true ∷ s) r h = lead-stuffing k s (true ∷ r) (omega arith)
lead-stuffing k (false ∷ s) r h = lead-stuffing 4 s (false ∷ r) refl

pub stuffed_whole : (s : Bits) → Applies MissingZero (stuffed s) → ⊥
stuffed_whole s e =
    let a = last_to (stuffed s) e in
    let b : lead (reverse (stuffed s)) ≤ 4 = lead-stuffing 4 s [] refl in
    omega arith

-- behind stuffed bits a one is still to come before a bit would be left out
pub left-stuffing : (k : ℕ) (s : Bits) → 1 ≤ left (suc k) (stuffing k s)
left-stuffing k [] = omega arith
left-stuffing zero (true ∷ s) = left-stuffing 4 s
left-stuffing (suc k) (true ∷ s) = left-stuffing k s
left-stuffing k (false ∷ s) = left-stuffing 4 s

-- at most k + 1 ones lead
leading : (k : ℕ) (s : Bits) → take (suc (suc k)) (stuffing k s) ≢ ones (suc (suc k))
leading k [] e = let z : ◌≡◌ {A = ℕ} 0 1 = cc in omega arith
leading zero (true ∷ s) e = let z : ◌≡◌ {A = ℕ} 0 1 = cc in omega arith
leading (suc k) (true ∷ s) e = leading k s (cc)
leading k (false ∷ s) e = let z : ◌≡◌ {A = ℕ} 0 1 = cc in omega arith

head_six : (k : ℕ) (s : Bits) → k ≤ 4 → take 6 (stuffing k s) ≢ ones 6
head_six k s h e =
    let l : Bits = stuffing k s in
    let a : take (suc (suc k)) (take 6 l) ≡ take (suc (suc k)) l = take-take (suc (suc k)) 6 l (omega arith) in
    let b : take (suc (suc k)) (ones 6) ≡ ones (suc (suc k)) = few k h in
    leading k s (sym a ∙ ap {B = Bits} (take (suc (suc k))) e ∙ b)
  where
    few : (k : ℕ) → k ≤ 4 → take (suc (suc k)) (ones 6) ≡ ones (suc (suc k))
    few zero h = refl
    few (suc zero) h = refl
    few (suc (suc zero)) h = refl
    few (suc (suc (suc zero))) h = refl
    few (suc (suc (suc (suc zero)))) h = refl
    few (suc (suc (suc (suc (suc k))))) h = absurd (omega arith)

nil_six : (a : ℕ) → take 6 (drop a []) ≢ ones 6
nil_six zero e = let z : ◌≡◌ {A = ℕ} 0 1 = cc in omega arith
nil_six (suc a) e = let z : ◌≡◌ {A = ℕ} 0 1 = cc in omega arith

any_six : (k : ℕ) (s : Bits) → k ≤ 4 → (a : ℕ) → take 6 (drop a (stuffing k s)) ≢ ones 6
any_six k [] h a = nil_six a
any_six k (true ∷ s) h zero = head_six k (true ∷ s) h
any_six k (false ∷ s) h zero = head_six k (false ∷ s) h
any_six zero (true ∷ s) h (suc zero) = λ e. let z : ◌≡◌ {A = ℕ} 0 1 = cc in omega arith
any_six zero (true ∷ s) h (suc (suc a)) = any_six 4 s (omega arith) a
any_six (suc k) (true ∷ s) h (suc a) = any_six k s (omega arith) a
any_six k (false ∷ s) h (suc a) = any_six 4 s (omega arith) a

pub no_six : (s : Bits) (a : ℕ) → part (stuffed s) a (a + 6) ≢ ones 6
no_six s a e =
    let n : 6 ≡ a + 6 - a = omega arith in
    any_six 4 s (omega arith) a (ap {B = Bits} (λ (k : ℕ). take k (drop a (stuffed s))) n ∙ sym (part-take (stuffed s) a (a + 6)) ∙ e)

-- five bits make at most one more
stuffed_room : (k : ℕ) (s : Bits) → k ≤ 4 → 5 * length (stuffing k s) + k ≤ 6 * length s + 4
stuffed_room k [] h = omega arith
stuffed_room zero (true ∷ s) h = let r = stuffed_room 4 s (omega arith) in omega arith
stuffed_room (suc k) (true ∷ s) h = let r = stuffed_room k s (omega arith) in omega arith
stuffed_room k (false ∷ s) h = let r = stuffed_room 4 s (omega arith) in omega arith

pub stuffed-length : (s : Bits) → length (stuffed s) ≤ length s + length s / 5
stuffed-length s = let r = stuffed_room 4 s (omega arith) in omega arith

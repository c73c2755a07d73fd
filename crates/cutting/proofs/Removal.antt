-- Removal, piece by piece, and how many ones are still to come behind some bits before a bit is left out.
use Rattle.std.proofs.Common.{◌≡◌, ℕ, zero, suc, ◌+◌, ◌≤◌, true, false, ◌≢◌, [], ◌∷◌, ◌++◌, length, refl, ap, arith}
use Rattle.cutting.specs.Cutting.{Bits, ones, removal, removed}

-- how many more ones may come behind some bits before a bit is left out
abbrev pub left : ℕ → Bits → ℕ
left k [] = k
left zero (b ∷ s) = left 5 s
left (suc k) (true ∷ s) = left k s
left (suc k) (false ∷ s) = left 5 s

pub left-append : (k : ℕ) (a b : Bits) → left k (a ++ b) ≡ left (left k a) b
left-append k [] b = refl
left-append zero (x ∷ a) b = left-append 5 a b
left-append (suc k) (true ∷ a) b = left-append k a b
left-append (suc k) (false ∷ a) b = left-append 5 a b

pub removal-append : (k : ℕ) (a b : Bits) → removal k (a ++ b) ≡ removal k a ++ removal (left k a) b
removal-append k [] b = refl
removal-append zero (x ∷ a) b = removal-append 5 a b
removal-append (suc k) (true ∷ a) b = ap {B = Bits} (λ (l : Bits). true ∷ l) (removal-append k a b)
removal-append (suc k) (false ∷ a) b = ap {B = Bits} (λ (l : Bits). false ∷ l) (removal-append 5 a b)

pub left_most : (k : ℕ) (s : Bits) → k ≤ 5 → left k s ≤ 5
left_most k [] h = h
left_most zero (b ∷ s) h = left_most 5 s (omega arith)
left_most (suc k) (true ∷ s) h = left_most k s (omega arith)
left_most (suc k) (false ∷ s) h = left_most 5 s (omega arith)

-- a zero starts the count anew, left out or not
pub left_zero : (k : ℕ) (s : Bits) → left k (false ∷ s) ≡ left 5 s
left_zero zero s = refl
left_zero (suc k) s = refl

pub left-ones : (k n : ℕ) → n ≤ k → left k (ones n) + n ≡ k
left-ones k zero h = omega arith
left-ones zero (suc n) h = absurd (omega arith)
left-ones (suc k) (suc n) h = let r = left-ones k n (omega arith) in omega arith

pub removal-ones : (k n : ℕ) → n ≤ k → removal k (ones n) ≡ ones n
removal-ones k zero h = refl
removal-ones zero (suc n) h = absurd (omega arith)
removal-ones (suc k) (suc n) h = ap {B = Bits} (λ (l : Bits). true ∷ l) (removal-ones k n (omega arith))

-- removal leaves no more bits than there are
pub removal_shorter : (k : ℕ) (s : Bits) → length (removal k s) ≤ length s
removal_shorter k [] = omega arith
removal_shorter zero (b ∷ s) = let r = removal_shorter 5 s in omega arith
removal_shorter (suc k) (true ∷ s) = let r = removal_shorter k s in omega arith
removal_shorter (suc k) (false ∷ s) = let r = removal_shorter 5 s in omega arith

-- what was to come before a bit is left out is kept, or still to come
pub removal_long : (k : ℕ) (s : Bits) → k ≤ 6 → k ≤ length (removal k s) + left k s
removal_long k [] h = omega arith
removal_long zero (b ∷ s) h = omega arith
removal_long (suc k) (true ∷ s) h = let r = removal_long k s (omega arith) in omega arith
removal_long (suc k) (false ∷ s) h = let r = removal_long 5 s (omega arith) in omega arith

-- removal leaves the first bit
pub removed_some : (s : Bits) → s ≢ [] → removed s ≢ []
removed_some [] h e = h refl
removed_some (true ∷ s) h e = let z : ◌≡◌ {A = ℕ} 0 1 = cc in omega arith
removed_some (false ∷ s) h e = let z : ◌≡◌ {A = ℕ} 0 1 = cc in omega arith

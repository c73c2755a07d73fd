-- The scanner: what a receiver keeps of the bits that it has taken, bit by bit.
use Rattle.std.proofs.Common.{◌≡◌, ℕ, zero, suc, ◌-◌, ◌≤◌, Bool, true, false, [], ◌∷◌, ◌++◌, reverse, take, drop, sym, refl, ap, ◌∙◌, arith, take-append-drop}
use mathlib.Core.Option.{Option, none, some}
use Rattle.cutting.specs.Cutting.{Bits, ones, flag, Verdict, aborted}
use Rattle.cutting.proofs.Judging.{judged}

-- `lost`: at the start, or behind a break, with no zero since. `hunting k` and `inside raw k`: a zero came last and then 6 − k
-- ones; outside a stretch, or in one, whose bits so far are raw, the latest first.
pub data State : Type 0 where
  lost : State
  hunting : ℕ → State
  inside : Bits → ℕ → State

abbrev pub step : State → Bool → State
step lost true = lost
step lost false = hunting 6
step (hunting zero) true = lost
step (hunting (suc k)) true = hunting k
step (hunting zero) false = inside [] 6
step (hunting (suc k)) false = hunting 6
step (inside raw zero) true = lost
step (inside raw (suc k)) true = inside (true ∷ raw) k
step (inside raw zero) false = inside [] 6
step (inside raw (suc k)) false = inside (false ∷ raw) 6

-- a verdict on a stretch, the latest bit first, unless it is empty
abbrev pub unless_empty : Bits → Verdict → Option Verdict
unless_empty [] v = none
unless_empty (x ∷ l) v = some v

abbrev pub emits : State → Bool → Option Verdict
emits lost b = none
emits (hunting k) b = none
emits (inside raw (suc k)) b = none
emits (inside raw zero) true = unless_empty (drop 6 raw) aborted
emits (inside raw zero) false = unless_empty (drop 7 raw) (judged (reverse (drop 7 raw)))

-- the state behind some bits, the latest first
abbrev pub state_of : Bits → State
state_of [] = lost
state_of (x ∷ r) = step (state_of r) x

-- How many more ones make six behind the last zero; none behind more than six, or where there is no zero.
abbrev pub fewer : Option ℕ → Option ℕ
fewer none = none
fewer (some zero) = none
fewer (some (suc k)) = some k

abbrev pub ready : Bits → Option ℕ
ready [] = none
ready (false ∷ r) = some 6
ready (true ∷ r) = fewer (ready r)

abbrev pub trail : State → Option ℕ
trail lost = none
trail (hunting k) = some k
trail (inside raw k) = some k

trail-step_true : (st : State) → trail (step st true) ≡ fewer (trail st)
trail-step_true lost = refl
trail-step_true (hunting zero) = refl
trail-step_true (hunting (suc k)) = refl
trail-step_true (inside raw zero) = refl
trail-step_true (inside raw (suc k)) = refl

trail-step_false : (st : State) → trail (step st false) ≡ some 6
trail-step_false lost = refl
trail-step_false (hunting zero) = refl
trail-step_false (hunting (suc k)) = refl
trail-step_false (inside raw zero) = refl
trail-step_false (inside raw (suc k)) = refl

pub trail-ready : (r : Bits) → trail (state_of r) ≡ ready r
trail-ready [] = refl
trail-ready (true ∷ r) = trail-step_true (state_of r) ∙ ap {B = Option ℕ} fewer (trail-ready r)
trail-ready (false ∷ r) = trail-step_false (state_of r)

fewer_some : (o : Option ℕ) (k : ℕ) → fewer o ≡ some k → o ≡ some (suc k)
fewer_some none k e = cc
fewer_some (some zero) k e = cc
fewer_some (some (suc j)) k e = cc

pub ready-shape : (r : Bits) (k : ℕ) → ready r ≡ some k → (k ≤ 6) × ((q : Bits) × (r ≡ ones (6 - k) ++ (false ∷ q)))
ready-shape [] k e = let z : ◌≡◌ {A = ℕ} 0 1 = cc in absurd (omega arith)
ready-shape (false ∷ r) k e =
    let s : k ≡ 6 = cc in
    (omega arith, (r, ap {B = Bits} (λ (n : ℕ). ones (6 - n) ++ (false ∷ r)) (sym s)))
ready-shape (true ∷ r) k e =
    let h = ready-shape r (suc k) (fewer_some (ready r) k e) in
    let q : Bits = h.1.0 in
    let n : suc (6 - suc k) ≡ 6 - k = let b = h.0 in omega arith in
    (let b = h.0 in omega arith, (q, ap {B = Bits} (λ (l : Bits). true ∷ l) h.1.1 ∙ ap {B = Bits} (λ (n : ℕ). ones n ++ (false ∷ q)) n))

-- a flag is complete exactly with a zero behind a zero and six ones
pub flag-ready : (r : Bits) → take 8 (false ∷ r) ≡ flag → ready r ≡ some 0
flag-ready r e =
    let t : take 7 r ≡ (true ∷ true ∷ true ∷ true ∷ true ∷ true ∷ false ∷ []) = cc in
    sym (ap {B = Option ℕ} ready (take-append-drop 7 r)) ∙ ap {B = Option ℕ} (λ (l : Bits). ready (l ++ drop 7 r)) t

pub ready-flag : (r : Bits) → ready r ≡ some 0 → take 8 (false ∷ r) ≡ flag
ready-flag r e = let h = ready-shape r 0 e in ap {B = Bits} (λ (l : Bits). false ∷ take 7 l) h.1.1

pub ready_break : (r : Bits) → ready r ≡ some 0 → take 7 (true ∷ r) ≡ ones 7
ready_break r e = let h = ready-shape r 0 e in ap {B = Bits} (λ (l : Bits). true ∷ take 6 l) h.1.1

pub break_ready : (r : Bits) (k : ℕ) → ready r ≡ some k → take 7 (true ∷ r) ≡ ones 7 → k ≡ 0
break_ready r k h e =
    let t : take 6 r ≡ ones 6 = cc in
    let w : ready (ones 6 ++ drop 6 r) ≡ some k = ap {B = Option ℕ} (λ (l : Bits). ready (l ++ drop 6 r)) (sym t) ∙ ap {B = Option ℕ} ready (take-append-drop 6 r) ∙ h in
    let d : Bits = drop 6 r in
    let u : ready d ≡ some (suc (suc (suc (suc (suc (suc k)))))) = fewer_some _ _ (fewer_some _ _ (fewer_some _ _ (fewer_some _ _ (fewer_some _ _ (fewer_some _ _ w))))) in
    let b = (ready-shape d _ u).0 in
    omega arith

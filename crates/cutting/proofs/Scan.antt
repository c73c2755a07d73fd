-- The scan of a whole row gives all that falls due; what falls due is one thing at each place.
use Rattle.std.proofs.Common.{◌≡◌, ℕ, zero, suc, ◌<◌, ◌≤◌, Bool, false, List, [], ◌∷◌, length, get_or, drop, sym, refl, ap, ◌∙◌, subst, arith, length-drop, drop-cons}
use mathlib.Core.Option.{Option, none, some}
use native.Mathlib.Decide.{dec_lt, ℕ_discrete}
use Rattle.cutting.specs.Cutting.{Bits, Ended, closed, broken, Due, Verdict, Placed, AllDue, no_more, next}
use Rattle.cutting.proofs.Back.{back, back_suc, flag_fits, break_fits}
use Rattle.cutting.proofs.Scanner.{State, lost, step, emits, state_of}
use Rattle.cutting.proofs.Bridge.{emits-due, due-emits}

abbrev pub note : ℕ → Option Verdict → List Placed → List Placed
note n none l = l
note n (some v) l = (record { place = n; verdict = v }) ∷ l

abbrev pub scan : State → ℕ → Bits → List Placed
scan st n [] = []
scan st n (x ∷ xs) = note (suc n) (emits st x) (scan (step st x) (suc n) xs)

-- what is due lies within the row
ended_fits : (s : Bits) (b e : ℕ) (v : Verdict) → Ended s b e v → (0 < e) × (e ≤ length s)
ended_fits s b e _ (closed f n j) = let h = flag_fits s e f in omega arith
ended_fits s b e _ (broken f n) = let h = break_fits s e f in omega arith

pub due_fits : (s : Bits) (e : ℕ) (v : Verdict) → Due s e v → (0 < e) × (e ≤ length s)
due_fits s e v d = ended_fits s d.0 e v d.2

pub due_one : (s : Bits) (e : ℕ) (v w : Verdict) → Due s e v → Due s e w → v ≡ w
due_one s zero v w p q = let h = due_fits s 0 v p in absurd (omega arith)
due_one s (suc e) v w p q =
    let h = due_fits s (suc e) v p in
    let a = due-emits s e h.1 v p in
    let b = due-emits s e h.1 w q in
    cc

-- nothing is due at the next place: then what is due behind it is what is due from here
all_skip : (s : Bits) (n : ℕ) (l : List Placed) → ((v : Verdict) → Due s (suc n) v → ⊥) → AllDue s (suc n) l → AllDue s n l
all_skip s n _ f (no_more g) = no_more (λ e v lo d. go e v d lo (ℕ_discrete e (suc n)))
  where
    go : (e : ℕ) (v : Verdict) → Due s e v → n < e → Dec (e ≡ suc n) → ⊥
    go e v d lo (yes q) = f v (subst (λ (x : ℕ). Due s x v) q d)
    go e v d lo (no q) = g e v (omega arith) d
all_skip s n _ f (next p lo d g r) = next p (omega arith) d (λ k w a b c. go k w c a b (ℕ_discrete k (suc n))) r
  where
    go : (k : ℕ) (w : Verdict) → Due s k w → n < k → k < p.place → Dec (k ≡ suc n) → ⊥
    go k w c a b (yes q) = f w (subst (λ (x : ℕ). Due s x w) q c)
    go k w c a b (no q) = g k w (omega arith) b c

scan_at : (s : Bits) (n : ℕ) → n < length s → (x : Bool) (l : List Placed) → get_or s n false ≡ x → AllDue s (suc n) l
    → (o : Option Verdict) → emits (state_of (back s n)) x ≡ o → AllDue s n (note (suc n) o l)
scan_at s n h x l is r none q = all_skip s n l (λ v d. let p = due-emits s n h v d in let z : ◌≡◌ {A = ℕ} 0 1 = cc in omega arith) r
scan_at s n h x l is r (some v) q = next (record { place = suc n; verdict = v }) (omega arith) (emits-due s n h v (ap {B = Option Verdict} (emits (state_of (back s n))) is ∙ q)) (λ k w a b c. omega arith) r

pub scan_all : (s : Bits) (n : ℕ) (q : Bits) → n ≤ length s → drop n s ≡ q → AllDue s n (scan (state_of (back s n)) n q)
scan_all s n [] h e =
    let l : length (drop n s) ≡ 0 = ap length e in
    let m = length-drop n s in
    no_more (λ k v lo d. let f = due_fits s k v d in omega arith)
scan_all s n (x ∷ xs) h e =
    let l : length (drop n s) ≡ suc (length xs) = ap length e in
    let m = length-drop n s in
    let lt : n < length s = omega arith in
    let c = drop-cons s n false lt in
    let is : get_or s n false ≡ x = cc in
    let rest : drop (suc n) s ≡ xs = cc in
    let st : state_of (back s (suc n)) ≡ step (state_of (back s n)) x = ap state_of (back_suc s n lt) ∙ ap (step (state_of (back s n))) is in
    let r = scan_all s (suc n) xs lt rest in
    scan_at s n lt x (scan (step (state_of (back s n)) x) (suc n) xs) is (subst (λ (t : State). AllDue s (suc n) (scan t (suc n) xs)) st r) (emits (state_of (back s n)) x) refl

pub scan_cuts : (s : Bits) → AllDue s 0 (scan lost 0 s)
scan_cuts s = scan_all s 0 s (omega arith) refl

pub placed_same : (p q : Placed) → p.place ≡ q.place → p.verdict ≡ q.verdict → p ≡ q
placed_same p q a b = λ i. record { place = a i; verdict = b i }

-- the list of all that falls due is one
pub all_one : (s : Bits) (n : ℕ) (l m : List Placed) → AllDue s n l → AllDue s n m → l ≡ m
all_one s n _ _ (no_more f) (no_more g) = refl
all_one s n _ _ (no_more f) (next p lo d g r) = absurd (f p.place p.verdict lo d)
all_one s n _ _ (next p lo d g r) (no_more f) = absurd (f p.place p.verdict lo d)
all_one s n _ _ (next {l = l} p lo d g r) (next {l = m} q lo' d' g' r') =
    let same : p.place ≡ q.place = go (dec_lt p.place q.place) (dec_lt q.place p.place) in
    let vw : p.verdict ≡ q.verdict = due_one s p.place p.verdict q.verdict d (subst (λ (x : ℕ). Due s x q.verdict) (sym same) d') in
    let pq : p ≡ q = placed_same p q same vw in
    let tl : l ≡ m = all_one s p.place l m r (subst (λ (x : ℕ). AllDue s x m) (sym same) r') in
    cc
  where
    go : Dec (p.place < q.place) → Dec (q.place < p.place) → p.place ≡ q.place
    go (yes h) _ = absurd (g' p.place p.verdict lo h d)
    go (no h) (yes i) = absurd (g q.place q.verdict lo' i d')
    go (no h) (no i) = omega arith

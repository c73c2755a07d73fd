-- One bit more: behind the bits p, the bit x completes the verdict v exactly if the scanner emits it there.
use Rattle.std.proofs.Common.{◌≡◌, ℕ, suc, ◌+◌, ◌<◌, Bool, false, List, [], ◌∷◌, ◌++◌, reverse, length, get_or, sym, refl, ap, ◌∙◌, arith, length-append}
use mathlib.Core.Option.{Option, none, some}
use mathlib.Core.List.{reverse-append}
use lib.Seq.{take-append_seam, get_or-append_seam}
use Rattle.cutting.specs.Cutting.{Bits, Due, Verdict, Placed}
use Rattle.cutting.proofs.Back.{back}
use Rattle.cutting.proofs.Scanner.{State, step, emits, state_of}
use Rattle.cutting.proofs.Bridge.{emits-due, due-emits}
use Rattle.cutting.proofs.Scan.{note, scan}

-- the state behind one bit more
pub state_more : (p : Bits) (x : Bool) → state_of (reverse (p ++ (x ∷ []))) ≡ step (state_of (reverse p)) x
state_more p x = ap state_of (reverse-append p (x ∷ []))

module _ (p : Bits) (x : Bool) (q : Bits) where
  within : length p < length (p ++ (x ∷ q))
  within = let n = length-append p (x ∷ q) in omega arith

  the_emits : emits (state_of (back (p ++ (x ∷ q)) (length p))) (get_or (p ++ (x ∷ q)) (length p) false) ≡ emits (state_of (reverse p)) x
  the_emits =
      let a = take-append_seam p (x ∷ q) in
      let b = get_or-append_seam p x q false in
      cc

  pub step-due : (v : Verdict) → emits (state_of (reverse p)) x ≡ some v → Due (p ++ (x ∷ q)) (suc (length p)) v
  step-due v e = emits-due (p ++ (x ∷ q)) (length p) within v (the_emits ∙ e)

  pub due-step : (v : Verdict) → Due (p ++ (x ∷ q)) (suc (length p)) v → emits (state_of (reverse p)) x ≡ some v
  due-step v d = sym the_emits ∙ due-emits (p ++ (x ∷ q)) (length p) within v d

  -- where nothing is emitted nothing is due
  pub step-none : emits (state_of (reverse p)) x ≡ none → (v : Verdict) → Due (p ++ (x ∷ q)) (suc (length p)) v → ⊥
  step-none e v d = let h = due-step v d in let z : ◌≡◌ {A = ℕ} 0 1 = cc in omega arith

-- the state behind more bits, from any state, and the scan in two pieces
abbrev pub passes : State → Bits → State
passes st [] = st
passes st (x ∷ s) = passes (step st x) s

note-append : (n : ℕ) (o : Option Verdict) (l m : List Placed) → note n o l ++ m ≡ note n o (l ++ m)
note-append n none l m = refl
note-append n (some v) l m = refl

pub scan-append : (st : State) (n k : ℕ) (s t : Bits) → n + length s ≡ k → scan st n (s ++ t) ≡ scan st n s ++ scan (passes st s) k t
scan-append st n k [] t e = let q : n ≡ k = omega arith in ap {B = List Placed} (λ (m : ℕ). scan st m t) q
scan-append st n k (x ∷ s) t e =
    ap {B = List Placed} (note (suc n) (emits st x)) (scan-append (step st x) (suc n) k s t (omega arith))
    ∙ sym (note-append (suc n) (emits st x) (scan (step st x) (suc n) s) (scan (passes (step st x) s) k t))

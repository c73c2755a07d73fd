-- What falls due behind a whole flag does not depend on what came before the flag.
use Rattle.std.proofs.Common.{◌≡◌, ℕ, zero, suc, ◌+◌, ◌-◌, ◌<◌, true, false, [], ◌∷◌, ◌++◌, reverse, length, get_or, take, sym, refl, ap, ◌∙◌, subst, append_assoc, arith, length-append, get_or-append-add}
use mathlib.Core.List.{reverse-append}
use lib.Seq.{take-append-add}
use Rattle.cutting.specs.Cutting.{Bits, flag, Due, Verdict}
use Rattle.cutting.proofs.Back.{back}
use Rattle.cutting.proofs.Scanner.{State, lost, hunting, inside, step, emits, state_of}
use Rattle.cutting.proofs.Bridge.{emits-due, due-emits}
use Rattle.cutting.proofs.Scan.{due_fits}

-- behind a whole flag a stretch is open and empty, whatever the state was
pub flag_lands : (r : Bits) → state_of (flag ++ r) ≡ inside [] 6
flag_lands r = go (state_of r)
  where
    go : (st : State) → step (step (step (step (step (step (step (step st false) true) true) true) true) true) true) false ≡ inside [] 6
    go lost = refl
    go (hunting zero) = refl
    go (hunting (suc k)) = refl
    go (inside raw zero) = refl
    go (inside raw (suc k)) = refl

pub state_local : (m r : Bits) → state_of (m ++ (flag ++ r)) ≡ state_of (m ++ flag)
state_local [] r = flag_lands r
state_local (x ∷ m) r = ap (λ (st : State). step st x) (state_local m r)

module _ (pre rest : Bits) where
  back_local : (e : ℕ) → state_of (back (pre ++ (flag ++ rest)) (length pre + (8 + e))) ≡ state_of (back (flag ++ rest) (8 + e))
  back_local e =
      let t : take (length pre + (8 + e)) (pre ++ (flag ++ rest)) ≡ pre ++ (flag ++ take e rest) = take-append-add pre (flag ++ rest) (8 + e) ∙ ap {B = Bits} (λ (l : Bits). pre ++ l) (take-append-add flag rest e) in
      let b : back (pre ++ (flag ++ rest)) (length pre + (8 + e)) ≡ reverse (take e rest) ++ (flag ++ reverse pre) =
      ap {B = Bits} reverse t ∙ reverse-append pre (flag ++ take e rest) ∙ ap {B = Bits} (λ (l : Bits). l ++ reverse pre) (reverse-append flag (take e rest)) ∙ append_assoc (reverse (take e rest)) flag (reverse pre) in
      let c : back (flag ++ rest) (8 + e) ≡ reverse (take e rest) ++ flag = ap {B = Bits} reverse (take-append-add flag rest e) ∙ reverse-append flag (take e rest) in
      ap state_of b ∙ state_local (reverse (take e rest)) (reverse pre) ∙ sym (ap state_of c)

  same-emits : (e : ℕ) → emits (state_of (back (pre ++ (flag ++ rest)) (length pre + (8 + e)))) (get_or (pre ++ (flag ++ rest)) (length pre + (8 + e)) false)
      ≡ emits (state_of (back (flag ++ rest) (8 + e))) (get_or (flag ++ rest) (8 + e) false)
  same-emits e = let a = back_local e in let b = get_or-append-add pre (flag ++ rest) (8 + e) false in cc

  place : (e : ℕ) → 8 < e → length pre + e ≡ suc (length pre + (8 + (e - 9)))
  place e h = omega arith

  place' : (e : ℕ) → 8 < e → e ≡ suc (8 + (e - 9))
  place' e h = omega arith

  pub local_to : (e : ℕ) (v : Verdict) → 8 < e → Due (pre ++ (flag ++ rest)) (length pre + e) v → Due (flag ++ rest) e v
  local_to e v h d =
      let k : ℕ = e - 9 in
      let d' : Due (pre ++ (flag ++ rest)) (suc (length pre + (8 + k))) v = subst (λ (x : ℕ). Due (pre ++ (flag ++ rest)) x v) (place e h) d in
      let fit = due_fits (pre ++ (flag ++ rest)) (suc (length pre + (8 + k))) v d' in
      let n = length-append pre (flag ++ rest) in
      let lt : 8 + k < length (flag ++ rest) = omega arith in
      let q = due-emits (pre ++ (flag ++ rest)) (length pre + (8 + k)) fit.1 v d' in
      subst (λ (x : ℕ). Due (flag ++ rest) x v) (sym (place' e h)) (emits-due (flag ++ rest) (8 + k) lt v (sym (same-emits k) ∙ q))

  pub local_from : (e : ℕ) (v : Verdict) → 8 < e → Due (flag ++ rest) e v → Due (pre ++ (flag ++ rest)) (length pre + e) v
  local_from e v h d =
      let k : ℕ = e - 9 in
      let d' : Due (flag ++ rest) (suc (8 + k)) v = subst (λ (x : ℕ). Due (flag ++ rest) x v) (place' e h) d in
      let fit = due_fits (flag ++ rest) (suc (8 + k)) v d' in
      let n = length-append pre (flag ++ rest) in
      let lt : length pre + (8 + k) < length (pre ++ (flag ++ rest)) = omega arith in
      let q = due-emits (flag ++ rest) (8 + k) fit.1 v d' in
      subst (λ (x : ℕ). Due (pre ++ (flag ++ rest)) x v) (sym (place e h)) (emits-due (pre ++ (flag ++ rest)) (length pre + (8 + k)) lt v (same-emits k ∙ q))

-- What is due at a place depends on the bits before it alone.
use Rattle.std.proofs.Common.{◌≡◌, ℕ, zero, suc, ◌<◌, ◌≤◌, false, ◌++◌, length, get_or, sym, ◌∙◌, arith, length-append}
use lib.ListN.{get_or-append}
use lib.Seq.{take-append-le}
use Rattle.cutting.specs.Cutting.{Bits, Due, Verdict}
use Rattle.cutting.proofs.Back.{back}
use Rattle.cutting.proofs.Scanner.{emits, state_of}
use Rattle.cutting.proofs.Bridge.{emits-due, due-emits}
use Rattle.cutting.proofs.Scan.{due_fits}

module _ (p q : Bits) where
  same-front : (e : ℕ) → e < length p → emits (state_of (back (p ++ q) e)) (get_or (p ++ q) e false) ≡ emits (state_of (back p e)) (get_or p e false)
  same-front e h = let a = take-append-le e p q (omega arith) in let b = get_or-append p q false e h in cc

  pub due-front : (e : ℕ) (v : Verdict) → e ≤ length p → Due (p ++ q) e v → Due p e v
  due-front zero v h d = let f = due_fits (p ++ q) 0 v d in absurd (omega arith)
  due-front (suc e) v h d = let f = due_fits (p ++ q) (suc e) v d in emits-due p e h v (sym (same-front e h) ∙ due-emits (p ++ q) e f.1 v d)

  pub due_longer : (e : ℕ) (v : Verdict) → Due p e v → Due (p ++ q) e v
  due_longer zero v d = let f = due_fits p 0 v d in absurd (omega arith)
  due_longer (suc e) v d =
      let f = due_fits p (suc e) v d in
      let n = length-append p q in
      emits-due (p ++ q) e (omega arith) v (same-front e f.1 ∙ due-emits p e f.1 v d)

-- A zero closes a stretch: the verdict from what the store holds.
use Rattle.std.proofs.Common.{◌≡◌, ◌-◌, ◌<◌, ◌≤◌, Bool, true, false, [], ◌∷◌, ◌++◌, reverse, length, take, Some, None, Option, sym, ap, ◌∙◌, arith}
use mathlib.Core.Option.{some}
use mathlib.Core.Option as scanned
use Rattle.cutting.specs.Cutting.{Bits, removed, Applies, Judged, Verdict, refused}
use Rattle.cutting.specs.declared.Fault.TheVariants.{MissingZero}
use Rattle.cutting.proofs.Judging.{judged_one}
use Rattle.cutting.proofs.Scanner.{inside, emits, state_of}
use Rattle.cutting.proofs.Scanner as scanner
use Rattle.cutting.proofs.Keeping.{Six, kept, in_stretch, six, closes_nothing, closes_missing, closes_whole}
use Rattle.receiver.specs.declared.store.Store.{Store}
use Rattle.receiver.specs.declared.record.State.TheVariants.{Stretch}
use Rattle.receiver.specs.Stands.{Holds, Inside}
use Rattle.receiver.specs.Hearing.{DueNow}
use Rattle.receiver.proofs.Matching.{stands_matches}
use Rattle.receiver.proofs.Turns.{IsInside, is_inside, emitted, due_now}

module _ (h : Bits) (out : Bool) (store : Store) (was : Inside 6 out store h) where
  at : IsInside 0 out store (state_of (reverse h))
  at = is_inside 6 0 out store (state_of (reverse h)) (omega arith) (stands_matches h store (Stretch 6 out) was)

  behind_six : (raw : Bits) → state_of (reverse h) ≡ inside raw 0 → Six raw
  behind_six raw s = six raw (in_stretch (reverse h) raw 0 s)

  falls : (o : Option Verdict) → emits (inside at.raw 0) false ≡ emitted o → DueNow (h ++ false ∷ []) o
  falls o e = due_now h false o (ap {B = scanned.Option Verdict} (λ (t : scanner.State). emits t false) at.state ∙ e)

  pub closes_empty : store.count ≤ 6 → DueNow (h ++ false ∷ []) None
  closes_empty few = let c = at.holds.counted in falls None (closes_nothing at.raw (behind_six at.raw at.state) (omega arith))

  pub closes_unclosed : 6 < store.count → out ≡ true → DueNow (h ++ false ∷ []) (Some (refused MissingZero))
  closes_unclosed many e = let c = at.holds.counted in falls (Some (refused MissingZero)) (closes_missing at.raw (behind_six at.raw at.state) (omega arith) (sym at.out_is ∙ e))

  pub closes_judged : 6 < store.count → out ≡ false → (v : Verdict)
      → ((x held : Bits) → (Applies MissingZero x → ⊥) → Holds store held → removed x ≡ take (length held - 6) held → Judged x v) → DueNow (h ++ false ∷ []) (Some v)
  closes_judged many e v told =
      let c = at.holds.counted in
      let w = closes_whole at.raw (behind_six at.raw at.state) (omega arith) (sym at.out_is ∙ e) in
      falls (Some v) (w.3 ∙ ap {B = scanned.Option Verdict} some (judged_one w.0 v (told w.0 (kept at.raw) w.1 at.holds w.2)))

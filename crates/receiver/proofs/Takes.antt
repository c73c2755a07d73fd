-- What one bit more does to the facts that listening keeps.
use Rattle.std.proofs.Common.{◌≡◌, ℕ, ◌<◌, ◌≤◌, Bool, List, [], ◌∷◌, ◌++◌, length, Some, None, Option, sym, refl, ap, ◌∙◌, subst, append_assoc, arith, length-append}
use native.Mathlib.Decide.{dec_lt}
use Rattle.std.proofs.lemmas.List.{length_push}
use Rattle.cutting.specs.Cutting.{Bits, Verdict, Due}
use Rattle.cutting.proofs.Prefix.{due-front}
use Rattle.receiver.specs.declared.answer.Answer.{Answer}
use Rattle.receiver.specs.declared.answer.Answer.TheVariants.{Aborted, Refused, Frame, Paused, Dry}
use Rattle.receiver.specs.Answers.{verdict_of}
use Rattle.receiver.specs.Hearing.{DueNow}
use Rattle.receiver.specs.Listening.{Still, Comes, Stops, Listens}

pub lost_more : {X : Type 0} (start t mid after : List X) (b : X) → start ≡ t ++ mid → mid ≡ b ∷ after → start ≡ (t ++ b ∷ []) ++ after
lost_more start t mid after b p q = p ∙ ap (λ l. t ++ l) q ∙ sym (append_assoc t (b ∷ []) after)

-- nothing fell due in s behind place a; one bit more changes nothing up to there, and brings what is due now
module _ (s : Bits) (b : Bool) (a : ℕ) (still : Still s a (length s)) where
  still_before : (e : ℕ) (v : Verdict) → a < e → e < length (s ++ b ∷ []) → Due (s ++ b ∷ []) e v → ⊥
  still_before e v lo hi d = let n = length_push s b in let le : e ≤ length s = omega arith in still e v lo le (due-front s (b ∷ []) e v le d)

  still_more : DueNow (s ++ b ∷ []) None → Still (s ++ b ∷ []) a (length (s ++ b ∷ []))
  still_more now e v lo hi d = go (dec_lt e (length (s ++ b ∷ [])))
    where
      go : Dec (e < length (s ++ b ∷ [])) → ⊥
      go (yes lt) = still_before e v lo lt d
      go (no ge) = let z : e ≡ length (s ++ b ∷ []) = omega arith in now v (subst (λ (k : ℕ). Due (s ++ b ∷ []) k v) z d)

-- the bits t came, and nothing fell due; `was`, `is` and `then` are the histories that the record stood for before them, behind them, and behind the bit b
module _ (was is then : Bits → Type 0) (t : Bits) (b : Bool) (so_far : (h : Bits) → was h → is (h ++ t) × Still (h ++ t) (length h) (length (h ++ t))) where
  pub comes : (o : Option Verdict) → ((h : Bits) → is h → then (h ++ b ∷ []) × DueNow (h ++ b ∷ []) o) → (h : Bits) → was h → then (h ++ (t ++ b ∷ [])) × Comes h (t ++ b ∷ []) o
  comes None step h w =
      let before = so_far h w in
      let now = step (h ++ t) before.0 in
      subst (λ (l : Bits). then l × Still l (length h) (length l)) (append_assoc h t (b ∷ [])) (now.0, still_more (h ++ t) b (length h) before.1 now.1)
  comes (Some v) step h w =
      let before = so_far h w in
      let now = step (h ++ t) before.0 in
      subst (λ (l : Bits). then l × (Due l (length l) v × ((e : ℕ) (u : Verdict) → length h < e → e < length l → Due l e u → ⊥))) (append_assoc h t (b ∷ []))
      (now.0, (now.1, still_before (h ++ t) b (length h) before.1))

pub stops_found : (a : Answer) (octets : List ℕ) (v : Verdict) → verdict_of a octets ≡ Some v → (allowance taken : ℕ) (after : List Bool) → 0 < taken → taken ≤ allowance
    → Stops a allowance taken after
stops_found Aborted octets v e allowance taken after some few = (some, few)
stops_found (Refused f) octets v e allowance taken after some few = (some, few)
stops_found (Frame n) octets v e allowance taken after some few = (some, few)
stops_found Paused octets v e allowance taken after some few = let z : ◌≡◌ {A = ℕ} 0 1 = cc in absurd (omega arith)
stops_found Dry octets v e allowance taken after some few = let z : ◌≡◌ {A = ℕ} 0 1 = cc in absurd (omega arith)

some_taken : (a : Answer) (allowance taken : ℕ) (after : List Bool) → Stops a allowance taken after → (a ≡ Dry → ⊥) → 0 < allowance → 0 < taken
some_taken Aborted allowance taken after stops wet allowed = stops.0
some_taken (Refused f) allowance taken after stops wet allowed = stops.0
some_taken (Frame n) allowance taken after stops wet allowed = stops.0
some_taken Paused allowance taken after stops wet allowed = omega arith
some_taken Dry allowance taken after stops wet allowed = absurd (wet refl)

-- a call that did not run dry left fewer bits waiting
pub fewer_wait : {was is : Bits → Type 0} {before after : List Bool} {allowance taken : ℕ} {old new : List ℕ} {a : Answer}
    → Listens was is before after allowance taken old new a → (a ≡ Dry → ⊥) → 0 < allowance → length after < length before
fewer_wait {before = before} {after} {allowance} {taken} {a = a} l wet allowed =
    let some = some_taken a allowance taken after l.stops wet allowed in
    omega (arith, ap length l.lost, length-append l.bits after, l.counts)

-- One bit more: what each turn of the receiver does, by the scanner's step.
use Rattle.std.proofs.Common.{◌≡◌, ◌≢◌, ℕ, suc, ◌+◌, ◌-◌, ◌<◌, ◌≤◌, Bool, true, false, [], ◌∷◌, ◌++◌, reverse, length, Some, None, Option, sym, refl, ap, ◌∙◌, subst, append_assoc, arith}
use mathlib.Core.Option.{none, some}
use mathlib.Core.Option as scanned
use mathlib.Core.List.{reverse-append}
use Rattle.std.proofs.Math.Logic.{∥∥₁_map, ∥∥₁_elim}
use Rattle.std.proofs.Math.Bridge.{le_prop}
use Rattle.std.proofs.lemmas.List.{length_push}
use Rattle.cutting.specs.Cutting.{Bits, flag, ones, Verdict, Due}
use Rattle.cutting.proofs.Scanner.{lost, hunting, inside, step, emits, state_of}
use Rattle.cutting.proofs.Scanner as scanner
use Rattle.cutting.proofs.Steps.{state_more, step-due, step-none}
use Rattle.cutting.proofs.Keeping.{kept, last_out, in_stretch, kept_in, kept_out, out_zero, six, breaks_nothing, breaks_off}
use Rattle.cutting.proofs.Local.{flag_lands}
use Rattle.receiver.specs.declared.verdict.Verdict.{Verdict as Found}
use Rattle.receiver.specs.declared.verdict.Verdict.TheVariants.{Aborted}
use Rattle.receiver.specs.declared.store.Store.{Store}
use Rattle.receiver.specs.declared.record.State.{State}
use Rattle.receiver.specs.declared.record.State.TheVariants.{Hunting, Stretch, Idle}
use Rattle.receiver.specs.declared.record.Receiver.{Receiver}
use Rattle.receiver.specs.Stands.{Holds, Behind, Stands}
use Rattle.receiver.specs.Hearing.{HasHeard, DueNow, verdict_if_any, Hears}
use Rattle.receiver.proofs.Matching.{Matches, stands_matches, matches_stands}

-- what the scanner emits, as the contracts have it
abbrev pub emitted : Option Verdict → scanned.Option Verdict
emitted None = none
emitted (Some v) = some v

pub due_now : (h : Bits) (b : Bool) (o : Option Verdict) → emits (state_of (reverse h)) b ≡ emitted o → DueNow (h ++ b ∷ []) o
due_now h b None e = λ v d.
    let long : length (h ++ b ∷ []) ≡ suc (length h) = let n = length_push h b in omega arith in
    step-none h b [] e v (subst (λ (n : ℕ). Due (h ++ b ∷ []) n v) long d)
due_now h b (Some v) e =
    let long : length (h ++ b ∷ []) ≡ suc (length h) = let n = length_push h b in omega arith in
    subst (λ (n : ℕ). Due (h ++ b ∷ []) n v) (sym long) (step-due h b [] v e)

-- what `Hears` says, by the record's fields
pub record Turn (h : Bits) (b : Bool) (v : Option Found) (state : State) (store : Store) : Type 0 where
  pub heard : Stands state store (h ++ b ∷ [])
  pub due : DueNow (h ++ b ∷ []) (verdict_if_any v store.octets)

pub hears : {h : Bits} {b x : Bool} {v : Option Found} (r : Receiver) → b ≡ x → Turn h x v r.state r.store → Hears h b v r
hears {h} {v = v} r f t = subst (λ (y : Bool). Hears h y v r) (sym f) (record { heard = t.heard; due = t.due })

-- the record in state s
pub stood : (r : Receiver) (s : State) (h : Bits) → r.state ≡ s → HasHeard r h → Stands s r.store h
stood r s h = subst (λ (t : State). Stands t r.store h)

-- some history stands behind the fields still
pub still_heard : {x : Bool} {v : Option Found} {state : State} {store : Store} (r : Receiver) (s : State) → r.state ≡ s
    → ((h : Bits) → Stands s r.store h → Turn h x v state store) → ∥ ((h : Bits) × Stands state store h) ∥₁
still_heard {x} r s e turn = ∥∥₁_map r.heard (λ p. (p.0 ++ x ∷ [], (turn p.0 (stood r s p.0 e p.1)).heard))

-- so the ones are few
pub few_hunting : (r : Receiver) (n : ℕ) → r.state ≡ Hunting n → n ≤ 6
few_hunting r n e = ∥∥₁_elim r.heard le_prop (λ p. (stood r (Hunting n) p.0 e p.1).1)

pub few_stretch : (r : Receiver) (n : ℕ) (out : Bool) → r.state ≡ Stretch n out → n ≤ 6
few_stretch r n out e = ∥∥₁_elim r.heard le_prop (λ p. (stood r (Stretch n out) p.0 e p.1).few)

-- nothing heard yet
pub fresh : (store : Store) → Stands Idle store []
fresh store = matches_stands [] store Idle tt

pub still_idle : (store : Store) → ∥ ((h : Bits) × Stands Idle store h) ∥₁
still_idle store = ∣ ([], fresh store) ∣₁

-- a zero behind a zero and six ones: a stretch begins
pub begins : (h : Bits) (store : Store) → Holds store [] → Behind 6 h → Stands (Stretch 0 false) store (h ++ false ∷ [])
begins h store holds (p, is) =
    let e : h ++ false ∷ [] ≡ p ++ flag = ap {B = Bits} (λ (l : Bits). l ++ false ∷ []) is ∙ append_assoc p (false ∷ ones 6) (false ∷ []) in
    let s : state_of (reverse (p ++ flag)) ≡ inside [] 6 = ap state_of (reverse-append p flag) ∙ flag_lands (reverse p) in
    subst (Stands (Stretch 0 false) store) (sym e) (matches_stands (p ++ flag) store (Stretch 0 false) (subst (Matches (Stretch 0 false) store) (sym s) (refl, holds, refl)))

-- the state that the fields match
is_lost : (store : Store) (st : scanner.State) → Matches Idle store st → st ≡ lost
is_lost store lost m = refl
is_lost store (hunting k) m = absurd m
is_lost store (inside raw k) m = absurd m

is_hunting : (n k : ℕ) (store : Store) (st : scanner.State) → n + k ≡ 6 → Matches (Hunting n) store st → st ≡ hunting k
is_hunting n k store lost s m = absurd m
is_hunting n k store (hunting j) s m = let e : j ≡ k = omega arith in ap hunting e
is_hunting n k store (inside raw j) s m = absurd m

pub record IsInside (k : ℕ) (out : Bool) (store : Store) (st : scanner.State) : Type 0 where
  pub raw : Bits
  pub state : st ≡ inside raw k
  pub holds : Holds store (kept raw)
  pub out_is : out ≡ last_out raw

pub is_inside : (n k : ℕ) (out : Bool) (store : Store) (st : scanner.State) → n + k ≡ 6 → Matches (Stretch n out) store st → IsInside k out store st
is_inside n k out store lost s m = absurd m
is_inside n k out store (hunting j) s m = absurd m
is_inside n k out store (inside raw j) s m =
    let e : j ≡ k = let z = m.0 in omega arith in
    record { raw = raw; state = ap (inside raw) e; holds = m.1; out_is = m.2 }

module _ (store : Store) (h : Bits) where
  turn : (v : Option Found) (state : State) (then : Store) (st : scanner.State) (b : Bool) → state_of (reverse h) ≡ st → Matches state then (step st b)
      → emits st b ≡ emitted (verdict_if_any v then.octets) → Turn h b v state then
  turn v state then st b s m e =
      let next : state_of (reverse (h ++ b ∷ [])) ≡ step st b = state_more h b ∙ ap (λ (t : scanner.State). step t b) s in
      record {
        heard = matches_stands (h ++ b ∷ []) then state (subst (Matches state then) (sym next) m);
        due = due_now h b (verdict_if_any v then.octets) (ap {B = scanned.Option Verdict} (λ (t : scanner.State). emits t b) s ∙ e);
      }

  lies : Stands Idle store h → state_of (reverse h) ≡ lost
  lies was = is_lost store (state_of (reverse h)) (stands_matches h store Idle was)

  pub idle_one : Stands Idle store h → Turn h true None Idle store
  idle_one was = turn None Idle store lost true (lies was) tt refl

  pub idle_zero : Stands Idle store h → Turn h false None (Hunting 0) store
  idle_zero was = turn None (Hunting 0) store lost false (lies was) refl refl

  hunts : (n k : ℕ) → n + k ≡ 6 → Stands (Hunting n) store h → state_of (reverse h) ≡ hunting k
  hunts n k s was = is_hunting n k store (state_of (reverse h)) s (stands_matches h store (Hunting n) was)

  pub hunting_break : Stands (Hunting 6) store h → Turn h true None Idle store
  hunting_break was = turn None Idle store (hunting 0) true (hunts 6 0 (omega arith) was) tt refl

  pub hunting_one : (n : ℕ) → n ≢ 6 → Stands (Hunting n) store h → Turn h true None (Hunting (n + 1)) store
  hunting_one n ne was =
      let few = was.1 in
      turn None (Hunting (n + 1)) store (hunting (suc (5 - n))) true (hunts n (suc (5 - n)) (omega arith) was) (omega arith) refl

  pub hunting_zero : (n : ℕ) → n ≢ 6 → Stands (Hunting n) store h → Turn h false None (Hunting 0) store
  hunting_zero n ne was =
      let few = was.1 in
      turn None (Hunting 0) store (hunting (suc (5 - n))) false (hunts n (suc (5 - n)) (omega arith) was) refl refl

  -- a flag is complete that closes nothing
  pub hunting_flag : Stands (Hunting 6) store h → DueNow (h ++ false ∷ []) None
  hunting_flag was = due_now h false None (ap {B = scanned.Option Verdict} (λ (t : scanner.State). emits t false) (hunts 6 0 (omega arith) was))

  module _ (out : Bool) where
    within : (n k : ℕ) → n + k ≡ 6 → Stands (Stretch n out) store h → IsInside k out store (state_of (reverse h))
    within n k s was = is_inside n k out store (state_of (reverse h)) s (stands_matches h store (Stretch n out) was)

    -- a break's own ones, and nothing before them
    pub stretch_break_empty : store.count < 6 → Stands (Stretch 6 out) store h → Turn h true None Idle store
    stretch_break_empty few was =
        let i = within 6 0 (omega arith) was in
        let c = i.holds.counted in
        turn None Idle store (inside i.raw 0) true i.state tt (breaks_nothing i.raw (six i.raw (in_stretch (reverse h) i.raw 0 i.state)) (omega arith))

    pub stretch_break : 6 ≤ store.count → Stands (Stretch 6 out) store h → Turn h true (Some Aborted) Idle store
    stretch_break many was =
        let i = within 6 0 (omega arith) was in
        let c = i.holds.counted in
        turn (Some Aborted) Idle store (inside i.raw 0) true i.state tt (breaks_off i.raw (six i.raw (in_stretch (reverse h) i.raw 0 i.state)) (omega arith))

    -- the sixth one is left out
    pub stretch_six : Stands (Stretch 5 out) store h → Turn h true None (Stretch 6 out) store
    stretch_six was =
        let i = within 5 1 (omega arith) was in
        let k = kept_out i.raw (in_stretch (reverse h) i.raw 1 i.state) true in
        turn None (Stretch 6 out) store (inside i.raw 1) true i.state (refl, subst (Holds store) (sym k) i.holds, i.out_is) refl

    pub stretch_left-out : Stands (Stretch 5 out) store h → Turn h false None (Stretch 0 true) store
    stretch_left-out was =
        let i = within 5 1 (omega arith) was in
        let j = in_stretch (reverse h) i.raw 1 i.state in
        let k = kept_out i.raw j false in
        turn None (Stretch 0 true) store (inside i.raw 1) false i.state (refl, subst (Holds store) (sym k) i.holds, sym (out_zero i.raw 0 j)) refl

    -- a bit that is kept
    module _ (then : Store) (n : ℕ) (five : n ≢ 5) (six : n ≢ 6) (b : Bool) (pushed : (l : Bits) → Holds store l → Holds then (l ++ b ∷ [])) (was : Stands (Stretch n out) store h) where
      at : IsInside (suc (suc (4 - n))) out store (state_of (reverse h))
      at = let few = was.few in within n (suc (suc (4 - n))) (omega arith) was

      held : Holds then (kept (b ∷ at.raw))
      held = subst (Holds then) (sym (kept_in at.raw (4 - n) (in_stretch (reverse h) at.raw (suc (suc (4 - n))) at.state) b)) (pushed (kept at.raw) at.holds)

    pub stretch-one : (then : Store) (n : ℕ) → n ≢ 5 → n ≢ 6 → ((l : Bits) → Holds store l → Holds then (l ++ true ∷ [])) → Stands (Stretch n out) store h
        → Turn h true None (Stretch (n + 1) out) then
    stretch-one then n five six pushed was =
        let few = was.few in
        let i = at then n five six true pushed was in
        turn None (Stretch (n + 1) out) then (inside i.raw (suc (suc (4 - n)))) true i.state (omega arith, held then n five six true pushed was, i.out_is) refl

    pub stretch-zero : (then : Store) (n : ℕ) → n ≢ 5 → n ≢ 6 → ((l : Bits) → Holds store l → Holds then (l ++ false ∷ [])) → Stands (Stretch n out) store h
        → Turn h false None (Stretch 0 false) then
    stretch-zero then n five six pushed was =
        let i = at then n five six false pushed was in
        let j = in_stretch (reverse h) i.raw (suc (suc (4 - n))) i.state in
        turn None (Stretch 0 false) then (inside i.raw (suc (suc (4 - n)))) false i.state (refl, held then n five six false pushed was, sym (out_zero i.raw (suc (4 - n)) j)) refl

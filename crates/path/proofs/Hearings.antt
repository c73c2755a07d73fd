-- What a row of listenings has heard so far, and what it comes to when no bit waits.
use Rattle.std.proofs.Common.{◌≡◌, ℕ, ◌+◌, List, [], ◌∷◌, ◌++◌, map, length, sym, refl, ap, ◌∙◌, subst, append_assoc, append-nil, arith, length-append}
use Rattle.std.proofs.lemmas.Simd.{map-map}
use Rattle.std.proofs.lemmas.List.{map-append}
use Rattle.cutting.specs.Cutting.{Bits, Placed, AllDue}
use Rattle.receiver.specs.Answers.{verdict_of}
use Rattle.receiver.specs.Listening.{Listens, Comes}
use Rattle.receiver.specs.declared.answer.Answer.{Answer}
use Rattle.path.specs.Runs.{noted, later}
use Rattle.path.specs.Dry.{placed, HearsAll, HearsSome}
use Rattle.path.specs.declared.dry.Event.{Event}
use Rattle.path.proofs.Noting.{noted-later}
use Rattle.path.proofs.Joins.{none-behind, OfSome, of_some, all_from}

-- the first bits were taken and counted; for every history, the verdicts noted and then all that are due behind these bits are all that are due
pub record Hearing (was is : Bits → Type 0) (before after : Bits) (taken : ℕ) (items : List Placed) : Type 0 where
  pub bits : Bits
  pub lost : before ≡ bits ++ after
  pub counts : taken ≡ length bits
  pub told : (h : Bits) → was h → is (h ++ bits) × ((m : List Placed) → AllDue (h ++ before) (length (h ++ bits)) m
      → AllDue (h ++ before) (length h) (map (later (length h)) items ++ m))

pub hearing_new : (was : Bits → Type 0) (before : Bits) → Hearing was was before before 0 []
hearing_new was before = record {
  bits = [];
  lost = refl;
  counts = refl;
  told = λ h w. (subst was (sym (append-nil h)) w, λ m all. subst (λ l. AllDue (h ++ before) (length l) m) (append-nil h) all);
}

module _ (was is is' : Bits → Type 0) (before mid after : Bits) (taken taken' allowance n : ℕ) (items items' : List Placed) (old new : List ℕ) (a : Answer) where
  pub hearing_more : Hearing was is before mid taken items → Listens is is' mid after allowance n old new a → taken' ≡ taken + n
      → items' ≡ items ++ noted (verdict_of a new) taken' → Hearing was is' before after taken' items'
  hearing_more so_far l sum more = record {
    bits = so_far.bits ++ l.bits;
    lost = so_far.lost ∙ ap (λ x. so_far.bits ++ x) l.lost ∙ sym (append_assoc so_far.bits l.bits after);
    counts = omega (arith, so_far.counts, l.counts, length-append so_far.bits l.bits);
    told = λ h w. (subst is' (append_assoc h so_far.bits l.bits) (now h w).0, λ m all. whole h w m all);
  }
    where
      now : (h : Bits) → was h → is' ((h ++ so_far.bits) ++ l.bits) × Comes (h ++ so_far.bits) l.bits (verdict_of a new)
      now h w = l.told (h ++ so_far.bits) (so_far.told h w).0

      row : (h : Bits) → h ++ before ≡ ((h ++ so_far.bits) ++ l.bits) ++ after
      row h =
          ap (λ x. h ++ x) (so_far.lost ∙ ap (λ x. so_far.bits ++ x) l.lost)
          ∙ sym (append_assoc h so_far.bits (l.bits ++ after))
          ∙ sym (append_assoc (h ++ so_far.bits) l.bits after)

      some : OfSome (verdict_of a new) l.bits
      some = of_some a new allowance n after l.bits l.stops l.counts

      place : (h : Bits) → length ((h ++ so_far.bits) ++ l.bits) ≡ length h + taken'
      place h = omega (arith, sum, so_far.counts, l.counts, length-append h so_far.bits, length-append (h ++ so_far.bits) l.bits)

      named : (h : Bits) (m : List Placed) → map (later (length h)) items ++ (noted (verdict_of a new) (length ((h ++ so_far.bits) ++ l.bits)) ++ m)
          ≡ map (later (length h)) items' ++ m
      named h m =
          ap (λ k. map (later (length h)) items ++ (noted (verdict_of a new) k ++ m)) (place h)
          ∙ ap (λ x. map (later (length h)) items ++ (x ++ m)) (noted-later (length h) taken' (verdict_of a new))
          ∙ sym (append_assoc (map (later (length h)) items) (map (later (length h)) (noted (verdict_of a new) taken')) m)
          ∙ ap (λ x. x ++ m) (sym (map-append (later (length h)) items (noted (verdict_of a new) taken')) ∙ ap (map (later (length h))) (sym more))

      whole : (h : Bits) → was h → (m : List Placed) → AllDue (h ++ before) (length (h ++ (so_far.bits ++ l.bits))) m
          → AllDue (h ++ before) (length h) (map (later (length h)) items' ++ m)
      whole h w m all =
          let q = length ((h ++ so_far.bits) ++ l.bits) in
          let here : AllDue (((h ++ so_far.bits) ++ l.bits) ++ after) q m =
          subst (λ s. AllDue s q m) (row h) (subst (λ x. AllDue (h ++ before) (length x) m) (sym (append_assoc h so_far.bits l.bits)) all) in
          let step = all_from (h ++ so_far.bits) l.bits after (verdict_of a new) m some (now h w).1 here in
          subst (AllDue (h ++ before) (length h)) (named h m)
          ((so_far.told h w).1 (noted (verdict_of a new) q ++ m) (subst (λ s. AllDue s (length (h ++ so_far.bits)) (noted (verdict_of a new) q ++ m)) (sym (row h)) step))

pub hearing_some : {was is : Bits → Type 0} {before after : Bits} {taken : ℕ} {items : List Placed} → Hearing was is before after taken items → HearsSome was is before after
hearing_some so_far = record { bits = so_far.bits; lost = so_far.lost; told = λ h w. (so_far.told h w).0 }

pub hearing_dry : (was is : Bits → Type 0) (before after : Bits) (taken : ℕ) (events : List Event)
    → Hearing was is before after taken (map placed events) → after ≡ [] → HearsAll was is before after taken events
hearing_dry was is before after taken events so_far dry = record {
  dry = dry;
  counts = so_far.counts ∙ ap length (sym all-bits);
  told = λ h w. (subst (λ x. is (h ++ x)) (sym all-bits) (so_far.told h w).0, whole h w);
}
  where
    all-bits : before ≡ so_far.bits
    all-bits = so_far.lost ∙ ap (λ x. so_far.bits ++ x) dry ∙ append-nil so_far.bits

    whole : (h : Bits) → was h → AllDue (h ++ before) (length h) (map (λ e. later (length h) (placed e)) events)
    whole h w =
        subst (AllDue (h ++ before) (length h)) (append-nil (map (later (length h)) (map placed events)) ∙ map-map (later (length h)) placed events)
        ((so_far.told h w).1 [] (subst (λ x. AllDue (h ++ before) (length (h ++ x)) []) all-bits (none-behind (h ++ before))))

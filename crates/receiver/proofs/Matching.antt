-- The fields of a receiver and the state of the scanner: the fields stand for a history exactly if they match the state behind it.
use Rattle.std.proofs.Common.{◌≡◌, ℕ, zero, suc, ◌+◌, ◌-◌, ◌≤◌, Bool, true, false, ◌⊎◌, ◌↔◌, [], ◌∷◌, ◌++◌, reverse, length, take, drop, sym, refl, ap, ◌∙◌, subst, inl, inr, append_assoc, add-one, arith}
use mathlib.Core.Option.{Option, some}
use mathlib.Core.List.{reverse-append, reverse-reverse}
use lib.Seq.{take-length}
use Rattle.std.proofs.lemmas.List.{drop_all, length-replicate, replicate_more}
use Rattle.std.proofs.lemmas.Bool.{both_ways}
use Rattle.cutting.specs.Cutting.{Bits, part, ones, removed, Applies}
use Rattle.cutting.specs.declared.Fault.TheVariants.{MissingZero}
use Rattle.cutting.proofs.Back.{drop-reverse, part_less}
use Rattle.cutting.proofs.Last.{lead, last_to, last_from}
use Rattle.cutting.proofs.Removal.{left}
use Rattle.cutting.proofs.Scanner.{lost, hunting, inside, state_of, ready, trail, trail-ready, ready-shape}
use Rattle.cutting.proofs.Scanner as scanner
use Rattle.cutting.proofs.Bridge.{Says, says, open_is_one}
use Rattle.cutting.proofs.Keeping.{kept, is_zero, last_out, InStretch, in_stretch, zero_of}
use Rattle.receiver.specs.declared.store.Store.{Store}
use Rattle.receiver.specs.declared.record.State.{State}
use Rattle.receiver.specs.declared.record.State.TheVariants.{Hunting, Stretch, Idle}
use Rattle.receiver.specs.Stands.{Holds, Behind, Stands}

-- the scanner counts the ones that are still to come before six, the receiver those that came
abbrev pub Matches : State → Store → scanner.State → Type 0
Matches Idle store lost = Unit {0}
Matches Idle store (hunting k) = ⊥
Matches Idle store (inside raw k) = ⊥
Matches (Hunting n) store lost = ⊥
Matches (Hunting n) store (hunting k) = n + k ≡ 6
Matches (Hunting n) store (inside raw k) = ⊥
Matches (Stretch n out) store lost = ⊥
Matches (Stretch n out) store (hunting k) = ⊥
Matches (Stretch n out) store (inside raw k) = (n + k ≡ 6) × Holds store (kept raw) × (out ≡ last_out raw)

reverse-ones : (n : ℕ) → reverse (ones n) ≡ ones n
reverse-ones zero = refl
reverse-ones (suc n) = reverse-append (true ∷ []) (ones n) ∙ ap {B = Bits} (λ (l : Bits). l ++ (true ∷ [])) (reverse-ones n) ∙ replicate_more n true ∙ ap {B = Bits} ones (add-one n)

back_zero : (p : Bits) (n : ℕ) → reverse (p ++ (false ∷ ones n)) ≡ ones n ++ (false ∷ reverse p)
back_zero p n =
    reverse-append p (false ∷ ones n) ∙ ap {B = Bits} (λ (l : Bits). l ++ reverse p) (reverse-append (false ∷ []) (ones n))
    ∙ ap {B = Bits} (λ (l : Bits). (l ++ (false ∷ [])) ++ reverse p) (reverse-ones n) ∙ append_assoc (ones n) (false ∷ []) (reverse p)

-- n ones behind a zero: 6 − n are still to come
ready-ones : (n : ℕ) (r : Bits) → n ≤ 6 → ready (ones n ++ (false ∷ r)) ≡ some (6 - n)
ready-ones zero r h = refl
ready-ones (suc n) r h =
    let e : 6 - n ≡ suc (6 - suc n) = omega arith in
    ap {B = Option ℕ} scanner.fewer (ready-ones n r (omega arith) ∙ ap {B = Option ℕ} some e)

pub behind-ready : (n : ℕ) (h : Bits) → n ≤ 6 → Behind n h → ready (reverse h) ≡ some (6 - n)
behind-ready n h few b = ap {B = Option ℕ} (λ (l : Bits). ready (reverse l)) b.1 ∙ ap {B = Option ℕ} ready (back_zero b.0 n) ∙ ready-ones n (reverse b.0) few

pub ready-behind : (k n : ℕ) (h : Bits) → ready (reverse h) ≡ some k → n + k ≡ 6 → Behind n h
ready-behind k n h e s =
    let r = ready-shape (reverse h) k e in
    let q : Bits = r.1.0 in
    let m : 6 - k ≡ n = omega arith in
    let b : h ≡ reverse (ones n ++ (false ∷ q)) = sym (reverse-reverse h) ∙ ap {B = Bits} reverse r.1.1 ∙ ap {B = Bits} (λ (j : ℕ). reverse (ones j ++ (false ∷ q))) m in
    let c : reverse (ones n ++ (false ∷ q)) ≡ reverse q ++ (false ∷ ones n) =
    ap {B = Bits} (λ (l : Bits). reverse (ones n ++ (false ∷ l))) (sym (reverse-reverse q)) ∙ ap {B = Bits} reverse (sym (back_zero (reverse q) n)) ∙ reverse-reverse (reverse q ++ (false ∷ ones n)) in
    (reverse q, b ∙ c)

ready_few : (k : ℕ) (h : Bits) → ready (reverse h) ≡ some k → k ≤ 6
ready_few k h e = (ready-shape (reverse h) k e).0

-- the last zero was left out exactly if what stands before it in the stretch ends in five ones
last_ones : (n : ℕ) → last_out (ones n) ≡ false
last_ones zero = refl
last_ones (suc n) = last_ones n

last_zero : (n : ℕ) (r : Bits) → last_out (ones n ++ (false ∷ r)) ≡ is_zero (left 5 (reverse r))
last_zero zero r = refl
last_zero (suc n) r = last_zero n r

drop-ones : (n : ℕ) → drop (suc n) (ones n) ≡ []
drop-ones n = drop_all (suc n) (ones n) (omega (arith, length-replicate n true))

drop_zero : (n : ℕ) (r : Bits) → drop (suc n) (ones n ++ (false ∷ r)) ≡ r
drop_zero zero r = refl
drop_zero (suc n) r = drop_zero n r

module _ (raw : Bits) (n k : ℕ) (i : InStretch raw k) (sums : n + k ≡ 6) where
  abbrev Out : Bits → Type 0
  Out l = (last_out l ≡ true) ↔ Applies MissingZero (reverse (drop (suc n) l))

  out_alone : Out (ones n)
  out_alone = (
    λ e. absurd (both_ways (last_out (ones n)) (last_ones n) e),
    λ a. let m = last_to [] (subst (λ (l : Bits). Applies MissingZero (reverse l)) (drop-ones n) a) in absurd (omega arith),
  )

  out-behind : (older : Bits) → left 5 (reverse older) + lead older ≡ 5 → Out (ones n ++ (false ∷ older))
  out-behind older s =
      let d = drop_zero n older in
      let l = last_zero n older in
      let b : lead (reverse (reverse older)) ≡ lead older = ap lead (reverse-reverse older) in (
        λ e. let a = zero_of (left 5 (reverse older)) (sym l ∙ e) in
            subst (λ (o : Bits). Applies MissingZero (reverse o)) (sym d) (last_from (reverse older) (omega arith)),
        λ a. let m = last_to (reverse older) (subst (λ (o : Bits). Applies MissingZero (reverse o)) d a) in
            let z : left 5 (reverse older) ≡ 0 = omega arith in l ∙ ap {B = Bool} is_zero z,
      )

  pub out_applies : Out raw
  out_applies = go i.shape
    where
      six : 6 - k ≡ n
      six = omega arith

      go : (raw ≡ ones (6 - k)) ⊎ ((older : Bits) × (raw ≡ ones (6 - k) ++ (false ∷ older)) × (left 5 (reverse older) + lead older ≡ 5)) → Out raw
      go (inl e) = subst Out (sym (e ∙ ap {B = Bits} ones six)) out_alone
      go (inr (o, e, s)) = subst Out (sym (e ∙ ap {B = Bits} (λ (j : ℕ). ones j ++ (false ∷ o)) six)) (out-behind o s)

same_truth : (a b : Bool) → (a ≡ true → b ≡ true) → (b ≡ true → a ≡ true) → a ≡ b
same_truth true b f g = sym (f refl)
same_truth false true f g = g refl
same_truth false false f g = refl

-- the stretch without its last m bits, from the row read backwards
module _ (h : Bits) (b m : ℕ) (raw : Bits) (is : raw ≡ reverse (part h b (length h))) where
  pub shorter : reverse (drop m raw) ≡ part h b (length h - m)
  shorter =
      let l : Bits = part h b (length h) in
      ap {B = Bits} (λ (w : Bits). reverse (drop m w)) is ∙ ap {B = Bits} reverse (drop-reverse m l) ∙ reverse-reverse (take (length l - m) l) ∙ part_less h b (length h) m (omega arith)

  pub whole_kept : kept raw ≡ removed (drop b h)
  whole_kept = ap {B = Bits} (λ (w : Bits). removed (reverse w)) is ∙ ap {B = Bits} removed (reverse-reverse (part h b (length h))) ∙ ap {B = Bits} (λ (l : Bits). removed (drop b l)) (take-length h)

-- what is known of the state behind h
module _ (h : Bits) (store : Store) where
  abbrev Known : scanner.State → Type 0
  Known st = (trail st ≡ ready (reverse h)) × Says h (length h) st × ((raw : Bits) (k : ℕ) → st ≡ inside raw k → InStretch raw k)

  known : Known (state_of (reverse h))
  known = (trail-ready (reverse h), subst (λ (l : Bits). Says h (length h) (state_of (reverse l))) (take-length h) (says h (length h) (omega arith)), in_stretch (reverse h))

  counts : (n k : ℕ) → some k ≡ ready (reverse h) → n ≤ 6 → Behind n h → n + k ≡ 6
  counts n k t few b = let e = behind-ready n h few b in let z : k ≡ 6 - n = cc in omega arith

  to : (state : State) (st : scanner.State) → Known st → Stands state store h → Matches state store st
  to Idle lost i s = tt
  to Idle (hunting k) i s =
      let f = ready_few k h (sym i.0) in
      s.1 (6 - k) (omega arith) (ready-behind k (6 - k) h (sym i.0) (omega arith))
  to Idle (inside raw k) i s = s.0 i.1.0 i.1.1
  to (Hunting n) lost i s = let e = behind-ready n h s.1 s.2 in let t = i.0 in let z : ◌≡◌ {A = ℕ} 0 1 = cc in omega arith
  to (Hunting n) (hunting k) i s = counts n k i.0 s.1 s.2
  to (Hunting n) (inside raw k) i s = s.0 i.1.0 i.1.1
  to (Stretch n out) lost i s = i.1 s.begin s.opened
  to (Stretch n out) (hunting k) i s = i.1 s.begin s.opened
  to (Stretch n out) (inside raw k) i s =
      let same = open_is_one h i.1.0 s.begin (suc (length h)) i.1.1 s.opened in
      let is : raw ≡ reverse (part h s.begin (length h)) = i.1.2 ∙ ap {B = Bits} (λ (b : ℕ). reverse (part h b (length h))) same in
      let sums = counts n k i.0 s.few s.tail in
      let o = out_applies raw n k (i.2 raw k refl) sums in
      let l = shorter h s.begin (suc n) raw is in (
        sums,
        subst (Holds store) (sym (whole_kept h s.begin 0 raw is)) s.holds,
        same_truth out (last_out raw) (λ e. o.1 (subst (Applies MissingZero) (sym l) (s.left.0 e))) (λ e. s.left.1 (subst (Applies MissingZero) l (o.0 e))),
      )

  from : (state : State) (st : scanner.State) → Known st → Matches state store st → Stands state store h
  from Idle lost i m = (i.1, λ k few b. let e = behind-ready k h few b in let t = i.0 in let z : ◌≡◌ {A = ℕ} 0 1 = cc in omega arith)
  from Idle (hunting k) i m = absurd m
  from Idle (inside raw k) i m = absurd m
  from (Hunting n) lost i m = absurd m
  from (Hunting n) (hunting k) i m = (i.1, omega arith, ready-behind k n h (sym i.0) m)
  from (Hunting n) (inside raw k) i m = absurd m
  from (Stretch n out) lost i m = absurd m
  from (Stretch n out) (hunting k) i m = absurd m
  from (Stretch n out) (inside raw k) i m =
      let o = out_applies raw n k (i.2 raw k refl) m.0 in
      let l = shorter h i.1.0 (suc n) raw i.1.2 in
      record {
        begin = i.1.0;
        opened = i.1.1;
        few = omega (arith, m.0);
        tail = ready-behind k n h (sym i.0) m.0;
        holds = subst (Holds store) (whole_kept h i.1.0 0 raw i.1.2) m.1;
        left = (λ e. subst (Applies MissingZero) l (o.0 (sym m.2 ∙ e)), λ a. m.2 ∙ o.1 (subst (Applies MissingZero) (sym l) a));
      }

  pub stands_matches : (state : State) → Stands state store h → Matches state store (state_of (reverse h))
  stands_matches state s = to state (state_of (reverse h)) known s

  pub matches_stands : (state : State) → Matches state store (state_of (reverse h)) → Stands state store h
  matches_stands state m = from state (state_of (reverse h)) known m

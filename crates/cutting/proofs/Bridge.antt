-- What the scanner keeps says which stretch is open, and what it emits is what falls due.
use Rattle.std.proofs.Common.{◌≡◌, ℕ, zero, suc, ◌-◌, ◌<◌, ◌≤◌, Bool, true, false, ◌≢◌, [], ◌∷◌, ◌++◌, reverse, length, get_or, take, drop, sym, refl, ap, ◌∙◌, subst, arith}
use mathlib.Core.Option.{Option, none, some}
use mathlib.Core.List.{reverse-append, reverse-reverse}
use native.Mathlib.Decide.{dec_lt}
use Rattle.cutting.specs.Cutting.{Bits, part, ones, flag, FlagEnds, BreakEnds, Open, Ended, closed, broken, Due, Verdict, aborted}
use Rattle.cutting.proofs.Judging.{judged, judged_one, is_judged}
use Rattle.cutting.proofs.Back.{back, back_suc, drop-reverse, part_none, part_more, part_less, flag-back, flag_fits, break_back, back-flag, back_break}
use Rattle.cutting.proofs.Scanner.{State, lost, hunting, inside, step, emits, unless_empty, state_of, ready, trail, trail-ready, flag-ready, ready-flag, ready_break, break_ready}

-- Two stretches that are open up to one place begin at one place.
pub open_is_one : (s : Bits) (a b e : ℕ) → Open s a e → Open s b e → a ≡ b
open_is_one s a b e p q = go (dec_lt a b) (dec_lt b a)
  where
    go : Dec (a < b) → Dec (b < a) → a ≡ b
    go (yes h) _ = absurd (p.no_flag b h q.before q.begins)
    go (no h) (yes k) = absurd (q.no_flag a k p.before p.begins)
    go (no h) (no k) = omega arith

module _ (s : Bits) (e : ℕ) where
  -- one place further
  open_more : (b : ℕ) → Open s b (suc e) → (FlagEnds s (suc e) → ⊥) → (BreakEnds s (suc e) → ⊥) → Open s b (suc (suc e))
  open_more b o nf nb = record {
    before = let h = o.before in omega arith;
    begins = o.begins;
    no_flag = λ k lo hi f. go k lo hi (λ h. o.no_flag k lo h f) (λ q. nf (subst (λ (x : ℕ). FlagEnds s x) q f));
    no_break = λ k lo hi f. go k lo hi (λ h. o.no_break k lo h f) (λ q. nb (subst (λ (x : ℕ). BreakEnds s x) q f));
  }
    where
      go : (k : ℕ) → b < k → k < suc (suc e) → (k < suc e → ⊥) → (k ≡ suc e → ⊥) → ⊥
      go k lo hi f g = omega arith

  open_less : (b : ℕ) → Open s b (suc (suc e)) → b ≢ suc e → Open s b (suc e)
  open_less b o ne = record {
    before = let h = o.before in omega arith;
    begins = o.begins;
    no_flag = λ k lo hi. o.no_flag k lo (omega arith);
    no_break = λ k lo hi. o.no_break k lo (omega arith);
  }

  -- where no flag is complete, nothing new is open
  none_more : (FlagEnds s (suc e) → ⊥) → ((b : ℕ) → Open s b (suc e) → ⊥) → (b : ℕ) → Open s b (suc (suc e)) → ⊥
  none_more nf shut b o = shut b (open_less b o (λ q. nf (subst (λ (x : ℕ). FlagEnds s x) q o.begins)))

  -- behind a break nothing is
  none_break : BreakEnds s (suc e) → (FlagEnds s (suc e) → ⊥) → (b : ℕ) → Open s b (suc (suc e)) → ⊥
  none_break br nf b o =
      let ne : b ≢ suc e = λ q. nf (subst (λ (x : ℕ). FlagEnds s x) q o.begins) in
      let lo : b < suc e = let h = o.before in omega arith in
      o.no_break (suc e) lo (omega arith) br

  open_new : FlagEnds s (suc e) → Open s (suc e) (suc (suc e))
  open_new f = record {
    before = omega arith;
    begins = f;
    no_flag = λ k lo hi _. omega arith;
    no_break = λ k lo hi _. omega arith;
  }

-- What a state says of the bits before place e.
abbrev pub Says : Bits → ℕ → State → Type 0
Says s e lost = (b : ℕ) → Open s b (suc e) → ⊥
Says s e (hunting k) = (b : ℕ) → Open s b (suc e) → ⊥
Says s e (inside raw k) = (b : ℕ) × Open s b (suc e) × (raw ≡ reverse (part s b e))

-- The bit at place e, and what it completes.
module _ (s : Bits) (e : ℕ) (h : e < length s) (x : Bool) (is : get_or s e false ≡ x) where
  back-bit : back s (suc e) ≡ x ∷ back s e
  back-bit = back_suc s e h ∙ ap {B = Bits} (λ (y : Bool). y ∷ back s e) is

  flag-bit : FlagEnds s (suc e) → take 8 (x ∷ back s e) ≡ flag
  flag-bit f = sym (ap {B = Bits} (take 8) back-bit) ∙ flag-back s (suc e) f

  bit-flag : take 8 (x ∷ back s e) ≡ flag → FlagEnds s (suc e)
  bit-flag f = back-flag s (suc e) h (ap {B = Bits} (take 8) back-bit ∙ f)

  break_bit : BreakEnds s (suc e) → take 7 (x ∷ back s e) ≡ ones 7
  break_bit f = sym (ap {B = Bits} (take 7) back-bit) ∙ break_back s (suc e) f

  bit_break : take 7 (x ∷ back s e) ≡ ones 7 → BreakEnds s (suc e)
  bit_break f = back_break s (suc e) h (ap {B = Bits} (take 7) back-bit ∙ f)

  raw_more : (b : ℕ) → b < suc e → (raw : Bits) → raw ≡ reverse (part s b e) → x ∷ raw ≡ reverse (part s b (suc e))
  raw_more b lo raw r =
      let p : part s b (suc e) ≡ part s b e ++ (x ∷ []) = part_more s b e (omega arith) h ∙ ap {B = Bits} (λ (y : Bool). part s b e ++ (y ∷ [])) is in
      ap {B = Bits} (λ (l : Bits). x ∷ l) r ∙ sym (reverse-append (part s b e) (x ∷ [])) ∙ sym (ap {B = Bits} reverse p)

-- no flag on a one, no break on a zero
one_no_flag : (s : Bits) (e : ℕ) → e < length s → get_or s e false ≡ true → FlagEnds s (suc e) → ⊥
one_no_flag s e h is f = let t = flag-bit s e h true is f in let z : ◌≡◌ {A = ℕ} 0 1 = cc in omega arith

zero_no_break : (s : Bits) (e : ℕ) → e < length s → get_or s e false ≡ false → BreakEnds s (suc e) → ⊥
zero_no_break s e h is f = let t = break_bit s e h false is f in let z : ◌≡◌ {A = ℕ} 0 1 = cc in omega arith

-- the flag on a zero by what is ready, and the break on a one
module _ (s : Bits) (e : ℕ) (h : e < length s) where
  zero_flag : get_or s e false ≡ false → some 0 ≡ ready (back s e) → FlagEnds s (suc e)
  zero_flag is t = bit-flag s e h false is (ready-flag (back s e) (sym t))

  zero_no_flag : (o : Option ℕ) → get_or s e false ≡ false → o ≡ ready (back s e) → (o ≡ some 0 → ⊥) → FlagEnds s (suc e) → ⊥
  zero_no_flag o is t ne f = ne (t ∙ flag-ready (back s e) (flag-bit s e h false is f))

  one_break : get_or s e false ≡ true → some 0 ≡ ready (back s e) → BreakEnds s (suc e)
  one_break is t = bit_break s e h true is (ready_break (back s e) (sym t))

  one_no_break : (k : ℕ) → get_or s e false ≡ true → some (suc k) ≡ ready (back s e) → BreakEnds s (suc e) → ⊥
  one_no_break k is t f = let z = break_ready (back s e) (suc k) (sym t) (break_bit s e h true is f) in omega arith

none_zero : ◌≡◌ {A = Option ℕ} none (some 0) → ⊥
none_zero q = let z : ◌≡◌ {A = ℕ} 0 1 = cc in omega arith

suc_zero : (k : ℕ) → ◌≡◌ {A = Option ℕ} (some (suc k)) (some 0) → ⊥
suc_zero k q = let z : suc k ≡ 0 = cc in omega arith

says_step : (s : Bits) (e : ℕ) → e < length s → (st : State) → trail st ≡ ready (back s e) → Says s e st
    → (x : Bool) → get_or s e false ≡ x → Says s (suc e) (step st x)
says_step s e h lost t shut true is = none_more s e (one_no_flag s e h is) shut
says_step s e h lost t shut false is = none_more s e (zero_no_flag s e h none is t none_zero) shut
says_step s e h (hunting zero) t shut true is = none_more s e (one_no_flag s e h is) shut
says_step s e h (hunting (suc k)) t shut true is = none_more s e (one_no_flag s e h is) shut
says_step s e h (hunting zero) t shut false is = (suc e, open_new s e (zero_flag s e h is t), sym (ap {B = Bits} reverse (part_none s (suc e))))
says_step s e h (hunting (suc k)) t shut false is = none_more s e (zero_no_flag s e h (some (suc k)) is t (suc_zero k)) shut
says_step s e h (inside raw zero) t i true is = none_break s e (one_break s e h is t) (one_no_flag s e h is)
says_step s e h (inside raw (suc k)) t i true is =
    (i.0, open_more s e i.0 i.1 (one_no_flag s e h is) (one_no_break s e h k is t), raw_more s e h true is i.0 i.1.before raw i.2)
says_step s e h (inside raw zero) t i false is = (suc e, open_new s e (zero_flag s e h is t), sym (ap {B = Bits} reverse (part_none s (suc e))))
says_step s e h (inside raw (suc k)) t i false is =
    (i.0, open_more s e i.0 i.1 (zero_no_flag s e h (some (suc k)) is t (suc_zero k)) (zero_no_break s e h is), raw_more s e h false is i.0 i.1.before raw i.2)

pub says : (s : Bits) (e : ℕ) → e ≤ length s → Says s e (state_of (back s e))
says s zero h = λ b o. let f = flag_fits s b o.begins in let k = o.before in omega arith
says s (suc e) h =
    subst (λ (r : Bits). Says s (suc e) (state_of r)) (sym (back_suc s e h))
    (says_step s e h (state_of (back s e)) (trail-ready (back s e)) (says s e (omega arith)) (get_or s e false) refl)

-- the stretch that a raw row stands for, without its last m bits
stretch : (s : Bits) (b e m : ℕ) (raw : Bits) → e ≤ length s → raw ≡ reverse (part s b e) → reverse (drop m raw) ≡ part s b (e - m)
stretch s b e m raw h r =
    let l : Bits = part s b e in
    ap {B = Bits} (λ (w : Bits). reverse (drop m w)) r ∙ ap {B = Bits} reverse (drop-reverse m l) ∙ reverse-reverse (take (length l - m) l) ∙ part_less s b e m h

empty_reverse : (l r : Bits) → reverse l ≡ r → r ≢ [] → l ≢ []
empty_reverse l r e n z = n (sym e ∙ ap {B = Bits} reverse z)

reverse_empty : (l r : Bits) → reverse l ≡ r → l ≢ [] → r ≢ []
reverse_empty l r e n z = n (sym (reverse-reverse l) ∙ ap {B = Bits} reverse (e ∙ z))

some_out : (l : Bits) (v w : Verdict) → unless_empty l v ≡ some w → (l ≢ []) × (v ≡ w)
some_out [] v w e = let z : ◌≡◌ {A = ℕ} 0 1 = cc in absurd (omega arith)
some_out (x ∷ l) v w e = (λ q. let z : ◌≡◌ {A = ℕ} 0 1 = cc in omega arith, cc)

some_in : (l : Bits) (v : Verdict) → l ≢ [] → unless_empty l v ≡ some v
some_in [] v n = absurd (n refl)
some_in (x ∷ l) v n = refl

no_some : {A : Type 0} (v : Verdict) → none ≡ some v → A
no_some v e = absurd (let z : ◌≡◌ {A = ℕ} 0 1 = cc in omega arith)

module _ (s : Bits) (e : ℕ) (h : e < length s) where
  seven : e - 7 ≡ suc e - 8
  seven = omega arith

  sixth : e - 6 ≡ suc e - 7
  sixth = omega arith

  closing : (b : ℕ) (raw : Bits) → raw ≡ reverse (part s b e) → reverse (drop 7 raw) ≡ part s b (suc e - 8)
  closing b raw r = stretch s b e 7 raw (omega arith) r ∙ ap {B = Bits} (part s b) seven

  breaking : (b : ℕ) (raw : Bits) → raw ≡ reverse (part s b e) → reverse (drop 6 raw) ≡ part s b (suc e - 7)
  breaking b raw r = stretch s b e 6 raw (omega arith) r ∙ ap {B = Bits} (part s b) sixth

  emits-due_at : (st : State) → trail st ≡ ready (back s e) → Says s e st → (x : Bool) → get_or s e false ≡ x → (v : Verdict) → emits st x ≡ some v → Due s (suc e) v
  emits-due_at lost t i x is v q = no_some v q
  emits-due_at (hunting k) t i x is v q = no_some v q
  emits-due_at (inside raw (suc k)) t i x is v q = no_some v q
  emits-due_at (inside raw zero) t i true is v q =
      let o = some_out (drop 6 raw) aborted v q in
      let p = breaking i.0 raw i.2 in
      (i.0, i.1, subst (Ended s i.0 (suc e)) o.1 (broken (one_break s e h is t) (reverse_empty (drop 6 raw) (part s i.0 (suc e - 7)) p o.0)))
  emits-due_at (inside raw zero) t i false is v q =
      let o = some_out (drop 7 raw) (judged (reverse (drop 7 raw))) v q in
      let p = closing i.0 raw i.2 in
      (i.0, i.1, closed (zero_flag s e h is t) (reverse_empty (drop 7 raw) (part s i.0 (suc e - 8)) p o.0) (is_judged (part s i.0 (suc e - 8)) v (sym (ap judged p) ∙ o.1)))

  due-emits_at : (st : State) → trail st ≡ ready (back s e) → Says s e st → (x : Bool) → get_or s e false ≡ x → (b : ℕ) → Open s b (suc e) → (v : Verdict) → Ended s b (suc e) v → emits st x ≡ some v
  due-emits_at lost t i x is b o v d = absurd (i b o)
  due-emits_at (hunting k) t i x is b o v d = absurd (i b o)
  due-emits_at (inside raw (suc k)) t i true is b o v (closed f n j) = absurd (one_no_flag s e h is f)
  due-emits_at (inside raw (suc k)) t i true is b o _ (broken f n) = absurd (one_no_break s e h k is t f)
  due-emits_at (inside raw (suc k)) t i false is b o v (closed f n j) = absurd (zero_no_flag s e h (some (suc k)) is t (suc_zero k) f)
  due-emits_at (inside raw (suc k)) t i false is b o _ (broken f n) = absurd (zero_no_break s e h is f)
  due-emits_at (inside raw zero) t i true is b o v (closed f n j) = absurd (one_no_flag s e h is f)
  due-emits_at (inside raw zero) t i true is b o _ (broken f n) =
      let r : raw ≡ reverse (part s b e) = i.2 ∙ ap {B = Bits} (λ (a : ℕ). reverse (part s a e)) (open_is_one s i.0 b (suc e) i.1 o) in
      some_in (drop 6 raw) aborted (empty_reverse (drop 6 raw) (part s b (suc e - 7)) (breaking b raw r) n)
  due-emits_at (inside raw zero) t i false is b o v (closed f n j) =
      let r : raw ≡ reverse (part s b e) = i.2 ∙ ap {B = Bits} (λ (a : ℕ). reverse (part s a e)) (open_is_one s i.0 b (suc e) i.1 o) in
      some_in (drop 7 raw) (judged (reverse (drop 7 raw))) (empty_reverse (drop 7 raw) (part s b (suc e - 8)) (closing b raw r) n) ∙ ap {B = Option Verdict} some (ap judged (closing b raw r) ∙ judged_one (part s b (suc e - 8)) v j)
  due-emits_at (inside raw zero) t i false is b o _ (broken f n) = absurd (zero_no_break s e h is f)

  -- what falls due at a place is what the scanner emits there
  pub emits-due : (v : Verdict) → emits (state_of (back s e)) (get_or s e false) ≡ some v → Due s (suc e) v
  emits-due v q = emits-due_at (state_of (back s e)) (trail-ready (back s e)) (says s e (omega arith)) (get_or s e false) refl v q

  pub due-emits : (v : Verdict) → Due s (suc e) v → emits (state_of (back s e)) (get_or s e false) ≡ some v
  due-emits v d = due-emits_at (state_of (back s e)) (trail-ready (back s e)) (says s e (omega arith)) (get_or s e false) refl d.0 d.1 v d.2

  -- where a flag closes a stretch, the state is behind six ones, and the stretch is what the raw row has without the flag
  closing_at : (st : State) → trail st ≡ ready (back s e) → Says s e st → (x : Bool) → get_or s e false ≡ x → (b : ℕ) → Open s b (suc e) → FlagEnds s (suc e)
      → (raw : Bits) × (st ≡ inside raw 0) × (reverse (drop 7 raw) ≡ part s b (suc e - 8))
  closing_at lost t i x is b o f = absurd (i b o)
  closing_at (hunting k) t i x is b o f = absurd (i b o)
  closing_at (inside raw (suc k)) t i true is b o f = absurd (one_no_flag s e h is f)
  closing_at (inside raw (suc k)) t i false is b o f = absurd (zero_no_flag s e h (some (suc k)) is t (suc_zero k) f)
  closing_at (inside raw zero) t i x is b o f =
      let r : raw ≡ reverse (part s b e) = i.2 ∙ ap {B = Bits} (λ (a : ℕ). reverse (part s a e)) (open_is_one s i.0 b (suc e) i.1 o) in
      (raw, refl, closing b raw r)

  pub closing_bits : (b : ℕ) → Open s b (suc e) → FlagEnds s (suc e) → (raw : Bits) × (state_of (back s e) ≡ inside raw 0) × (reverse (drop 7 raw) ≡ part s b (suc e - 8))
  closing_bits b o f = closing_at (state_of (back s e)) (trail-ready (back s e)) (says s e (omega arith)) (get_or s e false) refl b o f

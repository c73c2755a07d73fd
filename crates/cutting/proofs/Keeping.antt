-- A receiver that keeps what removal leaves of the stretch in hand, bit by bit, and whether the last zero was left out:
-- what it keeps says what the scanner emits.
use Rattle.std.proofs.Common.{◌≡◌, ℕ, zero, suc, ◌+◌, ◌-◌, ◌<◌, ◌≤◌, Bool, true, false, cond, ◌⊎◌, [], ◌∷◌, ◌++◌, reverse, length, take, sym, refl, ap, ◌∙◌, subst, inl, inr, append-nil, arith, length-append, take_at}
use mathlib.Core.Option.{Option, none, some}
use mathlib.Core.List.{reverse-append, reverse-reverse}
use Rattle.std.proofs.lemmas.Bool.{both_ways}
use Rattle.cutting.specs.Cutting.{Bits, ones, removal, removed, Applies, Verdict, aborted, refused}
use Rattle.cutting.specs.declared.Fault.TheVariants.{MissingZero}
use Rattle.cutting.proofs.Removal.{left, left-append, left_zero, removal-append, removal_long, removed_some}
use Rattle.cutting.proofs.Last.{lead, last_to, last_from}
use Rattle.cutting.proofs.Judging.{judged}
use Rattle.cutting.proofs.Verdicts.{judged_missing}
use Rattle.cutting.proofs.Scanner.{State, lost, hunting, inside, step, emits, unless_empty, state_of}

-- what removal leaves of a stretch so far, the latest bit first
abbrev pub kept : Bits → Bits
kept raw = removed (reverse raw)

abbrev pub is_zero : ℕ → Bool
is_zero zero = true
is_zero (suc k) = false

-- whether the last zero was left out
abbrev pub last_out : Bits → Bool
last_out [] = false
last_out (true ∷ raw) = last_out raw
last_out (false ∷ raw) = is_zero (left 5 (reverse raw))

-- where k more ones make six: how many more may come before a bit is left out; the sixth itself is
abbrev pub again : ℕ → ℕ
again zero = 5
again (suc k) = k

-- the stretch in hand of a state `inside raw k`: ones alone, or a zero and then ones
pub record InStretch (raw : Bits) (k : ℕ) : Type 0 where
  pub few : k ≤ 6
  pub to_come : left 5 (reverse raw) ≡ again k
  pub shape : (raw ≡ ones (6 - k)) ⊎ ((older : Bits) × (raw ≡ ones (6 - k) ++ (false ∷ older)) × (left 5 (reverse older) + lead older ≡ 5))

left_one : (k : ℕ) → left k (true ∷ []) ≡ again k
left_one zero = refl
left_one (suc k) = refl

lead-ones : (n : ℕ) → lead (ones n) ≡ n
lead-ones zero = refl
lead-ones (suc n) = ap suc (lead-ones n)

lead_zero : (n : ℕ) (r : Bits) → lead (ones n ++ (false ∷ r)) ≡ n
lead_zero zero r = refl
lead_zero (suc n) r = ap suc (lead_zero n r)

in_new : InStretch [] 6
in_new = record { few = omega arith; to_come = refl; shape = inl refl }

left_more : (raw : Bits) (x : Bool) → left 5 (reverse (x ∷ raw)) ≡ left (left 5 (reverse raw)) (x ∷ [])
left_more raw x = ap (left 5) (reverse-append (x ∷ []) raw) ∙ left-append 5 (reverse raw) (x ∷ [])

module _ (raw : Bits) (k : ℕ) (i : InStretch raw (suc k)) where
  in_one : InStretch (true ∷ raw) k
  in_one = record {
    few = let h = i.few in omega arith;
    to_come = left_more raw true ∙ ap (λ (n : ℕ). left n (true ∷ [])) i.to_come ∙ left_one k;
    shape = go i.shape;
  }
    where
      more : suc (6 - suc k) ≡ 6 - k
      more = let h = i.few in omega arith

      go : (raw ≡ ones (6 - suc k)) ⊎ ((older : Bits) × (raw ≡ ones (6 - suc k) ++ (false ∷ older)) × (left 5 (reverse older) + lead older ≡ 5))
          → (true ∷ raw ≡ ones (6 - k)) ⊎ ((older : Bits) × (true ∷ raw ≡ ones (6 - k) ++ (false ∷ older)) × (left 5 (reverse older) + lead older ≡ 5))
      go (inl e) = inl (ap {B = Bits} (λ (l : Bits). true ∷ l) e ∙ ap {B = Bits} ones more)
      go (inr (o, e, n)) = inr (o, ap {B = Bits} (λ (l : Bits). true ∷ l) e ∙ ap {B = Bits} (λ (m : ℕ). ones m ++ (false ∷ o)) more, n)

  in_zero : InStretch (false ∷ raw) 6
  in_zero = record {
    few = omega arith;
    to_come = left_more raw false ∙ left_zero (left 5 (reverse raw)) [];
    shape = inr (raw, refl, go i.shape);
  }
    where
      go : (raw ≡ ones (6 - suc k)) ⊎ ((older : Bits) × (raw ≡ ones (6 - suc k) ++ (false ∷ older)) × (left 5 (reverse older) + lead older ≡ 5))
          → left 5 (reverse raw) + lead raw ≡ 5
      go (inl e) = let a = ap lead e ∙ lead-ones (6 - suc k) in let b = i.to_come in let h = i.few in omega arith
      go (inr (o, e, n)) = let a = ap lead e ∙ lead_zero (6 - suc k) o in let b = i.to_come in let h = i.few in omega arith

  -- what one bit more does to what is kept
  kept_more : (x : Bool) → kept (x ∷ raw) ≡ kept raw ++ removal k (x ∷ [])
  kept_more x =
      ap {B = Bits} removed (reverse-append (x ∷ []) raw) ∙ removal-append 5 (reverse raw) (x ∷ [])
      ∙ ap {B = Bits} (λ (n : ℕ). kept raw ++ removal n (x ∷ [])) i.to_come

  pub out_zero : last_out (false ∷ raw) ≡ is_zero k
  out_zero = ap is_zero i.to_come

-- behind five ones the next bit is left out, else it is kept
pub kept_out : (raw : Bits) → InStretch raw 1 → (x : Bool) → kept (x ∷ raw) ≡ kept raw
kept_out raw i x = kept_more raw 0 i x ∙ append-nil (kept raw)

pub kept_in : (raw : Bits) (k : ℕ) → InStretch raw (suc (suc k)) → (x : Bool) → kept (x ∷ raw) ≡ kept raw ++ (x ∷ [])
kept_in raw k i true = kept_more raw (suc k) i true
kept_in raw k i false = kept_more raw (suc k) i false

-- every state in a stretch is so
abbrev Sound : State → Type 0
Sound lost = Unit {0}
Sound (hunting k) = Unit {0}
Sound (inside raw k) = InStretch raw k

sound_step : (st : State) → Sound st → (x : Bool) → Sound (step st x)
sound_step lost s true = tt
sound_step lost s false = tt
sound_step (hunting zero) s true = tt
sound_step (hunting (suc k)) s true = tt
sound_step (hunting zero) s false = in_new
sound_step (hunting (suc k)) s false = tt
sound_step (inside raw zero) s true = tt
sound_step (inside raw (suc k)) s true = in_one raw k s
sound_step (inside raw zero) s false = in_new
sound_step (inside raw (suc k)) s false = in_zero raw k s

sound : (r : Bits) → Sound (state_of r)
sound [] = tt
sound (x ∷ r) = sound_step (state_of r) (sound r) x

pub in_stretch : (r raw : Bits) (k : ℕ) → state_of r ≡ inside raw k → InStretch raw k
in_stretch r raw k e = subst Sound e (sound r)

pub zero_of : (n : ℕ) → is_zero n ≡ true → n ≡ 0
zero_of zero e = refl
zero_of (suc n) e = let z : ◌≡◌ {A = ℕ} 0 1 = cc in absurd (omega arith)

not_zero : (n : ℕ) → is_zero n ≡ false → 1 ≤ n
not_zero zero e = let z : ◌≡◌ {A = ℕ} 0 1 = cc in absurd (omega arith)
not_zero (suc n) e = omega arith

-- behind six ones: no zero stands in the stretch; or the last zero was left out; or it was not
pub data Six (raw : Bits) : Type 0 where
  alone : raw ≡ ones 6 → length (kept raw) ≡ 5 → Six raw
  out : (older : Bits) → raw ≡ ones 6 ++ (false ∷ older) → last_out raw ≡ true → Applies MissingZero (reverse older) → 10 ≤ length (kept raw) → Six raw
  whole : (older : Bits) → raw ≡ ones 6 ++ (false ∷ older) → last_out raw ≡ false → (Applies MissingZero (reverse older) → ⊥)
      → kept raw ≡ removed (reverse older) ++ (false ∷ ones 5) → Six raw

-- what is kept then, and how what stands before the last zero ends
module _ (older : Bits) (sums : left 5 (reverse older) + lead older ≡ 5) where
  kept-behind : kept (ones 6 ++ (false ∷ older)) ≡ removed (reverse older) ++ cond (is_zero (left 5 (reverse older))) (ones 5) (false ∷ ones 5)
  kept-behind =
      ap {B = Bits} removed (reverse-append (true ∷ true ∷ true ∷ true ∷ true ∷ true ∷ false ∷ []) older)
      ∙ removal-append 5 (reverse older) (false ∷ ones 6)
      ∙ ap {B = Bits} (λ (l : Bits). removed (reverse older) ++ l) (go (left 5 (reverse older)))
    where
      go : (m : ℕ) → removal m (false ∷ ones 6) ≡ cond (is_zero m) (ones 5) (false ∷ ones 5)
      go zero = refl
      go (suc m) = refl

  kept_by : (b : Bool) → is_zero (left 5 (reverse older)) ≡ b → kept (ones 6 ++ (false ∷ older)) ≡ removed (reverse older) ++ cond b (ones 5) (false ∷ ones 5)
  kept_by b o = kept-behind ∙ ap {B = Bits} (λ (c : Bool). removed (reverse older) ++ cond c (ones 5) (false ∷ ones 5)) o

  six_by : (b : Bool) → is_zero (left 5 (reverse older)) ≡ b → Six (ones 6 ++ (false ∷ older))
  six_by true o =
      let a = zero_of (left 5 (reverse older)) o in
      let b : lead (reverse (reverse older)) ≡ lead older = ap lead (reverse-reverse older) in
      let c = removal_long 5 (reverse older) (omega arith) in
      let d : length (kept (ones 6 ++ (false ∷ older))) ≡ length (removed (reverse older)) + 5 = ap length (kept_by true o) ∙ length-append (removed (reverse older)) (ones 5) in
      out older refl o (last_from (reverse older) (omega arith)) (omega arith)
  six_by false o =
      let a = not_zero (left 5 (reverse older)) o in
      let b : lead (reverse (reverse older)) ≡ lead older = ap lead (reverse-reverse older) in
      whole older refl o (λ m. let c = last_to (reverse older) m in omega arith) (kept_by false o)

pub six : (raw : Bits) → InStretch raw 0 → Six raw
six raw i = go i.shape
  where
    go : (raw ≡ ones 6) ⊎ ((older : Bits) × (raw ≡ ones 6 ++ (false ∷ older)) × (left 5 (reverse older) + lead older ≡ 5)) → Six raw
    go (inl e) = alone e (ap (λ (l : Bits). length (kept l)) e)
    go (inr (o, e, s)) = subst Six (sym e) (six_by o s (is_zero (left 5 (reverse o))) refl)

unless_some : (l : Bits) (v : Verdict) → (l ≡ [] → ⊥) → unless_empty l v ≡ some v
unless_some [] v ne = absurd (ne refl)
unless_some (x ∷ l) v ne = refl

-- what a zero behind six ones closes, and what a one breaks
abbrev shut : Bits → Option Verdict
shut raw = emits (inside raw 0) false

abbrev broke : Bits → Option Verdict
broke raw = emits (inside raw 0) true

-- what removal leaves of bits is empty exactly if they are
some_removed : (older : Bits) → (older ≡ [] → ⊥) → 1 ≤ length (removed (reverse older))
some_removed older ne = go (removed (reverse older)) refl
  where
    go : (l : Bits) → removed (reverse older) ≡ l → 1 ≤ length l
    go [] e = absurd (removed_some (reverse older) (λ q. ne (sym (reverse-reverse older) ∙ ap {B = Bits} reverse q)) e)
    go (x ∷ l) e = omega arith

none-removed : (older : Bits) → older ≡ [] → length (removed (reverse older)) ≡ 0
none-removed older e = ap (λ (l : Bits). length (removed (reverse l))) e

missing_some : (older : Bits) → Applies MissingZero (reverse older) → older ≡ [] → ⊥
missing_some older m e =
    let a = last_to (reverse older) m in
    let b : lead (reverse (reverse older)) ≡ 0 = ap lead (reverse-reverse older ∙ e) in
    omega arith

length_whole : (raw older : Bits) → kept raw ≡ removed (reverse older) ++ (false ∷ ones 5) → length (kept raw) ≡ length (removed (reverse older)) + 6
length_whole raw older e = ap length e ∙ length-append (removed (reverse older)) (false ∷ ones 5)

-- no more than the closing flag's own bits: the stretch is empty
pub closes_nothing : (raw : Bits) → Six raw → length (kept raw) ≤ 6 → emits (inside raw 0) false ≡ none
closes_nothing raw (alone e l) n = ap {B = Option Verdict} shut e
closes_nothing raw (out o e b m l) n = absurd (omega arith)
closes_nothing raw (whole o e b w k) n = go o refl
  where
    go : (l : Bits) → o ≡ l → emits (inside raw 0) false ≡ none
    go [] q = ap {B = Option Verdict} shut e ∙ ap {B = Option Verdict} (λ (l : Bits). unless_empty l (judged (reverse l))) q
    go (x ∷ l) q =
        let a = some_removed o (λ z. let y : ◌≡◌ {A = ℕ} 0 1 = cc in omega arith) in
        let c = length_whole raw o k in
        absurd (omega arith)

-- the last zero was left out, so the five ones before it lack theirs
pub closes_missing : (raw : Bits) → Six raw → 6 < length (kept raw) → last_out raw ≡ true → emits (inside raw 0) false ≡ some (refused MissingZero)
closes_missing raw (alone e l) n t = absurd (omega arith)
closes_missing raw (out o e b m l) n t =
    ap {B = Option Verdict} shut e ∙ unless_some o (judged (reverse o)) (missing_some o m) ∙ ap {B = Option Verdict} some (judged_missing (reverse o) m)
closes_missing raw (whole o e b w k) n t = absurd (both_ways (last_out raw) b t)

-- else the stretch is judged by what is kept but for the last six bits, which are the closing flag's
pub closes_whole : (raw : Bits) → Six raw → 6 < length (kept raw) → last_out raw ≡ false
    → (x : Bits) × (Applies MissingZero x → ⊥) × (removed x ≡ take (length (kept raw) - 6) (kept raw)) × (emits (inside raw 0) false ≡ some (judged x))
closes_whole raw (alone e l) n f = absurd (omega arith)
closes_whole raw (out o e b m l) n f = absurd (both_ways (last_out raw) f b)
closes_whole raw (whole o e b w k) n f =
    let a = length_whole raw o k in
    let c : take (length (kept raw) - 6) (kept raw) ≡ removed (reverse o) =
    ap {B = Bits} (take (length (kept raw) - 6)) k ∙ take_at (removed (reverse o)) (false ∷ ones 5) (length (kept raw) - 6) (omega arith) in
    (reverse o, w, sym c, ap {B = Option Verdict} shut e ∙ unless_some o (judged (reverse o)) (λ z. let y = none-removed o z in omega arith))

-- a break's own ones, and nothing before them
pub breaks_nothing : (raw : Bits) → Six raw → length (kept raw) < 6 → emits (inside raw 0) true ≡ none
breaks_nothing raw (alone e l) n = ap {B = Option Verdict} broke e
breaks_nothing raw (out o e b m l) n = absurd (omega arith)
breaks_nothing raw (whole o e b w k) n = let a = length_whole raw o k in absurd (omega arith)

pub breaks_off : (raw : Bits) → Six raw → 6 ≤ length (kept raw) → emits (inside raw 0) true ≡ some aborted
breaks_off raw (alone e l) n = absurd (omega arith)
breaks_off raw (out o e b m l) n = ap {B = Option Verdict} broke e
breaks_off raw (whole o e b w k) n = ap {B = Option Verdict} broke e

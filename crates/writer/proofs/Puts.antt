-- Bits put into a sink that has room for them, plain or stuffed.
use Rattle.std.proofs.Common.{◌≡◌, ℕ, zero, suc, ◌+◌, ◌-◌, ◌≤◌, Bool, true, false, [], ◌∷◌, ◌++◌, length, Ok, Err, Result, sym, refl, ap, ◌∙◌, subst, append_assoc, arith, length-append}
use Rattle.std.proofs.lemmas.List.{append-nil}
use Rattle.bits.specs.Sink.{Shown, Put}
use Rattle.bits.specs.declared.sink.SinkError.{SinkError}
use Rattle.cutting.specs.Cutting.{Bits, ones, flag}
use Rattle.cutting.specs.Stuffing.{stuffing}
use Rattle.writer.specs.Putting.{Appended, StuffedPut}

-- where there is room, putting adds the bit
pub put_done : (k k' : Shown) (b : Bool) (r : Result (Unit {0}) SinkError) → Put k b r k' → 1 ≤ k.space → Appended (b ∷ []) k 1 k'
put_done k k' b (Ok _) p h = record { counted = refl; added = p.0; lowered = p.1 }
put_done k k' b (Err e) p h = absurd (omega (arith, p.1))

pub appended_more : {s t : Bits} {k k₁ k₂ : Shown} {n m : ℕ} → Appended s k n k₁ → Appended t k₁ m k₂ → Appended (s ++ t) k (n + m) k₂
appended_more {s = s} {t = t} {k = k} a b =
    record {
      counted = simp length-append (omega (arith, a.counted, b.counted));
      added = b.added ∙ ap (λ (l : Bits). l ++ t) a.added ∙ append_assoc k.held s t;
      lowered = omega (arith, a.lowered, b.lowered);
    }

pub appended_as : {s t : Bits} {k k' : Shown} {n : ℕ} → s ≡ t → Appended s k n k' → Appended t k n k'
appended_as {k = k} {k'} {n} e a = let P : Bits → Type 0 = λ l. Appended l k n k' in subst P e a

pub appended_to : {s : Bits} {k k' : Shown} {n m : ℕ} → n ≡ m → Appended s k n k' → Appended s k m k'
appended_to {s} {k} {k'} e a = let P : ℕ → Type 0 = λ j. Appended s k j k' in subst P e a

-- a sink's own count of what was put
pub appended_count : {s : Bits} {k k' : Shown} {n : ℕ} → Appended s k n k' → n ≡ length k'.held - length k.held
appended_count {s = s} {k = k} a = let l = ap length a.added ∙ length-append k.held s in let n = a.counted in omega arith

pub appended_long : {s : Bits} {k k' : Shown} {n : ℕ} → Appended s k n k' → length k.held ≤ length k'.held
appended_long {s = s} {k = k} a = let l = ap length a.added ∙ length-append k.held s in omega arith

pub stuffed-none : (before : ℕ) (k : Shown) → StuffedPut before [] k before k
stuffed-none before k = record { behind = λ t. refl; added = sym (append-nil k.held); lowered = omega arith }

pub stuffed_more : {before ones ones' : ℕ} {s t : Bits} {k k₁ k₂ : Shown} → StuffedPut before s k ones k₁ → StuffedPut ones t k₁ ones' k₂
    → StuffedPut before (s ++ t) k ones' k₂
stuffed_more {before} {ones} {ones'} {s} {t} {k} {k₂ = k₂} a b =
    let x : Bits = stuffing (4 - before) s in
    let y : Bits = stuffing (4 - ones) t in
    let whole : stuffing (4 - before) (s ++ t) ≡ x ++ y = a.behind t in
    let l = ap length whole ∙ length-append x y in
    record {
      behind = λ u.
          ap (stuffing (4 - before)) (append_assoc s t u)
          ∙ a.behind (t ++ u)
          ∙ ap (λ (l : Bits). x ++ l) (b.behind u)
          ∙ sym (append_assoc x y (stuffing (4 - ones') u))
          ∙ ap (λ (l : Bits). l ++ stuffing (4 - ones') u) (sym whole);
      added = b.added ∙ ap (λ (l : Bits). l ++ y) a.added ∙ append_assoc k.held x y ∙ ap (λ (l : Bits). k.held ++ l) (sym whole);
      lowered = omega (arith, a.lowered, b.lowered);
    }

pub stuffed_as : {s t : Bits} {k k' : Shown} {before ones : ℕ} → s ≡ t → StuffedPut before s k ones k' → StuffedPut before t k ones k'
stuffed_as {k = k} {k'} {before} {ones} e a = let P : Bits → Type 0 = λ l. StuffedPut before l k ones k' in subst P e a

-- a front takes no more room than the whole
front_room : (k : ℕ) (t u : Bits) → length (stuffing k t) ≤ length (stuffing k (t ++ u))
front_room k [] u = omega arith
front_room zero (true ∷ t) u = let r = front_room 4 t u in omega arith
front_room (suc k) (true ∷ t) u = let r = front_room k t u in omega arith
front_room k (false ∷ t) u = let r = front_room 4 t u in omega arith

-- where there was room for all, the room that is left is enough for what comes next
pub next_room : {before ones : ℕ} {s : Bits} {k k₁ : Shown} → StuffedPut before s k ones k₁
    → (all t u : Bits) → all ≡ s ++ (t ++ u) → length (stuffing (4 - before) all) ≤ k.space → length (stuffing (4 - ones) t) ≤ k₁.space
next_room {before} {ones} {s} a all t u e h =
    let w : Bits = t ++ u in
    let whole : stuffing (4 - before) all ≡ stuffing (4 - before) s ++ stuffing (4 - ones) w = ap (stuffing (4 - before)) e ∙ a.behind w in
    let l = ap length whole ∙ length-append (stuffing (4 - before) s) (stuffing (4 - ones) w) in
    let f : length (stuffing (4 - ones) t) ≤ length (stuffing (4 - ones) w) = front_room (4 - ones) t u in
    omega (arith, a.lowered)

-- the fifth one in a row, with the zero behind it
pub put_fifth : {before n : ℕ} (b : Bool) {k k' : Shown} → b ≡ true → 4 ≤ before → Appended (b ∷ false ∷ []) k n k' → StuffedPut before (b ∷ []) k 0 k'
put_fifth {before} true {k} e h a =
    let j : 4 - before ≡ 0 = omega arith in
    let one : stuffing (4 - before) (true ∷ []) ≡ true ∷ false ∷ [] = ap (λ (n : ℕ). stuffing n (true ∷ [])) j in
    let long : length (stuffing (4 - before) (true ∷ [])) ≡ 2 = ap length one in
    record {
      behind = λ t. ap (λ (n : ℕ). stuffing n (true ∷ t)) j ∙ ap (λ (l : Bits). l ++ stuffing 4 t) (sym one);
      added = a.added ∙ ap (λ (l : Bits). k.held ++ l) (sym one);
      lowered = omega (arith, a.lowered, a.counted);
    }
put_fifth false e h a = let z : ◌≡◌ {A = ℕ} 0 1 = cc in absurd (omega arith)

-- the fifth one takes room for two
pub fifth_room : (before : ℕ) (b : Bool) → b ≡ true → 4 ≤ before → length (stuffing (4 - before) (b ∷ [])) ≡ 2
fifth_room before b e h =
    let k : 4 - before ≡ 0 = omega arith in ap (λ (n : ℕ). length (stuffing n (b ∷ []))) k ∙ ap (λ (x : Bool). length (stuffing 0 (x ∷ []))) e

-- a zero, six ones and a zero are the flag
pub flag_put : {k k₁ k₂ k₃ : Shown} (n : ℕ) → n ≡ 6 → Appended (false ∷ []) k 1 k₁ → Appended (ones n) k₁ n k₂ → Appended (false ∷ []) k₂ 1 k₃ → Appended flag k 8 k₃
flag_put n six a b c =
    appended_as (ap (λ (k : ℕ). (false ∷ ones k) ++ false ∷ []) six) (appended_to (omega arith) (appended_more (appended_more a b) c))

-- The sequence moves with its fifteen bits, follows the rule, and is the only one that does.
use Rattle.std.proofs.Common.{◌≡◌, ℕ, zero, suc, ◌+◌, ◌<◌, Bool, true, false, List, [], ◌∷◌, ◌++◌, length, get_or, take, drop, ℤ, pos, negsuc, ◌+ℤ◌, ◌-ℤ◌, neg_ℤ, sym, refl, ap, ◌∙◌, subst, add-suc, suc-add, zero-add, arith, length-append, length-drop}
use mathlib.Core.Bool.{xor}
use native.Mathlib.Decide.{dec_lt}
use lib.IntN.{suc_ℤ, pred_ℤ, suc-pred, pred-suc, suc_ℤ-+ℤ, pred_ℤ-+ℤ}
use Rattle.std.proofs.lemmas.List.{get_or_at, take_at, take_more, take_all, get_or-take, get_or-drop, get_or_append_left, length-take-le}
use Rattle.layers.specs.Sequence.{Rule, Begins, onward, backward, moved, sequence}

-- exclusive or undone
pub xor_twice : (a b : Bool) → xor (xor a b) b ≡ a
unfolding xor
xor_twice true true = refl
xor_twice true false = refl
xor_twice false true = refl
xor_twice false false = refl

xor_around : (a b : Bool) → xor a (xor b a) ≡ b
unfolding xor
xor_around true true = refl
xor_around true false = refl
xor_around false true = refl
xor_around false false = refl

xor_around_second : (a b : Bool) → xor (xor a b) a ≡ b
unfolding xor
xor_around_second true true = refl
xor_around_second true false = refl
xor_around_second false true = refl
xor_around_second false false = refl

-- One place on and one place back

pub there_and_back : (w : List Bool) → length w ≡ 15 → backward (onward w) ≡ w
there_and_back [] e = absurd (omega arith)
there_and_back (a ∷ []) e = absurd (omega arith)
there_and_back (a ∷ b ∷ v) e =
    let rest : length (b ∷ v) ≡ 14 = omega arith in
    ap (λ x. xor x b ∷ take 14 (b ∷ v ++ xor b a ∷ [])) (get_or_at (b ∷ v) (xor b a) [] false 14 rest)
    ∙ ap (λ l. xor (xor b a) b ∷ l) (take_at (b ∷ v) (xor b a ∷ []) 14 rest)
    ∙ ap (λ x. x ∷ b ∷ v) (xor_around_second b a)

pub back_and_there : (w : List Bool) → length w ≡ 15 → onward (backward w) ≡ w
back_and_there w e =
    ap (λ x. take 14 w ++ xor x (xor (get_or w 14 false) (get_or w 0 false)) ∷ []) (get_or-take 14 w 0 false (omega arith))
    ∙ ap (λ x. take 14 w ++ x ∷ []) (xor_around (get_or w 0 false) (get_or w 14 false))
    ∙ sym (take_more w 14 false (omega arith))
    ∙ take_all 15 w (omega arith)

pub length-onward : (w : List Bool) → length w ≡ 15 → length (onward w) ≡ 15
length-onward w e =
    omega (arith, length-append (drop 1 w) (xor (get_or w 1 false) (get_or w 0 false) ∷ []), length-drop 1 w)

pub length-backward : (w : List Bool) → length w ≡ 15 → length (backward w) ≡ 15
length-backward w e = omega (arith, length-take-le 14 w (omega arith))

pub on_shift : (w : List Bool) → length w ≡ 15 → (i : ℤ) → sequence (onward w) i ≡ sequence w (suc_ℤ i)
unfolding sequence
on_shift w e (pos n) = refl
on_shift w e (negsuc zero) = ap (λ l. get_or l 0 false) (there_and_back w e)
on_shift w e (negsuc (suc n)) = ap (λ l. get_or (moved backward (suc n) l) 0 false) (there_and_back w e)

pub back_shift : (w : List Bool) → length w ≡ 15 → (i : ℤ) → sequence (backward w) i ≡ sequence w (pred_ℤ i)
back_shift w e i =
    ap (sequence (backward w)) (sym (suc-pred i))
    ∙ sym (on_shift (backward w) (length-backward w e) (pred_ℤ i))
    ∙ ap (λ l. sequence l (pred_ℤ i)) (back_and_there w e)

-- The bits given are the first fifteen

get_or-onward : (w : List Bool) (k : ℕ) → length w ≡ 15 → k < 14 → get_or (onward w) k false ≡ get_or w (1 + k) false
get_or-onward w k e few =
    get_or_append_left (drop 1 w) (xor (get_or w 1 false) (get_or w 0 false) ∷ []) false k (omega (arith, length-drop 1 w)) ∙ get_or-drop 1 w k false

get_or-onward_last : (w : List Bool) → length w ≡ 15 → get_or (onward w) 14 false ≡ xor (get_or w 1 false) (get_or w 0 false)
get_or-onward_last w e = get_or_at (drop 1 w) (xor (get_or w 1 false) (get_or w 0 false)) [] false 14 (omega (arith, length-drop 1 w))

get_or-backward : (w : List Bool) (k : ℕ) → k < 14 → get_or (backward w) (suc k) false ≡ get_or w k false
get_or-backward w k few = get_or-take 14 w k false few

pub begins : (w : List Bool) → length w ≡ 15 → Begins (sequence w) w
unfolding sequence
begins w e zero few = refl
begins w e (suc k) few =
    let k14 : k < 14 = omega arith in
    begins (onward w) (length-onward w e) k (omega arith) ∙ get_or-onward w k e k14 ∙ ap (λ n. get_or w n false) one_more
  where
    one_more : 1 + k ≡ suc k
    one_more = omega arith

-- The rule, at the first place that it rules, and from there at every place

rule_at_15 : (w : List Bool) → length w ≡ 15 → sequence w (pos 15) ≡ xor (sequence w (pos 1)) (sequence w (pos 0))
rule_at_15 w e =
    sym (on_shift w e (pos 14))
    ∙ begins (onward w) (length-onward w e) 14 (omega arith)
    ∙ get_or-onward_last w e
    ∙ ap (λ b. xor b (get_or w 0 false)) (sym (begins w e 1 (omega arith)))
    ∙ ap (xor (sequence w (pos 1))) (sym (begins w e 0 (omega arith)))

less_14 : (i : ℤ) → suc_ℤ i -ℤ pos 14 ≡ suc_ℤ (i -ℤ pos 14)
less_14 i = suc_ℤ-+ℤ i (neg_ℤ (pos 14))

less_15 : (i : ℤ) → suc_ℤ i -ℤ pos 15 ≡ suc_ℤ (i -ℤ pos 15)
less_15 i = suc_ℤ-+ℤ i (neg_ℤ (pos 15))

-- the rule at a place of the sequence moved on is the rule one place on
rule_on : (w : List Bool) → length w ≡ 15 → (i : ℤ)
    → sequence (onward w) i ≡ xor (sequence (onward w) (i -ℤ pos 14)) (sequence (onward w) (i -ℤ pos 15))
    → sequence w (suc_ℤ i) ≡ xor (sequence w (suc_ℤ i -ℤ pos 14)) (sequence w (suc_ℤ i -ℤ pos 15))
rule_on w e i r =
    sym (on_shift w e i) ∙ r
    ∙ ap (λ b. xor b (sequence (onward w) (i -ℤ pos 15))) (on_shift w e (i -ℤ pos 14) ∙ ap (sequence w) (sym (less_14 i)))
    ∙ ap (xor (sequence w (suc_ℤ i -ℤ pos 14))) (on_shift w e (i -ℤ pos 15) ∙ ap (sequence w) (sym (less_15 i)))

-- the sequence moved back, one place on, is the sequence
back_on : (w : List Bool) → length w ≡ 15 → (i : ℤ) → sequence (backward w) (suc_ℤ i) ≡ sequence w i
back_on w e i = back_shift w e (suc_ℤ i) ∙ ap (sequence w) (pred-suc i)

abbrev At : List Bool → ℤ → Type 0
At w i = sequence w i ≡ xor (sequence w (i -ℤ pos 14)) (sequence w (i -ℤ pos 15))

rule_back : (w : List Bool) → length w ≡ 15 → (i : ℤ) → At (backward w) (suc_ℤ i) → At w i
rule_back w e i r =
    sym (back_on w e i) ∙ r
    ∙ ap (λ b. xor b (sequence (backward w) (suc_ℤ i -ℤ pos 15))) (ap (sequence (backward w)) (less_14 i) ∙ back_on w e (i -ℤ pos 14))
    ∙ ap (xor (sequence w (i -ℤ pos 14))) (ap (sequence (backward w)) (less_15 i) ∙ back_on w e (i -ℤ pos 15))

-- the rule at place k + n is the rule at place n
rule_down : (k n : ℕ) → ((w : List Bool) → length w ≡ 15 → At w (pos (k + n))) → (w : List Bool) → length w ≡ 15 → At w (pos n)
rule_down zero n r w e = subst (λ m. At w (pos m)) (zero-add n) (r w e)
rule_down (suc k) n r w e =
    rule_back w e (pos n) (rule_down k (suc n) (λ v f. subst (λ m. At v (pos m)) (suc-add k n ∙ sym (add-suc k n)) (r v f)) (backward w) (length-backward w e))

rule_at_0 : (w : List Bool) → length w ≡ 15 → At w (pos 0)
rule_at_0 w e = rule_down 15 0 rule_at_15 w e

pub follows : (w : List Bool) → length w ≡ 15 → Rule (sequence w)
follows w e (pos zero) = rule_at_0 w e
follows w e (pos (suc n)) = rule_on w e (pos n) (follows (onward w) (length-onward w e) (pos n))
follows w e (negsuc zero) = rule_back w e (negsuc zero) (rule_at_0 (backward w) (length-backward w e))
follows w e (negsuc (suc n)) = rule_back w e (negsuc (suc n)) (follows (backward w) (length-backward w e) (negsuc n))

-- A sequence that follows the rule is determined by fifteen bits

moved_rule : (s : ℤ → Bool) → Rule s → (step : ℤ → ℤ) → ((i k : ℤ) → step i +ℤ k ≡ step (i +ℤ k)) → Rule (λ i. s (step i))
moved_rule s r step over i =
    r (step i)
    ∙ ap (λ j. xor (s j) (s (step i -ℤ pos 15))) (over i (neg_ℤ (pos 14)))
    ∙ ap (λ j. xor (s (step (i -ℤ pos 14))) (s j)) (over i (neg_ℤ (pos 15)))

begins_on : (s : ℤ → Bool) → Rule s → (w : List Bool) → length w ≡ 15 → Begins s w → Begins (λ i. s (suc_ℤ i)) (onward w)
begins_on s r w e b k few = go (dec_lt k 14)
  where
    go : Dec (k < 14) → s (pos (suc k)) ≡ get_or (onward w) k false
    go (yes lt) =
        let next : suc k ≡ 1 + k = omega arith in
        b (suc k) (omega arith) ∙ ap (λ n. get_or w n false) next ∙ sym (get_or-onward w k e lt)
    go (no ge) =
        let last : k ≡ 14 = omega arith in
        ap (λ n. s (pos (suc n))) last
        ∙ r (pos 15)
        ∙ ap (λ x. xor x (s (pos 0))) (b 1 (omega arith))
        ∙ ap (xor (get_or w 1 false)) (b 0 (omega arith))
        ∙ sym (get_or-onward_last w e)
        ∙ ap (λ n. get_or (onward w) n false) (sym last)

begins_back : (s : ℤ → Bool) → Rule s → (w : List Bool) → length w ≡ 15 → Begins s w → Begins (λ i. s (pred_ℤ i)) (backward w)
begins_back s r w e b zero few =
    sym (xor_around_second (s (pos 0)) (s (negsuc 0)))
    ∙ ap (λ x. xor x (s (pos 0))) (sym (r (pos 14)) ∙ b 14 (omega arith))
    ∙ ap (xor (get_or w 14 false)) (b 0 (omega arith))
begins_back s r w e b (suc k) few = b k (omega arith) ∙ sym (get_or-backward w k (omega arith))

pub only : (s : ℤ → Bool) → Rule s → (w : List Bool) → length w ≡ 15 → Begins s w → (i : ℤ) → s i ≡ sequence w i
unfolding sequence
only s r w e b (pos zero) = b 0 (omega arith)
only s r w e b (pos (suc n)) =
    only (λ i. s (suc_ℤ i)) (moved_rule s r suc_ℤ suc_ℤ-+ℤ) (onward w) (length-onward w e) (begins_on s r w e b) (pos n)
only s r w e b (negsuc zero) = begins_back s r w e b 0 (omega arith)
only s r w e b (negsuc (suc n)) =
    only (λ i. s (pred_ℤ i)) (moved_rule s r pred_ℤ pred_ℤ-+ℤ) (backward w) (length-backward w e) (begins_back s r w e b) (negsuc n)

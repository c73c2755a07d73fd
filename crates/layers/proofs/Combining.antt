-- Bits combined with a sequence: one more, some fewer, moved, and undone.
use Rattle.std.proofs.Common.{◌≡◌, ℕ, zero, suc, ◌+◌, Bool, List, [], ◌∷◌, ◌++◌, length, take, ℤ, pos, neg_ℤ, sym, refl, ap, ◌∙◌, add-zero, add-suc}
use mathlib.Core.Bool.{xor}
use lib.IntN.{suc_ℤ, pred_ℤ, suc-pred, pred-suc}
use Rattle.layers.specs.Sequence.{backward, moved, sequence, combined}
use Rattle.layers.proofs.Sequences.{xor_twice, back_shift, length-backward}

-- n places before the beginning
abbrev before : ℕ → ℤ
before n = neg_ℤ (pos n)

nearer : (n : ℕ) → suc_ℤ (before (suc n)) ≡ before n
nearer zero = refl
nearer (suc n) = refl

farther : (n : ℕ) → pred_ℤ (before n) ≡ before (suc n)
farther zero = refl
farther (suc n) = refl

module _ (s : ℤ → Bool) where
  pub length-combined : (i : ℤ) (xs : List Bool) → length (combined s i xs) ≡ length xs
  unfolding combined
  length-combined i [] = refl
  length-combined i (x ∷ xs) = ap suc (length-combined (suc_ℤ i) xs)

  -- what is combined twice is as it was
  pub combined_twice : (i : ℤ) (xs : List Bool) → combined s i (combined s i xs) ≡ xs
  unfolding combined
  combined_twice i [] = refl
  combined_twice i (x ∷ xs) =
      ap (λ b. b ∷ combined s (suc_ℤ i) (combined s (suc_ℤ i) xs)) (xor_twice x (s i)) ∙ ap (λ l. x ∷ l) (combined_twice (suc_ℤ i) xs)

  pub combined-take : (n : ℕ) (i : ℤ) (xs : List Bool) → combined s i (take n xs) ≡ take n (combined s i xs)
  unfolding combined
  combined-take zero i xs = refl
  combined-take (suc n) i [] = refl
  combined-take (suc n) i (x ∷ xs) = ap (λ l. xor x (s i) ∷ l) (combined-take n (suc_ℤ i) xs)

  -- one bit more, at the beginning's place
  pub combined_push : (xs : List Bool) (y : Bool)
      → combined s (before (length xs)) (xs ++ y ∷ []) ≡ combined s (before (length xs)) xs ++ xor y (s (pos 0)) ∷ []
  unfolding combined
  combined_push [] y = refl
  combined_push (x ∷ xs) y =
      ap (λ i. xor x (s (before (suc (length xs)))) ∷ combined s i (xs ++ y ∷ [])) (nearer (length xs))
      ∙ ap (λ l. xor x (s (before (suc (length xs)))) ∷ l) (combined_push xs y)
      ∙ ap (λ i. xor x (s (before (suc (length xs)))) ∷ (combined s i xs ++ xor y (s (pos 0)) ∷ [])) (sym (nearer (length xs)))

-- sequences that are one another, moved by some places
combined-same : (s t : ℤ → Bool) (step : ℤ → ℤ) → ((i : ℤ) → suc_ℤ (step i) ≡ step (suc_ℤ i)) → ((i : ℤ) → s i ≡ t (step i))
    → (i : ℤ) (xs : List Bool) → combined s i xs ≡ combined t (step i) xs
unfolding combined
combined-same s t step over same i [] = refl
combined-same s t step over same i (x ∷ xs) =
    ap (λ b. xor x b ∷ combined s (suc_ℤ i) xs) (same i)
    ∙ ap (λ l. xor x (t (step i)) ∷ l) (combined-same s t step over same (suc_ℤ i) xs)
    ∙ ap (λ j. xor x (t (step i)) ∷ combined t j xs) (sym (over i))

-- one place on
pub combined_on : (s t : ℤ → Bool) → ((i : ℤ) → s i ≡ t (suc_ℤ i)) → (i : ℤ) (xs : List Bool) → combined s i xs ≡ combined t (suc_ℤ i) xs
combined_on s t same i xs = combined-same s t suc_ℤ (λ j. refl) same i xs

pub before_on : (s t : ℤ → Bool) → ((i : ℤ) → s i ≡ t (suc_ℤ i)) → (n : ℕ) (xs : List Bool)
    → combined s (before (suc n)) xs ≡ combined t (before n) xs
before_on s t same n xs = combined_on s t same (before (suc n)) xs ∙ ap (λ j. combined t j xs) (nearer n)

-- some places back
pub before_back : (d n : ℕ) (w : List Bool) → length w ≡ 15 → (xs : List Bool)
    → combined (sequence (moved backward d w)) (before n) xs ≡ combined (sequence w) (before (n + d)) xs
before_back zero n w e xs = ap (λ m. combined (sequence w) (before m) xs) (sym (add-zero n))
before_back (suc d) n w e xs =
    before_back d n (backward w) (length-backward w e) xs
    ∙ combined-same (sequence (backward w)) (sequence w) pred_ℤ (λ i. suc-pred i ∙ sym (pred-suc i)) (back_shift w e) (before (n + d)) xs
    ∙ ap (λ j. combined (sequence w) j xs) (farther (n + d) ∙ ap before (sym (add-suc n d)))

-- The list of all that is due holds just that.
use Rattle.std.proofs.Common.{◌≡◌, ℕ, ◌<◌, ◌⊎◌, ◌↔◌, List, sym, subst, inl, inr, arith}
use native.Mathlib.Decide.{dec_lt}
use Rattle.cutting.specs.Cutting.{Bits, Due, Placed, AllDue, no_more, next}
use Rattle.cutting.specs.Laws.{In}
use Rattle.cutting.proofs.Scan.{due_one, due_fits, placed_same}

in_due : (s : Bits) (n : ℕ) (l : List Placed) → AllDue s n l → (p : Placed) → In p l → Due s p.place p.verdict
in_due s n _ (no_more f) p i = absurd i
in_due s n _ (next q lo d g r) p (inl e) = subst (λ (x : Placed). Due s x.place x.verdict) (sym e) d
in_due s n _ (next {l = l} q lo d g r) p (inr i) = in_due s q.place l r p i

due_in : (s : Bits) (n : ℕ) (l : List Placed) → AllDue s n l → (p : Placed) → n < p.place → Due s p.place p.verdict → In p l
due_in s n _ (no_more f) p h d = absurd (f p.place p.verdict h d)
due_in s n _ (next {l = l} q lo d g r) p h c = go (dec_lt p.place q.place) (dec_lt q.place p.place) (due_in s q.place l r p)
  where
    go : Dec (p.place < q.place) → Dec (q.place < p.place) → (q.place < p.place → Due s p.place p.verdict → In p l) → (p ≡ q) ⊎ In p l
    go (yes a) _ ih = absurd (g p.place p.verdict h a c)
    go (no a) (yes b) ih = inr (ih b c)
    go (no a) (no b) ih =
        let same : p.place ≡ q.place = omega arith in
        let vw : p.verdict ≡ q.verdict = due_one s p.place p.verdict q.verdict c (subst (λ (x : ℕ). Due s x q.verdict) (sym same) d) in
        inl (placed_same p q same vw)

pub all_in : (s : Bits) (l : List Placed) → AllDue s 0 l → (p : Placed) → In p l ↔ Due s p.place p.verdict
all_in s l a p = (in_due s 0 l a p, λ d. due_in s 0 l a p (due_fits s p.place p.verdict d).0 d)

-- Lists of entries that are all laid out to one width: the entry at an index is the part there.
use Rattle.std.proofs.Common.{◌≡◌, ℕ, zero, suc, ◌+◌, ◌*◌, ◌%◌, ◌<◌, ◌≢◌, List, [], ◌∷◌, ◌++◌, length, take, drop, Some, None, Option, sym, refl, ap, ◌∙◌, subst, mul-zero, mul-suc, arith, length-append}
use native.Mathlib.Nat.{mul-mod_right}
use Rattle.std.proofs.Math.Nat.{add-mod_left, mod-eq_of_lt}
use Rattle.std.specs.List.{flat_map}
use Rattle.std.proofs.lemmas.List.{take_at, drop_at, drop-drop, drop_all, take_all, nil_from_length}
use Rattle.records.specs.Values.{Joined, LayoutRead}
use Rattle.records.specs.Laws.{LayoutIsOne, EntriesAreListed}

part_first : (w : ℕ) (v : List ℕ) → take w (drop (w * 0) v) ≡ take w v
part_first w v = ap (λ k. take w (drop k v)) (mul-zero w)

part_next : (w : ℕ) (v : List ℕ) (k : ℕ) → take w (drop (w * suc k) v) ≡ take w (drop (w * k) (drop w v))
part_next w v k =
    let z : w * suc k ≡ w + w * k = omega (arith, mul-suc w k) in
    ap (take w) (ap (λ n. drop n v) z ∙ sym (drop-drop (w * k) w v))

none_left : (w n : ℕ) → take w (drop {A = ℕ} n []) ≡ []
none_left w n = ap (take w) (drop_all n [] (omega arith)) ∙ take_all w [] (omega arith)

module _ {X : Type 0} (P : X → Type 0) (f : X → List ℕ) (w : ℕ) (wide : (x : X) → length (f x) ≡ w) where
  first_of : (x : X) (os : List ℕ) → take w (drop (w * 0) (f x ++ os)) ≡ f x
  first_of x os = part_first w (f x ++ os) ∙ take_at (f x) os w (wide x)

  next_of : (x : X) (os : List ℕ) (k : ℕ) → take w (drop (w * suc k) (f x ++ os)) ≡ take w (drop (w * k) os)
  next_of x os k = part_next w (f x ++ os) k ∙ ap (λ l. take w (drop (w * k) l)) (drop_at (f x) os w (wide x))

  joined_length : (xs : List X) → length (flat_map f xs) ≡ w * length xs
  joined_length [] = sym (mul-zero w)
  joined_length (x ∷ xs) = length-append (f x) (flat_map f xs) ∙ omega (arith, wide x, joined_length xs, mul-suc w (length xs))

  -- octets of no whole number of parts are no list
  pub not_whole : (v : List ℕ) → length v % w ≢ 0 → Joined P f v → ⊥
  not_whole v part j = part (ap (λ n. n % w) (ap length (sym j.1.1) ∙ joined_length j.0) ∙ mul-mod_right w (length j.0))

  -- octets that begin with a part are a list just if the part is an entry's layout, and those behind it are a list
  pub joined_more : (v os rest : List ℕ) (x : X) → P x → f x ≡ os → v ≡ os ++ rest → Joined P f rest → Joined P f v
  joined_more v os rest x p e whole j = (x ∷ j.0, ((p, j.1.0), ap (λ l. l ++ flat_map f j.0) e ∙ ap (λ l. os ++ l) j.1.1 ∙ sym whole))

  pub joined_less : 0 < w → (v os rest : List ℕ) → length os ≡ w → v ≡ os ++ rest → Joined P f v → (x : X) × (P x × (f x ≡ os) × Joined P f rest)
  joined_less positive v os rest long whole ([], (ps, e)) =
      absurd (omega (arith, ap length (e ∙ whole), length-append os rest))
  joined_less positive v os rest long whole (x ∷ xs, (ps, e)) =
      let same : f x ++ flat_map f xs ≡ os ++ rest = e ∙ whole in
      let first : f x ≡ os = sym (take_at (f x) (flat_map f xs) w (wide x)) ∙ ap (take w) same ∙ take_at os rest w long in
      let after : flat_map f xs ≡ rest = sym (drop_at (f x) (flat_map f xs) w (wide x)) ∙ ap (drop w) same ∙ drop_at os rest w long in
      (x, (ps.0, first, (xs, (ps.1, after))))

  -- so are the octets left whole entries
  pub whole_left : (v os rest : List ℕ) → length os ≡ w → v ≡ os ++ rest → length v % w ≡ 0 → length rest % w ≡ 0
  whole_left v os rest long whole e =
      let l : length v ≡ w + length rest = ap length whole ∙ length-append os rest ∙ ap (λ n. n + length rest) long in
      sym (add-mod_left w (length rest)) ∙ ap (λ n. n % w) (sym l) ∙ e

  pub none_joined : (v : List ℕ) → length v < w → length v % w ≡ 0 → Joined P f v
  none_joined v less e = ([], (tt, sym (nil_from_length v (sym (mod-eq_of_lt less) ∙ e))))

  module _ (one : LayoutIsOne P f) (positive : 0 < w) where
    read_past : (i : ℕ) (r : Option X) → LayoutRead P f (take w (drop (w * i) [])) r → r ≡ None
    read_past i None h = refl
    read_past i (Some x) h = absurd (omega (arith, wide x, ap length (h.1 ∙ none_left w (w * i))))

    read_first : (x : X) (os : List ℕ) → P x → f x ≡ os → (r : Option X) → LayoutRead P f os r → r ≡ Some x
    read_first x os p e None h = absurd (h x p e)
    read_first x os p e (Some y) h = ap Some (one y x h.0 p (h.1 ∙ sym e))

    pub listed_once : EntriesAreListed P f w
    listed_once [] i r es h = read_past i r h
    listed_once (x ∷ xs) zero r es h = read_first x (take w (drop (w * 0) (f x ++ flat_map f xs))) es.0 (sym (first_of x (flat_map f xs))) r h
    listed_once (x ∷ xs) (suc i) r es h = listed_once xs i r es.1 (subst (λ os. LayoutRead P f os r) (next_of x (flat_map f xs) i) h)

-- The bits before a place, the latest first: so a flag or a break that ends there stands at the head, and one bit more is a `∷`.
use Rattle.std.proofs.Common.{◌≡◌, ℕ, zero, suc, ◌-◌, ◌<◌, ◌≤◌, min, false, [], ◌∷◌, ◌++◌, reverse, length, get_or, take, drop, sym, refl, ap, ◌∙◌, arith, length-drop, take-append-drop, drop_of_length-le, length-take, length-take-le, take-suc, take-take, take_at, drop_at}
use mathlib.Core.List.{reverse-append, reverse-reverse}
use native.Mathlib.Nat.{sub-zero, suc-sub-suc, zero-sub}
use native.Mathlib.Decide.{dec_le}
use lib.ListN.{length-reverse}
use lib.Seq.{take-nil, drop-append-le}
use Rattle.cutting.specs.Cutting.{Bits, part, ones, flag, FlagEnds, BreakEnds}

abbrev pub back : Bits → ℕ → Bits
back s k = reverse (take k s)

pub back_suc : (s : Bits) (k : ℕ) → k < length s → back s (suc k) ≡ get_or s k false ∷ back s k
back_suc s k h = ap {B = Bits} reverse (take-suc s k false h) ∙ reverse-append (take k s) (get_or s k false ∷ [])

-- a row read backwards: its last m, then what stands before them
module _ (m : ℕ) (l : Bits) (h : m ≤ length l) where
  turned : reverse l ≡ reverse (drop (length l - m) l) ++ reverse (take (length l - m) l)
  turned = ap {B = Bits} reverse (sym (take-append-drop (length l - m) l)) ∙ reverse-append (take (length l - m) l) (drop (length l - m) l)

  last-long : length (reverse (drop (length l - m) l)) ≡ m
  last-long = length-reverse (drop (length l - m) l) ∙ length-drop (length l - m) l ∙ omega arith

  take-reverse : take m (reverse l) ≡ reverse (drop (length l - m) l)
  take-reverse = ap {B = Bits} (take m) turned ∙ take_at _ _ m last-long

  drop-reverse-within : drop m (reverse l) ≡ reverse (take (length l - m) l)
  drop-reverse-within = ap {B = Bits} (drop m) turned ∙ drop_at _ _ m last-long

pub drop-reverse : (m : ℕ) (l : Bits) → drop m (reverse l) ≡ reverse (take (length l - m) l)
drop-reverse m l = go (dec_le m (length l))
  where
    go : Dec (m ≤ length l) → drop m (reverse l) ≡ reverse (take (length l - m) l)
    go (yes h) = drop-reverse-within m l h
    go (no h) =
        let z : 0 ≡ length l - m = omega arith in
        let n : length (reverse l) ≡ length l = length-reverse l in
        drop_of_length-le (reverse l) (omega arith) ∙ ap {B = Bits} (λ (k : ℕ). reverse (take k l)) z

-- A word w of m bits ends at place k exactly if the bits before k, read backwards, begin with w backwards
module _ (s w : Bits) (m : ℕ) (size : length w ≡ m) (some_bits : 0 < m) where
  pub ends_fits : (k : ℕ) → part s (k - m) k ≡ w → (m ≤ k) × (k ≤ length s)
  ends_fits k e =
      let n : length (part s (k - m) k) ≡ m = ap length e ∙ size in
      let d : length (part s (k - m) k) ≡ min k (length s) - (k - m) = length-drop (k - m) (take k s) ∙ ap (λ (x : ℕ). x - (k - m)) (length-take k s) in
      omega arith

  pub ends_back : (k : ℕ) → part s (k - m) k ≡ w → take m (back s k) ≡ reverse w
  ends_back k e =
      let f = ends_fits k e in
      let l : length (take k s) ≡ k = length-take-le k s f.1 in
      take-reverse m (take k s) (omega arith) ∙ ap {B = Bits} (λ (x : ℕ). reverse (drop (x - m) (take k s))) l ∙ ap {B = Bits} reverse e

  pub back_ends : (k : ℕ) → m ≤ k → k ≤ length s → take m (back s k) ≡ reverse w → part s (k - m) k ≡ w
  back_ends k low high e =
      let l : length (take k s) ≡ k = length-take-le k s high in
      let turned : reverse (part s (k - m) k) ≡ reverse w = ap {B = Bits} (λ (x : ℕ). reverse (drop (x - m) (take k s))) (sym l) ∙ sym (take-reverse m (take k s) (omega arith)) ∙ e in
      sym (reverse-reverse (part s (k - m) k)) ∙ ap {B = Bits} reverse turned ∙ reverse-reverse w

-- `part` from the other side
pub part-take : (s : Bits) (a b : ℕ) → part s a b ≡ take (b - a) (drop a s)
part-take s zero b = ap {B = Bits} (λ (x : ℕ). take x s) (sym (sub-zero b))
part-take s (suc a) zero = ap {B = Bits} (λ (x : ℕ). take x (drop (suc a) s)) (sym (zero-sub (suc a)))
part-take [] (suc a) (suc b) = sym (take-nil (suc b - suc a))
part-take (x ∷ s) (suc a) (suc b) = part-take s a b ∙ ap {B = Bits} (λ (n : ℕ). take n (drop a s)) (sym (suc-sub-suc b a))

pub part_none : (s : Bits) (e : ℕ) → part s e e ≡ []
part_none s e = let z : e - e ≡ 0 = omega arith in part-take s e e ∙ ap {B = Bits} (λ (n : ℕ). take n (drop e s)) z

pub length_part : (s : Bits) (a b : ℕ) → b ≤ length s → length (part s a b) ≡ b - a
length_part s a b h = length-drop a (take b s) ∙ ap (λ (x : ℕ). x - a) (length-take-le b s h)

pub part_more : (s : Bits) (b e : ℕ) → b ≤ e → e < length s → part s b (suc e) ≡ part s b e ++ (get_or s e false ∷ [])
part_more s b e h k =
    ap {B = Bits} (drop b) (take-suc s e false k) ∙ drop-append-le b (take e s) (get_or s e false ∷ []) (let l : length (take e s) ≡ e = length-take-le e s (omega arith) in omega arith)

-- without the last m bits
pub part_less : (s : Bits) (b e m : ℕ) → e ≤ length s → take (length (part s b e) - m) (part s b e) ≡ part s b (e - m)
part_less s b e m h =
    let n : length (part s b e) ≡ e - b = length_part s b e h in
    let p = part-take s b e in
    ap {B = Bits} (λ (x : ℕ). take (x - m) (part s b e)) n ∙ ap {B = Bits} (take (e - b - m)) p ∙ take-take (e - b - m) (e - b) (drop b s) (omega arith)
    ∙ ap {B = Bits} (λ (x : ℕ). take x (drop b s)) (omega arith) ∙ sym (part-take s b (e - m))

-- at the flag and at the break
pub flag-back : (s : Bits) (k : ℕ) → FlagEnds s k → take 8 (back s k) ≡ flag
flag-back s k h = ends_back s flag 8 refl (omega arith) k h

pub flag_fits : (s : Bits) (k : ℕ) → FlagEnds s k → (8 ≤ k) × (k ≤ length s)
flag_fits s k h = ends_fits s flag 8 refl (omega arith) k h

pub break_back : (s : Bits) (k : ℕ) → BreakEnds s k → take 7 (back s k) ≡ ones 7
break_back s k h = ends_back s (ones 7) 7 refl (omega arith) k h

pub break_fits : (s : Bits) (k : ℕ) → BreakEnds s k → (7 ≤ k) × (k ≤ length s)
break_fits s k h = ends_fits s (ones 7) 7 refl (omega arith) k h

-- a row that begins with m bits is that long
reach : (m : ℕ) (l w : Bits) → take m l ≡ w → length w ≡ m → m ≤ length l
reach m l w e n = let t = length-take m l in let u = ap length e in omega arith

length_back : (s : Bits) (k : ℕ) → k ≤ length s → length (back s k) ≡ k
length_back s k h = length-reverse (take k s) ∙ length-take-le k s h

pub back-flag : (s : Bits) (k : ℕ) → k ≤ length s → take 8 (back s k) ≡ flag → FlagEnds s k
back-flag s k h e =
    let low : 8 ≤ length (back s k) = reach 8 (back s k) flag e refl in
    let n = length_back s k h in
    back_ends s flag 8 refl (omega arith) k (omega arith) h e

pub back_break : (s : Bits) (k : ℕ) → k ≤ length s → take 7 (back s k) ≡ ones 7 → BreakEnds s k
back_break s k h e =
    let low : 7 ≤ length (back s k) = reach 7 (back s k) (ones 7) e refl in
    let n = length_back s k h in
    back_ends s (ones 7) 7 refl (omega arith) k (omega arith) h e

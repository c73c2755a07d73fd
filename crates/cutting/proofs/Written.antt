-- What is put is cut into the frames that were put, each due where its closing flag ends.
use Rattle.std.proofs.Common.{◌≡◌, ℕ, zero, suc, ◌+◌, true, false, ◌≢◌, List, [], ◌∷◌, ◌++◌, reverse, length, sym, refl, ap, ◌∙◌, subst, append_assoc, arith, length-append}
use mathlib.Core.List.{reverse_aux, reverse-reverse}
use Rattle.std.specs.List.{AllByRecursion}
use Rattle.bits.specs.Octets.{sent}
use Rattle.bits.proofs.Sent.{length-sent}
use Rattle.fcs.specs.Sequence.{trailer}
use Rattle.fcs.proofs.Bounds.{length-trailer}
use Rattle.cutting.specs.Cutting.{Bits, flag, removed, Verdict, frame, Placed, AllDue}
use Rattle.cutting.specs.Stuffing.{stuffing, stuffed, frame_bits, put_bits, Sendable}
use Rattle.cutting.specs.StuffingLaws.{put_from}
use Rattle.cutting.proofs.Judging.{checked, judged}
use Rattle.cutting.proofs.Verdicts.{judged_frame}
use Rattle.cutting.proofs.Stuffs.{removed-stuffed, stuffed_whole}
use Rattle.cutting.proofs.Scanner.{lost, inside, unless_empty}
use Rattle.cutting.proofs.Scan.{note, scan, scan_cuts}

-- stuffed bits hold no flag and no break: the stretch stays open, with those bits in it
pub scan-stuffing : (k : ℕ) (s raw : Bits) (n m : ℕ) (t : Bits) → n + length (stuffing k s) ≡ m
    → (j : ℕ) × (scan (inside raw (suc (suc k))) n (stuffing k s ++ t) ≡ scan (inside (reverse_aux (stuffing k s) raw) (suc (suc j))) m t)
scan-stuffing k [] raw n m t e = let q : n ≡ m = omega arith in (k, ap {B = List Placed} (λ (x : ℕ). scan (inside raw (suc (suc k))) x t) q)
scan-stuffing zero (true ∷ s) raw n m t e = scan-stuffing 4 s (false ∷ true ∷ raw) (suc (suc n)) m t (omega arith)
scan-stuffing (suc k) (true ∷ s) raw n m t e = scan-stuffing k s (true ∷ raw) (suc n) m t (omega arith)
scan-stuffing k (false ∷ s) raw n m t e = scan-stuffing 4 s (false ∷ raw) (suc n) m t (omega arith)

eight : ℕ → ℕ
eight n = suc (suc (suc (suc (suc (suc (suc (suc n)))))))

eight_more : (n : ℕ) → eight n ≡ n + 8
unfolding eight
eight_more n = omega arith

-- a flag closes a stretch, or opens the first
scan-flag : (raw : Bits) (j n : ℕ) (t : Bits)
    → scan (inside raw (suc j)) n (flag ++ t) ≡ note (eight n) (unless_empty raw (judged (reverse raw))) (scan (inside [] 6) (eight n) t)
unfolding eight
scan-flag raw j n t = refl

scan_first : (n : ℕ) (t : Bits) → scan lost n (flag ++ t) ≡ scan (inside [] 6) (eight n) t
unfolding eight
scan_first n t = refl

note_some : (n : ℕ) (raw : Bits) (v : Verdict) (l : List Placed) → raw ≢ [] → note n (unless_empty raw v) l ≡ (record { place = n; verdict = v }) ∷ l
note_some n [] v l h = absurd (h refl)
note_some n (x ∷ raw) v l h = refl

module _ (os : List ℕ) where
  some_stuffed : reverse (stuffed (sent (checked os))) ≢ []
  some_stuffed e =
      let w : Bits = sent (checked os) in
      let z : stuffed w ≡ [] = sym (reverse-reverse (stuffed w)) ∙ ap {B = Bits} reverse e in
      let y : w ≡ [] = sym (removed-stuffed w) ∙ ap {B = Bits} removed z in
      let l : length w ≡ 0 = ap length y in
      let m = length-sent (checked os) in
      let n = length-append os (trailer os) in
      let t = length-trailer os in
      omega arith

  -- a frame's stretch
  pub judged_put : Sendable os → judged (stuffed (sent (checked os))) ≡ frame os
  judged_put h = judged_frame (stuffed (sent (checked os))) (stuffed_whole (sent (checked os))) os h.each h.enough h.fits (removed-stuffed (sent (checked os)))

  -- one frame, from behind its opening flag to behind its closing one
  scan_frame : Sendable os → (n m : ℕ) (t : Bits) → n + length (stuffed (sent (checked os))) + 8 ≡ m
      → scan (inside [] 6) n (stuffed (sent (checked os)) ++ (flag ++ t)) ≡ (record { place = m; verdict = frame os }) ∷ scan (inside [] 6) m t
  scan_frame h n m t e =
      let w : Bits = stuffed (sent (checked os)) in
      let k : ℕ = n + length w in
      let c = scan-stuffing 4 (sent (checked os)) [] n k (flag ++ t) refl in
      let raw : Bits = reverse w in
      let j : judged (reverse raw) ≡ frame os = ap judged (reverse-reverse w) ∙ judged_put h in
      let q : eight k ≡ m = eight_more k ∙ e in
      c.1 ∙ scan-flag raw (suc c.0) k t ∙ note_some (eight k) raw (judged (reverse raw)) (scan (inside [] 6) (eight k) t) some_stuffed
      ∙ ap {B = List Placed} (λ (v : Verdict). (record { place = eight k; verdict = v }) ∷ scan (inside [] 6) (eight k) t) j
      ∙ ap {B = List Placed} (λ (x : ℕ). (record { place = x; verdict = frame os }) ∷ scan (inside [] 6) x t) q

  put_more : (fs : List (List ℕ)) → put_bits (os ∷ fs) ≡ flag ++ (stuffed (sent (checked os)) ++ (flag ++ put_bits fs))
  put_more fs = simp append_assoc

  length_frame : (n : ℕ) → eight n + length (stuffed (sent (checked os))) + 8 ≡ n + length (frame_bits os)
  length_frame n =
      let w : Bits = stuffed (sent (checked os)) in
      let a = eight_more n in
      let b = length-append flag (w ++ flag) in
      let c = length-append w flag in
      omega arith

-- behind a flag
pub scan_put : (fs : List (List ℕ)) → AllByRecursion Sendable fs → (n : ℕ) → scan (inside [] 6) n (put_bits fs) ≡ put_from n fs
scan_put [] h n = refl
scan_put (os ∷ fs) h n =
    let m : ℕ = n + length (frame_bits os) in
    let t : Bits = stuffed (sent (checked os)) ++ (flag ++ put_bits fs) in
    ap {B = List Placed} (scan (inside [] 6) n) (put_more os fs) ∙ scan-flag [] 5 n t
    ∙ scan_frame os h.0 (eight n) m (put_bits fs) (length_frame os n)
    ∙ ap {B = List Placed} (λ (l : List Placed). (record { place = m; verdict = frame os }) ∷ l) (scan_put fs h.1 m)

-- at the start
pub scan_put_start : (fs : List (List ℕ)) → AllByRecursion Sendable fs → scan lost 0 (put_bits fs) ≡ put_from 0 fs
scan_put_start [] h = refl
scan_put_start (os ∷ fs) h =
    let m : ℕ = 0 + length (frame_bits os) in
    let t : Bits = stuffed (sent (checked os)) ++ (flag ++ put_bits fs) in
    ap {B = List Placed} (scan lost 0) (put_more os fs) ∙ scan_first 0 t
    ∙ scan_frame os h.0 (eight 0) m (put_bits fs) (length_frame os 0)
    ∙ ap {B = List Placed} (λ (l : List Placed). (record { place = m; verdict = frame os }) ∷ l) (scan_put fs h.1 m)

pub put_cut : (fs : List (List ℕ)) → AllByRecursion Sendable fs → AllDue (put_bits fs) 0 (put_from 0 fs)
put_cut fs h = subst (AllDue (put_bits fs) 0) (scan_put_start fs h) (scan_cuts (put_bits fs))

-- the same behind one flag more
pub put_cut_behind : (fs : List (List ℕ)) → AllByRecursion Sendable fs → AllDue (flag ++ put_bits fs) 0 (put_from 8 fs)
unfolding eight
put_cut_behind fs h = subst (AllDue (flag ++ put_bits fs) 0) (scan_first 0 (put_bits fs) ∙ scan_put fs h (eight 0)) (scan_cuts (flag ++ put_bits fs))

-- frames at places are those frames
placed_apart : (fs gs : List (List ℕ)) (n m : ℕ) → put_from n fs ≡ put_from m gs → fs ≡ gs
placed_apart [] [] n m e = refl
placed_apart [] (g ∷ gs) n m e = cc
placed_apart (f ∷ fs) [] n m e = cc
placed_apart (f ∷ fs) (g ∷ gs) n m e =
    let v : frame f ≡ frame g = ap {B = Verdict} (λ (l : List Placed). first l) e in
    let a : f ≡ g = cc in
    let t : put_from (n + length (frame_bits f)) fs ≡ put_from (m + length (frame_bits g)) gs = cc in
    let r = placed_apart fs gs (n + length (frame_bits f)) (m + length (frame_bits g)) t in
    cc
  where
    first : List Placed → Verdict
    first [] = frame []
    first (p ∷ l) = p.verdict

pub put_apart : (fs gs : List (List ℕ)) → AllByRecursion Sendable fs → AllByRecursion Sendable gs → put_bits fs ≡ put_bits gs → fs ≡ gs
put_apart fs gs h k e = placed_apart fs gs 0 0 (sym (scan_put_start fs h) ∙ ap {B = List Placed} (scan lost 0) e ∙ scan_put_start gs k)

pub put_append : (fs gs : List (List ℕ)) → put_bits (fs ++ gs) ≡ put_bits fs ++ put_bits gs
put_append [] gs = refl
put_append (f ∷ fs) gs = ap {B = Bits} (λ (l : Bits). frame_bits f ++ l) (put_append fs gs) ∙ sym (append_assoc (frame_bits f) (put_bits fs) (put_bits gs))

-- The bits of octets, taken apart as they are put.
use Rattle.std.proofs.Common.{◌≡◌, ℕ, suc, ◌+◌, ◌-◌, ◌/◌, ◌%◌, ◌<◌, ◌≤◌, Bool, eqb, List, ◌∷◌, ◌++◌, length, get_or, take, drop, sym, ap, ◌∙◌, append_assoc, arith}
use Rattle.std.proofs.lemmas.List.{append-nil, take-append-drop}
use Rattle.bits.specs.Octets.{low, sent}
use Rattle.bits.proofs.Sent.{sent-append, sent_more}
use Rattle.fcs.specs.Sequence.{after}
use Rattle.fcs.proofs.Behind.{after-append}

-- the next bit, and those behind it
pub low_next : (j n : ℕ) → j < 8 → low (8 - j) n ≡ eqb (n % 2) 1 ∷ low (8 - (j + 1)) (n / 2)
unfolding low
low_next j n h = let k : 8 - j ≡ suc (8 - (j + 1)) = omega arith in ap (λ (m : ℕ). low m n) k

pub low_done : (j n : ℕ) (s : List Bool) → 8 ≤ j → s ++ low (8 - j) n ≡ s
unfolding low
low_done j n s h = let k : 8 - j ≡ 0 = omega arith in ap (λ (m : ℕ). s ++ low m n) k ∙ append-nil s

-- the octets before, the next one, and those behind it
pub sent_split : (os : List ℕ) (i : ℕ) → i < length os → sent os ≡ sent (take i os) ++ (low 8 (get_or os i 0) ++ sent (drop (i + 1) os))
sent_split os i h =
    ap sent (sym (take-append-drop (i + 1) os))
    ∙ sent-append (take (i + 1) os) (drop (i + 1) os)
    ∙ ap (λ (l : List Bool). l ++ sent (drop (i + 1) os)) (sent_more os i h)
    ∙ append_assoc (sent (take i os)) (low 8 (get_or os i 0)) (sent (drop (i + 1) os))

-- the register behind one octet more
pub register_more : (os : List ℕ) (i r v w : ℕ) → i < length os → v ≡ after r (sent (take i os)) → w ≡ after v (low 8 (get_or os i 0))
    → w ≡ after r (sent (take (i + 1) os))
register_more os i r v w h e f =
    let b : List Bool = low 8 (get_or os i 0) in
    f ∙ ap (λ (x : ℕ). after x b) e ∙ sym (ap (after r) (sent_more os i h) ∙ after-append r (sent (take i os)) b)

-- How bits end: their last five are ones exactly if at least five ones lead when they are read backwards.
use Rattle.std.proofs.Common.{◌≡◌, ℕ, zero, suc, ◌-◌, ◌≤◌, true, false, [], ◌∷◌, reverse, length, take, sym, refl, ap, ◌∙◌, arith, length-take}
use lib.ListN.{length-reverse}
use lib.Seq.{take-length}
use Rattle.cutting.specs.Cutting.{Bits, part, ones}
use Rattle.cutting.proofs.Back.{ends_back, back_ends}

-- how many ones lead
abbrev pub lead : Bits → ℕ
lead [] = 0
lead (true ∷ r) = suc (lead r)
lead (false ∷ r) = 0

pub lead-take : (n : ℕ) (r : Bits) → n ≤ lead r → take n r ≡ ones n
lead-take zero r h = refl
lead-take (suc n) [] h = absurd (omega arith)
lead-take (suc n) (true ∷ r) h = ap {B = Bits} (λ (l : Bits). true ∷ l) (lead-take n r (omega arith))
lead-take (suc n) (false ∷ r) h = absurd (omega arith)

pub take-lead : (n : ℕ) (r : Bits) → take n r ≡ ones n → n ≤ lead r
take-lead zero r e = omega arith
take-lead (suc n) [] e = let z : ◌≡◌ {A = ℕ} 0 1 = cc in absurd (omega arith)
take-lead (suc n) (true ∷ r) e = let h = take-lead n r (cc) in omega arith
take-lead (suc n) (false ∷ r) e = let z : ◌≡◌ {A = ℕ} 0 1 = cc in absurd (omega arith)

pub last_to : (bs : Bits) → part bs (length bs - 5) (length bs) ≡ ones 5 → 5 ≤ lead (reverse bs)
last_to bs e = take-lead 5 (reverse bs) (sym (ap {B = Bits} (λ (l : Bits). take 5 (reverse l)) (take-length bs)) ∙ ends_back bs (ones 5) 5 refl (omega arith) (length bs) e)

pub last_from : (bs : Bits) → 5 ≤ lead (reverse bs) → part bs (length bs - 5) (length bs) ≡ ones 5
last_from bs h =
    let t : take 5 (reverse bs) ≡ ones 5 = lead-take 5 (reverse bs) h in
    let n = length-take 5 (reverse bs) in
    let m : length (take 5 (reverse bs)) ≡ 5 = ap length t in
    let l = length-reverse bs in
    back_ends bs (ones 5) 5 refl (omega arith) (length bs) (omega arith) (omega arith) (ap {B = Bits} (λ (l : Bits). take 5 (reverse l)) (take-length bs) ∙ t)

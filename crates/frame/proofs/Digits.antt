-- A Bool as a binary digit.
use Rattle.std.proofs.Common.{◌≡◌, ℕ, ◌<◌, Bool, true, false, cond, refl, arith}

pub digit_below : (b : Bool) → cond b 1 0 < 2
digit_below true = omega arith
digit_below false = omega arith

pub digit_one : (a b : Bool) → ◌≡◌ {A = ℕ} (cond a 1 0) (cond b 1 0) → a ≡ b
digit_one true true e = refl
digit_one true false e = absurd (omega arith)
digit_one false true e = absurd (omega arith)
digit_one false false e = refl

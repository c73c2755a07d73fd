-- A multiple, and the test of it by the remainder.
use Rattle.std.proofs.Common.{◌≡◌, ℕ, zero, suc, ◌*◌, ◌/◌, ◌%◌, ◌<◌, ◌≤◌, Bool, true, false, ltb, ◌↔◌, IsTrue, refl, ap, ◌∙◌, mul_comm, mul-zero, mul-suc, arith, ltb-true}
use native.Mathlib.Nat.{mul-mod_right}
use Rattle.std.proofs.lemmas.Nat.{div-add-mod'}
use Rattle.register.specs.Register.{Multiple, Told}

some : (k m n : ℕ) → 0 < n → n ≡ k * m → 1 ≤ m
some k zero n p e = absurd (omega (arith, mul-zero k))
some k (suc m) n p e = omega arith

pub told_multiple : (k n : ℕ) (b : Bool) → (IsTrue b ↔ (n % k ≡ 0)) → 0 < n → Told (Multiple k n) b
told_multiple k n true e p =
    let whole : n ≡ k * (n / k) = omega (arith, div-add-mod' n k, mul_comm k (n / k), e.0 refl) in
    (n / k, (some k (n / k) n p whole, whole))
told_multiple k n false e p =
    λ h.
    let z : ◌≡◌ {A = Bool} false true = e.1 (ap (λ x. x % k) h.1.1 ∙ mul-mod_right k h.0) in
    let o : ◌≡◌ {A = ℕ} 0 1 = cc in
    omega arith

-- no octets at all are no multiple
product : (k m : ℕ) → 0 < k → 1 ≤ m → 0 < k * m
product k zero h one = absurd (omega arith)
product k (suc m) h one = omega (arith, mul-suc k m)

nothing : (k n : ℕ) (b : Bool) → ltb 0 n ≡ b → 0 < k → n ≤ 0 → Told (Multiple k n) b
nothing k n true e h z = absurd (omega (arith, ltb-true 0 n e))
nothing k n false e h z = λ (m, (one, is)). omega (arith, product k m h one)

pub none_multiple : (k n : ℕ) → 0 < k → n ≤ 0 → Told (Multiple k n) (ltb 0 n)
none_multiple k n h z = nothing k n (ltb 0 n) refl h z

use Rattle.std.proofs.Common.{◌≡◌, ℕ, ◌^◌, ◌<◌, ◌≤◌, Bool, true, false, eqb, List, [], ◌∷◌, ◌++◌, length, sym, refl, ap, ◌∙◌, subst, append_assoc, pow-suc, length-append, arith, rules}
use mir.Val.{bool_byte}
use Rattle.std.proofs.Math.Pow.{pow_mono}
use Rattle.std.proofs.lemmas.List.{nil_from_length, length_push}
use Rattle.bits.specs.Octets.{low}
use Rattle.bits.proofs.Low.{low_double}
use Rattle.layers.proofs.register.holding.Goals as goal

a_bit : (b : Bool) → (bool_byte b < 2) × (eqb (bool_byte b) 1 ≡ b)
a_bit true = (omega arith, refl)
a_bit false = (omega arith, refl)

-- as long as a bit is to come, the register is below 2 ^ 14
below : (bits rest rest' done : List Bool) (b : Bool) (r : ℕ) → length bits ≡ 15 → bits ≡ rest ++ done → rest ≡ rest' ++ b ∷ [] → r < 2 ^ length done
    → r < 16384
below bits rest rest' done b r long is one small =
    let few : length done ≤ 14 = omega (arith, ap length is, length-append rest done, ap length one, length_push rest' b) in
    omega (arith, small, pow_mono {i = length done} {j = 14} few)

pub loop-bit-init : goal.loop-bit-init
unfolding low
loop-bit-init c = ([], search rules, refl, omega arith)

pub overflow_mul-register : goal.overflow_mul-register
overflow_mul-register c =
    let i = c.loop-bit.invariant in
    let small = below c.args.bits.now c.loop-bit.bit-iterator.iter.rest.now c.next.new.self.iter.rest.now i.0 c.in-Some.bit.now c.loop-bit.register c.told-bits i.1 c.in-Some.ensures.steps i.3 in
    omega (arith, small)

pub overflow_add-register : goal.overflow_add-register
overflow_add-register c =
    let i = c.loop-bit.invariant in
    let small = below c.args.bits.now c.loop-bit.bit-iterator.iter.rest.now c.next.new.self.iter.rest.now i.0 c.in-Some.bit.now c.loop-bit.register c.told-bits i.1 c.in-Some.ensures.steps i.3 in
    let one : c.from.result < 2 = subst (λ (n : ℕ). n < 2) (sym c.from.ensures) (a_bit c.in-Some.bit.now).0 in
    omega (arith, small, one)

pub loop-bit-preserved : goal.loop-bit-preserved
loop-bit-preserved c =
    let i = c.loop-bit.invariant in
    let b = c.in-Some.bit.now in
    let n = c.from.result in
    let one : n < 2 = subst (λ (n : ℕ). n < 2) (sym c.from.ensures) (a_bit b).0 in
    let is : eqb n 1 ≡ b = ap (λ k. eqb k 1) c.from.ensures ∙ (a_bit b).1 in (
      b ∷ i.0,
      i.1 ∙ ap (λ l. l ++ i.0) c.in-Some.ensures.steps ∙ append_assoc c.next.new.self.iter.rest.now (b ∷ []) i.0,
      low_double (length i.0) c.loop-bit.register n one ∙ ap (λ x. x ∷ low (length i.0) c.loop-bit.register) is ∙ ap (λ l. b ∷ l) i.2,
      omega (arith, i.3, one, pow-suc 2 (length i.0)),
    )

pub returns : goal.returns
returns c =
    let i = c.loop-bit.invariant in
    let all : c.args.bits.now ≡ i.0 = i.1 ∙ ap (λ l. l ++ i.0) (nil_from_length c.loop-bit.bit-iterator.iter.rest.now (search rules)) in
    ap (λ n. low n c.loop-bit.register) (sym c.told-bits) ∙ subst (λ l. low (length l) c.loop-bit.register ≡ l) (sym all) i.2

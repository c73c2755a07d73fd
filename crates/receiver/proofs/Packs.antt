-- What one bit more does to what a store holds.
use Rattle.std.proofs.Common.{◌≡◌, ℕ, ◌+◌, ◌<◌, ◌≤◌, min, Bool, List, [], ◌∷◌, ◌++◌, length, take, set, sym, ap, ◌∙◌, arith}
use native.Mathlib.Decide.{dec_lt}
use Rattle.std.proofs.lemmas.List.{take_all, take-append-le, take_more_set, set_past, length_push}
use Rattle.bits.specs.Octets.{sent}
use Rattle.bits.proofs.Sent.{length-sent}
use Rattle.cutting.specs.Cutting.{Bits}
use Rattle.receiver.specs.declared.store.Store.{Store}
use Rattle.receiver.specs.Stands.{Holds}

pub holds_none : (s : Store) → s.count ≡ 0 → Holds s []
holds_none s e = record {
  counted = e;
  packed = ap {B = Bits} (λ (n : ℕ). take (min 16504 n) (sent s.octets)) e;
}

-- the store held r, and has room for the bit b
module _ (s : Store) (r : Bits) (b : Bool) (few : s.count < 16504) (was : Holds s r) where
  now_held : take s.count (sent s.octets) ≡ r
  now_held =
      let m : s.count ≡ min 16504 s.count = omega arith in
      let n = was.counted in
      ap {B = Bits} (λ (n : ℕ). take n (sent s.octets)) m ∙ was.packed ∙ take_all 16504 r (omega arith)

  packed_more : (new : List ℕ) → length s.octets ≡ 2063 → sent new ≡ set (sent s.octets) s.count b → take (min 16504 (s.count + 1)) (sent new) ≡ take 16504 (r ++ b ∷ [])
  packed_more new long is =
      let n = was.counted in
      let m : min 16504 (s.count + 1) ≡ s.count + 1 = omega arith in
      ap {B = Bits} (λ (n : ℕ). take n (sent new)) m
      ∙ ap {B = Bits} (take (s.count + 1)) is
      ∙ take_more_set (sent s.octets) s.count b (omega (arith, length-sent s.octets))
      ∙ ap {B = Bits} (λ (l : Bits). l ++ b ∷ []) now_held
      ∙ sym (take_all 16504 (r ++ b ∷ []) (omega (arith, length_push r b)))

-- the bit b is written behind what the store held, where it has room, and the count goes on to n
module _ (s : Store) (r : Bits) (b : Bool) (new : List ℕ) (was : Holds s r) (long : length s.octets ≡ 2063) (is : sent new ≡ set (sent s.octets) s.count b) where
  packed_past : (n : ℕ) → 16504 ≤ s.count → 16504 ≤ n → take (min 16504 n) (sent new) ≡ take 16504 (r ++ b ∷ [])
  packed_past n many more =
      let same : min 16504 n ≡ min 16504 s.count = omega arith in
      let e = was.counted in
      ap {B = Bits} (take (min 16504 n)) (is ∙ set_past (sent s.octets) s.count b (omega (arith, length-sent s.octets)))
      ∙ ap {B = Bits} (λ (k : ℕ). take k (sent s.octets)) same ∙ was.packed ∙ sym (take-append-le 16504 r (b ∷ []) (omega arith))

  pub packed_full : 16511 ≤ s.count → take (min 16504 s.count) (sent new) ≡ take 16504 (r ++ b ∷ [])
  packed_full full = packed_past s.count (omega arith) (omega arith)

  pub packed_next : take (min 16504 (s.count + 1)) (sent new) ≡ take 16504 (r ++ b ∷ [])
  packed_next = go (dec_lt s.count 16504)
    where
      go : Dec (s.count < 16504) → take (min 16504 (s.count + 1)) (sent new) ≡ take 16504 (r ++ b ∷ [])
      go (yes few) = packed_more s r b few was new long is
      go (no many) = packed_past (s.count + 1) (omega arith) (omega arith)

-- Bits taken from packed octets and put into them.
use Rattle.std.proofs.Common.{◌≡◌, ℕ, ◌+◌, ◌/◌, ◌%◌, ◌^◌, ◌<◌, false, eqb, List, ◌∷◌, length, get_or, take, drop, sym, ap, ◌∙◌, arith, length-take}
use lib.Bits.{bit_and, and_mask}
use Rattle.std.proofs.lemmas.List.{drop_more, get_or-take}
use Rattle.bits.specs.Octets.{sent}
use Rattle.bits.proofs.Sent.{length-sent, low_at, sent_at}

module _ (os : List ℕ) (at end : ℕ) where
  -- the bit at a place, as it is read
  pub next_bit : at < end → at / 8 < length os
      → drop at (take end (sent os)) ≡ eqb (bit_and (get_or os (at / 8) 0 / 2 ^ (at % 8)) 1) 1 ∷ drop (at + 1) (take end (sent os))
  next_bit before within =
      let long = length-sent os in
      let held = length-take end (sent os) in
      drop_more (take end (sent os)) at false (omega arith)
      ∙ ap (λ b. b ∷ drop (at + 1) (take end (sent os)))
      (get_or-take end (sent os) at false before
      ∙ sent_at os at (omega arith)
      ∙ low_at 8 (get_or os (at / 8) 0) (at % 8) (omega arith)
      ∙ ap (λ n. eqb n 1) (sym (and_mask (get_or os (at / 8) 0 / 2 ^ (at % 8)) 1)))

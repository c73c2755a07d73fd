-- A frame's octets taken apart: the two addresses, the control octet and the information.
use Rattle.std.proofs.Common.{◌≡◌, ℕ, zero, suc, ◌+◌, ◌-◌, ◌<◌, ◌≤◌, List, [], ◌∷◌, ◌++◌, length, get_or, take, drop, Some, Ok, sym, refl, ap, ◌∙◌, arith, length-drop}
use Rattle.std.proofs.ByRecursion.{All-from_get_or, All-drop}
use Rattle.std.proofs.lemmas.List.{drop_more, take_all}
use Rattle.frame.specs.Addresses.{AddressRead}
use Rattle.frame.specs.Opening.{Content, Layable, layout}
use Rattle.frame.specs.Parts.{ControlTaken}
use Rattle.frame.specs.declared.address.Addressed.{Addressed}
use Rattle.frame.specs.declared.control.Control.{Control}

-- four octets from a place on
abbrev pub four : List ℕ → ℕ → List ℕ
four os p = get_or os p 0 ∷ get_or os (p + 1) 0 ∷ get_or os (p + 2) 0 ∷ get_or os (p + 3) 0 ∷ []

-- the octets behind the header, as a slice pattern names them
abbrev pub rest : List ℕ → List ℕ
rest os = take (length os - 9) (drop 9 os)

-- what octets say whose addresses and control are these
abbrev pub said : List ℕ → Addressed → Addressed → Control → Content
said os to from control =
    record {
      destination = to.address;
      from_ground = to.status;
      source = from.address;
      response = from.status;
      control = control;
      information = rest os;
    }

module _ (os : List ℕ) where
  one_dropped : (p q : ℕ) → p < length os → q ≡ p + 1 → drop p os ≡ get_or os p 0 ∷ drop q os
  one_dropped p q h e = drop_more os p 0 h ∙ ap (λ n. get_or os p 0 ∷ drop n os) (sym e)

  four_dropped : (p : ℕ) → p + 4 ≤ length os → drop p os ≡ four os p ++ drop (p + 4) os
  four_dropped p h =
      one_dropped p (p + 1) (omega arith) refl
      ∙ ap (λ l. get_or os p 0 ∷ l) (one_dropped (p + 1) (p + 2) (omega arith) (omega arith))
      ∙ ap (λ l. get_or os p 0 ∷ get_or os (p + 1) 0 ∷ l) (one_dropped (p + 2) (p + 3) (omega arith) (omega arith))
      ∙ ap (λ l. get_or os p 0 ∷ get_or os (p + 1) 0 ∷ get_or os (p + 2) 0 ∷ l) (one_dropped (p + 3) (p + 4) (omega arith) (omega arith))

  pub four-taken : (p : ℕ) → p + 4 ≤ length os → take 4 (drop p os) ≡ four os p
  four-taken p h = ap (take 4) (four_dropped p h)

  pub four_at : (p k n : ℕ) → k < 4 → n ≡ p + k → get_or os n 0 ≡ get_or (four os p) k 0
  four_at p zero n h e = let z : n ≡ p = omega arith in ap (λ i. get_or os i 0) z
  four_at p (suc zero) n h e = ap (λ i. get_or os i 0) e
  four_at p (suc (suc zero)) n h e = ap (λ i. get_or os i 0) e
  four_at p (suc (suc (suc zero))) n h e = ap (λ i. get_or os i 0) e
  four_at p (suc (suc (suc (suc k)))) n h e = absurd (omega arith)

  rest_is : rest os ≡ drop 9 os
  rest_is = let long = length-drop 9 os in take_all (length os - 9) (drop 9 os) (omega arith)

  pub length_rest : length (rest os) ≡ length os - 9
  length_rest = ap length rest_is ∙ length-drop 9 os

  joined : 9 ≤ length os → (four os 0 ++ (four os 4 ++ (get_or os 8 0 ∷ []))) ++ rest os ≡ os
  joined long =
      ap (λ l. (four os 0 ++ (four os 4 ++ (get_or os 8 0 ∷ []))) ++ l) rest_is
      ∙ ap (λ l. four os 0 ++ (four os 4 ++ l)) (sym (one_dropped 8 9 (omega arith) refl))
      ∙ ap (λ l. four os 0 ++ l) (sym (four_dropped 4 (omega arith)))
      ∙ sym (four_dropped 0 (omega arith))

  -- what was read is a frame, and the octets are its layout
  pub read_is_frame : 9 ≤ length os → length os ≤ 2061 → ((i : ℕ) → get_or os i 0 < 256)
      → (a b : Addressed) → AddressRead (four os 0) (Some a) → AddressRead (four os 4) (Some b)
      → (c : Control) → ControlTaken (get_or os 8 0) (length (rest os)) (Ok c)
      → Layable (said os a b c) × (layout (said os a b c) ≡ os)
  read_is_frame long short below a b to from c ((numbered, octet), suits) = (
    record {
      destination = to.0;
      source = from.0;
      numbered = numbered;
      octets = rw rest_is (All-drop (λ o. o < 256) 9 os (All-from_get_or (λ o. o < 256) os 0 (λ i _. below i)));
      suits = suits;
      fits = omega (arith, length_rest);
    },
    (λ i. (to.1 i ++ (from.1 i ++ (octet i ∷ []))) ++ rest os) ∙ joined long,
  )

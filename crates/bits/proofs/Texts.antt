-- Text read and written octet by octet: what one more does to the bits that it stands for.
use Rattle.std.proofs.Common.{◌≡◌, ℕ, ◌-◌, ◌<◌, ◌≢◌, List, [], ◌∷◌, ◌++◌, length, get_or, take, drop, sym, refl, ap, ◌∙◌, arith}
use Rattle.std.proofs.lemmas.List.{take_rest}
use Rattle.std.proofs.lemmas.Bool.{ne_eqb}
use Rattle.bits.specs.Text.{text_bit, text_bits}

-- the rest of a list behind its first element, as a slice pattern names it
abbrev pub behind : List ℕ → List ℕ
behind xs = take (length xs - 1) (drop 1 xs)

pub passed : (xs : List ℕ) (o : ℕ) → get_or xs 0 0 ≡ o → 0 < length xs → text_bits xs ≡ text_bit o ++ text_bits (behind xs)
passed [] o e h = absurd (omega arith)
passed (x ∷ xs) o e h = ap (λ y. text_bit y ++ text_bits xs) e ∙ ap (λ l. text_bit o ++ text_bits l) (sym (take_rest (x ∷ xs) 1))

pub passed_over : (xs : List ℕ) → get_or xs 0 0 ≢ 48 → get_or xs 0 0 ≢ 49 → 0 < length xs → text_bits xs ≡ text_bits (behind xs)
passed_over xs not0 not1 h =
    passed xs (get_or xs 0 0) refl h ∙ rw (ne_eqb (get_or xs 0 0) 48 not0, ne_eqb (get_or xs 0 0) 49 not1)

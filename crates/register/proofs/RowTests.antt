-- The register's table, tested at all of its 512 rows at once.
use Rattle.std.proofs.Common.{◌≡◌, ℕ, ◌+◌, Bool, true, false, ◌&&◌, eqb, List, get_or, arith}
use Rattle.std.proofs.lemmas.Bool.{and_parts, agree_below, agree_below_at}
use Rattle.register.specs.Register.{row, Rows}
use Rattle.register.specs.declared.Group.TheVariants.{Public, Private}
use Rattle.register.specs.declared.Lengths.{Lengths}
use Rattle.register.specs.declared.Lengths.TheVariants.{Any, Exactly, AtLeast, Fours, Sixes}

abbrev alike : Lengths → Lengths → Bool
alike Any Any = true
alike (Exactly n) (Exactly k) = eqb n k
alike (AtLeast n) (AtLeast k) = eqb n k
alike Fours Fours = true
alike Sixes Sixes = true
alike a b = false

alike_true : (a b : Lengths) → alike a b ≡ true → a ≡ b
alike_true a b e = grind arith

unfoldable pub public_row : List Lengths → ℕ → Bool
public_row rows i = alike (get_or rows i Any) (row Public i)

unfoldable pub private_row : List Lengths → ℕ → Bool
private_row rows i = alike (get_or rows (256 + i) Any) (row Private i)

unfoldable pub right : List Lengths → Bool
right rows = agree_below (public_row rows) (λ i. true) 256 && agree_below (private_row rows) (λ i. true) 256

pub rows_right : (rows : List Lengths) → right rows ≡ true → Rows rows
unfolding right public_row private_row
rows_right rows t =
    let p = and_parts (agree_below (public_row rows) (λ i. true) 256) (agree_below (private_row rows) (λ i. true) 256) t in
    record {
      public = λ i h. alike_true (get_or rows i Any) (row Public i) (agree_below_at (public_row rows) (λ i. true) 256 i p.0 h);
      private = λ i h. alike_true (get_or rows (256 + i) Any) (row Private i) (agree_below_at (private_row rows) (λ i. true) 256 i p.1 h);
    }

use Rattle.std.proofs.Common.{◌≡◌, ℕ, ◌+◌, ◌-◌, ◌*◌, ◌<◌, List, [], ◌∷◌, ◌++◌, length, drop, set, refl, ap, ◌∙◌, arith, length-append}
use Rattle.std.specs.List.{flat_map}
use Rattle.std.proofs.lemmas.Grind.{common_steps}
use borrow.Rule.Slice.PartMut.{put_mid}
use Rattle.bits.specs.Buffers.{over}
use Rattle.bits.proofs.Buffers.{over_more}
use Rattle.lines.specs.Lines.{line_text, hex_pair}
use Rattle.lines.proofs.make_line.Goals as goal

length_hex : (os : List ℕ) → length (flat_map hex_pair os) ≡ 2 * length os
length_hex [] = refl
length_hex (o ∷ os) = let rest = length_hex os in omega arith

-- a head, the pairs behind it, and one octet behind them
written : (head pairs old : List ℕ) (h e x : ℕ) → h ≡ length head → e ≡ h + length pairs → e < length old
    → set (put_mid h (e - h) (head ++ drop h old) pairs) e x ≡ over (head ++ pairs ++ x ∷ []) old
written head pairs old h e x is-h is-e room =
    let long : e ≡ length (head ++ pairs) = grind (arith, common_steps) in
    grind (arith, common_steps, over_more, long)

pub returns-then-room-text : goal.returns-then-room-text
returns-then-room-text c = grind (arith, common_steps, length_hex)

pub returns : goal.returns
returns c =
    let old = c.args.buffer.now in
    let line : c.copy_from_slice.new.self ++ c.put_hex.new.pairs ++ 10 ∷ [] ≡ line_text c.args.line = grind (arith, common_steps) in (
      grind (arith, length-append, length_hex),
      grind (arith, length-append, length_hex),
      written c.copy_from_slice.new.self c.put_hex.new.pairs old _ _ _ (grind arith) (grind arith) (grind arith) ∙ ap (λ l. over l old) line,
    )

use Rattle.std.proofs.Common.{◌≡◌, ◌/◌, ◌%◌, get_or, ap, ◌∙◌, arith}
use lib.Bits.{bit_xor}
use Rattle.fcs.proofs.Moves.{octet_step}
use Rattle.fcs.proofs.moved_by.Goals as goal

pub returns : goal.returns
returns c =
    let moves = c.args.moves.now in
    let v = c.args.value in
    let o = c.args.octet in
    let small : v / 256 % 256 ≡ v / 256 = omega arith in
    let high : c.from.result ≡ v / 256 = c.from.ensures ∙ ap (λ l. get_or l 1 0) c.to_le_bytes.ensures ∙ small in
    let low : c.from-2.result ≡ bit_xor (v % 256) o = c.from-2.ensures ∙ ap (λ l. bit_xor (get_or l 0 0) o) c.to_le_bytes.ensures in
    ap (λ h. bit_xor h (get_or moves c.from-2.result 0)) high ∙ ap (λ i. bit_xor (v / 256) (get_or moves i 0)) low ∙ octet_step moves v o c.requires c.told-moves (omega arith)

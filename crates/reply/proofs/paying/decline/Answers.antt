use Rattle.std.proofs.Common.{◌≡◌, ℕ, ◌/◌, ◌%◌, List, [], ◌∷◌, get_or, ap, ◌∙◌, subst, arith}
use Rattle.reply.specs.Paying.{Pays, answer}
use Rattle.reply.proofs.paying.decline.Goals as goal

pub returns : goal.returns
returns g c =
    let d = c.args.debt in
    let two = c.to_be_bytes.result in
    let field : ℕ → ℕ → List ℕ = λ high low. 0x82 ∷ 0xF0 ∷ 0 ∷ 8 ∷ 0x00 ∷ 1 ∷ 0x56 ∷ 0x06 ∷ 3 ∷ c.args.cause ∷ high ∷ low ∷ [] in
    let high : get_or two 0 0 ≡ c.args.delay / 256 = ap (λ l. get_or l 0 0) c.to_be_bytes.ensures ∙ omega arith in
    let low : get_or two 1 0 ≡ c.args.delay % 256 = ap (λ l. get_or l 1 0) c.to_be_bytes.ensures in
    subst (λ (os : List ℕ). Pays d (answer d c.args.from_ground os) (g.S.BitSink.shown c.args.sink.now) c.reply.result (g.S.BitSink.shown c.reply.new.sink))
    (ap (λ n. field n (get_or two 1 0)) high ∙ ap (field (c.args.delay / 256)) low) c.reply.ensures

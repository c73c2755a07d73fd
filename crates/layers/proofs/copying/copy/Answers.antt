use Rattle.std.proofs.Common.{[], ◌∷◌, ◌++◌, sym, ap, ◌∙◌, append_assoc, arith}
use Rattle.std.proofs.lemmas.List.{length_push}
use Rattle.layers.proofs.copying.copy.Goals as goal

pub loop-copied-preserved : goal.loop-copied-preserved
loop-copied-preserved g c =
    let i = c.loop-copied.invariant in
    let b = c.in-Some.bit in
    let put = c.in-Ok.ensures in
    let long = length_push i.0 b in (
      i.0 ++ b ∷ [],
      i.1 ∙ ap (λ l. i.0 ++ l) c.in-Some.ensures ∙ sym (append_assoc i.0 (b ∷ []) (g.S.BitSource.waiting c.take.new.self)),
      put.0 ∙ ap (λ l. l ++ b ∷ []) i.2 ∙ append_assoc ((g.K.BitSink.shown c.args.sink.now).held) i.0 (b ∷ []),
      omega (arith, i.3, put.1, long),
      omega (arith, i.4, long),
    )

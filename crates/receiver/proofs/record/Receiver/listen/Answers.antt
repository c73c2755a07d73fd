use Rattle.std.proofs.Common.{◌+◌, [], ◌∷◌, ◌++◌, None, sym, subst, arith}
use Rattle.std.proofs.lemmas.List.{length_push}
use Rattle.receiver.specs.Answers.{verdict_of}
use Rattle.receiver.specs.Hearing.{HasHeard, DueNow, meant}
use Rattle.receiver.specs.Listening.{Fills}
use Rattle.receiver.proofs.Takes.{lost_more, comes, stops_found}
use Rattle.receiver.proofs.record.Receiver.listen.Goals as goal

pub loop-taken-preserved : goal.loop-taken-preserved
loop-taken-preserved g c =
    let i = c.loop-taken.invariant in
    let b = c.in-Some.bit in
    let long = length_push i.0 b in (
      i.0 ++ b ∷ [],
      lost_more (g.S.BitSource.waiting c.args.source.now) i.0 (g.S.BitSource.waiting c.loop-taken.source) (g.S.BitSource.waiting c.take.new.self) b i.1 c.in-Some.ensures,
      omega arith,
      i.3,
      comes (HasHeard c.args.self.now) (HasHeard c.loop-taken.self) (HasHeard c.hear.new.self) i.0 b i.4 None
          (λ h was. let now = c.in_default-hear.ensures h was in (now.heard, now.due)),
    )

pub returns-in-Some-hear-clause-answers : goal.returns-in-Some-hear-clause-answers
returns-in-Some-hear-clause-answers g c =
    let i = c.loop-taken.invariant in
    let b = c.in-Some.bit in
    let a = c.answer.result in
    let new = c.answer.new.buffer in
    let same = c.answer.ensures.same in
    let long = length_push i.0 b in
    record {
      bits = i.0 ++ b ∷ [];
      lost = lost_more (g.S.BitSource.waiting c.args.source.now) i.0 (g.S.BitSource.waiting c.loop-taken.source) (g.S.BitSource.waiting c.take.new.self) b i.1 c.in-Some.ensures;
      counts = omega arith;
      told = comes (HasHeard c.args.self.now) (HasHeard c.loop-taken.self) (HasHeard c.hear.new.self) i.0 b i.4 (verdict_of a new)
          (λ h was. let now = c.in-Some-hear.ensures h was in (now.heard, subst (DueNow (h ++ b ∷ [])) (sym same) now.due));
      stops = stops_found a new (meant c.in-Some-hear.verdict c.hear.new.self.store.octets) same c.args.allowance (c.loop-taken.taken + 1) (g.S.BitSource.waiting c.take.new.self)
          (omega arith) (omega arith);
      fills = subst (λ old. Fills a old new) i.3 c.answer.ensures.fills;
    }

use Rattle.std.proofs.Common.{◌≡◌, ◌≢◌, [], get_or, sym, ap, ◌∙◌, arith, rules}
use Rattle.std.proofs.lemmas.List.{nil_from_length}
use Rattle.bits.specs.Text.{text_bits}
use Rattle.bits.proofs.Texts.{passed, passed_over}
use Rattle.bits.proofs.text.TextSourceBitSource.take.Goals as goal

pub returns-in-48 : goal.returns-in-48
returns-in-48 c = sym c.loop-self.invariant ∙ passed c.loop-self.self.rest.now 48 c.in-48.is (search rules)

pub returns-in-49 : goal.returns-in-49
returns-in-49 c = sym c.loop-self.invariant ∙ passed c.loop-self.self.rest.now 49 c.in-49.is (search rules)

pub loop-self-preserved : goal.loop-self-preserved
loop-self-preserved c =
    let not0 : get_or c.loop-self.self.rest.now 0 0 ≢ 48 = omega arith in
    let not1 : get_or c.loop-self.self.rest.now 0 0 ≢ 49 = omega arith in
    sym (passed_over c.loop-self.self.rest.now not0 not1 (search rules)) ∙ c.loop-self.invariant

pub returns : goal.returns
returns c =
    let over : text_bits c.loop-self.self.rest.now ≡ [] = ap text_bits (nil_from_length c.loop-self.self.rest.now (search rules)) in
    (sym c.loop-self.invariant ∙ over, over)

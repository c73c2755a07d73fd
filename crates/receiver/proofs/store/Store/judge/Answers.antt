use Rattle.std.proofs.Common.{◌≡◌, ℕ, ◌<◌, length, get_or, sym, ◌∙◌, true≢false, rules}
use Rattle.std.proofs.lemmas.Bool.Decides.{Decides-eqb}
use Rattle.std.proofs.lemmas.Slice.Eq.{slice_eq-Decides}
use Rattle.receiver.proofs.Verdicts.{held_long, held-ragged, held-short, held-right, held-wrong}
use Rattle.receiver.proofs.store.Store.judge.Goals as goal

pub returns-then-bits-gt-MOST_BITS : goal.returns-then-bits-gt-MOST_BITS
returns-then-bits-gt-MOST_BITS c = λ x held whole was is. held_long c.args.self.now x held whole was is c.requires c.if-bits-gt-MOST_BITS.true

pub returns-then-bits-ne0 : goal.returns-then-bits-ne0
returns-then-bits-ne0 c = λ x held whole was is. held-ragged c.args.self.now x held whole was is c.requires c.if-bits-gt-MOST_BITS.false c.if-bits-ne0.true

pub returns-then-bits-lt88 : goal.returns-then-bits-lt88
returns-then-bits-lt88 c = λ x held whole was is. held-short c.args.self.now x held whole was is c.requires c.if-bits-gt-MOST_BITS.false c.if-bits-ne0.false c.if-bits-lt88.true

pub returns-then-eq : goal.returns-then-eq
returns-then-eq c =
    let s = c.args.self.now in
    let room : length s.octets ≡ 2063 = search rules in
    let small : (i : ℕ) → get_or s.octets i 0 < 256 = search rules in
    λ x held whole was is. held-right s x held whole was is c.requires c.if-bits-gt-MOST_BITS.false c.if-bits-ne0.false c.if-bits-lt88.false room small
    c.check_sequence-sequence.result c.to_le_bytes.result c.check_sequence-sequence.ensures c.to_le_bytes.ensures ((slice_eq-Decides Decides-eqb _ _ _ c.eq.ensures).0 c.if-eq.true)

pub returns-else-eq : goal.returns-else-eq
returns-else-eq c =
    let s = c.args.self.now in
    let room : length s.octets ≡ 2063 = search rules in
    let small : (i : ℕ) → get_or s.octets i 0 < 256 = search rules in
    let same = slice_eq-Decides Decides-eqb _ _ _ c.eq.ensures in
    λ x held whole was is. held-wrong s x held whole was is c.requires c.if-bits-gt-MOST_BITS.false c.if-bits-ne0.false c.if-bits-lt88.false room small
    c.check_sequence-sequence.result c.to_le_bytes.result c.check_sequence-sequence.ensures c.to_le_bytes.ensures (λ e. true≢false (sym (same.1 e) ∙ c.if-eq.false))

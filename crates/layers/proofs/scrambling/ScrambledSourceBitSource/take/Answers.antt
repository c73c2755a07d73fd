use Rattle.std.proofs.Common.{◌-◌, ◌/◌, ◌^◌, Bool, eqb, List, ◌∷◌, sym, ap, ◌∙◌, subst, arith}
use mathlib.Core.Bool.{xor}
use lib.Bits.{bit_and}
use Rattle.bits.specs.Octets.{low}
use Rattle.bits.specs.Source.{Taken}
use Rattle.layers.specs.Sequence.{sequence}
use Rattle.layers.specs.Scrambling.{keyed}
use Rattle.layers.specs.declared.scrambling.ScrambledSource.{ScrambledSource}
use Rattle.layers.proofs.Ahead.{keyed-none, keyed_first, keyed_fourteen}
use Rattle.layers.proofs.scrambling.ScrambledSourceBitSource.take.Goals as goal
use Rattle.layers.proofs.scrambling.ScrambledSourceBitSource.take.Goals.{then-self-eq0, else-self-eq0}

pub returns-in_err-bit : goal.returns-in_err-bit
returns-in_err-bit g c =
    let s = c.args.self.now in
    let none = c.in_err-bit.ensures in
    let key = low s.ahead s.queue in
    let next = sequence (low 15 (s.queue / 2 ^ s.ahead)) in
    subst (λ r. Taken (keyed key next (g.S.BitSource.waiting s.below)) r (keyed key next (g.S.BitSource.waiting c.take.new.self))) (sym c.from_residual.ensures)
    (keyed-none key next (g.S.BitSource.waiting s.below) none.0, keyed-none key next (g.S.BitSource.waiting c.take.new.self) none.1)

-- what came out and what waits, once the queue has a bit ahead
abbrev out : {S : Type 0} → (S → List Bool) → Bool → ScrambledSource S → List Bool
out waiting b s =
    xor b (eqb (bit_and s.queue 1) 1)
    ∷ keyed (low (s.ahead - 1) (s.queue / 2)) (sequence (low 15 (s.queue / 2 / 2 ^ (s.ahead - 1)))) (waiting s.below)

pub returns : goal.returns
unfolding xor
returns g c =
    let s = c.args.self.now in
    let b = c.in_ok-bit.bit in
    let before = g.S.BitSource.waiting s.below in
    let after = g.S.BitSource.waiting c.take.new.self in
    let is = c.in_ok-bit.ensures in
    elim c.if-self-eq0.branch [
      | then-self-eq0 w ↦
          let queue = w.fourteen_more-self.result in
          keyed_fourteen s.queue queue s.ahead before w.if-self-eq0.true w.fourteen_more-self.ensures
          ∙ keyed_first queue 14 b before after (omega arith) is
          ∙ ap (out g.S.BitSource.waiting b) (sym w.self-is)
      | else-self-eq0 w ↦
          keyed_first s.queue s.ahead b before after (omega (arith, w.if-self-eq0.false)) is
          ∙ ap (out g.S.BitSource.waiting b) (sym w.self-is)
    ]

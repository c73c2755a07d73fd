use Rattle.std.proofs.Common.{take, sym, ap, ◌∙◌, subst, arith}
use Rattle.std.proofs.Math.Seq.{take-nil}
use Rattle.bits.specs.Source.{Taken}
use Rattle.layers.proofs.Windows.{take_first}
use Rattle.layers.proofs.burst.BurstBitSource.take.Goals as goal

pub returns-in_err-bit : goal.returns-in_err-bit
returns-in_err-bit g c =
    let none = c.in_err-bit.ensures in
    let n = c.args.self.now.left in
    subst (λ r. Taken (take n (g.S.BitSource.waiting c.args.self.now.below)) r (take n (g.S.BitSource.waiting c.take.new.self))) (sym c.from_residual.ensures)
    (ap (take n) none.0 ∙ take-nil n, ap (take n) none.1 ∙ take-nil n)

pub returns : goal.returns
returns g c =
    ap (take c.args.self.now.left) c.in_ok-bit.ensures
    ∙ take_first c.args.self.now.left c.in_ok-bit.bit (g.S.BitSource.waiting c.take.new.self) (omega arith)

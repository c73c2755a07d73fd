use Rattle.std.proofs.Common.{◌≡◌, suc, ◌+◌, ◌-◌, length, pos, neg_ℤ, Err, sym, refl, ap, ◌∙◌, subst, arith, rules}
use Rattle.bits.specs.Octets.{low}
use Rattle.bits.specs.Sink.{CutBack}
use Rattle.bits.specs.declared.sink.SinkError.TheVariants.{AboveHeld}
use Rattle.layers.specs.Sequence.{backward, moved, sequence, combined}
use Rattle.layers.specs.Scrambling.{scrambled_shown}
use Rattle.layers.proofs.Combining.{length-combined}
use Rattle.layers.proofs.Scrambles.{moved_last, cut_in}
use Rattle.layers.proofs.scrambling.ScrambledSinkBitSink.cut_back.Goals as goal

pub returns-in_err-cut_back : goal.returns-in_err-cut_back
returns-in_err-cut_back g c =
    let s = c.args.self.now in
    let err = c.in_err-cut_back.ensures in
    let held = (g.S.BitSink.shown s.below).held in
    let long = length-combined (sequence (low 15 s.register)) (neg_ℤ (pos (length held))) held in
    let is : c.from_residual.result ≡ Err AboveHeld = search rules in
    subst (λ r. CutBack (scrambled_shown g.S.BitSink.shown s) c.args.count r (scrambled_shown g.S.BitSink.shown (record { below = c.cut_back.new.self; register = s.register }))) (sym is) (
      refl,
      omega (arith, err.1, long),
      ap (λ k. record { held = combined (sequence (low 15 s.register)) (neg_ℤ (pos (length k.held))) k.held; space = k.space }) err.2,
    )

pub loop-init : goal.loop-init
loop-init g c =
    let none : 0 ≡ c.args.count - c.args.count = omega arith in
    (ap (λ n. moved backward n (low 15 c.args.self.now.register)) none, refl)

pub loop-preserved : goal.loop-preserved
loop-preserved g c =
    let w = low 15 c.args.self.now.register in
    let d = c.loop.counter - c.args.count in
    let next : suc d ≡ c.loop.counter + 1 - c.args.count = omega (arith, c.loop.auto.counter) in (
      c.moved_back-self.ensures ∙ ap backward c.loop.invariant.0 ∙ moved_last backward d w ∙ ap (λ n. moved backward n w) next,
      c.loop.invariant.1,
    )

pub returns : goal.returns
returns g c =
    let s = c.args.self.now in
    let held = (g.S.BitSink.shown s.below).held in
    let ok = c.in_ok-cut_back.ensures in
    let long = length-combined (sequence (low 15 s.register)) (neg_ℤ (pos (length held))) held in
    let same = c.loop.invariant.1 in
    let all : c.loop.counter ≡ length held = omega (arith, ok.0, c.count-held.ensures, c.loop.auto.counter-end, c.loop.auto.counter) in
    let back : low 15 c.loop.self.register ≡ moved backward (length held - c.args.count) (low 15 s.register) =
    c.loop.invariant.0 ∙ ap (λ n. moved backward (n - c.args.count) (low 15 s.register)) all in (
      omega (arith, ok.0, long),
      cut_in s.register c.loop.self.register c.args.count held ((g.S.BitSink.shown c.loop.self.below).held) ok.0
          (ap (λ s. (g.S.BitSink.shown s).held) same ∙ ok.1) back,
      ap (λ s. (g.S.BitSink.shown s).space) same ∙ ok.2 ∙ ap (λ n. (g.S.BitSink.shown s.below).space + (n - c.args.count)) (sym long),
    )

use mathlib.Core.Bool.{xor}
use Rattle.layers.proofs.Scrambles.{last_in}
use Rattle.layers.proofs.scrambling.ScrambledSinkBitSink.put.Goals as goal

pub returns : goal.returns
unfolding xor
returns g c =
    let s = c.args.self.now in
    let put = c.in_ok-put.ensures in (
      last_in s.register c.moved_on-self.result c.args.bit ((g.S.BitSink.shown s.below).held) ((g.S.BitSink.shown c.put.new.self).held) c.moved_on-self.ensures put.0,
      put.1,
    )

-- Scrambling layers. Each meaning is given by the meaning of what is below. The bits of the sequence from the layer's place on stand in a
-- number, the lowest first: a sink's register holds fifteen, a source's queue some that are computed ahead and then fifteen.
use Rattle.std.specs.Prelude.{◌/◌, ◌^◌, Bool, List, [], ◌∷◌, length, ℤ, pos, neg_ℤ}
use Rattle.std.specs.Bool.{xor}
use Rattle.bits.specs.Octets.{low}
use Rattle.bits.specs.Sink.{Shown}
use Rattle.layers.specs.Sequence.{sequence, combined}
use Rattle.layers.specs.declared.scrambling.ScrambledSource.{ScrambledSource}
use Rattle.layers.specs.declared.scrambling.ScrambledSink.{ScrambledSink}

-- bits combined one by one with keys, and behind these with the sequence from its place 0 on
unfoldable pub keyed : List Bool → (ℤ → Bool) → List Bool → List Bool
keyed [] s bits = combined s (pos 0) bits
keyed (k ∷ ks) s [] = []
keyed (k ∷ ks) s (b ∷ bs) = xor b k ∷ keyed ks s bs

-- what waits: the bits waiting below, combined with the bits of the sequence that are computed ahead, and then with those that follow by the
-- rule
abbrev pub scrambled_waiting : {S : Type 0} → (S → List Bool) → ScrambledSource S → List Bool
scrambled_waiting waiting s = keyed (low s.ahead s.queue) (sequence (low 15 (s.queue / 2 ^ s.ahead))) (waiting s.below)

-- what is held: the bits below, combined with the sequence up to the layer's place; the room is that below
abbrev pub scrambled_shown : {S : Type 0} → (S → Shown) → ScrambledSink S → Shown
scrambled_shown shown s =
    record {
      held = combined (sequence (low 15 s.register)) (neg_ℤ (pos (length (shown s.below).held))) (shown s.below).held;
      space = (shown s.below).space;
    }

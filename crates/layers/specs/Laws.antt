-- The laws of scrambling and of sinks.
use Rattle.std.specs.Prelude.{◌≡◌, Bool, List, length, ℤ, pos, neg_ℤ, Ok, Result}
use Rattle.bits.specs.Sink.{Shown, Put, CutBack}
use Rattle.bits.specs.declared.sink.SinkError.{SinkError}
use Rattle.layers.specs.Sequence.{Rule, Begins, onward, moved, sequence, combined}

-- the sequence that begins with fifteen given bits follows the rule at every place, before the beginning too, and is the only one
pub record Ruled (given : List Bool) : Type 0 where
  pub rule : Rule (sequence given)
  pub begins : Begins (sequence given) given
  pub only : (s : ℤ → Bool) → Rule s → Begins s given → (i : ℤ) → s i ≡ sequence given i

abbrev pub SequenceIsRuled : Type 0
SequenceIsRuled = (given : List Bool) → length given ≡ 15 → Ruled given

-- bits combined twice with the same places are as they were
abbrev pub ScramblingIsUndone : Type 0
ScramblingIsUndone = (s : ℤ → Bool) (i : ℤ) (bits : List Bool) → combined s i (combined s i bits) ≡ bits

-- what a scrambled sink holds that began over nothing, a scrambled source with the same beginning gives from the bits below
abbrev pub SourceGivesWhatSinkHolds : Type 0
SourceGivesWhatSinkHolds = (given below : List Bool) → length given ≡ 15
    → combined (sequence (moved onward (length below) given)) (neg_ℤ (pos (length below))) below ≡ combined (sequence given) (pos 0) below

-- a bit put, and the sink cut back to what it held before: it shows what it did before
abbrev pub PutIsUndone : Type 0
PutIsUndone = (s s' s'' : Shown) (b : Bool) (u : Unit {0}) (r : Result (Unit {0}) SinkError)
    → Put s b (Ok u) s' → CutBack s' (length s.held) r s'' → (r ≡ Ok tt) × (s'' ≡ s)

-- What one call of listening does.
use Rattle.std.specs.Prelude.{◌≡◌, ℕ, ◌<◌, ◌≤◌, Bool, List, [], ◌++◌, length, drop, Some, None, Option}
use Rattle.cutting.specs.Cutting.{Bits, Verdict, Due}
use Rattle.receiver.specs.Answers.{verdict_of}
use Rattle.receiver.specs.declared.answer.Answer.{Answer}
use Rattle.receiver.specs.declared.answer.Answer.TheVariants.{Aborted, Refused, Frame, Paused, Dry}

-- no verdict falls due in s behind place a, up to place b
abbrev pub Still : Bits → ℕ → ℕ → Type 0
Still s a b = (e : ℕ) (v : Verdict) → a < e → e ≤ b → Due s e v → ⊥

-- behind the history h the bits t came: the verdict falls due at their end, and none before; or none falls due in them
abbrev pub Comes : Bits → Bits → Option Verdict → Type 0
Comes h t None = Still (h ++ t) (length h) (length (h ++ t))
Comes h t (Some v) = Due (h ++ t) (length (h ++ t)) v × ((e : ℕ) (w : Verdict) → length h < e → e < length (h ++ t) → Due (h ++ t) e w → ⊥)

-- why listening stopped: a verdict needs a bit; paused, the allowance is used; dry, it is not, and no bit waits
abbrev pub Stops : Answer → ℕ → ℕ → List Bool → Type 0
Stops Aborted allowance taken after = (0 < taken) × (taken ≤ allowance)
Stops (Refused f) allowance taken after = (0 < taken) × (taken ≤ allowance)
Stops (Frame n) allowance taken after = (0 < taken) × (taken ≤ allowance)
Stops Paused allowance taken after = taken ≡ allowance
Stops Dry allowance taken after = (taken < allowance) × (after ≡ [])

-- the buffer, old and new: a frame fills its front, and every other octet stays
abbrev pub Fills : Answer → List ℕ → List ℕ → Type 0
Fills Aborted old new = new ≡ old
Fills (Refused f) old new = new ≡ old
Fills (Frame n) old new = (9 ≤ n) × (n ≤ 2061) × (length new ≡ length old) × (drop n new ≡ drop n old)
Fills Paused old new = new ≡ old
Fills Dry old new = new ≡ old

-- `before` and `after` are the bits that wait, and the bits between were taken and counted; `was` and `is` are the histories that the record
-- stands for, and for every one of them the answer is what falls due
pub record Listens (was is : Bits → Type 0) (before after : List Bool) (allowance taken : ℕ) (old new : List ℕ) (a : Answer) : Type 0 where
  pub bits : List Bool
  pub lost : before ≡ bits ++ after
  pub counts : length bits ≡ taken
  pub told : (h : Bits) → was h → is (h ++ bits) × Comes h bits (verdict_of a new)
  pub stops : Stops a allowance taken after
  pub fills : Fills a old new

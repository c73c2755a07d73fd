-- What the fields of a receiver stand for: the bits heard since the start or the last carrier loss.
use Rattle.std.specs.Prelude.{◌≡◌, ℕ, suc, ◌-◌, ◌≤◌, min, Bool, true, false, ◌↔◌, ◌∷◌, ◌++◌, length, take, drop}
use Rattle.bits.specs.Octets.{sent}
use Rattle.cutting.specs.Cutting.{Bits, part, ones, Open, removed, Applies}
use Rattle.cutting.specs.declared.Fault.TheVariants.{MissingZero}
use Rattle.receiver.specs.declared.store.Store.{Store}
use Rattle.receiver.specs.declared.record.State.{State}
use Rattle.receiver.specs.declared.record.State.TheVariants.{Hunting, Stretch, Idle}

-- the store holds the bits r: it keeps the first 16,504, and counts on to 16,511
pub record Holds (s : Store) (r : Bits) : Type 0 where
  pub counted : s.count ≡ min 16511 (length r)
  pub packed : take (min 16504 s.count) (sent s.octets) ≡ take 16504 r

-- h ends in a zero and n ones
abbrev pub Behind : ℕ → Bits → Type 0
Behind n h = (p : Bits) × (h ≡ p ++ (false ∷ ones n))

-- no stretch is open at the end of h
abbrev pub Shut : Bits → Type 0
Shut h = (b : ℕ) → Open h b (suc (length h)) → ⊥

-- a stretch is open at the end of h: where it began, the ones behind the last zero, what removal left of it so far, and whether the bits of
-- the stretch before that zero end in five ones, so that removal left the zero out
pub record Inside (n : ℕ) (out : Bool) (store : Store) (h : Bits) : Type 0 where
  pub begin : ℕ
  pub opened : Open h begin (suc (length h))
  pub few : n ≤ 6
  pub tail : Behind n h
  pub holds : Holds store (removed (drop begin h))
  pub left : (out ≡ true) ↔ Applies MissingZero (part h begin (length h - suc n))

-- idle: no stretch is open, and no zero stands before at most six ones at the end; hunting: no stretch is open, and n ones stand behind a zero
abbrev pub Stands : State → Store → Bits → Type 0
Stands Idle store h = Shut h × ((k : ℕ) → k ≤ 6 → Behind k h → ⊥)
Stands (Hunting n) store h = Shut h × (n ≤ 6) × Behind n h
Stands (Stretch n out) store h = Inside n out store h

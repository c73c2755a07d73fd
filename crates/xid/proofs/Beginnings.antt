-- Where a group may begin, and where a beginning ends.
use Rattle.std.proofs.Common.{◌≡◌, ℕ, ◌-◌, ◌≤◌, ◌≢◌, List, [], length, None, Option, refl, ap, arith, length-append}
use Rattle.xid.specs.Fields.{Beginning, nothing, leading, begun, left, last_group, parameters, Whole, WellFormed}
use Rattle.xid.specs.Reading.{Begins, place}
use Rattle.xid.specs.Stands.{group_in_hand}
use Rattle.xid.specs.declared.cursor.Open.{Open}

-- a beginning's end is where the octets behind it start
pub placed : (os : List ℕ) (b : Beginning) (rest : List ℕ) → Begins os b rest → length os - length rest ≡ place b
placed os b rest begins = omega (arith, ap length begins.octets, length-append (begun b) rest)

-- where no octets of a group are to come, the group is whole
pub left_whole : (b : Beginning) → WellFormed b → b ≢ nothing → left b ≡ 0 → Whole b
left_whole b formed some none = grind arith

-- before the first group there are no parameters, and the leading octet at most
pub before_groups : (b : Beginning) → WellFormed b → last_group b ≡ None → (parameters b ≡ []) × (place b ≤ 1)
before_groups nothing formed none = (refl, omega arith)
before_groups leading formed none = (refl, omega arith)
before_groups b formed none = absurd (grind arith)

-- where no group is in hand, none is open
pub none_in_hand : (o : Option Open) → group_in_hand o ≡ None → o ≡ None
none_in_hand o none = grind arith

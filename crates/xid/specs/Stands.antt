-- Where a reader's cursor stands in its field.
use Rattle.std.specs.Prelude.{◌≡◌, ℕ, List, [], ◌++◌, length, Some, None, Option}
use Rattle.register.specs.declared.Group.{Group}
use Rattle.xid.specs.Fields.{Beginning, left, last_group}
use Rattle.xid.specs.Reading.{Begins}
use Rattle.xid.specs.declared.cursor.Cursor.{Cursor}
use Rattle.xid.specs.declared.cursor.Open.{Open}

-- the group in hand, and its octets not yet read
abbrev pub group_in_hand : Option Open → Option Group
group_in_hand None = None
group_in_hand (Some o) = Some o.group

abbrev pub in_hand : Option Open → List ℕ
in_hand None = []
in_hand (Some o) = o.rest.now

-- the octets not yet read: those of the group in hand, and those behind it
abbrev pub unread : Cursor → List ℕ
unread c = in_hand c.open ++ c.behind.now

-- behind a beginning of the octets: the octets not yet read, those of the last group among them, and that group
pub record Stands (os : List ℕ) (c : Cursor) (b : Beginning) : Type 0 where
  pub begins : Begins os b (unread c)
  pub left : length (in_hand c.open) ≡ left b
  pub group : group_in_hand c.open ≡ last_group b

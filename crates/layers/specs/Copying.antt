-- Bits moved from a source into a sink.
use Rattle.std.specs.Prelude.{◌≡◌, ℕ, ◌+◌, ◌<◌, Bool, List, [], ◌++◌, length, Ok, Err, Result}
use Rattle.bits.specs.Sink.{Shown}
use Rattle.layers.specs.declared.copying.NoRoom.{NoRoom}

abbrev pub no_room_number : NoRoom → ℕ
no_room_number e = 40

-- all waiting bits went over and there is room left; or the room is used
abbrev pub Ends : ℕ → List Bool → ℕ → Result ℕ NoRoom → Type 0
Ends moved after room' (Ok n) = (n ≡ moved) × (after ≡ []) × (0 < room')
Ends moved after room' (Err e) = (e.copied ≡ moved) × (room' ≡ 0)

-- the bits that the source lost are those that the sink got
pub record Copies (before after : List Bool) (was is : Shown) (r : Result ℕ NoRoom) : Type 0 where
  pub bits : List Bool
  pub lost : before ≡ bits ++ after
  pub got : is.held ≡ was.held ++ bits
  pub used : was.space ≡ is.space + length bits
  pub ends : Ends (length bits) after is.space r

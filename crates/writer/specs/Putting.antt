-- Bits put into a sink.
use Rattle.std.specs.Prelude.{◌≡◌, ℕ, ◌+◌, ◌-◌, ◌++◌, length}
use Rattle.bits.specs.Sink.{Shown}
use Rattle.cutting.specs.Cutting.{Bits}
use Rattle.cutting.specs.Stuffing.{stuffing}

-- n bits put behind what a sink held, its room lowered by n
pub record Appended (bits : Bits) (was : Shown) (n : ℕ) (is : Shown) : Type 0 where
  pub counted : n ≡ length bits
  pub added : is.held ≡ was.held ++ bits
  pub lowered : was.space ≡ is.space + n

-- bits put stuffed, behind so many ones: a zero after every five ones; whatever follows goes on behind the ones that they end in
pub record StuffedPut (before : ℕ) (s : Bits) (was : Shown) (ones : ℕ) (is : Shown) : Type 0 where
  pub behind : (t : Bits) → stuffing (4 - before) (s ++ t) ≡ stuffing (4 - before) s ++ stuffing (4 - ones) t
  pub added : is.held ≡ was.held ++ stuffing (4 - before) s
  pub lowered : was.space ≡ is.space + length (stuffing (4 - before) s)

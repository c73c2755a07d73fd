-- Lent buffers.
use Rattle.std.specs.Prelude.{ℕ, List, ◌++◌, length, drop}

-- octets written over the front of what a buffer held; every octet behind them stays
abbrev pub over : List ℕ → List ℕ → List ℕ
over octets old = octets ++ drop (length octets) old

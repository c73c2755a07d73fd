-- The law of reading.
use Rattle.std.specs.Prelude.{◌≡◌, ℕ, List, Option}
use Rattle.faults.specs.declared.ExchangeFault.{ExchangeFault}
use Rattle.xid.specs.Fields.{Param}
use Rattle.xid.specs.Reading.{Reading}

-- octets are read in one way at most
abbrev pub ReadingIsOne : Type 0
ReadingIsOne = (os : List ℕ) (ps qs : List Param) (s t : Option ExchangeFault) → Reading os ps s → Reading os qs t → (ps ≡ qs) × (s ≡ t)

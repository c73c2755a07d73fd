-- The numbers of the refusals of a stretch that a flag closed, in the order in which they are tested.
use Rattle.std.specs.Prelude.{ℕ}
use Rattle.cutting.specs.declared.Fault.{Fault}
use Rattle.cutting.specs.declared.Fault.TheVariants.{MissingZero, TooLong, NotOctets, TooShort, WrongSequence}

abbrev pub fault_number : Fault → ℕ
fault_number MissingZero = 11
fault_number TooLong = 12
fault_number NotOctets = 13
fault_number TooShort = 14
fault_number WrongSequence = 15

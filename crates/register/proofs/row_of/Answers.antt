-- The table's rule, computed at all of its 512 rows.
use Rattle.std.proofs.Common.{refl}
use Rattle.register.specs.Register.{row}
use Rattle.register.proofs.RowTests.{rows_right, right, public_row, private_row}
use Rattle.register.proofs.row_of.Goals as goal

pub row_in-requires : goal.row_in-requires
unfolding right public_row private_row row
row_in-requires c = rows_right _ refl

-- The four laws of the layout, of which the function's contract consists.
use Rattle.frame.proofs.Layouts.{layout_is_one, fault_is_one, layout_has_no_fault, laid_out_is_opened}
use Rattle.frame.proofs.frame_stands.Goals as goal

pub returns : goal.returns
returns c = record { one = layout_is_one; fault = fault_is_one; apart = layout_has_no_fault; opened = laid_out_is_opened }

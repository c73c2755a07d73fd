-- Each parameter that is read is counted.
use Rattle.std.proofs.Common.{Ok, subst}
use Rattle.xid.specs.Moving.{Next}
use Rattle.xid.proofs.Counting.{counted_none, counted_more}
use Rattle.xid.proofs.reader.moving.count_parameters.Goals as goal

pub loop-count-init : goal.loop-count-init
loop-count-init c = counted_none c.args.field.now c.new-reader.result c.new-reader.ensures.given c.new-reader.ensures.field

pub loop-count-preserved : goal.loop-count-preserved
loop-count-preserved c =
    counted_more c.args.field.now c.loop-count.reader c.next.new.self c.loop-count.count c.in-Some.field-0 c.loop-count.invariant
    (subst (λ o. Next c.loop-count.reader (Ok o) c.next.new.self) c.in-Some.is c.in_ok-next.ensures)

-- Each order that is accepted is put behind those before; at a refusal the sink is cut back to what it held.
use Rattle.std.proofs.Common.{arith}
use Rattle.writer.proofs.Listing.{list_more, list_refused, list_all, taken_back}
use Rattle.writer.proofs.Puts.{appended_long}
use Rattle.writer.proofs.list.write_list.Goals as goal

pub loop-index-preserved : goal.loop-index-preserved
loop-index-preserved g c =
    let k = g.S.BitSink.shown in
    list_more c.args.orders.now c.args.buffer.now c.loop-index.index (k c.args.sink.now) (k c.loop-index.sink) (k c.write_order.new.sink) c.in_default.field-0 _
    c.loop-index-test.true c.loop-index.invariant c.in_default.ensures

pub returns-in-Err : goal.returns-in-Err
returns-in-Err g c =
    let k = g.S.BitSink.shown in
    let w = c.in-Err.ensures in (
      list_refused c.args.orders.now c.args.buffer.now c.loop-index.index (k c.args.sink.now) (k c.loop-index.sink) _ c.in-Err.error
          c.loop-index-test.true c.loop-index.invariant w.0,
      taken_back c.args.orders.now c.args.buffer.now c.loop-index.index (k c.args.sink.now) (k c.loop-index.sink) (k c.write_order.new.sink) (k c.cut_back.new.self)
          c.count-before.result c.cut_back.result c.loop-index.invariant w.1 c.count-before.ensures c.cut_back.ensures,
    )

pub overflow_sub-result : goal.overflow_sub-result
overflow_sub-result g c = let l = appended_long c.loop-index.invariant.1 in omega (arith, c.count.ensures, c.count-before.ensures)

pub returns : goal.returns
returns g c =
    let k = g.S.BitSink.shown in
    list_all c.args.orders.now c.args.buffer.now c.loop-index.index (k c.args.sink.now) (k c.loop-index.sink) _ c.loop-index-test.false
    (omega (arith, c.count.ensures, c.count-before.ensures)) c.loop-index.invariant

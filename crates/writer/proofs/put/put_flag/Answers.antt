-- Each bit finds room, and together they are the flag.
use Rattle.std.proofs.Common.{true, false, arith}
use Rattle.std.proofs.lemmas.List.{replicate_more}
use Rattle.writer.proofs.Puts.{put_done, appended_more, appended_as, flag_put}
use Rattle.writer.proofs.put.put_flag.Goals as goal

pub loop-preserved : goal.loop-preserved
loop-preserved g c =
    let k = g.S.BitSink in
    let first =
    put_done (k.shown c.args.sink.now) (k.shown c.put.new.self) false c.put.result c.put.ensures (omega (arith, c.requires)) in
    appended_as (replicate_more c.loop.counter true)
    (appended_more c.loop.invariant
    (put_done (k.shown c.loop.sink) (k.shown c.put-in-loop.new.self) true c.put-in-loop.result c.put-in-loop.ensures
    (omega (arith, c.requires, c.loop.invariant.lowered, first.lowered))))

pub returns : goal.returns
returns g c =
    let k = g.S.BitSink in
    let first =
    put_done (k.shown c.args.sink.now) (k.shown c.put.new.self) false c.put.result c.put.ensures (omega (arith, c.requires)) in
    let last =
    put_done (k.shown c.loop.sink) (k.shown c.put-2.new.self) false c.put-2.result c.put-2.ensures
    (omega (arith, c.requires, c.loop.invariant.lowered, first.lowered)) in
    flag_put c.loop.counter (omega arith)
    first c.loop.invariant last

use Rattle.std.proofs.Common.{◌≡◌, map, vec_items, subst, rules}
use Rattle.std.specs.List.{AllByRecursion}
use Rattle.receiver.specs.Hearing.{HasHeard}
use Rattle.path.specs.Carrying.{arrived_placed, Judges}
use Rattle.path.specs.Dry.{placed}
use Rattle.path.proofs.Carried.{hears_some, carried}
use Rattle.path.proofs.carrying.carry.Goals as goal

pub returns-in_err-arrivals : goal.returns-in_err-arrivals
returns-in_err-arrivals g c =
    let some =
    hears_some (HasHeard c.args.receiver.now) (HasHeard c.hear_all.new.receiver) (g.S.BitSource.waiting c.args.source.now) (g.S.BitSource.waiting c.hear_all.new.source)
    c.in_ok-heard.heard.taken (vec_items c.in_ok-heard.heard.events) c.in_ok-heard.ensures in
    let written = c.in_ok-bits.ensures in
    search (rules, some, written)

pub returns : goal.returns
returns g c =
    carried (HasHeard c.args.receiver.now) (HasHeard c.hear_all.new.receiver) (g.S.BitSource.waiting c.args.source.now) (g.S.BitSource.waiting c.hear_all.new.source)
    (g.K.BitSink.shown c.args.sink.now) (g.K.BitSink.shown c.write_list.new.sink)
    c.args.orders.now c.args.buffer.now c.in_ok-bits.bits c.in_ok-heard.heard.taken (vec_items c.in_ok-heard.heard.events) (vec_items c.in_ok-arrivals.arrivals)
    c.in_ok-bits.ensures c.in_ok-heard.ensures
    (subst (λ events. (map arrived_placed (vec_items c.in_ok-arrivals.arrivals) ≡ map placed events) × AllByRecursion (λ x. Judges x.found) (vec_items c.in_ok-arrivals.arrivals)) c.deref.ensures.value c.in_ok-arrivals.ensures)

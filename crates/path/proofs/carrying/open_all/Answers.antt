use Rattle.std.proofs.Common.{[], ◌∷◌, vec_items, sym, refl}
use Rattle.std.proofs.lemmas.List.{take_all}
use Rattle.std.proofs.lemmas.Slice.{pushed}
use Rattle.path.specs.declared.carrying.Arrived.{Arrived}
use Rattle.path.proofs.Arrivals.{OpenedAs, opened_aborted, opened_refused, opened_frame, opened_more}
use Rattle.path.proofs.carrying.open_all.Goals.{in-Aborted, in-Refused, in-Frame+in_ok-found-in-Frame}
use Rattle.path.proofs.carrying.open_all.Goals as goal

opens : (c : goal.In_ok-push) → OpenedAs c.match-event.found c.event-item.result.verdict
opens c =
    elim c.match-event.branch [
      | in-Aborted w ↦ opened_aborted w.found-is w.in-Aborted.is
      | in-Refused w ↦ opened_refused w.in-Refused.fault w.found-is w.in-Refused.is
      | in-Frame+in_ok-found-in-Frame w ↦
          opened_frame w.in_ok-found-in-Frame.found w.in-Frame.octets w.deref.result.now w.found-is w.in-Frame.is w.deref.ensures.value w.in_ok-found-in-Frame.ensures
    ]

pub loop-event-preserved : goal.loop-event-preserved
loop-event-preserved c =
    let a : Arrived = record { place = c.event-item.result.place; found = c.match-event.found } in
    opened_more (vec_items c.loop-event.arrivals) (vec_items c.push.new.self) a c.args.events.now c.loop-event.event-index c.event-item.result
    c.loop-event-test.true c.event-item.is (pushed (a ∷ []) refl c.in_ok-push.was c.push.ensures.items) (refl, opens c) c.loop-event.invariant

pub returns : goal.returns
returns c = rw (sym (take_all c.loop-event.event-index c.args.events.now c.loop-event-test.false)) c.loop-event.invariant

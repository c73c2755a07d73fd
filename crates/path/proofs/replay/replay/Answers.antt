use Rattle.std.proofs.Common.{[], ◌∷◌, vec_items, refl, subst}
use Rattle.std.proofs.lemmas.List.{take_all}
use Rattle.std.proofs.lemmas.Slice.{pushed}
use Rattle.std.proofs.lemmas.Result.{err_from_is_err_and}
use Rattle.path.specs.Replay.{Replayed}
use Rattle.path.specs.declared.replay.Call.TheVariants.{Listen}
use Rattle.path.proofs.Turns.{going_new, going_at, gone, taken_so_far}
use Rattle.path.proofs.replay.replay.Goals as goal

pub loop-call-init : goal.loop-call-init
loop-call-init g c = rw c.new-outcomes.ensures.items (going_new _ _ c.new-receiver.ensures)

pub returns-in_err-outcome : goal.returns-in_err-outcome
returns-in_err-outcome g c =
    let p = err_from_is_err_and c.from_residual.result c.from_residual.ensures.1 in
    rw p.1 (simp c.in_err-outcome.ensures.1 (taken_so_far c.loop-call.invariant))

pub returns-in_err-push : goal.returns-in_err-push
returns-in_err-push g c =
    let p = err_from_is_err_and c.from_residual-in_err-push.result c.from_residual-in_err-push.ensures.1 in
    rw p.1 (taken_so_far (going_at c.loop-call.receiver c.perform.new.receiver (g.S.BitSource.waiting c.loop-call.source) (g.S.BitSource.waiting c.perform.new.source)
    c.args.calls.now c.loop-call.call-index (Listen 0 0) (vec_items c.loop-call.outcomes) c.in_ok-outcome.outcome c.loop-call-test.true c.in_ok-outcome.ensures c.loop-call.invariant))

pub loop-call-preserved : goal.loop-call-preserved
loop-call-preserved g c =
    let more = pushed (c.in_ok-outcome.outcome ∷ []) refl c.in_ok-push.was c.push.ensures.items in
    rw more (going_at c.loop-call.receiver c.perform.new.receiver (g.S.BitSource.waiting c.loop-call.source) (g.S.BitSource.waiting c.perform.new.source)
    c.args.calls.now c.loop-call.call-index (Listen 0 0) (vec_items c.loop-call.outcomes) c.in_ok-outcome.outcome c.loop-call-test.true c.in_ok-outcome.ensures c.loop-call.invariant)

pub returns : goal.returns
returns g c =
    subst (λ calls. Replayed (g.S.BitSource.waiting c.args.source.now) (g.S.BitSource.waiting c.loop-call.source) calls (vec_items c.loop-call.outcomes))
    (take_all c.loop-call.call-index c.args.calls.now c.loop-call-test.false) (gone c.loop-call.invariant)

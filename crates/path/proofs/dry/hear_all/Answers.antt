use Rattle.std.proofs.Common.{◌≡◌, ◌+◌, map, vec_items, sym, refl, ◌∙◌, subst, arith, rules}
use Rattle.receiver.specs.Hearing.{HasHeard}
use Rattle.receiver.specs.Listening.{Stops}
use Rattle.receiver.proofs.Takes.{fewer_wait}
use Rattle.path.specs.Dry.{placed}
use Rattle.path.proofs.Hearings.{Hearing, hearing_new, hearing_more, hearing_some, hearing_dry}
use Rattle.path.proofs.dry.hear_all.Goals as goal

pub loop-heard-init : goal.loop-heard-init
loop-heard-init g c = (
  refl,
  subst (λ l. Hearing (HasHeard c.args.receiver.now) (HasHeard c.args.receiver.now) (g.S.BitSource.waiting c.args.source.now) (g.S.BitSource.waiting c.args.source.now) 0 (map placed l))
      (sym c.new-events.ensures.items) (hearing_new (HasHeard c.args.receiver.now) (g.S.BitSource.waiting c.args.source.now)),
)

pub returns-in_err-taken : goal.returns-in_err-taken
returns-in_err-taken g c = let some = hearing_some (hearing_more _ _ _ _ _ _ _ _ _ _ _ _ _ _ _ c.loop-heard.invariant.1 c.in-Ok.ensures.answers refl refl) in search (rules, some)

pub returns-in_err-note : goal.returns-in_err-note
returns-in_err-note g c = let some = hearing_some (hearing_more _ _ _ _ _ _ _ _ _ _ _ _ _ _ _ c.loop-heard.invariant.1 c.in-Ok.ensures.answers refl refl) in search (rules, some)

pub returns-in-Dry : goal.returns-in-Dry
returns-in-Dry g c =
    let l = c.in-Ok.ensures.answers in
    let dry = subst (λ a. Stops a 4294967295 c.in-Ok.heard.taken (g.S.BitSource.waiting c.listen.new.source)) c.in-Dry.is l.stops in
    let sum : c.in_ok-taken.taken ≡ c.loop-heard.taken + c.in-Ok.heard.taken = search rules in
    hearing_dry (HasHeard c.args.receiver.now) (HasHeard c.listen.new.self) (g.S.BitSource.waiting c.args.source.now) (g.S.BitSource.waiting c.listen.new.source) c.in_ok-taken.taken (vec_items c.note.new.events)
    (hearing_more _ _ _ _ _ _ _ _ _ _ _ _ _ _ _ c.loop-heard.invariant.1 l sum c.in_ok-note.ensures) dry.1

pub loop-heard-smaller : goal.loop-heard-smaller
loop-heard-smaller g c = fewer_wait c.in-Ok.ensures.answers c.in_default-answer.not-Dry (omega arith)

pub loop-heard-preserved : goal.loop-heard-preserved
loop-heard-preserved g c = (
  c.listen.auto.buffer ∙ c.loop-heard.invariant.0,
  hearing_more _ _ _ _ _ _ _ _ _ _ _ _ _ _ _ c.loop-heard.invariant.1 c.in-Ok.ensures.answers (search rules) c.in_ok-note.ensures,
)

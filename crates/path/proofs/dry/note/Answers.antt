use Rattle.std.proofs.Common.{◌≡◌, List, [], ◌∷◌, take, Some, vec_items, sym, ap, ◌∙◌, rules}
use Rattle.cutting.specs.Cutting.{frame, Placed}
use Rattle.receiver.specs.Answers.{verdict_of}
use Rattle.receiver.specs.declared.answer.Answer.{Answer}
use Rattle.path.specs.Dry.{placed}
use Rattle.path.specs.Runs.{noted}
use Rattle.path.specs.declared.dry.Event.{Event}
use Rattle.path.specs.declared.dry.Verdict.{Verdict}
use Rattle.path.proofs.Noting.{event_more}
use Rattle.path.proofs.dry.note.Goals as goal
use Rattle.path.proofs.dry.note.Goals.{in-Aborted, in-Refused, in-Frame+in_ok-to_vec-in-Frame}

one : (c : goal.In_ok-push)
    → noted (verdict_of c.args.answer c.args.buffer.now) c.args.taken ≡ placed (record { place = c.args.taken; verdict = c.match-answer.verdict }) ∷ []
one c =
    let here : Answer → List Placed = λ a. noted (verdict_of a c.args.buffer.now) c.args.taken in
    let there : Verdict → List Placed = λ v. placed (record { place = c.args.taken; verdict = v }) ∷ [] in
    elim c.match-answer.branch [
      | in-Aborted w ↦ ap here w.in-Aborted.is ∙ ap there (sym w.verdict-is)
      | in-Refused w ↦ ap here w.in-Refused.is ∙ ap there (sym w.verdict-is)
      | in-Frame+in_ok-to_vec-in-Frame w ↦
          let n = w.in-Frame.n in
          let octets : take n c.args.buffer.now ≡ vec_items w.in_ok-to_vec-in-Frame.field-0 =
          sym (w.in_ok-to_vec-in-Frame.ensures.items_if_clones_equal (λ x y k. search rules)) in
          ap here w.in-Frame.is ∙ ap (λ l. noted (Some (frame l)) c.args.taken) octets ∙ ap there (sym w.verdict-is)
    ]

pub returns : goal.returns
returns c =
    let e : Event = record { place = c.args.taken; verdict = c.match-answer.verdict } in
    event_more (vec_items c.args.events.now) (vec_items c.push.new.self) e (verdict_of c.args.answer c.args.buffer.now) c.args.taken c.in_ok-push.ensures.items (one c)

-- What every run of a receiver comes to.
use Rattle.std.proofs.Common.{◌≡◌, List, [], ◌∷◌, ◌++◌, sym, refl, ap, ◌∙◌, subst, append_assoc, append-nil}
use Rattle.std.specs.List.{flat_map, AllByRecursion}
use Rattle.std.proofs.ByRecursion.{All-push, All-weaker}
use Rattle.std.proofs.lemmas.List.{flat_map_more}
use Rattle.cutting.specs.Cutting.{Bits, flag, AllDue}
use Rattle.cutting.proofs.Scan.{scan_cuts}
use Rattle.receiver.specs.Hearing.{HasHeard}
use Rattle.receiver.specs.declared.record.Receiver.{Receiver}
use Rattle.path.specs.Runs.{Leg, Turn, Run, new, refuses, listens, loses, Told, Result}
use Rattle.path.proofs.Behind.{same-behind}
use Rattle.path.proofs.Joins.{all_heard}

abbrev Cut : Leg → Type 0
Cut leg = AllDue leg.bits 0 leg.verdicts

-- the receiver has heard the leg; the bits taken are the first that waited; each leg is cut
record Cuts (start : Bits) (r : Receiver) (w : Bits) (legs : List Leg) (leg : Leg) : Type 0 where
  heard : HasHeard r leg.bits
  taken : start ≡ flat_map (λ x. x.bits) legs ++ (leg.bits ++ w)
  ended : AllByRecursion Cut legs
  since : Cut leg

taken_more : (start front b t before after : Bits) → start ≡ front ++ (b ++ before) → before ≡ t ++ after → start ≡ front ++ ((b ++ t) ++ after)
taken_more start front b t before after p q = p ∙ ap {B = Bits} (λ (l : Bits). front ++ (b ++ l)) q ∙ ap {B = Bits} (λ (l : Bits). front ++ l) (sym (append_assoc b t after))

taken_lost : (start w : Bits) (legs : List Leg) (leg : Leg) → start ≡ flat_map (λ x. x.bits) legs ++ (leg.bits ++ w) → start ≡ flat_map (λ x. x.bits) (legs ++ leg ∷ []) ++ w
taken_lost start w legs leg p =
    p ∙ sym (append_assoc (flat_map (λ x. x.bits) legs) leg.bits w) ∙ ap {B = Bits} (λ (l : Bits). l ++ w) (flat_map_more (λ (x : Leg). x.bits) [] legs leg)

cuts : {start : Bits} {r : Receiver} {w : Bits} {legs : List Leg} {leg : Leg} {turns : List Turn} → Run start r w legs leg turns → Cuts start r w legs leg
cuts (new heard) = record { heard = heard; taken = refl; ended = tt; since = scan_cuts [] }
cuts (refuses allowance buffer short run) = cuts run
cuts {start} (listens {before = before} {after} {legs} {leg} allowance taken old filled a room run l) =
    let c = cuts run in
    record {
      heard = (l.told leg.bits c.heard).0;
      taken = taken_more start (flat_map (λ x. x.bits) legs) leg.bits l.bits before after c.taken l.lost;
      ended = c.ended;
      since = all_heard l leg.bits leg.verdicts c.heard c.since;
    }
cuts {start} (loses {w = w} {legs} {leg} run heard) =
    let c = cuts run in
    record { heard = heard; taken = taken_lost start w legs leg c.taken; ended = All-push Cut legs leg c.ended c.since; since = scan_cuts [] }

told : (leg : Leg) → Cut leg → Told leg
told leg all = record {
  all = all;
  behind = λ pre rest own is mine. same-behind pre rest leg.bits leg.verdicts own is all mine;
  again = λ pre rest r own turns is run.
      let c = cuts run in
      let mine : own.bits ≡ flag ++ rest = sym (c.taken ∙ append-nil own.bits) in
      same-behind pre rest leg.bits leg.verdicts own.verdicts is all (subst (λ (x : Bits). AllDue x 0 own.verdicts) mine c.since);
}

pub runs_are_cut : (start : Bits) (r : Receiver) (w : Bits) (legs : List Leg) (leg : Leg) (turns : List Turn)
    → Run start r w legs leg turns → HasHeard r leg.bits × Result start w legs leg
runs_are_cut start r w legs leg turns run =
    let c = cuts run in
    (c.heard, record { taken = c.taken; ended = All-weaker Cut Told told legs c.ended; since = told leg c.since })

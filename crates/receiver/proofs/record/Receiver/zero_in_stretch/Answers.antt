use Rattle.std.proofs.Common.{false, [], ◌∷◌, ◌++◌, refl, sym, ap, subst, ◌∙◌}
use Rattle.receiver.specs.declared.record.State.TheVariants.{Stretch}
use Rattle.receiver.specs.Hearing.{DueNow, verdict_if_any}
use Rattle.receiver.proofs.Turns.{hears, stood, still_heard, stretch_left-out, stretch-zero}
use Rattle.receiver.proofs.record.Receiver.zero_in_stretch.Goals as goal

pub returns-then-ones-eq6 : goal.returns-then-ones-eq6
returns-then-ones-eq6 c = λ h was.
    let out = c.args.left_out in
    let inside = stood c.args.self.now (Stretch 6 out) h (c.requires ∙ ap (λ n. Stretch n out) c.if-ones-eq6.true) was in
    record {
      heard = c.begin.ensures.opened h inside.tail;
      due = subst (λ os. DueNow (h ++ false ∷ []) (verdict_if_any c.closed-verdict.result os)) (sym c.begin.ensures.same) (c.closed-verdict.ensures h inside);
    }

pub invariant_of-self : goal.invariant_of-self
invariant_of-self c =
    let out = c.args.left_out in
    record { heard = still_heard c.args.self.now (Stretch 5 out) (c.requires ∙ ap (λ n. Stretch n out) c.if-ones-eq5.true) (λ h. stretch_left-out c.args.self.now.store h out) }

pub returns-then-ones-eq5 : goal.returns-then-ones-eq5
returns-then-ones-eq5 c = λ h was.
    let out = c.args.left_out in
    hears _ refl (stretch_left-out c.args.self.now.store h out (stood c.args.self.now (Stretch 5 out) h (c.requires ∙ ap (λ n. Stretch n out) c.if-ones-eq5.true) was))

pub invariant_of-self-else-ones-eq5 : goal.invariant_of-self-else-ones-eq5
invariant_of-self-else-ones-eq5 c =
    let n = c.args.ones in
    let out = c.args.left_out in
    record { heard = still_heard c.args.self.now (Stretch n out) c.requires (λ h. stretch-zero c.args.self.now.store h out c.push.new.self n c.if-ones-eq5.false c.if-ones-eq6.false c.push.ensures) }

pub returns-else-ones-eq5 : goal.returns-else-ones-eq5
returns-else-ones-eq5 c = λ h was.
    let n = c.args.ones in
    let out = c.args.left_out in
    hears _ refl (stretch-zero c.args.self.now.store h out c.push.new.self n c.if-ones-eq5.false c.if-ones-eq6.false c.push.ensures (stood c.args.self.now (Stretch n out) h c.requires was))

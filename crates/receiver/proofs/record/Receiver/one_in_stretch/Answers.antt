use Rattle.std.proofs.Common.{refl, ap, ◌∙◌, arith}
use Rattle.receiver.specs.declared.record.State.TheVariants.{Stretch}
use Rattle.receiver.proofs.Turns.{hears, stood, still_idle, still_heard, few_stretch, stretch_break_empty, stretch_break, stretch_six, stretch-one}
use Rattle.receiver.proofs.record.Receiver.one_in_stretch.Goals as goal

pub invariant_of-self : goal.invariant_of-self
invariant_of-self c = record { heard = still_idle c.args.self.now.store }

pub returns-then-count-lt6 : goal.returns-then-count-lt6
returns-then-count-lt6 c = λ h was.
    let out = c.args.left_out in
    hears _ refl (stretch_break_empty c.args.self.now.store h out (omega arith) (stood c.args.self.now (Stretch 6 out) h (c.requires ∙ ap (λ n. Stretch n out) c.if-ones-eq6.true) was))

pub returns-else-count-lt6 : goal.returns-else-count-lt6
returns-else-count-lt6 c = λ h was.
    let out = c.args.left_out in
    hears _ refl (stretch_break c.args.self.now.store h out (omega arith) (stood c.args.self.now (Stretch 6 out) h (c.requires ∙ ap (λ n. Stretch n out) c.if-ones-eq6.true) was))

pub invariant_of-self-then-ones-eq5 : goal.invariant_of-self-then-ones-eq5
invariant_of-self-then-ones-eq5 c =
    let out = c.args.left_out in
    record { heard = still_heard c.args.self.now (Stretch 5 out) (c.requires ∙ ap (λ n. Stretch n out) c.if-ones-eq5.true) (λ h. stretch_six c.args.self.now.store h out) }

pub returns-then-ones-eq5 : goal.returns-then-ones-eq5
returns-then-ones-eq5 c = λ h was.
    let out = c.args.left_out in
    hears _ refl (stretch_six c.args.self.now.store h out (stood c.args.self.now (Stretch 5 out) h (c.requires ∙ ap (λ n. Stretch n out) c.if-ones-eq5.true) was))

pub overflow_add-self : goal.overflow_add-self
overflow_add-self c = let few = few_stretch c.args.self.now c.args.ones c.args.left_out c.requires in omega arith

pub invariant_of-self-else-ones-eq5 : goal.invariant_of-self-else-ones-eq5
invariant_of-self-else-ones-eq5 c =
    let n = c.args.ones in
    let out = c.args.left_out in
    record { heard = still_heard c.args.self.now (Stretch n out) c.requires (λ h. stretch-one c.args.self.now.store h out c.push.new.self n c.if-ones-eq5.false c.if-ones-eq6.false c.push.ensures) }

pub returns-else-ones-eq5 : goal.returns-else-ones-eq5
returns-else-ones-eq5 c = λ h was.
    let n = c.args.ones in
    let out = c.args.left_out in
    hears _ refl (stretch-one c.args.self.now.store h out c.push.new.self n c.if-ones-eq5.false c.if-ones-eq6.false c.push.ensures (stood c.args.self.now (Stretch n out) h c.requires was))

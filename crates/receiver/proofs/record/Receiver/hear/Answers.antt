use Rattle.std.proofs.Common.{rules, ◌≡◌, true, None, sym, subst, arith}
use Rattle.receiver.specs.declared.record.State.{State}
use Rattle.receiver.specs.declared.record.State.TheVariants.{Idle, Hunting}
use Rattle.receiver.proofs.Turns.{Turn, hears, stood, still_heard, still_idle, few_hunting, idle_one, idle_zero, hunting_break, hunting_flag, hunting_one, hunting_zero}
use Rattle.receiver.proofs.record.Receiver.hear.Goals as goal

pub returns-in-Idle-true : goal.returns-in-Idle-true
returns-in-Idle-true c = λ h was.
    let r = c.args.self.now in
    let e = c.in-Idle-true.is-0 in
    hears r c.in-Idle-true.is-1 (subst (λ (s : State). Turn h true None s r.store) (sym e) (idle_one r.store h (stood r Idle h e was)))

pub invariant_of-self : goal.invariant_of-self
invariant_of-self c = record { heard = still_heard c.args.self.now Idle c.in-Idle-false.is-0 (idle_zero c.args.self.now.store) }

pub returns-in-Idle-false : goal.returns-in-Idle-false
returns-in-Idle-false c = λ h was. hears _ c.in-Idle-false.is-1 (idle_zero c.args.self.now.store h (stood c.args.self.now Idle h c.in-Idle-false.is-0 was))

pub invariant_of-self-in-Hunting-eq6-true : goal.invariant_of-self-in-Hunting-eq6-true
invariant_of-self-in-Hunting-eq6-true c = record { heard = still_idle c.args.self.now.store }

pub returns-in-Hunting-eq6-true : goal.returns-in-Hunting-eq6-true
returns-in-Hunting-eq6-true c = λ h was.
    let six : c.args.self.now.state ≡ Hunting 6 = search rules in
    hears _ c.in-Hunting-eq6-true.is-1 (hunting_break c.args.self.now.store h (stood c.args.self.now (Hunting 6) h six was))

pub returns-in-Hunting-eq6-false : goal.returns-in-Hunting-eq6-false
returns-in-Hunting-eq6-false c = λ h was.
    let six : c.args.self.now.state ≡ Hunting 6 = search rules in
    let hunting = stood c.args.self.now (Hunting 6) h six was in
    hears c.begin.new.self c.in-Hunting-eq6-false.is-1 (record { heard = c.begin.ensures.opened h hunting.2; due = hunting_flag c.args.self.now.store h hunting })

pub overflow_add-self : goal.overflow_add-self
overflow_add-self c = let few = few_hunting c.args.self.now c.in-Hunting-true.ones c.in-Hunting-true.is-0 in omega arith

pub invariant_of-self-in-Hunting-true : goal.invariant_of-self-in-Hunting-true
invariant_of-self-in-Hunting-true c =
    let n = c.in-Hunting-true.ones in
    record { heard = still_heard c.args.self.now (Hunting n) c.in-Hunting-true.is-0 (λ h. hunting_one c.args.self.now.store h n c.in-Hunting-true.ones-test.1) }

pub returns-in-Hunting-true : goal.returns-in-Hunting-true
returns-in-Hunting-true c = λ h was.
    let n = c.in-Hunting-true.ones in
    hears _ c.in-Hunting-true.is-1 (hunting_one c.args.self.now.store h n c.in-Hunting-true.ones-test.1 (stood c.args.self.now (Hunting n) h c.in-Hunting-true.is-0 was))

pub invariant_of-self-in-Hunting-false : goal.invariant_of-self-in-Hunting-false
invariant_of-self-in-Hunting-false c =
    let n = c.in-Hunting-false.ones-0 in
    record { heard = still_heard c.args.self.now (Hunting n) c.in-Hunting-false.is-0 (λ h. hunting_zero c.args.self.now.store h n c.in-Hunting-false.ones-0-test.1) }

pub returns-in-Hunting-false : goal.returns-in-Hunting-false
returns-in-Hunting-false c = λ h was.
    let n = c.in-Hunting-false.ones-0 in
    hears _ c.in-Hunting-false.is-1 (hunting_zero c.args.self.now.store h n c.in-Hunting-false.ones-0-test.1 (stood c.args.self.now (Hunting n) h c.in-Hunting-false.is-0 was))

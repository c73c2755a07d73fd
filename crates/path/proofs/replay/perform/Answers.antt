use Rattle.std.proofs.Common.{length, drop, sym, subst}
use Rattle.path.specs.Replay.{Performs}
use Rattle.path.specs.declared.replay.Outcome.TheVariants.{Heard}
use Rattle.path.proofs.Turns.{listened}
use Rattle.path.proofs.replay.perform.Goals as goal

pub returns-in-Ok : goal.returns-in-Ok
returns-in-Ok g c =
    let octets = c.in_ok-octets-in-Listen.octets in
    let answered = c.in-Ok.ensures in
    subst (λ call. Performs call (Heard c.in-Ok.heard.taken c.in-Ok.heard.answer c.truncate.new.self) c.args.receiver.now c.listen.new.self
    (g.S.BitSource.waiting c.args.source.now) (g.S.BitSource.waiting c.listen.new.source)) (sym c.in-Listen.is)
    (listened c.args.receiver.now c.listen.new.self (g.S.BitSource.waiting c.args.source.now) (g.S.BitSource.waiting c.listen.new.source) c.in-Listen.allowance
    c.deref_mut.result.now c.listen.new.buffer c.in-Listen.room octets.len c.frame_length.result (drop (length c.listen.new.buffer) octets.items) c.truncate.new.self.items
    answered.answers answered.refuses c.deref_mut.ensures.len c.in_ok-octets-in-Listen.ensures.len c.frame_length.ensures c.truncate.ensures.items)

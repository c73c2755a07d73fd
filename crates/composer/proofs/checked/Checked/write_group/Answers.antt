use Rattle.std.proofs.Common.{◌+◌, sym, ap, ◌∙◌, arith, length-set}
use Rattle.composer.proofs.Written.{item_room, item_more, item_past}
use Rattle.composer.proofs.checked.Checked.write_group.Goals as goal
use Rattle.composer.proofs.checked.Checked.write_group.Goals.{then-item-octet, else-item-octet}

pub write_item-end-requires-clause-room : goal.write_item-end-requires-clause-room
write_item-end-requires-clause-room c =
    item_room c.args.group c.of-octets.result c.args.self.now c.args.out.now c.of-octets.ensures (omega arith) c.requires.room
    c.loop-item.item-index c.loop-item.end c.loop-item.out c.loop-item-test.true c.loop-item.invariant (simp length-set at c.loop-item.auto.out)
    (c.if-item-octet.true ∙ c.octet-in-loop-item.ensures)

pub loop-item-preserved : goal.loop-item-preserved
loop-item-preserved c =
    let kept = simp length-set at c.loop-item.auto.out in
    elim c.if-item-octet.branch [
      | then-item-octet w ↦
          item_more c.args.group c.of-octets.result c.args.self.now c.args.out.now c.of-octets.ensures (omega arith) c.requires.room
          c.loop-item.item-index c.loop-item.end c.loop-item.out c.loop-item-test.true c.loop-item.invariant kept
          c.if-item-octet.end c.if-item-octet.out w.write_item-end.new.out (w.if-item-octet.true ∙ c.octet-in-loop-item.ensures)
          (w.end-is ∙ ap (λ n. c.loop-item.end + n) w.write_item-end.ensures.end) w.write_item-end.ensures.written w.out-is
      | else-item-octet w ↦
          item_past c.args.group c.of-octets.result c.args.self.now c.args.out.now c.of-octets.ensures (omega arith) c.requires.room
          c.loop-item.item-index c.loop-item.end c.loop-item.out c.loop-item-test.true c.loop-item.invariant kept
          c.if-item-octet.end c.if-item-octet.out (λ e. w.if-item-octet.false (e ∙ sym c.octet-in-loop-item.ensures)) w.end-is w.out-is
    ]

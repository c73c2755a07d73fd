-- Each part finds the room that was left for it, and together they are the frame.
use Rattle.std.proofs.Common.{◌≡◌, ◌-◌, ◌/◌, ◌%◌, ◌+◌, ◌<◌, ◌≤◌, [], ◌∷◌, ◌++◌, length, get_or, sym, refl, ap, ◌∙◌, append_assoc, arith}
use Rattle.std.proofs.ByRecursion.{All-from_get_or}
use Rattle.std.proofs.lemmas.List.{append-nil}
use Rattle.bits.specs.Octets.{low, sent}
use Rattle.fcs.specs.Sequence.{sequence}
use Rattle.cutting.specs.Cutting.{Bits}
use Rattle.cutting.specs.Stuffing.{stuffed, frame_bits}
use Rattle.writer.specs.Putting.{Appended}
use Rattle.writer.proofs.FrameParts.{Parts, inner, two, register_is, inner_parts, inner_room, inner_put, frame_put}
use Rattle.writer.proofs.Puts.{stuffed-none, stuffed_more, next_room, appended_to, appended_long}
use Rattle.writer.proofs.put.put_frame.Goals.{After-put_flag, After-to_le_bytes, After-count}
use Rattle.writer.proofs.put.put_frame.Goals as goal

-- behind the first flag there is room for what stands between the flags, and for the second
room : (g : _) (c : After-put_flag g)
    → length (stuffed (inner (c.args.header.now ++ c.args.information.now))) + 8 ≤ (g.S.BitSink.shown c.put_flag.new.sink).space
room g c = inner_room (c.args.header.now ++ c.args.information.now) c.requires c.put_flag.ensures

parts : (g : _) (c : After-to_le_bytes g) → Parts c.args.header.now c.args.information.now c.to_le_bytes.result
parts g c =
    let h = c.args.header.now in
    let i = c.args.information.now in
    inner_parts h i c.to_le_bytes.result c.sequence.result
    (register_is h i c.new-register.ensures c.put_octets.ensures.moved c.put_octets-2.ensures.moved c.sequence.ensures)
    c.to_le_bytes.ensures

pub put_octets-requires : goal.put_octets-requires
put_octets-requires g c =
    let h = c.args.header.now in
    let i = c.args.information.now in
    let k = g.S.BitSink in
    let s = c.put_flag.new.sink in
    let q = sequence (h ++ i) in
    let r = room g (goal.at.put_octets-requires g c).After-put_flag in
    next_room (stuffed-none 0 (k.shown s)) (inner (h ++ i)) (sent h) (sent i ++ two (q % 256) (q / 256 % 256)) (inner_parts h i (q % 256 ∷ q / 256 % 256 ∷ []) q refl refl) (omega arith)

pub put_octets-requires-2 : goal.put_octets-requires-2
put_octets-requires-2 g c =
    let h = c.args.header.now in
    let i = c.args.information.now in
    let q = sequence (h ++ i) in
    let r = room g (goal.at.put_octets-requires-2 g c).After-put_flag in
    next_room c.put_octets.ensures.put (inner (h ++ i)) (sent i) (two (q % 256) (q / 256 % 256)) (inner_parts h i (q % 256 ∷ q / 256 % 256 ∷ []) q refl refl) (omega arith)

pub put_octet-requires : goal.put_octet-requires
put_octet-requires g c =
    let h = c.args.header.now in
    let i = c.args.information.now in
    let l : Bits = low 8 (get_or c.to_le_bytes.result 0 0) in
    let m : Bits = low 8 (get_or c.to_le_bytes.result 1 0) in
    let r = room g (goal.at.put_octet-requires g c).After-put_flag in
    next_room (stuffed_more c.put_octets.ensures.put c.put_octets-2.ensures.put) (inner (h ++ i)) l m
    (parts g (goal.at.put_octet-requires g c).After-to_le_bytes ∙ sym (append_assoc (sent h) (sent i) (l ++ m))) (omega arith)

pub put_octet-requires-2 : goal.put_octet-requires-2
put_octet-requires-2 g c =
    let h = c.args.header.now in
    let i = c.args.information.now in
    let l : Bits = low 8 (get_or c.to_le_bytes.result 0 0) in
    let m : Bits = low 8 (get_or c.to_le_bytes.result 1 0) in
    let r = room g (goal.at.put_octet-requires-2 g c).After-put_flag in
    let e : sent h ++ (sent i ++ (l ++ m)) ≡ (sent h ++ (sent i ++ l)) ++ (m ++ [])
    = ap (λ (x : Bits). sent h ++ x) (sym (append_assoc (sent i) l m))
    ∙ sym (append_assoc (sent h) (sent i ++ l) m)
    ∙ ap (λ (x : Bits). (sent h ++ (sent i ++ l)) ++ x) (sym (append-nil m)) in
    next_room (stuffed_more c.put_octets.ensures.put (stuffed_more c.put_octets-2.ensures.put c.put_octet.ensures))
    (inner (h ++ i)) m [] (parts g (goal.at.put_octet-requires-2 g c).After-to_le_bytes ∙ e) (omega arith)

pub put_flag-requires-2 : goal.put_flag-requires-2
put_flag-requires-2 g c =
    let at = goal.at.put_flag-requires-2 g c in
    let all = inner_put c.args.header.now c.args.information.now c.to_le_bytes.result (parts g at.After-to_le_bytes)
    c.put_octets.ensures.put c.put_octets-2.ensures.put c.put_octet.ensures c.put_octet-2.ensures in
    omega (arith, room g at.After-put_flag, all.lowered)

-- what was put, counted by the sink
whole : (g : _) (c : After-count g) → Parts c.args.header.now c.args.information.now c.to_le_bytes.result
    → Appended (frame_bits (c.args.header.now ++ c.args.information.now)) (g.S.BitSink.shown c.args.sink.now)
    (c.count.result - c.count-before.result) (g.S.BitSink.shown c.put_flag-2.new.sink)
whole g c p =
    let all = inner_put c.args.header.now c.args.information.now c.to_le_bytes.result p
    c.put_octets.ensures.put c.put_octets-2.ensures.put c.put_octet.ensures c.put_octet-2.ensures in
    appended_to (omega (arith, c.count.ensures, c.count-before.ensures))
    (frame_put (c.args.header.now ++ c.args.information.now) c.put_flag.ensures all c.put_flag-2.ensures)

pub overflow_sub-result : goal.overflow_sub-result
overflow_sub-result g c = let l = appended_long (whole g c (parts g (goal.at.overflow_sub-result g c).After-to_le_bytes)) in omega (arith, c.count.ensures, c.count-before.ensures)

pub returns : goal.returns
returns g c =
    record {
      octets = All-from_get_or (λ o. o < 256) c.args.information.now 0 (λ i _. omega (arith, c.type_inv.information i));
      put = whole g c (parts g (goal.at.returns g c).After-to_le_bytes);
    }

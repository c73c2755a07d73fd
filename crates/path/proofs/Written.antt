-- What a writer put, cut and opened again.
use Rattle.std.proofs.Common.{◌≡◌, ℕ, ◌+◌, ◌-◌, ◌<◌, ◌≤◌, List, [], ◌∷◌, ◌++◌, map, length, None, Ok, Err, sym, refl, ap, ◌∙◌, subst, append_assoc, append-nil, arith}
use mathlib.Core.List.{head-eq_of_cons-eq, tail-eq_of_cons-eq}
use Rattle.std.specs.List.{AllByRecursion}
use Rattle.bits.specs.Sink.{Shown}
use Rattle.cutting.specs.Cutting.{Bits, flag, Verdict, frame, Placed, AllDue}
use Rattle.cutting.specs.Stuffing.{frame_bits, put_bits, Sendable}
use Rattle.cutting.specs.StuffingLaws.{put_from}
use Rattle.std.proofs.ByRecursion.{All-append, All-weaker}
use Rattle.std.proofs.lemmas.List.{map-append, append_cancel_left}
use Rattle.cutting.proofs.Written.{put_append, put_apart, put_cut_behind}
use Rattle.frame.proofs.Words.{address_octets_below}
use Rattle.frame.proofs.ControlOctets.{control_octet_below}
use Rattle.frame.specs.Opening.{Content, layout, Layable}
use Rattle.writer.specs.Lists.{ordered, layouts, AllAccepted}
use Rattle.writer.specs.declared.list.Order.{Order}
use Rattle.frame.proofs.Layouts.{laid_out_is_opened, layout_is_one}
use Rattle.xid.specs.Reading.{Reading}
use Rattle.composer.specs.Composing.{params_of}
use Rattle.path.specs.Ends.{Writes, begins, writes, lists, Puts, Behind, OpensTo, ReadsTo}
use Rattle.path.specs.Runs.{Leg, Told, later}

-- a frame that is laid out may be sent
pub sendable : (c : Content) → Layable c → Sendable (layout c)
sendable c l =
    let to = address_octets_below c.from_ground c.destination in
    let from = address_octets_below c.response c.source in
    record {
      each = (to.0, (to.1.0, (to.1.1.0, (to.1.1.1.0, (from.0, (from.1.0, (from.1.1.0, (from.1.1.1.0, (control_octet_below c.control l.numbered, l.octets)))))))));
      enough = omega arith;
      fits = omega (arith, l.fits);
    }

pub all_sendable : (frames : List Content) → AllByRecursion Layable frames → AllByRecursion Sendable (map layout frames)
all_sendable [] h = tt
all_sendable (c ∷ frames) h = (sendable c h.0, all_sendable frames h.1)

pub layouts_are : (buffer : List ℕ) (orders : List Order) → layouts buffer orders ≡ map layout (map (ordered buffer) orders)
layouts_are buffer [] = refl
layouts_are buffer (o ∷ os) = ap {B = List (List ℕ)} (λ l. layout (ordered buffer o) ∷ l) (layouts_are buffer os)

pub layable_list : (buffer : List ℕ) (room : ℕ) (orders : List Order) → AllAccepted buffer room orders → AllByRecursion Layable (map (ordered buffer) orders)
layable_list buffer room [] h = tt
layable_list buffer room (o ∷ os) h = (h.1.layable, layable_list buffer (room - length (frame_bits (layout (ordered buffer o)))) os h.2)

-- frames more, behind those of a run
pub record Added (start held : Bits) (frames : List Content) : Type 0 where
  pub put : held ≡ start ++ put_bits (map layout frames)
  pub laid : AllByRecursion Layable frames

more : (start held held' bits : Bits) (frames others : List Content) → Added start held frames → AllByRecursion Layable others
    → held' ≡ held ++ bits → bits ≡ put_bits (map layout others) → Added start held' (frames ++ others)
more start held held' bits frames others a laid e is =
    record {
      put =
          e ∙ ap {B = Bits} (λ h. h ++ bits) a.put ∙ append_assoc start (put_bits (map layout frames)) bits
          ∙ ap {B = Bits} (λ b. start ++ (put_bits (map layout frames) ++ b)) is
          ∙ ap {B = Bits} (λ b. start ++ b) (sym (put_append (map layout frames) (map layout others)) ∙ ap {B = Bits} put_bits (sym (map-append layout frames others)));
      laid = All-append Layable frames others a.laid laid;
    }

same : (start held held' : Bits) (frames : List Content) → Added start held frames → held' ≡ held → Added start held' (frames ++ [])
same start held held' frames a e =
    more start held held' [] frames [] a tt (e ∙ sym (append-nil held)) refl

-- what a run of the writer put
pub added : {start k : Shown} {frames : List Content} → Writes start k frames → Added start.held k.held frames
added {start} begins = record { put = sym (append-nil start.held); laid = tt }
added {start} (writes {k} {k'} {frames} w c (Ok n) h) =
    more start.held k.held k'.held (frame_bits (layout c)) frames (c ∷ []) (added w) (h.0.layable, tt) h.1.added (sym (append-nil (frame_bits (layout c))))
added {start} (writes {k} {k'} {frames} w c (Err e) h) = same start.held k.held k'.held frames (added w) (ap {B = Bits} (λ x. x.held) h.1)
added {start} (lists {k} {k'} {frames} w orders buffer (Ok n) h) =
    more start.held k.held k'.held (put_bits (layouts buffer orders)) frames (map (ordered buffer) orders) (added w) (layable_list buffer k.space orders h.0) h.1.added
    (ap {B = Bits} put_bits (layouts_are buffer orders))
added {start} (lists {k} {k'} {frames} w orders buffer (Err e) h) = same start.held k.held k'.held frames (added w) (ap {B = Bits} (λ x. x.held) h.1)

-- the frames of a run, and the bits that they added
pub puts_laid : (frames : List Content) (bits : Bits) → Puts frames bits → (bits ≡ put_bits (map layout frames)) × AllByRecursion Layable frames
puts_laid frames bits p =
    let a = added p.run in
    (append_cancel_left p.start.held bits (put_bits (map layout frames)) (sym p.added ∙ a.put), a.laid)

-- frames put from place k on, n places later: they lie behind that place, and their verdicts are the frames
pub put_later : (n k m : ℕ) (frames : List Content) → k ≤ m → AllByRecursion (λ p. n + k < p.place) (map (later n) (put_from m (map layout frames)))
put_later n k m [] h = tt
put_later n k m (c ∷ frames) h =
    let long : 0 < length (frame_bits (layout c)) = omega arith in
    (omega arith, put_later n k (m + length (frame_bits (layout c))) frames (omega arith))

pub put_verdicts : (n m : ℕ) (frames : List Content) → map (λ p. p.verdict) (map (later n) (put_from m (map layout frames))) ≡ map (λ c. frame (layout c)) frames
put_verdicts n m [] = refl
put_verdicts n m (c ∷ frames) = ap {B = List Verdict} (λ l. frame (layout c) ∷ l) (put_verdicts n (m + length (frame_bits (layout c))) frames)

pub heard_behind : (leg : Leg) (pre bits : Bits) (frames : List Content) → Told leg → leg.bits ≡ pre ++ (flag ++ bits) → Puts frames bits
    → Behind (length pre + 8) leg.verdicts (map (λ c. frame (layout c)) frames)
heard_behind leg pre bits frames told e p =
    let q = puts_laid frames bits p in
    let own : List Placed = put_from 8 (map layout frames) in
    let due : AllDue (flag ++ bits) 0 own = subst (λ (b : Bits). AllDue (flag ++ b) 0 own) (sym q.0) (put_cut_behind (map layout frames) (all_sendable frames q.1)) in
    let same = told.behind pre bits own e due in
    record {
      before = same.0;
      after = map (later (length pre)) own;
      all = same.1;
      sooner = same.2;
      later = put_later (length pre) 8 8 frames (omega arith);
      are = put_verdicts (length pre) 8 frames;
    }

-- each frame opens to what was written, and composed information is read back
opens : (c : Content) → Layable c → OpensTo c
opens c l r o = laid_out_is_opened c r l o

reads : (c : Content) → Layable c → ReadsTo c
reads c l items values old new n a e = subst (λ (os : List ℕ). Reading os (params_of items values) None) (sym e) a.read

pub written_read : (frames : List Content) (bits : Bits) → Puts frames bits → AllByRecursion OpensTo frames × AllByRecursion ReadsTo frames
written_read frames bits p =
    let q = puts_laid frames bits p in
    (All-weaker Layable OpensTo opens frames q.1, All-weaker Layable ReadsTo reads frames q.1)

-- layouts that are the same are of the same frames
laid_apart : (frames others : List Content) → AllByRecursion Layable frames → AllByRecursion Layable others → map layout frames ≡ map layout others → frames ≡ others
laid_apart [] [] h k e = refl
laid_apart [] (d ∷ others) h k e = cc
laid_apart (c ∷ frames) [] h k e = cc
laid_apart (c ∷ frames) (d ∷ others) h k e =
    let a : layout c ≡ layout d = head-eq_of_cons-eq e in
    let b : map layout frames ≡ map layout others = tail-eq_of_cons-eq e in
    let x = layout_is_one c d h.0 k.0 a in
    let y = laid_apart frames others h.1 k.1 b in
    cc

pub written_apart : (frames others : List Content) (bits : Bits) → Puts frames bits → Puts others bits → frames ≡ others
written_apart frames others bits p q =
    let a = puts_laid frames bits p in
    let b = puts_laid others bits q in
    laid_apart frames others a.1 b.1 (put_apart (map layout frames) (map layout others) (all_sendable frames a.1) (all_sendable others b.1) (sym a.0 ∙ b.0))

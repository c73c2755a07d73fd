-- The arrivals behind a flag that the written bits follow: the frames written, opened.
use Rattle.std.proofs.Common.{◌≡◌, ℕ, ◌+◌, ◌<◌, ◌≤◌, List, [], ◌∷◌, ◌++◌, map, length, Some, Ok, vec_items, Option, sym, refl, ap, ◌∙◌, subst, append-nil, arith}
use mathlib.Core.List.{head-eq_of_cons-eq, tail-eq_of_cons-eq}
use Rattle.std.specs.List.{AllByRecursion}
use Rattle.std.proofs.lemmas.List.{append_cancel_left}
use Rattle.std.proofs.lemmas.Simd.{map-map}
use Rattle.bits.specs.Sink.{Shown}
use Rattle.cutting.specs.Cutting.{Bits, flag, Verdict, frame, Placed, AllDue}
use Rattle.cutting.specs.Stuffing.{put_bits}
use Rattle.cutting.specs.StuffingLaws.{put_from}
use Rattle.cutting.proofs.Scan.{scan, scan_cuts}
use Rattle.cutting.proofs.Scanner.{lost}
use Rattle.cutting.proofs.Written.{put_cut_behind}
use Rattle.frame.specs.Opening.{Content, layout, Layable, First}
use Rattle.frame.proofs.Layouts.{layout_is_one, layout_has_no_fault}
use Rattle.writer.specs.Lists.{ordered, ListWritten}
use Rattle.writer.specs.declared.list.Order.{Order}
use Rattle.path.specs.Carrying.{arrived_content, arrived_placed, found_verdict, Judges, opened_content, Arrives, Carries}
use Rattle.path.specs.Dry.{placed, HearsAll, HearsSome}
use Rattle.path.specs.Runs.{later}
use Rattle.path.specs.declared.dry.Event.{Event}
use Rattle.path.specs.declared.carrying.Arrived.{Arrived}
use Rattle.path.specs.declared.carrying.Found.{Found}
use Rattle.path.specs.declared.carrying.Found.TheVariants.{Aborted, Refused, Unopened, Opened}
use Rattle.path.proofs.Behind.{same-behind}
use Rattle.path.proofs.Joins.{all_join, all_within}
use Rattle.path.proofs.Written.{layouts_are, layable_list, all_sendable, put_later, put_verdicts}

-- a list cut in two ways, of which one has everything behind place n at its end: that end is the end of the other way too
cut_again : (n : ℕ) (m ys b o : List Placed) → AllByRecursion (λ p. p.place ≤ n) m → AllByRecursion (λ p. p.place ≤ n) b → AllByRecursion (λ p. n < p.place) o → m ++ ys ≡ b ++ o
    → (s : List Placed) × (ys ≡ s ++ o) × AllByRecursion (λ p. p.place ≤ n) s
cut_again n [] ys b o low lower high e = (b, e, lower)
cut_again n (x ∷ m) ys [] [] low lower high e = absurd (let z : ◌≡◌ {A = ℕ} 0 1 = cc in omega arith)
cut_again n (x ∷ m) ys [] (y ∷ o) low lower high e =
    let same : x.place ≡ y.place = ap {B = ℕ} (λ p. p.place) (head-eq_of_cons-eq e) in
    absurd (omega (arith, low.0, high.0, same))
cut_again n (x ∷ m) ys (y ∷ b) o low lower high e = cut_again n m ys b o low.1 lower.1 high (tail-eq_of_cons-eq e)

-- a list whose images are cut in two is cut in two
record CutBy {X Y : Type 0} (f : X → Y) (xs : List X) (s o : List Y) : Type 0 where
  front : List X
  back : List X
  all : xs ≡ front ++ back
  front_is : map f front ≡ s
  back_is : map f back ≡ o

cut_by : {X Y : Type 0} (f : X → Y) (xs : List X) (s o : List Y) → map f xs ≡ s ++ o → CutBy f xs s o
cut_by f xs [] o e = record { front = []; back = xs; all = refl; front_is = refl; back_is = e }
cut_by f [] (y ∷ s) o e = absurd (let z : ◌≡◌ {A = ℕ} 0 1 = cc in omega arith)
cut_by {X} {Y} f (x ∷ xs) (y ∷ s) o e =
    let r = cut_by f xs s o (tail-eq_of_cons-eq e) in
    record {
      front = x ∷ r.front;
      back = r.back;
      all = ap {B = List X} (λ l. x ∷ l) r.all;
      front_is = (let h : f x ≡ y = head-eq_of_cons-eq e in let t = r.front_is in cc);
      back_is = r.back_is;
    }

every_back : {X Y : Type 0} (P : Y → Type 0) (f : X → Y) (xs : List X) → AllByRecursion P (map f xs) → AllByRecursion (λ x. P (f x)) xs
every_back P f [] h = tt
every_back P f (x ∷ xs) h = (h.0, every_back P f xs h.1)

every_end : {X : Type 0} (P : X → Type 0) (xs ys : List X) → AllByRecursion P (xs ++ ys) → AllByRecursion P ys
every_end P [] ys h = h
every_end P (x ∷ xs) ys h = every_end P xs ys h.1

-- octets that were laid out are opened to what they were laid out from
opened_is : (f : Found) (c : Content) → Judges f → Layable c → found_verdict f ≡ frame (layout c) → opened_content f ≡ Some c
opened_is Aborted c j l e = absurd (let z : ◌≡◌ {A = ℕ} 0 1 = cc in omega arith)
opened_is (Refused fault) c j l e = absurd (let z : ◌≡◌ {A = ℕ} 0 1 = cc in omega arith)
opened_is (Unopened octets fault) c j l e =
    let same : vec_items octets ≡ layout c = cc in
    absurd (layout_has_no_fault c fault l (subst (λ (os : List ℕ). First os fault) same j))
opened_is (Opened a) c j l e =
    let same : layout (arrived_content a) ≡ layout c = cc in
    ap {B = Option Content} Some (layout_is_one (arrived_content a) c j.0 l same)

opened_are : (arrivals : List Arrived) (frames : List Content) → AllByRecursion (λ a. Judges a.found) arrivals → AllByRecursion Layable frames
    → map (λ a. (arrived_placed a).verdict) arrivals ≡ map (λ c. frame (layout c)) frames → map (λ a. opened_content a.found) arrivals ≡ map Some frames
opened_are [] [] j l e = refl
opened_are [] (c ∷ frames) j l e = absurd (let z : ◌≡◌ {A = ℕ} 0 1 = cc in omega arith)
opened_are (a ∷ arrivals) [] j l e = absurd (let z : ◌≡◌ {A = ℕ} 0 1 = cc in omega arith)
opened_are (a ∷ arrivals) (c ∷ frames) j l e =
    let x = opened_is a.found c j.0 l.0 (head-eq_of_cons-eq e) in
    let y = opened_are arrivals frames j.1 l.1 (tail-eq_of_cons-eq e) in
    cc

verdicts_of : (n : ℕ) (arrivals : List Arrived) → map (λ p. p.verdict) (map (λ a. later n (arrived_placed a)) arrivals) ≡ map (λ a. (arrived_placed a).verdict) arrivals
verdicts_of n [] = refl
verdicts_of n (a ∷ arrivals) = ap {B = List Verdict} (λ l. (arrived_placed a).verdict ∷ l) (verdicts_of n arrivals)

-- frames laid out and put behind a flag that ends no sooner than the history does
pub arrives : (h before pre put : Bits) (arrivals : List Arrived) (frames : List Content) → length h ≤ length pre + 8 → h ++ before ≡ pre ++ (flag ++ put)
    → AllDue (h ++ before) (length h) (map (λ a. later (length h) (arrived_placed a)) arrivals) → AllByRecursion (λ a. Judges a.found) arrivals → put ≡ put_bits (map layout frames) → AllByRecursion Layable frames
    → Arrives (length h) (length pre + 8) arrivals frames
arrives h before pre put arrivals frames late row told judged is laid =
    let heard : Arrived → Placed = λ a. later (length h) (arrived_placed a) in
    let own : List Placed = put_from 8 (map layout frames) in
    let due : AllDue (flag ++ put) 0 own = subst (λ (b : Bits). AllDue (flag ++ b) 0 own) (sym is) (put_cut_behind (map layout frames) (all_sendable frames laid)) in
    let old : List Placed = scan lost 0 h in
    let whole : AllDue (h ++ before) 0 (old ++ map heard arrivals) = all_join h before 0 old (map heard arrivals) (omega arith) (scan_cuts h) told in
    let same = same-behind pre put (h ++ before) (old ++ map heard arrivals) own row whole due in
    let behind = put_later (length pre) 8 8 frames (omega arith) in
    let cut = cut_again (length pre + 8) old (map heard arrivals) same.0 (map (later (length pre)) own) (all_within h 0 (length pre + 8) old late (scan_cuts h)) same.2 behind same.1 in
    let by = cut_by heard arrivals cut.0 (map (later (length pre)) own) cut.1 in
    record {
      before = by.front;
      after = by.back;
      all = by.all;
      sooner = every_back (λ p. p.place ≤ length pre + 8) heard by.front (subst (AllByRecursion (λ p. p.place ≤ length pre + 8)) (sym by.front_is) cut.2);
      later = every_back (λ p. length pre + 8 < p.place) heard by.back (subst (AllByRecursion (λ p. length pre + 8 < p.place)) (sym by.back_is) behind);
      are = opened_are by.back frames (every_end (λ a. Judges a.found) by.front by.back (subst (AllByRecursion (λ a. Judges a.found)) by.all judged)) laid
          (sym (verdicts_of (length h) by.back) ∙ ap {B = List Verdict} (map (λ p. p.verdict)) by.back_is ∙ put_verdicts (length pre) 8 frames);
    }

-- so of a list that was written
pub list_arrives : (h before pre put : Bits) (sink sink' : Shown) (n : ℕ) (orders : List Order) (buffer : List ℕ) (arrivals : List Arrived)
    → length h ≤ length pre + 8 → h ++ before ≡ pre ++ (flag ++ put) → sink'.held ≡ sink.held ++ put → ListWritten orders buffer sink (Ok n) sink'
    → AllDue (h ++ before) (length h) (map (λ a. later (length h) (arrived_placed a)) arrivals) → AllByRecursion (λ a. Judges a.found) arrivals
    → Arrives (length h) (length pre + 8) arrivals (map (ordered buffer) orders)
list_arrives h before pre put sink sink' n orders buffer arrivals late row more written told judged =
    let is : put ≡ put_bits (map layout (map (ordered buffer) orders)) =
    append_cancel_left sink.held put (put_bits (map layout (map (ordered buffer) orders))) (sym more ∙ written.1.added ∙ ap {B = Bits} (λ l. sink.held ++ put_bits l) (layouts_are buffer orders)) in
    arrives h before pre put arrivals (map (ordered buffer) orders) late row told judged is (layable_list buffer sink.space orders written.0)

-- all that waited was taken
pub hears_some : (was is : Bits → Type 0) (before after : Bits) (taken : ℕ) (events : List Event) → HearsAll was is before after taken events → HearsSome was is before after
hears_some was is before after taken events all =
    record { bits = before; lost = sym (append-nil before) ∙ ap {B = Bits} (λ l. before ++ l) (sym all.dry); told = λ h w. (all.told h w).0 }

same_places : (n : ℕ) (events : List Event) (arrivals : List Arrived) → map arrived_placed arrivals ≡ map placed events
    → map (λ e. later n (placed e)) events ≡ map (λ a. later n (arrived_placed a)) arrivals
same_places n events arrivals e = sym (map-map (later n) placed events) ∙ ap {B = List Placed} (map (later n)) (sym e) ∙ map-map (later n) arrived_placed arrivals

pub carried : (was is : Bits → Type 0) (before after : Bits) (sink sink' : Shown) (orders : List Order) (buffer : List ℕ) (bits taken : ℕ) (events : List Event) (arrivals : List Arrived)
    → ListWritten orders buffer sink (Ok bits) sink' → HearsAll was is before after taken events
    → (map arrived_placed arrivals ≡ map placed events) × AllByRecursion (λ a. Judges a.found) arrivals
    → Carries was is before after sink sink' orders buffer bits taken arrivals
carried was is before after sink sink' orders buffer bits taken events arrivals written heard opened =
    record {
      written = written;
      dry = heard.dry;
      counts = heard.counts;
      told = λ h w. ((heard.told h w).0, told h w);
      judged = opened.1;
      kept = λ h pre put w late row more. list_arrives h before pre put sink sink' bits orders buffer arrivals late row more written (told h w) opened.1;
    }
  where
    told : (h : Bits) → was h → AllDue (h ++ before) (length h) (map (λ a. later (length h) (arrived_placed a)) arrivals)
    told h w = subst (AllDue (h ++ before) (length h)) (same_places (length h) events arrivals opened.0) (heard.told h w).1

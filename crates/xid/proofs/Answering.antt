-- A reader's answers are those of the reading of its whole field.
use Rattle.std.proofs.Common.{◌≡◌, ℕ, suc, ◌<◌, ◌≤◌, ◌⊎◌, List, [], ◌∷◌, ◌++◌, length, take, drop, Some, None, Ok, Err, Option, sym, refl, ap, ◌∙◌, subst, inl, inr, append_assoc, arith, length-append}
use Rattle.std.proofs.lemmas.List.{drop_at, length_push}
use Rattle.std.proofs.Math.Bridge.{le_prop}
use mathlib.Core.Logic.{∥∥₁_elim}
use Rattle.faults.specs.declared.ExchangeFault.{ExchangeFault}
use Rattle.records.specs.Values.{shape}
use Rattle.records.specs.Records.{Records}
use Rattle.xid.specs.Fields.{Param, Beginning, begun, parameters}
use Rattle.xid.specs.Reading.{place, Reading}
use Rattle.xid.specs.Stands.{unread, Stands}
use Rattle.xid.specs.Answers.{shown, Given}
use Rattle.xid.specs.Moving.{Next}
use Rattle.xid.specs.declared.cursor.Cursor.{Cursor}
use Rattle.xid.specs.declared.parameter.Parameter.{Parameter}
use Rattle.xid.specs.declared.reader.Reader.{Reader}
use Rattle.xid.proofs.Beginnings.{placed}
use Rattle.xid.proofs.Readings.{reading_is_one, goes_on}

-- what `Given` says of the answers
abbrev Answered : List ℕ → Beginning → ℕ → Type 0
Answered os b n =
    (n ≡ length (parameters b)) ⊎ ((length (parameters b) ≤ n) × ((stop : Option ExchangeFault) × Reading os (parameters b) stop))

few : (os : List ℕ) (b : Beginning) (n : ℕ) → Answered os b n → length (parameters b) ≤ n
few os b n (inl is) = omega arith
few os b n (inr (least, stopped)) = least

-- where a parameter follows, the field does not stop
exactly : (os : List ℕ) (b c : Beginning) (at : Cursor) (p : Param) (n : ℕ) → Stands os at c → parameters c ≡ parameters b ++ (p ∷ []) → Answered os b n
    → n ≡ length (parameters b)
exactly os b c at p n stands more (inl is) = is
exactly os b c at p n stands more (inr (least, (stop, reading))) =
    let on = goes_on os c (unread at) (parameters b) stop stands.begins reading in
    absurd (omega (arith, ap length on.1, length-append (parameters c) on.0, ap length more, length_push (parameters b) p))

module _ (r : Reader) where
  -- the field stops where the reader stands
  module _ (stop : Option ExchangeFault) (stops : (b : Beginning) → Stands r.field.now r.cursor b → Reading r.field.now (parameters b) stop) where
    given-still : (n : ℕ) → Given r n → Given r (suc n)
    given-still n g =
        let least = few r.field.now g.beginning n g.answered in
        record { beginning = g.beginning; stands = g.stands; answered = inr (omega arith, (stop, stops g.beginning g.stands)) }

    answers-still : (n : ℕ) → Given r n → (ps : List Param) (s : Option ExchangeFault) → Reading r.field.now ps s → (length ps ≤ n) × (s ≡ stop)
    answers-still n g ps s reading =
        let one = reading_is_one r.field.now ps (parameters g.beginning) s stop reading (stops g.beginning g.stands) in
        let least = few r.field.now g.beginning n g.answered in
        (omega (arith, ap length one.0), one.1)

  pub next_end : ((b : Beginning) → Stands r.field.now r.cursor b → Reading r.field.now (parameters b) None) → Next r (Ok None) r
  next_end stops =
      record {
        field = refl;
        moved = λ b stands. (stops b stands, refl);
        shorter = λ p is. let z : ◌≡◌ {A = ℕ} 0 1 = cc in omega arith;
        given = given-still None stops;
        answers = answers-still None stops;
      }

  pub next_fault : (f : ExchangeFault) → ((b : Beginning) → Stands r.field.now r.cursor b → Reading r.field.now (parameters b) (Some f)) → Next r (Err f) r
  next_fault f stops =
      record {
        field = refl;
        moved = λ b stands. (stops b stands, refl);
        shorter = λ p is. let z : ◌≡◌ {A = ℕ} 0 1 = cc in omega arith;
        given = given-still (Some f) stops;
        answers = answers-still (Some f) stops;
      }

  -- the reader goes on behind a parameter
  module _ (p : Parameter) (s : Reader) (field : s.field.now ≡ r.field.now)
      (moves : (b : Beginning) → Stands r.field.now r.cursor b
      → (c : Beginning) × (Stands r.field.now s.cursor c × (place b < place c) × (parameters c ≡ parameters b ++ (shown p ∷ []))
      × Records (shape p.group p.identifier) p.value.now p.record)) where
    given-on : (n : ℕ) → Given r n → Given s (suc n)
    given-on n g =
        let on = moves g.beginning g.stands in
        let is = exactly r.field.now g.beginning on.0 s.cursor (shown p) n on.1.0 on.1.2 g.answered in
        record {
          beginning = on.0;
          stands = subst (λ os. Stands os s.cursor on.0) (sym field) on.1.0;
          answered = inl (omega (arith, ap length on.1.2, length_push (parameters g.beginning) (shown p)));
        }

    answers-on : (n : ℕ) → Given r n → (ps : List Param) (stop : Option ExchangeFault) → Reading r.field.now ps stop → take 1 (drop n ps) ≡ shown p ∷ []
    answers-on n g ps stop reading =
        let on = moves g.beginning g.stands in
        let is = exactly r.field.now g.beginning on.0 s.cursor (shown p) n on.1.0 on.1.2 g.answered in
        let more = goes_on r.field.now on.0 (unread s.cursor) ps stop on.1.0.begins reading in
        let all = more.1 ∙ ap (λ qs. qs ++ more.0) on.1.2 ∙ append_assoc (parameters g.beginning) (shown p ∷ []) more.0 in
        ap (λ qs. take 1 (drop n qs)) all ∙ ap (take 1) (drop_at (parameters g.beginning) (shown p ∷ more.0) n (sym is))

    shorter-on : length (unread s.cursor) < length (unread r.cursor)
    shorter-on =
        ∥∥₁_elim r.stands le_prop (λ (b, stands).
        let on = moves b stands in
        omega (
          arith,
          placed r.field.now b (unread r.cursor) stands.begins,
          placed r.field.now on.0 (unread s.cursor) on.1.0.begins,
          ap length stands.begins.octets,
          ap length on.1.0.begins.octets,
          length-append (begun b) (unread r.cursor),
          length-append (begun on.0) (unread s.cursor),
        ))

    pub next-on : Next r (Ok (Some p)) s
    next-on =
        record {
          field = field;
          moved = λ b stands. let on = moves b stands in (on.0, (on.1.0, on.1.2));
          shorter = λ q is. shorter-on;
          given = given-on;
          answers = λ n g ps stop reading. (answers-on n g ps stop reading, (moves g.beginning g.stands).1.3);
        }

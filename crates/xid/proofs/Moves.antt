-- Where reading stops, and where it goes on.
use Rattle.std.proofs.Common.{◌≡◌, ℕ, ◌-◌, ◌<◌, ◌≤◌, ◌≢◌, List, [], ◌∷◌, ◌++◌, length, Some, None, Ok, Err, Option, sym, refl, ap, ◌∙◌, subst, arith, length-append}
use Rattle.faults.specs.declared.ExchangeFault.{ExchangeFault}
use Rattle.xid.specs.Answers.{shown}
use Rattle.xid.specs.Fields.{param_octets, Beginning, nothing, leading, header, parameter, begun, last_group, parameters, Whole}
use Rattle.xid.specs.Moving.{Ahead, GroupStep, GroupBegun, ParameterStep, ParameterTaken}
use Rattle.xid.specs.Reading.{place, First, Stops, Reading}
use Rattle.xid.specs.Stands.{group_in_hand, unread, Stands}
use Rattle.xid.specs.declared.cursor.Cursor.{Cursor}
use Rattle.xid.specs.declared.cursor.Taken.{Taken}
use Rattle.xid.proofs.Beginnings.{placed, left_whole, before_groups, none_in_hand}

-- a cursor behind a beginning and groups' headers alone, and not at the very beginning
pub record On (os : List ℕ) (b : Beginning) (at : Cursor) : Type 0 where
  pub to : Beginning
  pub stands : Stands os at to
  pub same : parameters to ≡ parameters b
  pub further : place b ≤ place to
  pub some : to ≢ nothing

-- the octets not yet read start where the beginning ends
pub place_is : (os : List ℕ) (at : Cursor) (b : Beginning) → Stands os at b → (p : ℕ) → p ≡ length os - length (unread at) → p ≡ place b
place_is os at b stands p is = is ∙ placed os b (unread at) stands.begins

module _ (os : List ℕ) (at : Cursor) (b : Beginning) (stands : Stands os at b) where
  -- no group is in hand: the field's octets are read anew, behind the leading octet at most
  module _ (none : at.open ≡ None) where
    early : (parameters b ≡ []) × (place b ≤ 1)
    early = before_groups b stands.begins.formed (sym stands.group ∙ ap group_in_hand none)

    pub stops-new : (f : ExchangeFault) → First nothing os f → Reading os (parameters b) (Some f)
    stops-new f first =
        record {
          beginning = nothing;
          rest = os;
          begins = record { octets = refl; formed = tt; within = omega arith };
          stops = first;
          read = sym early.0;
        }

    pub on_led : (behind : Cursor) → Stands os behind leading → On os b behind
    on_led behind led =
        record { to = leading; stands = led; same = sym early.0; further = early.1; some = λ e. let z : ◌≡◌ {A = ℕ} 0 1 = cc in omega arith }

  -- one is: the leading octet is read
  pub on_still : at.open ≢ None → On os b at
  on_still some = record { to = b; stands = stands; same = refl; further = omega arith; some = λ e. some (none_in_hand at.open (stands.group ∙ ap last_group e)) }

module _ (os : List ℕ) (b : Beginning) (at : Cursor) (on : On os b at) (p : ℕ) (is : p ≡ length os - length (unread at)) where
  stops_at : (stop : Option ExchangeFault) → Stops on.to (unread at) stop → Reading os (parameters b) stop
  stops_at stop stops = record { beginning = on.to; rest = unread at; begins = on.stands.begins; stops = stops; read = on.same }

  here : p ≡ place on.to
  here = place_is os at on.to on.stands p is

  pub stops-parameter : (f : ExchangeFault) → ParameterTaken p at (Err f) → Reading os (parameters b) (Some f)
  stops-parameter f taken = stops_at (Some f) (taken os on.to on.stands here)

  pub goes_over_parameter : (o : Option Taken) → ParameterTaken p at (Ok o) → (t : Taken) → o ≡ Some t → Ahead os b (Ok (Some t))
  goes_over_parameter o taken t some =
      let step = subst (λ o. ParameterStep os at on.to (Ok o)) some (taken os on.to on.stands here) in
      let q = shown t.parameter in
      (parameter on.to q, (step.0, omega (arith, on.further, length-append (begun on.to) (param_octets q)), ap (λ ps. ps ++ (q ∷ [])) on.same, step.1))

  -- no parameter follows
  module _ (o : Option Taken) (taken : ParameterTaken p at (Ok o)) (none : o ≡ None) where
    whole : Whole on.to
    whole = left_whole on.to on.stands.begins.formed on.some (subst (λ o. ParameterStep os at on.to (Ok o)) none (taken os on.to on.stands here))

    pub stops-group : (f : ExchangeFault) → GroupBegun p at (Err f) → Reading os (parameters b) (Some f)
    stops-group f began = stops_at (Some f) (began os on.to on.stands whole here)

    pub ends : (q : Option Cursor) → GroupBegun p at (Ok q) → q ≡ None → Reading os (parameters b) None
    ends q began end = stops_at None (whole, subst (λ q. GroupStep os at on.to (Ok q)) end (began os on.to on.stands whole here))

    module _ (q : Option Cursor) (began : GroupBegun p at (Ok q)) (behind : Cursor) (some : q ≡ Some behind) where
      step : GroupStep os at on.to (Ok (Some behind))
      step = subst (λ q. GroupStep os at on.to (Ok q)) some (began os on.to on.stands whole here)

      pub goes_over-header : On os b behind
      goes_over-header =
          let (g, (n, stands)) = step in
          record {
            to = header on.to g n;
            stands = stands;
            same = on.same;
            further = omega (arith, on.further, length-append (begun on.to));
            some = λ e. let z : ◌≡◌ {A = ℕ} 0 1 = cc in omega arith;
          }

      pub fewer : length (unread behind) < length (unread at)
      fewer =
          let (g, (n, stands)) = step in
          simp length-append (omega (arith, simp length-append at (ap length stands.begins.octets), simp length-append at (ap length on.stands.begins.octets)))

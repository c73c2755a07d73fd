-- How far a reader that counts has come.
use Rattle.std.proofs.Common.{◌≡◌, ℕ, ◌+◌, ◌≤◌, List, length, Some, Ok, sym, refl, ap, ◌∙◌, subst, inl, inr, arith, length-append}
use Rattle.std.proofs.lemmas.List.{length_push}
use Rattle.xid.specs.Fields.{Beginning, begun, parameters}
use Rattle.xid.specs.Stands.{unread, Stands}
use Rattle.xid.specs.Answers.{shown, Given}
use Rattle.xid.specs.Moving.{Next}
use Rattle.xid.specs.declared.parameter.Parameter.{Parameter}
use Rattle.xid.specs.declared.reader.Reader.{Reader}

abbrev pub Counted : List ℕ → Reader → ℕ → Type 0
Counted os r n =
    ((b : Beginning) × (Stands r.field.now r.cursor b × (n ≡ length (parameters b))))
    × (r.field.now ≡ os)
    × (n + length (unread r.cursor) ≤ length os)

none_given : (r : Reader) (g : Given r 0) → 0 ≡ length (parameters g.beginning)
none_given r g = elim g.answered [ inl is ↦ is | inr stopped ↦ omega (arith, stopped.0) ]

pub counted_none : (os : List ℕ) (r : Reader) → Given r 0 → r.field.now ≡ os → Counted os r 0
counted_none os r g field =
    let b = g.beginning in (
      (b, (g.stands, none_given r g)),
      field,
      omega (arith, ap length g.stands.begins.octets, length-append (begun b) (unread r.cursor), ap length field),
    )

pub counted_more : (os : List ℕ) (r s : Reader) (n : ℕ) (p : Parameter) → Counted os r n → Next r (Ok (Some p)) s → Counted os s (n + 1)
counted_more os r s n p ((b, (stands, count)), field, within) next =
    let on = next.moved b stands in (
      (on.0, (subst (λ fs. Stands fs s.cursor on.0) (sym next.field) on.1.0, omega (arith, ap length on.1.1, length_push (parameters b) (shown p)))),
      next.field ∙ field,
      omega (arith, next.shorter p refl),
    )

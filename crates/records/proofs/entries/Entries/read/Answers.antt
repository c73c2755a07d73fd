-- The octets are a list if they are whole parts, each an entry's layout, and else none.
use Rattle.std.proofs.Common.{◌≡◌, ℕ, ◌%◌, ◌<◌, Bool, true, false, length, sym, ap, subst, ◌∙◌, arith, rules}
use Rattle.records.specs.Values.{Joined}
use Rattle.records.proofs.Joins.{joined_more, joined_less, whole_left, none_joined, not_whole}
use Rattle.records.proofs.entries.Entries.read.Goals as goal

pub returns-then-not-is_multiple_of : goal.returns-then-not-is_multiple_of
returns-then-not-is_multiple_of g c =
    let n : ◌≡◌ {A = Bool} false true → ⊥ = λ e. let z : ◌≡◌ {A = ℕ} 0 1 = cc in omega arith in
    not_whole g.E.Entry.Is g.E.Entry.layout g.E.Entry.OCTETS g.met.E.Entry.wide c.args.octets.now
    (λ e. n (sym c.if-not-is_multiple_of.true ∙ c.is_multiple_of.ensures.1 (ap (λ w. length c.args.octets.now % w) c.OCTETS.ensures ∙ e)))

pub loop-entry-init : goal.loop-entry-init
loop-entry-init g c =
    let w = c.OCTETS.ensures in
    let w2 = c.OCTETS-2.ensures in
    let i = c.into_iter-entry-iterator.ensures.into_iter_gives in
    let same : c.into_iter-entry-iterator.result.rest.now ≡ c.args.octets.now = ap (λ s. s.rest.now) i ∙ c.chunks_exact-entry-items.ensures.rest in
    let remainder = c.is_multiple_of.ensures.0 c.if-not-is_multiple_of.false in
    let J = Joined g.E.Entry.Is g.E.Entry.layout in (
      ap (λ s. s.size) i ∙ c.chunks_exact-entry-items.ensures.size ∙ w2,
      ap (λ l. length l % g.E.Entry.OCTETS) same ∙ ap (λ n. length c.args.octets.now % n) (sym w) ∙ remainder,
      (λ j. subst J (sym same) j, λ j. subst J same j),
    )

pub loop-entry-preserved : goal.loop-entry-preserved
loop-entry-preserved g c =
    let i = c.loop-entry.invariant in
    let s = c.in-Some.ensures.steps in
    let long = s.1.1 ∙ i.0 in
    let v = c.loop-entry.entry-iterator.rest.now in
    let os = c.in-Some.entry.now in
    let rest = c.next.new.self.rest.now in (
      s.0 ∙ i.0,
      whole_left g.E.Entry.Is g.E.Entry.layout g.E.Entry.OCTETS g.met.E.Entry.wide v os rest long s.1.0 i.1,
      (
        λ j. (joined_less g.E.Entry.Is g.E.Entry.layout g.E.Entry.OCTETS g.met.E.Entry.wide g.met.E.Entry.some v os rest long s.1.0 (i.2.0 j)).1.2,
        λ j. i.2.1 (joined_more g.E.Entry.Is g.E.Entry.layout g.E.Entry.OCTETS g.met.E.Entry.wide v os rest c.in_ok-read.field-0 c.in_ok-read.ensures.0 c.in_ok-read.ensures.1 s.1.0 j),
      ),
    )

pub returns-in_err-read : goal.returns-in_err-read
returns-in_err-read g c =
    let i = c.loop-entry.invariant in
    let s = c.in-Some.ensures.steps in
    let no : Joined g.E.Entry.Is g.E.Entry.layout c.args.octets.now → ⊥
    = λ j.
    let x = joined_less g.E.Entry.Is g.E.Entry.layout g.E.Entry.OCTETS g.met.E.Entry.wide g.met.E.Entry.some c.loop-entry.entry-iterator.rest.now c.in-Some.entry.now c.next.new.self.rest.now (s.1.1 ∙ i.0) s.1.0 (i.2.0 j) in
    c.in_err-read.ensures x.0 x.1.0 x.1.1 in
    search (rules, no)

pub returns : goal.returns
returns g c =
    let i = c.loop-entry.invariant in
    let s = c.in-None.ensures.steps in
    let less : length c.loop-entry.entry-iterator.rest.now < g.E.Entry.OCTETS = omega (arith, s.1.0, i.0) in
    let list = i.2.1 (none_joined g.E.Entry.Is g.E.Entry.layout g.E.Entry.OCTETS g.met.E.Entry.wide c.loop-entry.entry-iterator.rest.now less i.1) in
    (list, c.new.ensures)

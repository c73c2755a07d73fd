-- The fault that opening answers is the first, at each place where it refuses.
use Rattle.std.proofs.Common.{◌≡◌, ℕ, ◌+◌, ◌-◌, ◌%◌, ◌<◌, ◌≤◌, ◌⊎◌, List, length, get_or, Some, None, Err, sym, refl, ap, ◌∙◌, inl, inr, arith, lit<, lit≤}
use Rattle.frame.specs.Addresses.{AddressRead}
use Rattle.faults.specs.Faults.{frame_number, frame_place}
use Rattle.frame.specs.Opening.{mark, Wrong, First}
use Rattle.frame.specs.Parts.{MarksRead, ControlTaken}
use Rattle.frame.specs.declared.address.Addressed.{Addressed}
use Rattle.faults.specs.declared.FrameFault.{FrameFault}
use Rattle.faults.specs.declared.FrameFault.TheVariants.{Length, DestinationMark, SourceMark, UnlistedType, UnlistedControl, UnsuitedInformation, Exchange}
use Rattle.frame.proofs.Headers.{four, rest, four-taken, four_at, length_rest}
use Rattle.frame.proofs.Words.{laid_marks}

-- f is not behind g
abbrev Before : FrameFault → FrameFault → Type 0
Before f g = (frame_number f < frame_number g) ⊎ ((frame_number f ≡ frame_number g) × (frame_place f ≤ frame_place g))

module _ (os : List ℕ) where
  -- a mark that was read as right
  mark-right : (p k n : ℕ) → k < 4 → n ≡ p + k → get_or (four os p) k 0 % 2 ≡ mark k → get_or os n 0 % 2 ≡ mark k
  mark-right p k n h e right = ap (λ o. o % 2) (four_at os p k n h e) ∙ right

  no_length : 9 ≤ length os → length os ≤ 2061 → (n : ℕ) → Wrong os (Length n) → ⊥
  no_length long short n (inl few, is) = omega arith
  no_length long short n (inr many, is) = omega arith

  no_destination_mark : MarksRead (four os 0) None → (p : ℕ) → Wrong os (DestinationMark p) → ⊥
  no_destination_mark to p (few, wrong) = wrong (mark-right 0 p p few (omega arith) (to p few))

  -- no wrong mark below a place of the source
  no_source_mark : (end : ℕ) → ((k : ℕ) → k < end → get_or (four os 4) k 0 % 2 ≡ mark k) → (p : ℕ) → Wrong os (SourceMark p) → p < 4 + end → ⊥
  no_source_mark end from p (above, below, wrong) before =
      wrong (mark-right 4 (p - 4) p (omega arith) (omega arith) (from (p - 4) (omega arith)))

  -- an address that was read has its marks right, and its type listed
  read_marks : (p : ℕ) (a : Addressed) → AddressRead (four os p) (Some a) → MarksRead (four os p) None
  read_marks p a (is, at) = laid_marks (four os p) a.status a.address at

  no_type : (a : Addressed) (p : ℕ) → p + 4 ≤ length os → AddressRead (four os p) (Some a) → Wrong os (UnlistedType p) → ⊥
  no_type a p h (is, at) (place, none) = none a.status a.address is (at ∙ sym (four-taken os p h))

  module _ (long : 9 ≤ length os) (short : length os ≤ 2061) where
    source-mark-before : MarksRead (four os 0) None → (place : ℕ) → MarksRead (four os 4) (Some place)
        → (g : FrameFault) → Wrong os g → Before (SourceMark (4 + place)) g
    source-mark-before to place from (Length n) w = absurd (no_length long short n w)
    source-mark-before to place from (DestinationMark p) w = absurd (no_destination_mark to p w)
    source-mark-before to place from (SourceMark p) w = inr (refl, search (arith, no_source_mark place from.2 p w))
    source-mark-before to place from (UnlistedType p) w = inl (lit< tt)
    source-mark-before to place from UnlistedControl w = inl (lit< tt)
    source-mark-before to place from UnsuitedInformation w = inl (lit< tt)
    source-mark-before to place from (Exchange fault) w = absurd w

    pub first-source-mark : MarksRead (four os 0) None → (place : ℕ) → MarksRead (four os 4) (Some place) → First os (SourceMark (4 + place))
    first-source-mark to place from =
        let behind : 4 + place - 4 ≡ place = omega arith in
        record {
          wrong = (
            omega arith,
            omega (arith, from.0),
            λ right. from.1 (ap (λ o. o % 2) (sym (four_at os 4 place (4 + place) from.0 refl)) ∙ right ∙ ap mark behind),
          );
          first = source-mark-before to place from;
        }

    -- the destination was read
    module _ (a : Addressed) (to : AddressRead (four os 0) (Some a)) where
      source-type-before : MarksRead (four os 4) None → (g : FrameFault) → Wrong os g → Before (UnlistedType 4) g
      source-type-before from (Length n) w = absurd (no_length long short n w)
      source-type-before from (DestinationMark p) w = absurd (no_destination_mark (read_marks 0 a to) p w)
      source-type-before from (SourceMark p) w = absurd (no_source_mark 4 from p w w.1)
      source-type-before from (UnlistedType p) (inl is, none) = absurd (no_type a 0 (omega arith) to (inl refl, rw is at none))
      source-type-before from (UnlistedType p) (inr is, none) = inr (refl, omega arith)
      source-type-before from UnlistedControl w = inl (lit< tt)
      source-type-before from UnsuitedInformation w = inl (lit< tt)
      source-type-before from (Exchange fault) w = absurd w

      pub first-source-type : MarksRead (four os 4) None → AddressRead (four os 4) None → First os (UnlistedType 4)
      first-source-type from none =
          record {
            wrong = (inr refl, λ status b is at. none status b is (at ∙ four-taken os 4 (omega arith)));
            first = source-type-before from;
          }

      -- and so was the source
      module _ (b : Addressed) (from : AddressRead (four os 4) (Some b)) where
        -- the faults that are left
        pub control-left : (g : FrameFault) → Wrong os g → (g ≡ UnlistedControl) ⊎ (g ≡ UnsuitedInformation)
        control-left (Length n) w = absurd (no_length long short n w)
        control-left (DestinationMark p) w = absurd (no_destination_mark (read_marks 0 a to) p w)
        control-left (SourceMark p) w = absurd (no_source_mark 4 (read_marks 4 b from) p w w.1)
        control-left (UnlistedType p) (inl is, none) = absurd (no_type a 0 (omega arith) to (inl refl, rw is at none))
        control-left (UnlistedType p) (inr is, none) = absurd (no_type b 4 (omega arith) from (inr refl, rw is at none))
        control-left UnlistedControl w = inl refl
        control-left UnsuitedInformation w = inr refl
        control-left (Exchange fault) w = absurd w

        pub first-at-control : (f : FrameFault) → ControlTaken (get_or os 8 0) (length (rest os)) (Err f) → First os f
        first-at-control f (inl (is, none)) =
            rw is
            (record {
              wrong = none;
              first = λ g w. elim (control-left g w) [ inl e ↦ rw e (inr (refl, lit≤ tt)) | inr e ↦ rw e (inl (lit< tt)) ];
            })
        first-at-control f (inr (is, (c, ((numbered, octet), unsuited)))) =
            rw is
            (record {
              wrong = (c, (numbered, octet, rw (length_rest os) at unsuited));
              first = λ g w. elim (control-left g w) [ inl e ↦ absurd ((rw e at w) c numbered octet) | inr e ↦ rw e (inr (refl, lit≤ tt)) ];
            })

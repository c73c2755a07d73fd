-- The laws of the layout.
use Rattle.std.proofs.Common.{◌≡◌, ℕ, ◌-◌, cond, eqb, List, length, get_or, take, drop, Ok, Err, sym, refl, ap, ◌∙◌, inl, inr, arith}
use Rattle.faults.specs.Faults.{frame_number, frame_place}
use Rattle.frame.specs.Laws.{LayoutIsOne, FaultIsOne, LayoutHasNoFault, LaidOutIsOpened}
use Rattle.frame.specs.Opening.{Content, content, layout, Layable, Wrong}
use Rattle.frame.specs.declared.address.Addressed.{Addressed}
use Rattle.faults.specs.declared.FrameFault.{FrameFault}
use Rattle.faults.specs.declared.FrameFault.TheVariants.{Length, DestinationMark, SourceMark, UnlistedType, UnlistedControl, UnsuitedInformation, Exchange}
use Rattle.frame.proofs.ControlOctets.{control_octet_one}
use Rattle.frame.proofs.Firsts.{control-left}
use Rattle.frame.proofs.Words.{address_octets_one}

pub layout_is_one : LayoutIsOne
layout_is_one c d p q e =
    let destination = address_octets_one c.from_ground d.from_ground c.destination d.destination p.destination q.destination (ap (take 4) e) in
    let source = address_octets_one c.response d.response c.source d.source p.source q.source (ap (λ l. take 4 (drop 4 l)) e) in
    let control = control_octet_one c.control d.control p.numbered q.numbered (ap (λ l. get_or l 8 0) e) in
    λ i. record {
      destination = destination.1 i;
      from_ground = destination.0 i;
      source = source.1 i;
      response = source.0 i;
      control = control i;
      information = ap (drop 9) e i;
    }

-- the fault that a number and a place name
number_of_fault : ℕ → ℕ → FrameFault
number_of_fault n p =
    cond (eqb n 21) (Length p)
    (cond (eqb n 22) (DestinationMark p)
    (cond (eqb n 23) (SourceMark p) (cond (eqb n 24) (UnlistedType p) (cond (eqb n 25) UnlistedControl UnsuitedInformation))))

fault_is : (os : List ℕ) (f : FrameFault) → Wrong os f → number_of_fault (frame_number f) (frame_place f) ≡ f
unfolding number_of_fault
fault_is os (Length n) w = refl
fault_is os (DestinationMark p) w = refl
fault_is os (SourceMark p) w = refl
fault_is os (UnlistedType p) w = refl
fault_is os UnlistedControl w = refl
fault_is os UnsuitedInformation w = refl
fault_is os (Exchange fault) w = absurd w

pub fault_is_one : FaultIsOne
fault_is_one os f g p q =
    let there = p.first g q.wrong in
    let back = q.first f p.wrong in
    let number : frame_number f ≡ frame_number g = omega arith in
    let place : frame_place f ≡ frame_place g = omega arith in
    sym (fault_is os f p.wrong)
    ∙ ap (λ n. number_of_fault n (frame_place f)) number
    ∙ ap (number_of_fault (frame_number g)) place
    ∙ fault_is os g q.wrong

never_unsuited : (c : Content) → Layable c → Wrong (layout c) UnsuitedInformation → ⊥
never_unsuited c p (d, (numbered, octet, unsuited)) =
    let same = control_octet_one d c.control numbered p.numbered octet in
    let count : length (layout c) - 9 ≡ length c.information = omega arith in
    unsuited (rw (same, count) p.suits)

pub layout_has_no_fault : LayoutHasNoFault
layout_has_no_fault c f p q =
    let to : Addressed = record { address = c.destination; status = c.from_ground } in
    let from : Addressed = record { address = c.source; status = c.response } in
    elim (control-left (layout c) (omega arith) (omega (arith, p.fits)) to (p.destination, refl) from (p.source, refl) f q.wrong) [
      | inl is ↦ (rw is at q.wrong) c.control p.numbered refl
      | inr is ↦ never_unsuited c p (rw is at q.wrong)
    ]

pub laid_out_is_opened : LaidOutIsOpened
laid_out_is_opened c (Ok f) p (q, is) = (f, (refl, layout_is_one (content f) c q p is))
laid_out_is_opened c (Err f) p q = absurd (layout_has_no_fault c f p q)

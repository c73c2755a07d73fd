-- Over a parameter, and the first fault of its value.
use Rattle.std.proofs.Common.{◌≡◌, ℕ, ◌+◌, ◌-◌, ◌≤◌, List, [], ◌∷◌, ◌++◌, length, get_or, take, drop, Some, Err, sym, refl, ap, ◌∙◌, subst, append_assoc, arith, length-append}
use Rattle.std.specs.List.{IsSplitAt}
use Rattle.std.proofs.lemmas.Grind.{common_steps}
use Rattle.std.proofs.lemmas.List.{take_rest, take-append-drop}
use lib.Seq.{take-append_seam}
use Rattle.faults.specs.declared.ParameterFault.{ParameterFault}
use Rattle.faults.specs.declared.ParameterFault.TheVariants.{WrongLength, WrongValue}
use Rattle.faults.specs.declared.ExchangeFault.TheVariants.{Parameter}
use Rattle.register.specs.declared.Group.{Group}
use Rattle.xid.specs.Fields.{Param, param_octets, Readable, Beginning, parameter, begun, left, last_group}
use Rattle.xid.specs.Reading.{First, place}
use Rattle.xid.specs.Parameters.{ParameterRead}
use Rattle.xid.specs.Stands.{group_in_hand, in_hand, unread, Stands}
use Rattle.xid.specs.declared.cursor.Cursor.{Cursor}
use Rattle.xid.specs.declared.cursor.Open.{Open}

-- the octets of the group in hand, cut into identifier, length and value, and what follows
pub cut : (o v rest : List ℕ) (n : ℕ) → 2 ≤ length o → n ≡ get_or o 1 0 → IsSplitAt (take (length o - 2) (drop 2 o)) n v rest
    → o ≡ get_or o 0 0 ∷ length v ∷ (v ++ rest)
cut [] v rest n long is split = absurd (omega arith)
cut (x ∷ []) v rest n long is split = absurd (omega arith)
cut (x ∷ y ∷ o) v rest n long is split = grind (arith, common_steps, take_rest (x ∷ y ∷ o) 2, take-append-drop n o)

-- the first fault of a value
fault_of_value : (b : Beginning) (p i : ℕ) (v rest : List ℕ) (g : Group) → last_group b ≡ Some g → 2 + length v ≤ left b → p ≡ place b → (f : ParameterFault)
    → ParameterRead p g i v (Err f) → First b (i ∷ length v ∷ (v ++ rest)) (Parameter f)
fault_of_value b p i v rest g group within here (WrongLength q) wrong = grind (arith, common_steps, take-append_seam v rest)
fault_of_value b p i v rest g group within here (WrongValue q) wrong = grind (arith, common_steps, take-append_seam v rest)

module _ (os : List ℕ) (b : Beginning) (at : Cursor) (stands : Stands os at b) (o : Open) (is : at.open ≡ Some o) where
  pub group_is : last_group b ≡ Some o.group
  group_is = sym stands.group ∙ ap group_in_hand is

  pub left_is : left b ≡ length o.rest.now
  left_is = sym stands.left ∙ ap (λ x. length (in_hand x)) is

  pub first-fault : (p i : ℕ) (v rest : List ℕ) → p ≡ place b → o.rest.now ≡ i ∷ length v ∷ (v ++ rest) → (f : ParameterFault) → ParameterRead p o.group i v (Err f)
      → First b (unread at) (Parameter f)
  first-fault p i v rest here octets f wrong =
      let ahead : unread at ≡ i ∷ length v ∷ (v ++ (rest ++ at.behind.now)) =
      ap (λ x. in_hand x ++ at.behind.now) is ∙ ap (λ r. r ++ at.behind.now) octets ∙ ap (λ r. i ∷ length v ∷ r) (append_assoc v rest at.behind.now) in
      subst (λ r. First b r (Parameter f)) (sym ahead)
      (fault_of_value b p i v (rest ++ at.behind.now) o.group group_is (omega (arith, left_is, ap length octets, length-append v rest)) here f wrong)

  -- the cursor behind a parameter
  pub parameter_stands : (behind : Cursor) (o' : Open) (p : Param) → behind.open ≡ Some o' → behind.behind.now ≡ at.behind.now → o'.group ≡ o.group → p.group ≡ o.group
      → o.rest.now ≡ param_octets p ++ o'.rest.now → Readable p → Stands os behind (parameter b p)
  parameter_stands behind o' p is' same group group' octets readable =
      let ahead : unread at ≡ param_octets p ++ unread behind =
      ap (λ x. in_hand x ++ at.behind.now) is ∙ ap (λ r. r ++ at.behind.now) octets ∙ append_assoc (param_octets p) o'.rest.now at.behind.now
      ∙ sym (rw (is', same) refl) in
      let left' = ap (λ x. length (in_hand x)) is' in
      let more : length o.rest.now ≡ 2 + length p.value + length o'.rest.now = ap length octets ∙ simp length-append (omega arith) in
      record {
        begins = record {
          octets = stands.begins.octets ∙ ap (λ r. begun b ++ r) ahead ∙ sym (append_assoc (begun b) (param_octets p) (unread behind));
          formed = (stands.begins.formed, group_is ∙ ap Some (sym group'), omega (arith, left_is), readable);
          within = omega (arith, stands.begins.within, ap length ahead, length-append p.value (unread behind));
        };
        left = omega (arith, left_is);
        group = ap group_in_hand is' ∙ ap Some group ∙ sym group_is;
      }

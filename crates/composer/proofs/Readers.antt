-- A composed field, as a reader meets it: the leading octet, and each group's header and parameters.
use Rattle.std.proofs.Common.{◌≡◌, ℕ, ◌/◌, ◌%◌, ◌<◌, ◌≤◌, List, [], ◌∷◌, ◌++◌, length, Some, None, sym, refl, ap, ◌∙◌, append_assoc, append-nil, arith, length-append}
use Rattle.std.specs.List.{flat_map, AllByRecursion as All}
use Rattle.register.specs.Groups.{group_octet}
use Rattle.register.specs.declared.Group.{Group}
use Rattle.register.specs.declared.Group.TheVariants.{Public, Private}
use Rattle.xid.specs.Fields.{Param, param_octets, Readable, Beginning, leading, header, parameter, begun, left, last_group, parameters, Follows, Whole, WellFormed}
use Rattle.xid.specs.Reading.{Reading}
use Rattle.xid.proofs.SamePieces.{whole_left}
use Rattle.composer.specs.Composing.{of_group, group_octets, field_octets}
use Rattle.composer.proofs.Groups.{all_of_group, of_group_same}

-- a beginning with parameters behind it
abbrev grown : Beginning → List Param → Beginning
grown b [] = b
grown b (p ∷ ps) = grown (parameter b p) ps

grown-begun : (b : Beginning) (ps : List Param) → begun (grown b ps) ≡ begun b ++ flat_map param_octets ps
grown-begun b [] = sym (append-nil (begun b))
grown-begun b (p ∷ ps) = grown-begun (parameter b p) ps ∙ append_assoc (begun b) (param_octets p) (flat_map param_octets ps)

grown_last : (b : Beginning) (ps : List Param) → last_group (grown b ps) ≡ last_group b
grown_last b [] = refl
grown_last b (p ∷ ps) = grown_last (parameter b p) ps

grown-parameters : (b : Beginning) (ps : List Param) → parameters (grown b ps) ≡ parameters b ++ ps
grown-parameters b [] = sym (append-nil (parameters b))
grown-parameters b (p ∷ ps) = grown-parameters (parameter b p) ps ∙ append_assoc (parameters b) (p ∷ []) ps

grown_formed : (g : Group) (b : Beginning) (ps : List Param) → WellFormed b → last_group b ≡ Some g → All (λ p. p.group ≡ g) ps → All Readable ps
    → length (flat_map param_octets ps) ≤ left b → WellFormed (grown b ps)
grown_formed g b [] formed last same readable within = formed
grown_formed g b (p ∷ ps) formed last same readable within =
    let long = length-append (param_octets p) (flat_map param_octets ps) in
    grown_formed g (parameter b p) ps
    (formed, last ∙ ap Some (sym same.0), omega arith, readable.0)
    last same.1 readable.1 (omega arith)

grown_whole : (b : Beginning) (p : Param) (ps : List Param) → left b ≡ length (flat_map param_octets (p ∷ ps)) → Whole (grown b (p ∷ ps))
grown_whole b p [] is = let long = length-append (param_octets p) [] in omega arith
grown_whole b p (q ∷ qs) is =
    let long = length-append (param_octets p) (flat_map param_octets (q ∷ qs)) in grown_whole (parameter b p) q qs (omega arith)

-- a beginning with a group behind it, where it has parameters
abbrev grouped : Beginning → Group → List Param → Beginning
grouped b g [] = b
grouped b g (p ∷ ps) = grown (header b g (length (flat_map param_octets (p ∷ ps)))) (p ∷ ps)

-- a beginning behind which a group may come, with its octets and its parameters
record Ready (b : Beginning) (os : List ℕ) (ps : List Param) : Type 0 where
  octets : begun b ≡ os
  formed : WellFormed b
  whole : Whole b
  read : parameters b ≡ ps

grouped-ready : (b : Beginning) (g : Group) (os : List ℕ) (ps qs : List Param) → Ready b os ps → Follows (last_group b) g
    → All (λ p. p.group ≡ g) qs → All Readable qs → length (flat_map param_octets qs) < 65536
    → Ready (grouped b g qs) (os ++ group_octets g qs) (ps ++ qs)
grouped-ready b g os ps [] ready follows same readable few =
    record {
      octets = ready.octets ∙ sym (append-nil os);
      formed = ready.formed;
      whole = ready.whole;
      read = ready.read ∙ sym (append-nil ps);
    }
grouped-ready b g os ps (q ∷ qs) ready follows same readable few =
    let n = length (flat_map param_octets (q ∷ qs)) in
    record {
      octets = grown-begun (header b g n) (q ∷ qs)
          ∙ append_assoc (begun b) (group_octet g ∷ n / 256 ∷ n % 256 ∷ []) (flat_map param_octets (q ∷ qs))
          ∙ ap (λ l. l ++ group_octets g (q ∷ qs)) ready.octets;
      formed = grown_formed g (header b g n) (q ∷ qs) (ready.formed, ready.whole, follows, few) refl same readable (omega arith);
      whole = grown_whole (header b g n) q qs refl;
      read = grown-parameters (header b g n) (q ∷ qs) ∙ ap (λ l. l ++ q ∷ qs) ready.read;
    }

private_follows : (ps : List Param) → Follows (last_group (grouped leading Public ps)) Private
private_follows [] = tt
private_follows (p ∷ ps) = rw (grown_last (header leading Public (length (flat_map param_octets (p ∷ ps)))) (p ∷ ps)) tt

groups_size : (g : Group) (ps : List Param) → length (flat_map param_octets ps) ≤ length (group_octets g ps)
groups_size g [] = omega arith
groups_size g (p ∷ ps) = omega arith

-- a reader of a field whose parameters stand in order answers them all, and then the end
pub field_reads : (ps : List Param) → All Readable ps → ps ≡ of_group Public ps ++ of_group Private ps → length (field_octets ps) ≤ 2052
    → Reading (field_octets ps) ps None
field_reads ps readable ordered few =
    let qs = of_group Public ps in
    let rs = of_group Private ps in
    let long = length-append (group_octets Public qs) (group_octets Private rs) in
    let one = groups_size Public qs in
    let two = groups_size Private rs in
    let start : Ready leading (0x82 ∷ []) [] = record { octets = refl; formed = tt; whole = tt; read = refl } in
    let public = grouped-ready leading Public (0x82 ∷ []) [] qs start tt (of_group_same Public ps) (all_of_group Readable Public ps readable) (omega arith) in
    let all = grouped-ready (grouped leading Public qs) Private (0x82 ∷ group_octets Public qs) qs rs public (private_follows qs)
    (of_group_same Private ps) (all_of_group Readable Private ps readable) (omega arith) in
    let b = grouped (grouped leading Public qs) Private rs in
    record {
      beginning = b;
      rest = [];
      begins = record {
        octets = sym (append-nil (begun b) ∙ all.octets);
        formed = all.formed;
        within = omega (arith, whole_left b all.whole);
      };
      stops = (all.whole, refl);
      read = all.read ∙ sym ordered;
    }

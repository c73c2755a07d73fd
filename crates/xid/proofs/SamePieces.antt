-- Two well-formed beginnings of the same octets that have equally many pieces are equal.
use Rattle.std.proofs.Common.{◌≡◌, ℕ, suc, ◌/◌, ◌%◌, ◌≤◌, List, ◌∷◌, ◌++◌, length, take, Some, sym, refl, ap, ◌∙◌, append_assoc, arith}
use lib.Seq.{take-append_seam}
use Rattle.std.proofs.lemmas.List.{append_cancel_left}
use Rattle.register.specs.Groups.{group_octet}
use Rattle.register.specs.declared.Group.{Group}
use Rattle.xid.specs.Fields.{Param, param_octets, Beginning, nothing, leading, header, parameter, begun, left, last_group, Whole, WellFormed}

-- how many pieces a beginning has
abbrev pub pieces : Beginning → ℕ
pieces nothing = 0
pieces leading = 1
pieces (header b g n) = suc (pieces b)
pieces (parameter b p) = suc (pieces b)

-- a header's octets and a parameter's octets, with what follows them
abbrev pub headed : Group → ℕ → List ℕ → List ℕ
headed g n s = group_octet g ∷ n / 256 ∷ n % 256 ∷ s

pub header_octets : (b : Beginning) (g : Group) (n : ℕ) (s : List ℕ) → begun (header b g n) ++ s ≡ begun b ++ headed g n s
header_octets b g n s = simp append_assoc

pub parameter_octets : (b : Beginning) (p : Param) (s : List ℕ) → begun (parameter b p) ++ s ≡ begun b ++ (param_octets p ++ s)
parameter_octets b p s = append_assoc (begun b) (param_octets p) s

-- nothing of a whole group is still to come
pub whole_left : (b : Beginning) → Whole b → left b ≡ 0
whole_left b w = grind arith

-- a header has the leading octet before it, and a parameter has a header before it
whole_pieces : (b : Beginning) → Whole b → 1 ≤ pieces b
whole_pieces b w = grind arith

group_pieces : (b : Beginning) (g : Group) → last_group b ≡ Some g → 1 ≤ pieces b
group_pieces nothing g e = grind arith
group_pieces b g e = omega arith

pub same_group : (g h : Group) → group_octet g ≡ group_octet h → g ≡ h
same_group g h e = grind arith

-- the same octets give the same header and the same parameter
same-header : (g h : Group) (n m : ℕ) (r s : List ℕ) → headed g n r ≡ headed h m s → (g ≡ h) × (n ≡ m)
same-header g h n m r s e =
    let first : group_octet g ≡ group_octet h = cc in
    let high : n / 256 ≡ m / 256 = cc in
    let low : n % 256 ≡ m % 256 = cc in
    (same_group g h first, omega arith)

same-value : (v w r s : List ℕ) → length v ≡ length w → v ++ r ≡ w ++ s → v ≡ w
same-value v w r s l e =
    sym (take-append_seam v r) ∙ ap (λ (n : ℕ). take n (v ++ r)) l ∙ ap (λ (x : List ℕ). take (length w) x) e ∙ take-append_seam w s

same_parameter : (p q : Param) (r s : List ℕ) → p.group ≡ q.group → param_octets p ++ r ≡ param_octets q ++ s → p ≡ q
same_parameter p q r s g e =
    let i : p.identifier ≡ q.identifier = cc in
    let l : length p.value ≡ length q.value = cc in
    let o : p.value ++ r ≡ q.value ++ s = cc in
    let v = same-value p.value q.value r s l o in
    λ x. record { group = g x; identifier = i x; value = v x }

pub same_beginning : (b c : Beginning) (r s : List ℕ) → pieces b ≡ pieces c → WellFormed b → WellFormed c → begun b ++ r ≡ begun c ++ s → b ≡ c
same_beginning nothing nothing r s k f h e = refl
same_beginning leading leading r s k f h e = refl
same_beginning (header b g n) (header c g' n') r s k f h e =
    let o : begun b ++ headed g n r ≡ begun c ++ headed g' n' s = sym (header_octets b g n r) ∙ e ∙ header_octets c g' n' s in
    let i : b ≡ c = same_beginning b c (headed g n r) (headed g' n' s) (omega arith) f.0 h.0 o in
    let t = same-header g g' n n' r s (append_cancel_left (begun c) (headed g n r) (headed g' n' s) (cc)) in
    cc (i, t.0, t.1)
same_beginning (header b g n) (parameter c p) r s k f h e =
    let o : begun b ++ headed g n r ≡ begun c ++ (param_octets p ++ s) = sym (header_octets b g n r) ∙ e ∙ parameter_octets c p s in
    let i : b ≡ c = same_beginning b c (headed g n r) (param_octets p ++ s) (omega arith) f.0 h.0 o in
    let l : left b ≡ left c = ap left i in
    absurd (omega (arith, whole_left b f.1, h.2))
same_beginning (parameter b p) (header c g n) r s k f h e =
    let o : begun b ++ (param_octets p ++ r) ≡ begun c ++ headed g n s = sym (parameter_octets b p r) ∙ e ∙ header_octets c g n s in
    let i : b ≡ c = same_beginning b c (param_octets p ++ r) (headed g n s) (omega arith) f.0 h.0 o in
    let l : left b ≡ left c = ap left i in
    absurd (omega (arith, whole_left c h.1, f.2))
same_beginning (parameter b p) (parameter c q) r s k f h e =
    let o : begun b ++ (param_octets p ++ r) ≡ begun c ++ (param_octets q ++ s) = sym (parameter_octets b p r) ∙ e ∙ parameter_octets c q s in
    let i : b ≡ c = same_beginning b c (param_octets p ++ r) (param_octets q ++ s) (omega arith) f.0 h.0 o in
    let l : last_group b ≡ last_group c = ap last_group i in
    let g : p.group ≡ q.group = cc (l, f.1, h.1) in
    let t = same_parameter p q r s g (append_cancel_left (begun c) (param_octets p ++ r) (param_octets q ++ s) (cc)) in
    cc (i, t)
same_beginning b c r s k f h e = absurd (grind (arith, whole_pieces, group_pieces))

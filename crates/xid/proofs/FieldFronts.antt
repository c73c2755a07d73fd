-- A beginning of given octets with its outermost pieces taken off is a beginning of the same octets.
use Rattle.std.proofs.Common.{◌≡◌, ℕ, ◌<◌, ◌≤◌, List, [], ◌∷◌, ◌++◌, sym, refl, ap, ◌∙◌, append_assoc, append-nil, arith, length-append}
use native.Mathlib.Decide.{ℕ_discrete}
use Rattle.register.specs.declared.Group.{Group}
use Rattle.xid.specs.Fields.{Param, param_octets, Beginning, nothing, leading, header, parameter, parameters}
use Rattle.xid.specs.Reading.{Begins}
use Rattle.xid.proofs.SamePieces.{pieces, headed, header_octets, parameter_octets, whole_left}

-- a front of a beginning, with a given number of pieces
pub record Front (os : List ℕ) (c : Beginning) (k : ℕ) : Type 0 where
  pub front : Beginning
  pub rest : List ℕ
  pub begins : Begins os front rest
  pub size : pieces front ≡ k
  pub more : List Param
  pub behind : parameters c ≡ parameters front ++ more

module _ (os : List ℕ) where
  pub before-header : (b : Beginning) (g : Group) (n : ℕ) (s : List ℕ) → Begins os (header b g n) s → Begins os b (headed g n s)
  before-header b g n s h = record {
    octets = h.octets ∙ header_octets b g n s;
    formed = h.formed.0;
    within = omega (arith, whole_left b h.formed.1);
  }

  -- the group's octets that are to come before a parameter are those of the parameter and those to come after it
  pub before_parameter : (b : Beginning) (p : Param) (s : List ℕ) → Begins os (parameter b p) s → Begins os b (param_octets p ++ s)
  before_parameter b p s h = record {
    octets = h.octets ∙ parameter_octets b p s;
    formed = h.formed.0;
    within = omega (arith, h.within, length-append p.value s);
  }

  whole_front : (c : Beginning) (s : List ℕ) → Begins os c s → (k : ℕ) → pieces c ≡ k → Front os c k
  whole_front c s h k e = record {
    front = c;
    rest = s;
    begins = h;
    size = e;
    more = [];
    behind = sym (append-nil (parameters c));
  }

  -- all of it, or a front that is shorter
  chosen : (c : Beginning) (s : List ℕ) → Begins os c s → (k : ℕ) → k ≤ pieces c → (k < pieces c → Front os c k) → Front os c k
  chosen c s h k few shorter = elim (ℕ_discrete (pieces c) k) [ yes e ↦ whole_front c s h k e | no ne ↦ shorter (omega arith) ]

  past_header : (c : Beginning) (g : Group) (n k : ℕ) → Front os c k → Front os (header c g n) k
  past_header c g n k f =
      record { front = f.front; rest = f.rest; begins = f.begins; size = f.size; more = f.more; behind = f.behind }

  past_parameter : (c : Beginning) (p : Param) (k : ℕ) → Front os c k → Front os (parameter c p) k
  past_parameter c p k f = record {
    front = f.front;
    rest = f.rest;
    begins = f.begins;
    size = f.size;
    more = f.more ++ (p ∷ []);
    behind = ap (λ (ps : List Param). ps ++ (p ∷ [])) f.behind ∙ append_assoc (parameters f.front) f.more (p ∷ []);
  }

  before_leading : (s : List ℕ) → Begins os leading s → (k : ℕ) → 0 ≡ k → Front os leading k
  before_leading s h k e = record {
    front = nothing;
    rest = 0x82 ∷ s;
    begins = record { octets = h.octets; formed = tt; within = omega arith };
    size = e;
    more = [];
    behind = refl;
  }

  pub front_of : (c : Beginning) (s : List ℕ) → Begins os c s → (k : ℕ) → k ≤ pieces c → Front os c k
  front_of nothing s h k few = whole_front nothing s h k (omega arith)
  front_of leading s h k few = chosen leading s h k few (λ less. before_leading s h k (omega arith))
  front_of (header c g n) s h k few =
      chosen (header c g n) s h k few (λ less. past_header c g n k (front_of c (headed g n s) (before-header c g n s h) k (omega arith)))
  front_of (parameter c p) s h k few =
      chosen (parameter c p) s h k few (λ less. past_parameter c p k (front_of c (param_octets p ++ s) (before_parameter c p s h) k (omega arith)))

-- Octets are read in one way at most, and a reading goes on from every beginning of its octets.
use Rattle.std.proofs.Common.{◌≡◌, ℕ, suc, ◌<◌, ◌≤◌, List, ◌∷◌, ◌++◌, Option, sym, ap, ◌∙◌, subst, arith}
use Rattle.std.proofs.lemmas.List.{append_cancel_left}
use Rattle.faults.specs.declared.ExchangeFault.{ExchangeFault}
use Rattle.xid.specs.Fields.{Param, param_octets, Beginning, nothing, leading, header, parameter, begun, parameters}
use Rattle.xid.specs.Reading.{Begins, Stops, Reading}
use Rattle.xid.specs.Laws.{ReadingIsOne}
use Rattle.xid.proofs.SamePieces.{pieces, headed, same_beginning}
use Rattle.xid.proofs.FieldFronts.{front_of, before-header, before_parameter}
use Rattle.xid.proofs.FieldEnds.{goes_behind_nothing, goes_behind-header, goes_behind_parameter, stop_is_one}

module _ (os : List ℕ) where
  -- two beginnings with equally many pieces are equal, and so are the octets behind them
  equal : (b c : Beginning) (r s : List ℕ) → Begins os b r → Begins os c s → pieces b ≡ pieces c → b ≡ c
  equal b c r s h k e = same_beginning b c r s e h.formed k.formed (sym h.octets ∙ k.octets)

  equal_rest : (b c : Beginning) (r s : List ℕ) → Begins os b r → Begins os c s → b ≡ c → r ≡ s
  equal_rest b c r s h k e =
      append_cancel_left (begun c) r s (ap (λ (x : Beginning). begun x ++ r) (sym e) ∙ sym h.octets ∙ k.octets)

  -- what stops at one of two equal beginnings stops at the other
  moved : (b c : Beginning) (r s : List ℕ) (stop : Option ExchangeFault) → Begins os b r → Begins os c s → pieces b ≡ pieces c → Stops b r stop → Stops c s stop
  moved b c r s stop h k e stops =
      let same = equal b c r s h k e in
      let rests = equal_rest b c r s h k same in
      subst (λ (x : Beginning). Stops x s stop) same (subst (λ (x : List ℕ). Stops b x stop) rests stops)

  -- a beginning that stops is not the front of one with one more piece
  no_next : (b c : Beginning) (r s : List ℕ) (stop : Option ExchangeFault) → Begins os b r → Begins os c s → Stops b r stop → pieces c ≡ suc (pieces b) → ⊥
  no_next b nothing r s stop h k stops e = omega arith
  no_next b leading r s stop h k stops e =
      let z : Begins os nothing (0x82 ∷ s) = record { octets = k.octets; formed = tt; within = omega arith } in
      goes_behind_nothing s stop (moved b nothing r (0x82 ∷ s) stop h z (omega arith) stops)
  no_next b (header c g n) r s stop h k stops e =
      let (formed, whole, follows, small) = k.formed in
      goes_behind-header c g n s whole follows k.within stop
      (moved b c r (headed g n s) stop h (before-header os c g n s k) (omega arith) stops)
  no_next b (parameter c p) r s stop h k stops e =
      let (formed, group, few, readable) = k.formed in
      goes_behind_parameter c p s group few readable stop
      (moved b c r (param_octets p ++ s) stop h (before_parameter os c p s k) (omega arith) stops)

  -- no beginning has more pieces than one that stops
  no_longer : (b c : Beginning) (r s : List ℕ) (stop : Option ExchangeFault) → Begins os b r → Begins os c s → Stops b r stop → pieces b < pieces c → ⊥
  no_longer b c r s stop h k stops more =
      let f = front_of os c s k (suc (pieces b)) more in
      no_next b f.front r f.rest stop h f.begins stops f.size

  longest : (b c : Beginning) (r s : List ℕ) (stop : Option ExchangeFault) → Begins os b r → Begins os c s → Stops b r stop → pieces c ≤ pieces b
  longest b c r s stop h k stops = search (arith, no_longer b c r s stop h k stops)

pub reading_is_one : ReadingIsOne
reading_is_one os ps qs s t x y =
    let record { beginning = b; rest = r; begins = h; stops = stops; read = read } = x in
    let record { beginning = c; rest = r'; begins = h'; stops = stops'; read = read' } = y in
    let e : pieces b ≡ pieces c = omega (arith, longest os b c r r' s h h' stops, longest os c b r' r t h' h stops') in
    let same : b ≡ c = equal os b c r r' h h' e in
    (sym read ∙ ap parameters same ∙ read', stop_is_one c r' s t (moved os b c r r' s h h' e stops) stops')

pub goes_on : (os : List ℕ) (b : Beginning) (rest : List ℕ) (ps : List Param) (stop : Option ExchangeFault) → Begins os b rest → Reading os ps stop → (more : List Param) × (ps ≡ parameters b ++ more)
goes_on os b rest ps stop h x =
    let f = front_of os x.beginning x.rest x.begins (pieces b) (longest os x.beginning b x.rest rest stop x.begins h x.stops) in
    let same : f.front ≡ b = equal os f.front b f.rest rest f.begins h f.size in
    (f.more, sym x.read ∙ f.behind ∙ ap (λ (c : Beginning). parameters c ++ f.more) same)

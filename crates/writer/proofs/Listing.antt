-- A list of orders, one order further: accepted and put, or refused and taken back.
use Rattle.std.proofs.Common.{◌≡◌, ℕ, ◌+◌, ◌-◌, ◌<◌, ◌≤◌, List, [], ◌∷◌, ◌++◌, length, get_or, take, drop, Ok, Err, Result, sym, ap, ◌∙◌, subst, append_assoc, arith, length-append}
use Rattle.std.proofs.lemmas.List.{append-nil, map_push, take_all, take_more, take_at, take-append-drop, length-take-le}
use Rattle.bits.specs.Sink.{Shown, CutBack}
use Rattle.bits.specs.declared.sink.SinkError.{SinkError}
use Rattle.cutting.specs.Cutting.{Bits}
use Rattle.cutting.specs.Stuffing.{frame_bits, put_bits}
use Rattle.cutting.proofs.Written.{put_append}
use Rattle.frame.specs.Opening.{layout}
use Rattle.writer.specs.Lists.{ordered, layouts, Inside, AllAccepted, OrderWritten, OrderRefused, FirstRefused}
use Rattle.writer.specs.Putting.{Appended}
use Rattle.writer.specs.Writing.{Accepted}
use Rattle.writer.specs.declared.list.ListError.{ListError}
use Rattle.writer.specs.declared.list.Order.{Order}
use Rattle.writer.proofs.Puts.{appended_more, appended_as, appended_to, appended_count}

-- the bits of the frames that orders ask for
abbrev pub orders_bits : List ℕ → List Order → Bits
orders_bits buffer os = put_bits (layouts buffer os)

abbrev pub order_bits : List ℕ → Order → Bits
order_bits buffer o = frame_bits (layout (ordered buffer o))

orders_push : (buffer : List ℕ) (os : List Order) (o : Order) → orders_bits buffer (os ++ o ∷ []) ≡ orders_bits buffer os ++ order_bits buffer o
orders_push buffer os o =
    let f : Order → List ℕ = λ p. layout (ordered buffer p) in
    ap put_bits (map_push f os o)
    ∙ put_append (layouts buffer os) (f o ∷ [])
    ∙ ap (λ (l : Bits). orders_bits buffer os ++ l) (append-nil (order_bits buffer o))

accepted_push : (buffer : List ℕ) (room left : ℕ) (os : List Order) (o : Order) → AllAccepted buffer room os → room ≡ left + length (orders_bits buffer os)
    → Inside buffer o → Accepted (ordered buffer o) left → AllAccepted buffer room (os ++ o ∷ [])
accepted_push buffer room left [] o all e inside ok =
    let same : left ≡ room = omega arith in
    let P : ℕ → Type 0 = λ n. Accepted (ordered buffer o) n in (inside, subst P same ok, tt)
accepted_push buffer room left (p ∷ os) o all e inside ok =
    let l = length-append (order_bits buffer p) (orders_bits buffer os) in
    (all.0, all.1, accepted_push buffer (room - length (order_bits buffer p)) left os o all.2 (omega arith) inside ok)

module _ (orders : List Order) (buffer : List ℕ) (i : ℕ) where
  -- the orders before a place are accepted and put
  abbrev pub Listed : Shown → Shown → ℕ → Type 0
  Listed s s₁ k =
      AllAccepted buffer s.space (take k orders)
      × Appended (orders_bits buffer (take k orders)) s (length (orders_bits buffer (take k orders))) s₁

  -- one order more
  pub list_more : (s s₁ s₂ : Shown) (n : ℕ) (d : Order) → i < length orders → Listed s s₁ i → OrderWritten i (get_or orders i d) buffer s₁ (Ok n) s₂ → Listed s s₂ (i + 1)
  list_more s s₁ s₂ n d h (all, put) (inside, ok, more) =
      let o = get_or orders i d in
      let e : take (i + 1) orders ≡ take i orders ++ o ∷ [] = take_more orders i d h in
      let P : List Order → Type 0 = λ l. AllAccepted buffer s.space l in
      let bits : orders_bits buffer (take i orders) ++ order_bits buffer o ≡ orders_bits buffer (take (i + 1) orders)
      = sym (orders_push buffer (take i orders) o) ∙ ap (orders_bits buffer) (sym e) in
      let both = appended_as bits (appended_more put more) in
      (subst P (sym e) (accepted_push buffer s.space s₁.space (take i orders) o all put.lowered inside ok), appended_to both.counted both)

  -- the first order that is refused
  pub list_refused : (s s₁ : Shown) (d : Order) (e : ListError) → i < length orders → Listed s s₁ i → OrderRefused buffer s₁.space i (get_or orders i d) e
      → FirstRefused orders buffer s.space e
  list_refused s s₁ d e h (all, put) refused =
      let o = get_or orders i d in
      let b = take i orders in
      let left : s₁.space ≡ s.space - length (orders_bits buffer b) = omega (arith, put.lowered) in
      let place : i ≡ length b = sym (length-take-le i orders (omega arith)) in
      let P : ℕ → Type 0 = λ n. OrderRefused buffer n i o e in
      let Q : ℕ → Type 0 = λ n. OrderRefused buffer (s.space - length (orders_bits buffer b)) n o e in
      record {
        before = b;
        order = o;
        behind = drop (i + 1) orders;
        list =
            sym (take-append-drop (i + 1) orders)
            ∙ ap (λ (l : List Order). l ++ drop (i + 1) orders) (take_more orders i d h)
            ∙ append_assoc b (o ∷ []) (drop (i + 1) orders);
        accepted = all;
        refused = subst Q place (subst P left refused);
      }

  -- all orders, counted by the sink
  pub list_all : (s s₁ : Shown) (n : ℕ) → length orders ≤ i → n ≡ length s₁.held - length s.held → Listed s s₁ i
      → AllAccepted buffer s.space orders × Appended (orders_bits buffer orders) s n s₁
  list_all s s₁ n h counted (accepted, put) =
      let all : take i orders ≡ orders = take_all i orders h in
      let P : List Order → Type 0 = λ l. AllAccepted buffer s.space l in
      (subst P all accepted, appended_to (appended_count put ∙ sym counted) (appended_as (ap (orders_bits buffer) all) put))

  -- cut back to what was held before
  pub taken_back : (s s₁ s₂ s₃ : Shown) (k : ℕ) (r : Result (Unit {0}) SinkError) → Listed s s₁ i → s₂ ≡ s₁ → k ≡ length s.held → CutBack s₂ k r s₃ → s₃ ≡ s
  taken_back s s₁ s₂ s₃ k (Ok _) (all, put) same is cut =
      let bits : Bits = orders_bits buffer (take i orders) in
      let whole : s₂.held ≡ s.held ++ bits = ap (λ x. x.held) same ∙ put.added in
      let long = ap length whole ∙ length-append s.held bits in
      let held : s₃.held ≡ s.held = cut.1 ∙ ap (take k) whole ∙ take_at s.held bits k (sym is) in
      let space : s₃.space ≡ s.space = omega (arith, cut.2, put.lowered, ap (λ x. x.space) same) in
      ap (λ (l : Bits). record { held = l; space = s₃.space }) held ∙ ap (λ (n : ℕ). record { held = s.held; space = n }) space
  taken_back s s₁ s₂ s₃ k (Err e) (all, put) same is cut =
      let bits : Bits = orders_bits buffer (take i orders) in
      let long = ap length (ap (λ x. x.held) same ∙ put.added) ∙ length-append s.held bits in absurd (omega (arith, cut.1))

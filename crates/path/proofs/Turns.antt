-- One call more carries a run on by its turn.
use Rattle.std.proofs.Common.{◌≡◌, ℕ, ◌+◌, ◌<◌, ◌≤◌, true, leb, List, [], ◌∷◌, ◌++◌, length, get_or, take, replicate, sym, refl, ap, ◌∙◌, subst, append_assoc, append-nil, arith, length-append, leb-true}
use lib.ListN.{length-replicate}
use Rattle.std.specs.List.{flat_map}
use Rattle.std.proofs.lemmas.List.{length_push, take_at, take_more}
use Rattle.cutting.specs.Cutting.{Bits}
use Rattle.receiver.specs.Answers.{verdict_of}
use Rattle.receiver.specs.Hearing.{HasHeard}
use Rattle.receiver.specs.Listening.{Fills, Listens}
use Rattle.receiver.specs.declared.answer.Answer.{Answer}
use Rattle.receiver.specs.declared.answer.Answer.TheVariants as answer
use Rattle.receiver.specs.declared.record.Receiver.{Receiver}
use Rattle.path.specs.Runs.{Leg, none, noted, Turn, refused, heard, lost, frame_of, Run, new, refuses, listens, loses}
use Rattle.path.specs.Replay.{turn_of, turns_of, Listened, Performs, Replayed}
use Rattle.path.specs.declared.replay.Call.{Call}
use Rattle.path.specs.declared.replay.Call.TheVariants.{Listen, CarrierLoss}
use Rattle.path.specs.declared.replay.Outcome.{Outcome}
use Rattle.path.specs.declared.replay.Outcome.TheVariants.{Refused, Heard, Lost}
use Rattle.path.proofs.Cuts.{runs_are_cut}

-- a buffer stays as long as it was
fills_length : (a : Answer) (old now : List ℕ) → Fills a old now → length now ≡ length old
fills_length answer.Aborted old now f = ap length f
fills_length (answer.Refused x) old now f = ap length f
fills_length (answer.Frame n) old now f = f.2
fills_length answer.Paused old now f = ap length f
fills_length answer.Dry old now f = ap length f

-- a listening with a buffer, of which the front is kept, cut to a frame's octets
pub listened : (r r' : Receiver) (before after : Bits) (allowance : ℕ) {taken : ℕ} {a : Answer} (old filled : List ℕ) (room len n : ℕ) (others kept : List ℕ)
    → Listens (HasHeard r) (HasHeard r') before after allowance taken old filled a → true ≡ leb 2061 (length old) → length old ≡ len → len ≡ room
    → ((buffer : List ℕ) → take n buffer ≡ frame_of a buffer) → kept ≡ take n (take len (filled ++ others)) → Listened r r' before after allowance room taken a kept
listened r r' before after allowance {a = a} old filled room len n others kept l accepted long is front cut = record {
  old = old;
  new = filled;
  room_is = long ∙ is;
  wide = omega (arith, leb-true 2061 (length old) (sym accepted));
  listens = l;
  kept_is = cut ∙ ap (take n) (take_at filled others len (fills_length a old filled l.fills ∙ long)) ∙ front filled;
}

-- some legs of which the turns are a run
pub record Goes (start : Bits) (r : Receiver) (w : Bits) (turns : List Turn) : Type 0 where
  pub legs : List Leg
  pub leg : Leg
  pub run : Run start r w legs leg turns

goes_refused : {start : Bits} {r r' : Receiver} {w w' : Bits} {turns : List Turn} (allowance room : ℕ)
    → room < 2061 → r' ≡ r → w' ≡ w → Goes start r w turns → Goes start r' w' (turns ++ refused allowance room ∷ [])
goes_refused {start} {r} {r'} {w} {w'} {turns} allowance room short p q g =
    let buffer : List ℕ = replicate room 0 in
    let long : length buffer ≡ room = length-replicate room 0 in
    let step = refuses allowance buffer (omega (arith, long)) g.run in
    let same : Run start r w g.legs g.leg (turns ++ refused allowance room ∷ []) =
    subst (λ (n : ℕ). Run start r w g.legs g.leg (turns ++ refused allowance n ∷ [])) long step in
    record { legs = g.legs; leg = g.leg; run = rw (p, q) same }

goes_heard : {start : Bits} {r r' : Receiver} {w w' : Bits} {turns : List Turn} {allowance room taken : ℕ} {a : Answer} {kept : List ℕ}
    → Listened r r' w w' allowance room taken a kept → Goes start r w turns → Goes start r' w' (turns ++ heard allowance room taken a kept ∷ [])
goes_heard {start} {r} {r'} {w} {w'} {turns} {allowance} {room} {taken} {a} {kept} l g =
    let wide : 2061 ≤ length l.old = omega (arith, l.wide, l.room_is) in
    let step = listens allowance taken l.old l.new a wide g.run l.listens in
    record {
      legs = g.legs;
      leg = record { bits = g.leg.bits ++ l.listens.bits; verdicts = g.leg.verdicts ++ noted (verdict_of a l.new) (length (g.leg.bits ++ l.listens.bits)) };
      run = rw (sym l.room_is, l.kept_is) step;
    }

goes_lost : {start : Bits} {r r' : Receiver} {w w' : Bits} {turns : List Turn} → HasHeard r' [] → w' ≡ w → Goes start r w turns → Goes start r' w' (turns ++ lost ∷ [])
goes_lost silent q g = record { legs = g.legs ++ g.leg ∷ []; leg = none; run = rw q (loses g.run silent) }

-- the calls so far have their outcomes, and these are a run
pub record Going (start : Bits) (r : Receiver) (w : Bits) (calls : List Call) (outcomes : List Outcome) : Type 0 where
  pub each : (length outcomes ≡ length calls) × (length (turns_of calls outcomes) ≡ length calls)
  pub goes : Goes start r w (turns_of calls outcomes)

pub going_new : (start : Bits) (r : Receiver) → HasHeard r [] → Going start r start [] []
going_new start r silent = record { each = (refl, refl); goes = record { legs = []; leg = none; run = new silent } }

turns_more : (calls : List Call) (outcomes : List Outcome) (c : Call) (o : Outcome) → length outcomes ≡ length calls
    → turns_of (calls ++ c ∷ []) (outcomes ++ o ∷ []) ≡ turns_of calls outcomes ++ turn_of c o
turns_more [] [] c o e = append-nil (turn_of c o)
turns_more [] (x ∷ os) c o e = absurd (omega arith)
turns_more (x ∷ cs) [] c o e = absurd (omega arith)
turns_more (x ∷ cs) (y ∷ os) c o e = ap {B = List Turn} (λ (l : List Turn). turn_of x y ++ l) (turns_more cs os c o (omega arith)) ∙ sym (append_assoc (turn_of x y) (turns_of cs os) (turn_of c o))

turn : {start : Bits} {r r' : Receiver} {w w' : Bits} {turns : List Turn} (c : Call) (o : Outcome) → Performs c o r r' w w' → Goes start r w turns
    → (length (turn_of c o) ≡ 1) × Goes start r' w' (turns ++ turn_of c o)
turn (Listen allowance room) Refused p g = (refl, goes_refused allowance room p.0 p.1 p.2 g)
turn (Listen allowance room) (Heard taken a octets) p g = (refl, goes_heard p g)
turn (Listen allowance room) Lost p g = absurd p
turn CarrierLoss Refused p g = absurd p
turn CarrierLoss (Heard taken a octets) p g = absurd p
turn CarrierLoss Lost p g = (refl, goes_lost p.0 p.1 g)

going_on : {start : Bits} {r r' : Receiver} {w w' : Bits} {calls : List Call} {outcomes : List Outcome} (c : Call) (o : Outcome) → Performs c o r r' w w'
    → Going start r w calls outcomes → Going start r' w' (calls ++ c ∷ []) (outcomes ++ o ∷ [])
going_on {start} {r} {r'} {w} {w'} {calls} {outcomes} c o p g =
    let t = turn c o p g.goes in
    let same = turns_more calls outcomes c o g.each.0 in
    let a = length_push calls c in
    let b = length_push outcomes o in
    let n = length-append (turns_of calls outcomes) (turn_of c o) in
    record {
      each = (omega (arith, g.each), omega (arith, g.each, t.0, ap length same));
      goes = subst (Goes start r' w') (sym same) t.1;
    }

-- of the calls up to place i, and then the call there
pub going_at : {start : Bits} (r r' : Receiver) (w w' : Bits) (calls : List Call) (i : ℕ) (d : Call) (outcomes : List Outcome) (o : Outcome) → i < length calls
    → Performs (get_or calls i d) o r r' w w' → Going start r w (take i calls) outcomes → Going start r' w' (take (i + 1) calls) (outcomes ++ o ∷ [])
going_at {start} r r' w w' calls i d outcomes o in-calls p g =
    subst (λ (l : List Call). Going start r' w' l (outcomes ++ o ∷ [])) (sym (take_more calls i d in-calls)) (going_on (get_or calls i d) o p g)

pub gone : {start : Bits} {r : Receiver} {w : Bits} {calls : List Call} {outcomes : List Outcome} → Going start r w calls outcomes → Replayed start w calls outcomes
gone {start} {r} {w} {calls} {outcomes} g = record {
  receiver = r;
  legs = g.goes.legs;
  leg = g.goes.leg;
  each = g.each;
  run = g.goes.run;
  result = (runs_are_cut start r w g.goes.legs g.goes.leg (turns_of calls outcomes) g.goes.run).1;
}

-- the bits taken so far are the first that waited
pub taken_so_far : {start : Bits} {r : Receiver} {w : Bits} {calls : List Call} {outcomes : List Outcome} → Going start r w calls outcomes → (t : Bits) × (start ≡ t ++ w)
unfolding gone
taken_so_far {start} {r} {w} {calls} {outcomes} g =
    let all = (gone g).result.taken in
    let front = flat_map (λ x. x.bits) g.goes.legs in
    (front ++ g.goes.leg.bits, all ∙ sym (append_assoc front g.goes.leg.bits w))

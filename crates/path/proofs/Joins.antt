-- All that is due in a row of bits, put together from what is due in its front and what is due behind.
use Rattle.std.proofs.Common.{◌≡◌, ℕ, ◌<◌, ◌≤◌, List, [], ◌++◌, length, Some, None, Option, arith, length-append}
use native.Mathlib.Decide.{dec_lt}
use Rattle.std.specs.List.{AllByRecursion}
use Rattle.cutting.specs.Cutting.{Bits, Verdict, Due, Placed, AllDue, no_more, next}
use Rattle.cutting.proofs.Prefix.{due-front, due_longer}
use Rattle.cutting.proofs.Scan.{due_fits}
use Rattle.receiver.specs.Answers.{verdict_of}
use Rattle.receiver.specs.Listening.{Still, Comes, Stops, Listens}
use Rattle.receiver.specs.declared.answer.Answer.{Answer}
use Rattle.receiver.specs.declared.answer.Answer.TheVariants.{Aborted, Refused, Frame, Paused, Dry}
use Rattle.path.specs.Runs.{noted}

-- where nothing is due behind place m up to place n, all that is due is the same behind either
module _ (s : Bits) (m n : ℕ) (still : Still s m n) where
  pub all_later : (l : List Placed) → m ≤ n → AllDue s m l → AllDue s n l
  all_later _ le (no_more f) = no_more (λ e v lo d. f e v (omega arith) d)
  all_later _ le (next x lo d g r) = next x (go (dec_lt n x.place)) d (λ k w a b c. g k w (omega arith) b c) r
    where
      go : Dec (n < x.place) → n < x.place
      go (yes h) = h
      go (no h) = absurd (still x.place x.verdict lo (omega arith) d)

  pub all_sooner : (l : List Placed) → m ≤ n → AllDue s n l → AllDue s m l
  all_sooner _ le (no_more f) = no_more (λ e v lo d. go e v lo d (dec_lt n e))
    where
      go : (e : ℕ) (v : Verdict) → m < e → Due s e v → Dec (n < e) → ⊥
      go e v lo d (yes h) = f e v h d
      go e v lo d (no h) = still e v lo (omega arith) d
  all_sooner _ le (next x lo d g r) = next x (omega arith) d (λ k w a b c. go k w a b c (dec_lt n k)) r
    where
      go : (k : ℕ) (w : Verdict) → m < k → k < x.place → Due s k w → Dec (n < k) → ⊥
      go k w a b c (yes h) = g k w h b c
      go k w a b c (no h) = still k w a (omega arith) c

-- all that is due in p, and then all that is due behind it in p ++ q
pub all_join : (p q : Bits) (n : ℕ) (l m : List Placed) → n ≤ length p → AllDue p n l → AllDue (p ++ q) (length p) m → AllDue (p ++ q) n (l ++ m)
all_join p q n _ m le (no_more f) r = all_sooner (p ++ q) n (length p) (λ e v lo hi d. f e v lo (due-front p q e v hi d)) m le r
all_join p q n _ m le (next {l = l} x lo d g r) behind =
    let fit = due_fits p x.place x.verdict d in
    next x lo (due_longer p q x.place x.verdict d) (λ k w a b c. g k w a b (due-front p q k w (omega arith) c))
    (all_join p q x.place l m fit.1 r behind)

pub all_within : (s : Bits) (n k : ℕ) (l : List Placed) → length s ≤ k → AllDue s n l → AllByRecursion (λ p. p.place ≤ k) l
all_within s n k _ le (no_more f) = tt
all_within s n k _ le (next {l = l} x lo d g r) = let fit = due_fits s x.place x.verdict d in (omega arith, all_within s x.place k l le r)

pub none-behind : (s : Bits) → AllDue s (length s) []
none-behind s = no_more (λ e v lo d. let fit = due_fits s e v d in omega arith)

-- a verdict comes of some bit
abbrev pub OfSome : Option Verdict → Bits → Type 0
OfSome None t = Unit {0}
OfSome (Some v) t = 0 < length t

-- behind the bits p came the bits t: all that is due then is what was due, and what came
pub all_more : (p t : Bits) (o : Option Verdict) (l : List Placed) → OfSome o t → Comes p t o → AllDue p 0 l → AllDue (p ++ t) 0 (l ++ noted o (length (p ++ t)))
all_more p t None l some still all =
    let n = length-append p t in
    all_join p t 0 l [] (omega arith) all (all_sooner (p ++ t) (length p) (length (p ++ t)) still [] (omega arith) (none-behind (p ++ t)))
all_more p t (Some v) l some came all =
    let n = length-append p t in
    all_join p t 0 l (noted (Some v) (length (p ++ t))) (omega arith) all
    (next (record { place = length (p ++ t); verdict = v }) (omega arith) came.0 came.1 (none-behind (p ++ t)))

-- the same on a longer row, looked at from behind the bits p: what came, and then all that is due behind it
pub all_from : (p t w : Bits) (o : Option Verdict) (m : List Placed) → OfSome o t → Comes p t o
    → AllDue ((p ++ t) ++ w) (length (p ++ t)) m → AllDue ((p ++ t) ++ w) (length p) (noted o (length (p ++ t)) ++ m)
all_from p t w None m some still all =
    let n = length-append p t in
    all_sooner ((p ++ t) ++ w) (length p) (length (p ++ t)) (λ e v lo hi d. still e v lo hi (due-front (p ++ t) w e v hi d)) m (omega arith) all
all_from p t w (Some v) m some came all =
    let n = length-append p t in
    next (record { place = length (p ++ t); verdict = v }) (omega arith) (due_longer (p ++ t) w (length (p ++ t)) v came.0)
    (λ k u lo hi d. came.1 k u lo hi (due-front (p ++ t) w k u (omega arith) d)) all

pub of_some : (a : Answer) (new : List ℕ) (allowance taken : ℕ) (after t : Bits) → Stops a allowance taken after → length t ≡ taken → OfSome (verdict_of a new) t
of_some Aborted new allowance taken after t stops counts = omega (arith, stops.0)
of_some (Refused f) new allowance taken after t stops counts = omega (arith, stops.0)
of_some (Frame n) new allowance taken after t stops counts = omega (arith, stops.0)
of_some Paused new allowance taken after t stops counts = tt
of_some Dry new allowance taken after t stops counts = tt

-- and so of one listening, for every history that the record stood for
pub all_heard : {was is : Bits → Type 0} {before after : Bits} {allowance taken : ℕ} {old new : List ℕ} {a : Answer}
    → (l : Listens was is before after allowance taken old new a) (h : Bits) (verdicts : List Placed) → was h → AllDue h 0 verdicts
    → AllDue (h ++ l.bits) 0 (verdicts ++ noted (verdict_of a new) (length (h ++ l.bits)))
all_heard {after = after} {allowance} {taken} {new = new} {a} l h verdicts w all =
    all_more h l.bits (verdict_of a new) verdicts (of_some a new allowance taken after l.bits l.stops l.counts) (l.told h w).1 all

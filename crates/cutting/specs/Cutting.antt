-- Cutting: which verdicts fall due where in a row of bits. Place n lies behind the first n bits.
use Rattle.std.specs.Prelude.{◌≡◌, ℕ, zero, suc, ◌-◌, ◌%◌, ◌<◌, Bool, true, false, ◌≢◌, List, [], ◌∷◌, ◌++◌, length, take, drop, replicate}
use Rattle.std.specs.List.{AllByRecursion}
use Rattle.bits.specs.Octets.{sent}
use Rattle.fcs.specs.Sequence.{trailer}
use Rattle.cutting.specs.Faults.{fault_number}
use Rattle.cutting.specs.declared.Fault.{Fault}
use Rattle.cutting.specs.declared.Fault.TheVariants.{MissingZero, TooLong, NotOctets, TooShort, WrongSequence}

-- bits, the first sent first; a 1 is `true`
abbrev pub Bits : Type 0
Bits = List Bool

-- the bits of s from place a up to place b; none where that runs backwards
abbrev pub part : Bits → ℕ → ℕ → Bits
part s a b = drop a (take b s)

abbrev pub ones : ℕ → Bits
ones n = replicate n true

abbrev pub flag : Bits
flag = false ∷ true ∷ true ∷ true ∷ true ∷ true ∷ true ∷ false ∷ []

-- a flag is complete at place e: the eight bits before it are one
abbrev pub FlagEnds : Bits → ℕ → Type 0
FlagEnds s e = part s (e - 8) e ≡ flag

-- a break is complete at place e: the seven bits before it are ones
abbrev pub BreakEnds : Bits → ℕ → Type 0
BreakEnds s e = part s (e - 7) e ≡ ones 7

-- a stretch is open from place b up to place e: a flag ends at b, and strictly between b and e neither a flag nor a break ends
pub record Open (s : Bits) (b e : ℕ) : Type 0 where
  pub before : b < e
  pub begins : FlagEnds s b
  pub no_flag : (k : ℕ) → b < k → k < e → FlagEnds s k → ⊥
  pub no_break : (k : ℕ) → b < k → k < e → BreakEnds s k → ⊥

-- removal leaves out the bit after every five ones, and counts on from there; k more ones are to come before a bit is left out
abbrev pub removal : ℕ → Bits → Bits
removal k [] = []
removal zero (b ∷ s) = removal 5 s
removal (suc k) (true ∷ s) = true ∷ removal k s
removal (suc k) (false ∷ s) = false ∷ removal 5 s

-- what removal leaves of a stretch
abbrev pub removed : Bits → Bits
removed x = removal 5 x

abbrev pub Octets : List ℕ → Type 0
Octets os = AllByRecursion (λ o. o < 256) os

-- what each refusal says of a stretch
abbrev pub Applies : Fault → Bits → Type 0
Applies MissingZero x = part x (length x - 5) (length x) ≡ ones 5
Applies TooLong x = 16504 < length (removed x)
Applies NotOctets x = length (removed x) % 8 ≢ 0
Applies TooShort x = length (removed x) < 88
Applies WrongSequence x = (os : List ℕ) → Octets os → removed x ≢ sent (os ++ trailer os)

pub data Verdict : Type 0 where
  aborted : Verdict
  refused : Fault → Verdict
  frame : List ℕ → Verdict

-- the verdict on a stretch that a flag closed: the first refusal that applies, else the frame whose octets and check sequence these are
pub data Judged (x : Bits) : Verdict → Type 0 where
  refuses : (f : Fault) → Applies f x → ((g : Fault) → fault_number g < fault_number f → Applies g x → ⊥) → Judged x (refused f)
  frames : (os : List ℕ) → ((f : Fault) → Applies f x → ⊥) → Octets os → removed x ≡ sent (os ++ trailer os) → Judged x (frame os)

-- how a stretch that is not empty ends at place e: a flag closes it, or a break ends it
pub data Ended (s : Bits) (b e : ℕ) : Verdict → Type 0 where
  closed : {v : Verdict} → FlagEnds s e → part s b (e - 8) ≢ [] → Judged (part s b (e - 8)) v → Ended s b e v
  broken : BreakEnds s e → part s b (e - 7) ≢ [] → Ended s b e aborted

-- verdict v falls due at place e: a stretch that is open up to there ends
abbrev pub Due : Bits → ℕ → Verdict → Type 0
Due s e v = (b : ℕ) × Open s b e × Ended s b e v

-- a verdict, and the place at which it falls due
pub record Placed : Type 0 where
  pub place : ℕ
  pub verdict : Verdict

-- all verdicts that fall due behind place n, in order: each is the next behind the one before, and behind the last there is none
pub data AllDue (s : Bits) : ℕ → List Placed → Type 0 where
  no_more : {n : ℕ} → ((e : ℕ) (v : Verdict) → n < e → Due s e v → ⊥) → AllDue s n []
  next : {n : ℕ} {l : List Placed} (p : Placed) → n < p.place → Due s p.place p.verdict
      → ((k : ℕ) (w : Verdict) → n < k → k < p.place → Due s k w → ⊥) → AllDue s p.place l → AllDue s n (p ∷ l)

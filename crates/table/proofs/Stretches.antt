-- The verdicts of the worked stretches.
use Rattle.std.proofs.Common.{◌≡◌, ℕ, codes, refl, arith}
use Rattle.bits.specs.Text.{text_bits}
use Rattle.cutting.specs.Cutting.{ones, refused}
use Rattle.cutting.specs.declared.Fault.TheVariants.{MissingZero, NotOctets, TooShort}
use Rattle.cutting.proofs.Judging.{judged}
use Rattle.cutting.proofs.Verdicts.{judged_missing, judged_ragged, judged_short}

pub missing : judged (ones 5) ≡ refused MissingZero
missing = judged_missing (ones 5) refl

pub seven : judged (text_bits (codes "0000000")) ≡ refused NotOctets
seven = judged_ragged (text_bits (codes "0000000")) (λ e. let z : ◌≡◌ {A = ℕ} 0 1 = cc in omega arith) (omega arith) (λ (e : ◌≡◌ {A = ℕ} 7 0). omega arith)

pub eight : judged (text_bits (codes "01010101")) ≡ refused TooShort
eight = judged_short (text_bits (codes "01010101")) (λ e. let z : ◌≡◌ {A = ℕ} 0 1 = cc in omega arith) refl (omega arith)

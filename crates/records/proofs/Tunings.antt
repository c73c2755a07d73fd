-- Tunings and their two octets: each tells the other.
use Rattle.std.proofs.Common.{◌≡◌, ℕ, ◌+◌, ◌*◌, ◌/◌, ◌%◌, arith}
use Rattle.records.specs.Laws.{TuningIsOne}
use Rattle.records.specs.declared.values.Tuning.{Tuning}

same_tuning : (m n s t : ℕ) → m ≡ n → s ≡ t → ◌≡◌ {A = Tuning} (record { modulation = m; steps = s }) (record { modulation = n; steps = t })
same_tuning m n s t p q = cc

pub tuning_one : TuningIsOne
tuning_one t u h k e =
    let first : t.modulation * 16 + t.steps / 256 ≡ u.modulation * 16 + u.steps / 256 = cc in
    let second : t.steps % 256 ≡ u.steps % 256 = cc in
    same_tuning t.modulation u.modulation t.steps u.steps (omega arith) (omega arith)

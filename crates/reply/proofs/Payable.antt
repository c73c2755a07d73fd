-- A reply for which there is room is not refused.
use Rattle.std.proofs.Common.{ℕ, ◌≤◌, Bool, List, length, arith}
use Rattle.frame.specs.Opening.{layout}
use Rattle.writer.specs.Writing.{foretold, Refused}
use Rattle.writer.specs.declared.single.WriteError.{WriteError}
use Rattle.writer.specs.declared.single.WriteError.TheVariants.{Unsuited, TooLong, NoRoom}
use Rattle.reply.specs.Paying.{answer}
use Rattle.reply.specs.declared.debt.Debt.{Debt}

pub payable : (d : Debt) (g : Bool) (os : List ℕ) (room : ℕ) (e : WriteError) → length os ≤ 2052 → foretold (length (layout (answer d g os))) ≤ room
    → Refused (answer d g os) room e → ⊥
payable d g os room Unsuited few enough r = r (tt, tt)
payable d g os room TooLong few enough r = omega (arith, r.1)
payable d g os room NoRoom few enough r = omega (arith, r.2)

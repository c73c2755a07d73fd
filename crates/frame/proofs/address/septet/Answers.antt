use Rattle.std.proofs.lemmas.Nat.{and_mask}
use Rattle.frame.proofs.Septets.{septet-made}
use Rattle.frame.proofs.address.septet.Goals as goal

pub returns : goal.returns
returns c = rw (c.from.ensures, c.reverse_bits.ensures, and_mask c.args.bits 7) (septet-made c.args.mark c.args.bits)

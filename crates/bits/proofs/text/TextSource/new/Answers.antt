use Rattle.std.proofs.Common.{sym, ap, arith}
use Rattle.std.proofs.lemmas.List.{take_all}
use Rattle.bits.specs.Text.{text_bits}
use Rattle.bits.proofs.text.TextSource.new.Goals as goal

pub returns-else-octets-gt-MOST_TEXT : goal.returns-else-octets-gt-MOST_TEXT
returns-else-octets-gt-MOST_TEXT c = ap text_bits (sym (take_all 65536 c.args.octets.now (omega arith)))

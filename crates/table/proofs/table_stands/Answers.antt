use Rattle.std.proofs.Common.{[], ◌∷◌, ◌++◌, codes, refl, subst}
use mathlib.Core.Bool.{xor}
use Rattle.std.specs.Fmt.{digits}
use Rattle.bits.specs.Octets.{low, value, sent}
use Rattle.bits.specs.Text.{text_bits}
use Rattle.fcs.specs.Sequence.{moved, after, sequence}
use Rattle.frame.specs.Addresses.{septet}
use Rattle.cutting.specs.Cutting.{flag, ones, Verdict, aborted, refused, AllDue}
use Rattle.cutting.specs.declared.Fault.TheVariants.{NotOctets}
use Rattle.cutting.proofs.Judging.{judged}
use Rattle.cutting.proofs.Scan.{scan_cuts}
use Rattle.table.specs.Table.{trace_input}
use Rattle.table.proofs.Stretches.{missing, seven, eight}
use Rattle.table.proofs.table_stands.Goals as goal

pub returns : goal.returns
unfolding low value sent moved after sequence septet xor digits
returns c =
    record {
      stuffing = refl;
      aircraft = refl;
      broadcast = refl;
      ground = refl;
      info = refl;
      xid = refl;
      tuning = refl;
      location = refl;
      sequence = refl;
      missing = subst (λ (v : Verdict). AllDue (flag ++ (ones 5 ++ flag)) 0 (record { place = 21; verdict = v } ∷ [])) missing (scan_cuts (flag ++ (ones 5 ++ flag)));
      shared = scan_cuts (text_bits (codes "011111101111110"));
      traced = (
        subst (λ (v : Verdict). AllDue (text_bits trace_input) 0 (record { place = 23; verdict = refused NotOctets } ∷ record { place = 39; verdict = v } ∷ record { place = 48; verdict = aborted } ∷ [])) eight
            (subst (λ (v : Verdict). AllDue (text_bits trace_input) 0 (record { place = 23; verdict = v } ∷ record { place = 39; verdict = judged (text_bits (codes "01010101")) } ∷ record { place = 48; verdict = aborted } ∷ [])) seven
            (scan_cuts (text_bits trace_input))),
        refl,
        refl,
        refl,
        refl,
      );
    }

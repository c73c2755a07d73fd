use Rattle.cutting.proofs.Scanner.{lost}
use Rattle.cutting.proofs.Scan.{scan, scan_cuts, all_one, due_one}
use Rattle.cutting.proofs.Members.{all_in}
use Rattle.cutting.proofs.Prefix.{due-front, due_longer}
use Rattle.cutting.proofs.Local.{local_to, local_from}
use Rattle.cutting.proofs.cutting_stands.Goals as goal

pub returns : goal.returns
returns c = record {
  one = due_one;
  all_one = λ s. (scan lost 0 s, scan_cuts s, λ m a. all_one s 0 m (scan lost 0 s) a (scan_cuts s));
  all = all_in;
  causal = λ p q e v h. (due-front p q e v h, due_longer p q e v);
  local = λ pre rest e v h. (local_to pre rest e v h, local_from pre rest e v h);
}

use Rattle.path.proofs.Cuts.{runs_are_cut}
use Rattle.path.proofs.Written.{heard_behind, written_read, written_apart}
use Rattle.path.proofs.ends.ends_stand.Goals as goal

pub returns : goal.returns
returns c =
    record {
      heard = λ start r legs leg turns pre bits frames run e p. heard_behind leg pre bits frames (runs_are_cut start r _ legs leg turns run).1.since e p;
      read = written_read;
      apart = written_apart;
    }

use Rattle.path.proofs.Cuts.{runs_are_cut}
use Rattle.path.proofs.runs.runs_stand.Goals as goal

pub returns : goal.returns
returns c = runs_are_cut

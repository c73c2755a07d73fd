use Rattle.layers.proofs.Combining.{combined_twice}
use Rattle.layers.proofs.Undoing.{given_back, put_undone}
use Rattle.layers.proofs.Sequences.{follows, begins, only}
use Rattle.layers.proofs.laws.layers_stand.Goals as goal

pub returns : goal.returns
returns c =
    record {
      ruled = λ given e. record { rule = follows given e; begins = begins given e; only = λ s r b i. only s r given e b i };
      undone = combined_twice;
      given_back = given_back;
      put_undone = put_undone;
    }

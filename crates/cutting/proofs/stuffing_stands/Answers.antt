use Rattle.cutting.proofs.Stuffs.{removed-stuffed, stuffed_whole, no_six, stuffed-length}
use Rattle.cutting.proofs.Written.{put_cut, put_apart}
use Rattle.cutting.proofs.stuffing_stands.Goals as goal

pub returns : goal.returns
returns c = record {
  undone = λ s. (removed-stuffed s, stuffed_whole s);
  parted = no_six;
  fits = stuffed-length;
  cut = put_cut;
  apart = put_apart;
}

-- The four laws of the layouts, of which the function's contract consists.
use Rattle.records.proofs.Tunings.{tuning_one}
use Rattle.records.proofs.Places.{place_one}
use Rattle.records.proofs.Listings.{stations_listed, frequencies_listed}
use Rattle.records.proofs.records_stand.Goals as goal

pub returns : goal.returns
returns c = record { tuning = tuning_one; location = place_one; stations = stations_listed; frequencies = frequencies_listed }

-- What an information is read as.
use Rattle.std.specs.Prelude.{◌≡◌, ℕ, List, Ok, Result}
use Rattle.frame.specs.declared.control.Control.{Control}
use Rattle.frame.specs.declared.control.Control.TheVariants.{Information, Supervisory as S, Unnumbered as U}
use Rattle.frame.specs.declared.control.Unnumbered.TheVariants.{Ui, Dm, Disc, Ua, Frmr, Xid, Test}
use Rattle.faults.specs.declared.ExchangeFault.{ExchangeFault}
use Rattle.xid.specs.Moving.{Counts}

-- the information of an XID is read as an exchange field; that of any other frame has no parameters
abbrev pub ReadAs : Control → List ℕ → Result ℕ ExchangeFault → Type 0
ReadAs (Information send poll receive) os r = r ≡ Ok 0
ReadAs (S function poll receive) os r = r ≡ Ok 0
ReadAs (U Ui poll) os r = r ≡ Ok 0
ReadAs (U Dm poll) os r = r ≡ Ok 0
ReadAs (U Disc poll) os r = r ≡ Ok 0
ReadAs (U Ua poll) os r = r ≡ Ok 0
ReadAs (U Frmr poll) os r = r ≡ Ok 0
ReadAs (U Xid poll) os r = Counts os r
ReadAs (U Test poll) os r = r ≡ Ok 0

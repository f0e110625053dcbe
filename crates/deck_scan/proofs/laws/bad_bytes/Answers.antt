use Rattle.deck_scan.proofs.BadBytes.{first_bad, only_bad, none_bad, all_good}
use Rattle.deck_scan.proofs.laws.bad_bytes.Goals as goal

pub returns : goal.returns
returns c = record { first = first_bad 1; only = only_bad 1; none = none_bad 1; good = all_good 1 }

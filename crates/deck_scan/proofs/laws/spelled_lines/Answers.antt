use Rattle.deck_scan.proofs.Pieced.{spelled_is, spelled_found, one_spelled}
use Rattle.deck_scan.proofs.laws.spelled_lines.Goals as goal

pub returns : goal.returns
returns c = record { read = spelled_is; spells = spelled_found; one = one_spelled }

use Rattle.std.proofs.Common.{◌≡◌, ℕ, List, true, None, length}
use Rattle.std.specs.List.{list_all}
use Rattle.grs_base.specs.Printed.{is_printable}
use Rattle.deck_scan.proofs.Rows.{Along}
use Rattle.deck_scan.proofs.row.read_apart.Given as goal

abbrev pub invariant-loop-b : goal.invariant-loop-b
invariant-loop-b l = record {
  along : (more : List ℕ) → Along l.at l.text l.row l.rest more;
  printable : list_all is_printable l.rest ≡ true;
  apart : l.row.begun ≡ None;
}

abbrev pub decreases-loop-b : goal.decreases-loop-b
decreases-loop-b l = length l.rest

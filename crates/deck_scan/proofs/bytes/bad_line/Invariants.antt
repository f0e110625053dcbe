use Rattle.std.proofs.Common.{◌≡◌, ◌+◌, ◌≤◌, length}
use Rattle.deck_scan.specs.Bytes.{bad_line}
use Rattle.deck_scan.proofs.bytes.bad_line.Given as goal

abbrev pub invariant-loop-b : goal.invariant-loop-b
invariant-loop-b l = record {
  reads : bad_line l.line l.rest ≡ bad_line 1 l.text;
  small : l.line + length l.rest ≤ length l.text + 1;
}

abbrev pub decreases-loop-b : goal.decreases-loop-b
decreases-loop-b l = length l.rest

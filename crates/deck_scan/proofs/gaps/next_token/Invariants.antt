use Rattle.std.proofs.Common.{◌≡◌, length}
use Rattle.deck_scan.specs.Rows.{coming}
use Rattle.deck_scan.proofs.gaps.next_token.Given as goal

abbrev pub invariant-loop-at : goal.invariant-loop-at
invariant-loop-at l = coming l.at ≡ coming l.from

abbrev pub decreases-loop-at : goal.decreases-loop-at
decreases-loop-at l = length l.at.rest.now

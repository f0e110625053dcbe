use Rattle.std.proofs.Common.{length}
use Rattle.deck_scan.proofs.Pieces.{Undoubled}
use Rattle.deck_scan.proofs.row.doubled.Given as goal

abbrev pub invariant-loop-name : goal.invariant-loop-name
invariant-loop-name l = Undoubled l.text l.name l.rest

abbrev pub decreases-loop-name : goal.decreases-loop-name
decreases-loop-name l = length l.rest

use Rattle.std.proofs.Common.{length}
use Rattle.deck_scan.proofs.Opened.{Sought}
use Rattle.deck_scan.proofs.closes.bytes_to_close.Given as goal

abbrev pub invariant-loop-left : goal.invariant-loop-left
invariant-loop-left l = Sought l.text l.closes l.inside l.left l.rest

abbrev pub decreases-loop-left : goal.decreases-loop-left
decreases-loop-left l = length l.rest

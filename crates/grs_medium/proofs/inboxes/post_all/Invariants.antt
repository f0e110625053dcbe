use Rattle.std.proofs.Common.{length}
use Rattle.grs_medium.proofs.SpaceLaws.{Posting}
use Rattle.grs_medium.proofs.inboxes.post_all.Given as goal

abbrev pub invariant-systems : goal.invariant-systems
invariant-systems l =
    Posting l.target l.initial.moved.items l.initial.boxes.items l.moved.items l.boxes.items

abbrev pub decreases-systems : goal.decreases-systems
decreases-systems l = length l.moved.items

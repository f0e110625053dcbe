use Rattle.std.proofs.Common.{◌≡◌, ◌-◌}
use Rattle.grs_track.specs.Tracks.{view_of}
use Rattle.grs_audit.specs.Lines.{lines_in}
use Rattle.grs_audit.proofs.WalkLaws.{before, IsWalked}
use Rattle.grs_audit.proofs.walk.walk_on.Given as goal

abbrev pub invariant-entries : goal.invariant-entries
invariant-entries l = record {
  deck : l.tracks.deck ≡ l.deck;
  at : IsWalked l.deck l.count (lines_in l.text) (lines_in l.rest) l.done (before (lines_in l.text) (lines_in l.rest))
      (view_of l.tracks);
}

abbrev pub decreases-entries : goal.decreases-entries
decreases-entries l = l.count - l.done

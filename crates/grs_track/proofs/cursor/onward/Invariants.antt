use Rattle.std.proofs.Common.{ℕ, ◌-◌, length}
use Rattle.grs_track.specs.Walk.{IsPast}
use Rattle.grs_track.proofs.cursor.onward.Given as goal

abbrev pub invariant-lines : goal.invariant-lines
invariant-lines l =
    (asked : ℕ) → IsPast l.lines asked l.fn.from.place l.fn.from.part → IsPast l.lines asked l.place l.part

abbrev pub decreases-lines : goal.decreases-lines
decreases-lines l = length l.lines - l.place

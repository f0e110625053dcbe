use Rattle.std.proofs.Common.{◌≡◌, ◌+◌, length}
use Rattle.std.specs.Io.KnownBytes.{Consumes}
use Rattle.grs_io.proofs.whole.read_all.Given as goal

abbrev pub invariant-loop-room : goal.invariant-loop-room
invariant-loop-room g l =
    (length l.text + l.room ≡ l.limit + 1)
    × Consumes (g.S.Source.left l.initial.source) (g.S.Source.left l.source) l.text
    × (g.S.Source.faults l.source ≡ g.S.Source.faults l.initial.source)

abbrev pub decreases-loop-room : goal.decreases-loop-room
decreases-loop-room g l = l.room

use Rattle.std.proofs.Common.{◌≡◌, drop}
use Rattle.grs_track.specs.Walk.{stand}
use Rattle.grs_track.proofs.walk.stand_in.Given as goal

abbrev pub invariant-loop-place : goal.invariant-loop-place
invariant-loop-place l =
    stand l.table.elements l.task l.resolver (drop l.place l.lines) l.place l.left
    ≡ stand l.table.elements l.task l.resolver (drop l.fn.from.place l.lines) l.fn.from.place l.fn.from.part

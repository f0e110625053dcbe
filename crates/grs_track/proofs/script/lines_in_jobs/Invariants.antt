use Rattle.std.proofs.Common.{◌≡◌, drop}
use Rattle.std.specs.Prelude.{slice_get}
use Rattle.grs_legal.specs.Asks.{lines_at, lines_in, scripts_from}
use Rattle.grs_track.proofs.script.lines_in_jobs.Given as goal

abbrev pub invariant-loop-number : goal.invariant-loop-number
invariant-loop-number l =
    lines_at l.task.job (slice_get (scripts_from l.number (drop l.number l.jobs)) l.place)
    ≡ lines_in (scripts_from 0 l.jobs) l.task

use Rattle.std.proofs.Common.{◌≡◌, ◌++◌, ◌+◌, drop}
use Rattle.grs_enf.specs.Notices.{notices_by, told_step, told_notices}
use Rattle.grs_enf.proofs.watch.notices_of.Given as goal

abbrev pub invariant-loop-place : goal.invariant-loop-place
invariant-loop-place l =
    l.noted ++ notices_by told_step l.watch (l.place + 1) (drop l.place l.hist) ≡ told_notices l.hist

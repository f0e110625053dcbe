use Rattle.std.proofs.Common.{◌≡◌, ◌++◌, drop}
use Rattle.grs_enf.specs.Notices.{noted}
use Rattle.grs_enf.proofs.watch.put_noted.Given as goal

abbrev pub invariant-loop-notice : goal.invariant-loop-notice
invariant-loop-notice l =
    l.out ++ noted l.entry (drop l.notice-index l.notices) ≡ l.initial.out ++ noted l.entry l.notices

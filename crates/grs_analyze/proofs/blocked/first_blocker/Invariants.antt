use Rattle.std.proofs.Common.{◌≡◌, drop}
use Rattle.grs_analyze.specs.Waits.{first_blocker}
use Rattle.grs_analyze.proofs.blocked.first_blocker.Given as goal

abbrev pub invariant-loop-elem : goal.invariant-loop-elem
invariant-loop-elem l = first_blocker l.ctl (drop l.elem-index l.elems) ≡ first_blocker l.ctl l.elems

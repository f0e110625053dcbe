use Rattle.std.proofs.Common.{◌≡◌}
use Rattle.grs_medium.specs.Medium.{systems_of}
use Rattle.call_tests.proofs.medium.all_right.Given as goal

abbrev pub invariant-loop-case : goal.invariant-loop-case
invariant-loop-case l = systems_of l.medium.state ≡ 2

use Rattle.std.proofs.Common.{◌≡◌, ◌++◌, drop}
use Rattle.grs_analyze.proofs.numbered.listed.Given as goal

abbrev pub invariant-loop-place : goal.invariant-loop-place
invariant-loop-place l = l.list ++ drop l.place l.tasks.keys ≡ l.tasks.keys

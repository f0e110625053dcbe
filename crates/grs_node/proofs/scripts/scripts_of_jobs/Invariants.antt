use Rattle.std.proofs.Common.{◌≡◌, ◌++◌, drop}
use Rattle.grs_legal.specs.Asks.{scripts_from}
use Rattle.grs_node.proofs.scripts.scripts_of_jobs.Given as goal

abbrev pub invariant-loop-place : goal.invariant-loop-place
invariant-loop-place l = l.scripts.items ++ scripts_from l.place (drop l.place l.jobs) ≡ scripts_from 0 l.jobs

use Rattle.std.proofs.Common.{◌≡◌, ◌++◌, length}
use Rattle.system_purge.specs.Gather.{records_of}
use Rattle.system_purge.proofs.part.records_of.Given as goal

abbrev pub invariant-loop-name : goal.invariant-loop-name
invariant-loop-name l = l.all ++ records_of l.rest l.left ≡ records_of l.names l.states

abbrev pub decreases-loop-name : goal.decreases-loop-name
decreases-loop-name l = length l.rest

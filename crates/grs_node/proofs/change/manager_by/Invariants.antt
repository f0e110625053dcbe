use Rattle.grs_node.proofs.Loading.{LoadedBelow}
use Rattle.grs_node.proofs.change.manager_by.Given as goal

abbrev pub invariant-loop-entry : goal.invariant-loop-entry
invariant-loop-entry l = LoadedBelow l.fn.system l.entries l.roles.managed l.roles.parts l.entry l.manager

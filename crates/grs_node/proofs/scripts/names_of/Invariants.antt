use Rattle.std.proofs.Common.{◌≡◌, ◌++◌, drop}
use Rattle.grs_node.specs.Names.{names_from}
use Rattle.grs_node.proofs.scripts.names_of.Given as goal

abbrev pub invariant-loop-place : goal.invariant-loop-place
invariant-loop-place l =
    l.names ++ names_from l.system.0 l.place (drop l.place l.scripts) ≡ names_from l.system.0 0 l.scripts

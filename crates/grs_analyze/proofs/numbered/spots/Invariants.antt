use Rattle.std.proofs.Common.{◌≡◌, ◌++◌, drop}
use Rattle.grs_analyze.specs.Greatest.{with_tasks}
use Rattle.grs_analyze.specs.Numbered.{elems_of, AreNamed}
use Rattle.grs_analyze.proofs.numbered.spots.Given as goal

abbrev pub invariant-loop-elem : goal.invariant-loop-elem
invariant-loop-elem l = record {
  tasks : with_tasks l.tasks.keys (drop l.elem-index l.elems) ≡ with_tasks l.initial.tasks.keys l.elems;
  elems : elems_of l.spots ++ drop l.elem-index l.elems ≡ l.elems;
  named : AreNamed l.tasks.keys l.spots;
}

use Rattle.grs_world.proofs.Common.{◌++◌, ◌≡◌, told_by}
use Rattle.grs_world.proofs.world.add_told.Given as goal

abbrev pub invariant-loop-line : goal.invariant-loop-line
invariant-loop-line l =
    l.all ++ told_by l.event l.system l.line-iterator.rest.items ≡ l.fn.all ++ told_by l.event l.system l.fn.lines

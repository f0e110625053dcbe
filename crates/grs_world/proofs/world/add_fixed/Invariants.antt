use Rattle.grs_world.proofs.Common.{◌++◌, ◌≡◌, fixed_by}
use Rattle.grs_world.proofs.world.add_fixed.Given as goal

abbrev pub invariant-loop-one : goal.invariant-loop-one
invariant-loop-one l = l.all ++ fixed_by l.system l.one-iterator.rest.items ≡ l.fn.all ++ fixed_by l.system l.fn.fixed

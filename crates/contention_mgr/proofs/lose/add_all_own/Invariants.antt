use Rattle.std.proofs.Common.{◌≡◌, ◌++◌, drop}
use Rattle.std.specs.List.{flat_map}
use Rattle.contention_mgr.specs.Loses.{own_freed}
use Rattle.contention_mgr.proofs.lose.add_all_own.Given as goal

abbrev pub invariant-loop-one : goal.invariant-loop-one
invariant-loop-one l =
    l.owners ++ flat_map (own_freed l.system.0) (drop l.one-index l.freed)
    ≡ l.initial.owners ++ flat_map (own_freed l.system.0) l.freed

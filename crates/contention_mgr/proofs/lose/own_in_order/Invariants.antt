use Rattle.std.proofs.Common.{◌≡◌, ◌++◌, drop}
use Rattle.std.specs.List.{flat_map}
use Rattle.contention_mgr.specs.Loses.{own_freed}
use Rattle.contention_mgr.proofs.lose.own_in_order.Given as goal

abbrev pub invariant-loop-freed : goal.invariant-loop-freed
invariant-loop-freed l =
    l.owners ++ flat_map (λ fs. flat_map (own_freed l.system.0) fs) (drop l.freed-index l.all)
    ≡ flat_map (λ fs. flat_map (own_freed l.system.0) fs) l.all

use Rattle.std.proofs.Common.{◌≡◌, ◌++◌, map, take, drop}
use Rattle.std.specs.Option.{option_map}
use Rattle.contention_mgr.specs.Loses.{lost}
use Rattle.contention_mgr.proofs.manager.lose_all.Given as goal

abbrev pub invariant-loop-i : goal.invariant-loop-i
invariant-loop-i l =
    l.slots.items
    ≡ map (option_map (lost l.system.0 l.target.0)) (take l.i l.initial.slots.items) ++ drop l.i l.initial.slots.items

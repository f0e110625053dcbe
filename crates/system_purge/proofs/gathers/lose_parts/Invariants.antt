use Rattle.std.proofs.Common.{◌≡◌, ◌++◌, map, take, drop}
use Rattle.std.specs.Option.{option_map}
use Rattle.system_purge.specs.Gathers.{without_sender}
use Rattle.system_purge.proofs.gathers.lose_parts.Given as goal

abbrev pub invariant-loop-i : goal.invariant-loop-i
invariant-loop-i l =
    l.slots.items
    ≡ map (option_map (without_sender l.system)) (take l.i l.initial.slots.items) ++ drop l.i l.initial.slots.items

use Rattle.std.proofs.Common.{◌≡◌, map, take}
use Rattle.contention_mgr.specs.Loses.{freed_at}
use Rattle.contention_mgr.proofs.manager.freed_in.Given as goal

abbrev pub invariant-loop-slot : goal.invariant-loop-slot
invariant-loop-slot l = l.all ≡ map (freed_at l.target.0) (take l.slot-index l.slots)

use Rattle.std.proofs.Common.{◌≡◌, take}
use Rattle.grs_base.proofs.list.copy_all.Given as goal

abbrev pub invariant-loop-item : goal.invariant-loop-item
invariant-loop-item g l = l.list ≡ take l.item-index l.items

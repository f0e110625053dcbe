use Rattle.std.proofs.Common.{◌≡◌, drop}
use Rattle.qel_store.specs.Items.{members, is_in}
use Rattle.qel_store.specs.Rings.{first_key}
use Rattle.qel_store.proofs.rings.ahead.Given as goal

abbrev pub invariant-loop-i : goal.invariant-loop-i
invariant-loop-i g l = l.key ≡ first_key (drop l.i (members (is_in l.fn._queue) l.elements.items)) l.fn.ring.first

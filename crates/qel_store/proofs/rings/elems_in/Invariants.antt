use Rattle.std.proofs.Common.{◌≡◌, ◌++◌, drop}
use Rattle.qel_store.specs.Items.{members, is_in, elems_of}
use Rattle.qel_store.specs.Rings.{first_key}
use Rattle.qel_store.proofs.rings.elems_in.Given as goal

abbrev pub invariant-loop-i : goal.invariant-loop-i
invariant-loop-i g l =
    let ms = members (is_in l.fn._queue) l.elements.items in
    record {
      key : l.key ≡ first_key (drop l.i ms) l.fn.ring.first;
      so_far : l.elems ++ elems_of (drop l.i ms) ≡ elems_of ms;
    }

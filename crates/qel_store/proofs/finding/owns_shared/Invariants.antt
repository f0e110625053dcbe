use Rattle.std.proofs.Common.{◌≡◌, Some, drop}
use Rattle.grs_base.specs.Lists.{owns_shared}
use Rattle.qel_store.specs.Items.{members, is_in, is_of, key_of, elems_of}
use Rattle.qel_store.specs.Rings.{first_key}
use Rattle.qel_store.proofs.finding.owns_shared.Given as goal

-- the key at this place, before which all are shared and of other tasks
abbrev pub invariant-loop-i : goal.invariant-loop-i
invariant-loop-i g l =
    let ms = members (is_in l.fn._queue) l.elements.items in
    record {
      key : l.at ≡ first_key (drop l.i ms) l.fn.ring.first;
      own : key_of (is_of l.fn._task) (drop l.i ms) ≡ Some l.fn.key;
      rest : owns_shared (elems_of (drop l.i ms)) l.fn._task ≡ owns_shared (elems_of ms) l.fn._task;
    }

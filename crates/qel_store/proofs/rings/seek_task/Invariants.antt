use Rattle.std.proofs.Common.{◌≡◌, drop}
use Rattle.qel_store.specs.Items.{members, is_in, is_of, key_of}
use Rattle.qel_store.specs.Rings.{first_key}
use Rattle.qel_store.proofs.rings.seek_task.Given as goal

-- the key at this place, and none that passes stands before it
abbrev pub invariant-loop-i : goal.invariant-loop-i
invariant-loop-i g l =
    let ms = members (is_in l.fn._queue) l.elements.items in
    record {
      key : l.key ≡ first_key (drop l.i ms) l.fn.ring.first;
      rest : key_of (is_of l.fn.task) (drop l.i ms) ≡ key_of (is_of l.fn.task) ms;
    }

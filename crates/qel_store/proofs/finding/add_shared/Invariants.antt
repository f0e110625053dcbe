use Rattle.std.proofs.Common.{◌≡◌, ◌++◌, drop}
use Rattle.grs_base.specs.Behind.{shared_tasks}
use Rattle.qel_store.specs.Items.{members, is_in, elems_of}
use Rattle.qel_store.specs.Rings.{first_key}
use Rattle.qel_store.proofs.finding.add_shared.Given as goal

abbrev pub invariant-loop-place : goal.invariant-loop-place
invariant-loop-place g l =
    let ms = members (is_in l.fn._queue) l.elements.items in
    record {
      key : l.key ≡ first_key (drop l.place ms) l.fn.ring.first;
      rest : l.tasks ++ shared_tasks (elems_of (drop l.place ms))
          ≡ l.fn.tasks ++ shared_tasks (elems_of (drop l.fn.from ms));
    }

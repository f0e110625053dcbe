use Rattle.std.proofs.Common.{◌≡◌, ◌+◌, drop}
use Rattle.grs_base.specs.Lists.{shared_front}
use Rattle.qel_store.specs.Items.{members, is_in, elems_of}
use Rattle.qel_store.specs.Rings.{first_key}
use Rattle.qel_store.proofs.finding.shared_of.Given as goal

-- the key at this place, before which all are shared
abbrev pub invariant-loop-len : goal.invariant-loop-len
invariant-loop-len g l =
    let ms = members (is_in l.fn._queue) l.elements.items in
    record {
      key : l.key ≡ first_key (drop l.len ms) l.fn.ring.first;
      rest : l.len + shared_front (elems_of (drop l.len ms)) ≡ shared_front (elems_of ms);
    }

use Rattle.std.proofs.Common.{◌≡◌, ◌≤◌, length}
use Rattle.queue_table.specs.Names.{named, IsTable}
use Rattle.queue_table.proofs.resources.let_all_go.Given as goal

abbrev pub invariant-places : goal.invariant-places
invariant-places g l =
    let elements = g.Q.Queues.elements in
    record {
      table : IsTable l.numbers.entries (elements l.queues) (g.Q.Queues.is_live l.queues);
      elements : named l.numbers.entries (elements l.queues) ≡ named l.fn.numbers.entries (elements l.fn.queues);
      fewer : length l.numbers.entries ≤ length l.fn.numbers.entries;
    }

abbrev pub decreases-places : goal.decreases-places
decreases-places g l = l.place

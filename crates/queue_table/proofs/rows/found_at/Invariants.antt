use Rattle.std.proofs.Common.{Some}
use Rattle.queue_table.specs.Classes.{class_at}
use Rattle.queue_table.specs.Shown.{numbers_of, may_show}
use Rattle.queue_table.proofs.ClassLemmas.{way_left}
use Rattle.queue_table.proofs.RowLemmas.{Gathers}
use Rattle.queue_table.proofs.rows.found_at.Given as goal

abbrev pub invariant-places : goal.invariant-places
invariant-places g l =
    Gathers (may_show (Some l.place) l.chosen) (class_at l.place) l.numbers.entries (g.Q.Queues.elements l.queues)
    (numbers_of l.found.items) l.next

abbrev pub decreases-places : goal.decreases-places
decreases-places g l = way_left l.next

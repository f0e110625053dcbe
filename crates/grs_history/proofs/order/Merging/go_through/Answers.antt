use Rattle.std.proofs.Common.{map}
use Rattle.grs_history.specs.Merge.{quiet_fronts, without_front, in_order}
use Rattle.grs_history.proofs.MergeLaws.{still-begun, still-entry, leads-last}
use Rattle.grs_history.proofs.order.Merging.go_through.Goals as goal

pub loop-entry-init : goal.loop-entry-init
loop-entry-init c = record {
  still =
      still-begun c.args.self.now.table.elements c.args.self.now.merged
      (quiet_fronts 0 (map (λ l. l.now) c.args.logs.now)) c.begin.new.self.table.elements c.begin.new.self.merged
      (map without_front (map (λ l. l.now) c.args.logs.now)) (map (λ r. r.now) c.in_ok-rests.rests.items)
      c.args.journal.now c.in_ok-rests.ensures.leads c.in_ok-rests.ensures.rests;
  few = c.begin.ensures.few;
}

pub loop-entry-preserved : goal.loop-entry-preserved
loop-entry-preserved c = record {
  still =
      still-entry c.args.self.now.table.elements c.args.self.now.merged
      (in_order c.args.journal.now (map (λ x. x.now) c.args.logs.now)) c.loop-entry.self.table.elements
      c.loop-entry.self.merged (map (λ r. r.now) c.loop-entry.rests.items) c.args.journal.now
      c.loop-entry.entry-index c.entry-item.result c.go_on.new.self.table.elements c.go_on.new.self.merged
      (map (λ r. r.now) c.go_on.new.rests.items) c.loop-entry-test.true c.entry-item.is c.loop-entry.invariant.still
      c.in_ok-go_on.ensures.leads c.go_on.ensures.rests;
  few = c.go_on.ensures.few;
}

pub returns-clause-leads : goal.returns-clause-leads
returns-clause-leads c =
    leads-last c.args.self.now.table.elements c.args.self.now.merged
    (in_order c.args.journal.now (map (λ x. x.now) c.args.logs.now)) c.loop-entry.self.table.elements
    c.loop-entry.self.merged (map (λ r. r.now) c.loop-entry.rests.items) c.args.journal.now c.loop-entry.entry-index
    c.loop-entry-test.false c.loop-entry.invariant.still

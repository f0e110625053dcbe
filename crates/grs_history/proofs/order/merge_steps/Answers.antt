use Rattle.std.proofs.Common.{map}
use Rattle.grs_history.specs.Merge.{in_order}
use Rattle.grs_history.proofs.MergeLaws.{leads-all}
use Rattle.grs_history.proofs.order.merge_steps.Goals as goal

pub returns-clause-merged : goal.returns-clause-merged
returns-clause-merged c =
    leads-all c.new-2.result.elements (record { events = c.new-3.result; hist = c.new-4.result; told = c.new-5.result })
    (in_order c.args.journal.now (map (λ x. x.now) c.args.logs.now)) c.go_through.new.self.table.elements
    c.go_through.new.self.merged c.new-2.ensures c.new-3.ensures c.new-4.ensures c.new-5.ensures
    c.in_ok-go_through.ensures.leads

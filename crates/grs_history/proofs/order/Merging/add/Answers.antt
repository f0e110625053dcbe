use Rattle.std.proofs.Common.{◌∙◌, ap, rules}
use Rattle.grs_history.specs.Merging.{after_all_fixed}
use Rattle.grs_history.proofs.MergeLaws.{leads-by}
use Rattle.grs_history.proofs.order.Merging.add.Goals as goal

pub returns-clause-leads : goal.returns-clause-leads
returns-clause-leads c =
    leads-by c.args.self.now.table.elements c.args.self.now.merged (c.args.system, c.args.step.now) _ _
    c.len-event.result
    (c.in_ok-add_fixed.ensures.after ∙ ap (after_all_fixed c.args.self.now.table.elements) c.as_slice-fixed.ensures)
    c.in_ok-push.ensures.ok
    (search (rules, c.in_ok-add_fixed.ensures.entries, c.as_slice-fixed.ensures))
    c.len-event.ensures
    (search (rules, c.in_ok-add_told.ensures, c.as_slice-lines.ensures))

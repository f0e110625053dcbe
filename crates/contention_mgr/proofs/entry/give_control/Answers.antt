use Rattle.contention_mgr.specs.Marks.{mark_in}
use Rattle.contention_mgr.proofs.ItemLemmas.{control-other}
use Rattle.contention_mgr.proofs.entry.give_control.Goals as goal

pub returns-then-system-task : goal.returns-then-system-task
returns-then-system-task c =
    control-other (mark_in c.args.marks.now.names.entries c.args.marks.now.marks.entries)
    (mark_in c.set.new.self.names.entries c.set.new.self.marks.entries) c.args.res.now c.args.task c.set.ensures
    c.args.system.0 c.args.task.system.0 c.if-system-task.true

use Rattle.contention_mgr.specs.Marks.{mark_in}
use Rattle.contention_mgr.proofs.ItemLemmas.{control-more, control-none}
use Rattle.contention_mgr.proofs.entry.give_all_control.Goals as goal

pub tasks-preserved : goal.tasks-preserved
tasks-preserved c = λ s are.
    let so = c.tasks.invariant s are in
    let step = c.give_control.ensures s so.1 in (
      control-more c.args.system.0 c.args.res.now (mark_in c.tasks.marks.names.entries c.tasks.marks.marks.entries)
          (mark_in c.give_control.new.marks.names.entries c.give_control.new.marks.marks.entries) c.tasks.rest.now
          c.in-Some.tail.now c.in-Some.task.now s _ c.in-Some.ensures.cases.0 so.0 step.0,
      step.1,
    )

pub returns : goal.returns
returns c = λ s are.
    let so = c.tasks.invariant s are in
    (control-none c.args.system.0 c.args.res.now c.tasks.rest.now _ _ c.in_default.ensures.cases so.0, so.1)

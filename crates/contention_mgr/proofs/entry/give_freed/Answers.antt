use Rattle.contention_mgr.specs.Marks.{mark_in}
use Rattle.contention_mgr.proofs.LoseLemmas.{freed-more, freed-none}
use Rattle.contention_mgr.proofs.entry.give_freed.Goals as goal

pub all-preserved : goal.all-preserved
all-preserved c = λ s are.
    let so = c.all.invariant s are in
    let step = c.give_all_control.ensures s so.1 in (
      freed-more c.args.system.0 (mark_in c.all.marks.names.entries c.all.marks.marks.entries)
          (mark_in c.give_all_control.new.marks.names.entries c.give_all_control.new.marks.marks.entries)
          c.all.rest.now c.in-Some.tail.now c.in-Some.one.now c.as_slice.result.now s _ c.in-Some.ensures.cases.0
          c.as_slice.ensures so.0 step.0,
      step.1,
    )

pub returns : goal.returns
returns c = λ s are.
    let so = c.all.invariant s are in
    (freed-none c.args.system.0 c.all.rest.now _ _ c.in_default.ensures.cases so.0, so.1)

use Rattle.std.proofs.Common.{◌≡◌, true, Some, arith}
use Rattle.std.specs.Prelude.{slice_get}
use Rattle.std.proofs.lemmas.Option.{slice_get-get_or}
use Rattle.grs_base.specs.Same.{same_task}
use Rattle.grs_analyze.specs.Numbered.{elems_of, is_flagged}
use Rattle.grs_analyze.proofs.MarkLemmas.{waiter-up}
use Rattle.grs_analyze.proofs.walk.mark_at.Goals as goal

pub returns-then-is_same_task-clause-marked : goal.returns-then-is_same_task-clause-marked
returns-then-is_same_task-clause-marked c =
    let e : slice_get c.args.waiters.now c.args.place ≡ Some c.in-Some.spot.now =
    grind (
      arith,
      c.in-Some.ensures.lookup,
      slice_get-get_or c.args.waiters.now c.args.place c.in-Some.spot.now c.requires.within,
    ) in
    let s : same_task c.args.task c.in-Some.spot.now.elem.task ≡ true =
    grind (arith, c.is_same_task.ensures, c.if-is_same_task.true) in
    λ u.
    waiter-up u c.args.task (elems_of c.args.front.now) c.args.waiters.now c.args.place c.in-Some.spot.now
    (is_flagged c.args.tasks.now c.args.marks.now u) (is_flagged c.args.tasks.now c.mark_front.new.marks u)
    (is_flagged c.args.tasks.now c.mark_front-then-is_same_task.new.marks u) e s (c.mark_front.ensures.marked u)
    (c.mark_front-then-is_same_task.ensures.marked u)

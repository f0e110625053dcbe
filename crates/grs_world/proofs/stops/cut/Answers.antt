use Rattle.grs_world.proofs.Common.{◌∙◌, arith, cut, sym}
use Rattle.std.proofs.Common.{rules}
use Rattle.std.proofs.lemmas.Grind.{common_steps}
use Rattle.grs_world.proofs.code.Lapped.{kept-made, kept-out}
use Rattle.grs_world.proofs.stops.cut.Goals.{in-Some+in_ok-push-in-Some, in-None}
use Rattle.grs_world.proofs.stops.cut.Goals as goal

pub loop-event-preserved : goal.loop-event-preserved
loop-event-preserved c = elim c.match-left_of.branch [
  | in-Some+in_ok-push-in-Some w ↦ kept-made c.args.system c.loop-event.left w.in-Some.behind c.args.events.now
      c.loop-event.event-index c.loop-event.kept c.match-left_of.kept
      (cut c.args.system c.args.events_made c.args.events.now)
      c.match-left_of.left c.loop-event-test.true (first_of (search rules, grind (arith, common_steps)))
      (sym c.left_of.ensures ∙ w.in-Some.is) c.loop-event.invariant (w.kept-is ∙ w.in_ok-push-in-Some.ensures.ok)
      w.left-is
  | in-None w ↦ kept-out c.args.system c.loop-event.left c.args.events.now c.loop-event.event-index c.loop-event.kept
      c.match-left_of.kept (cut c.args.system c.args.events_made c.args.events.now) c.match-left_of.left
      c.loop-event-test.true (first_of (search rules, grind (arith, common_steps)))
      (sym c.left_of.ensures ∙ w.in-None.is)
      c.loop-event.invariant w.kept-is w.left-is
]

use Rattle.std.proofs.Common.{◌<◌, arith, sym, ap, ◌∙◌, length}
use Rattle.grs_node.proofs.SentAgain.{sent-more, kept-more, phase-told, phase-system, phase-count}
use Rattle.grs_node.specs.Removal.{has_sent_in}
use Rattle.task_state.specs.View.{TasksView}
use Rattle.grs_node.proofs.star.StarPart.send_again.Goals.{then-has_sent_in, else-has_sent_in}
use Rattle.grs_node.proofs.star.StarPart.send_again.Goals as goal

pub loop-place-preserved : goal.loop-place-preserved
loop-place-preserved c =
    let low : c.loop-place.place < length c.args.tasks.now.tasks =
    omega (arith, c.loop-place-test.true, ap length c.all-place-end.ensures) in
    let stands = ap (has_sent_in c.args.self.now c.args.entry) c.state.ensures in
    elim c.if-has_sent_in.branch [
      | then-has_sent_in w ↦ record {
        tasks =
            sent-more c.args.self.now c.args.entry c.args.tasks.now.tasks c.loop-place.tasks w.set_phase.new.self
            c.if-has_sent_in.tasks _ c.loop-place.place c.in_ok-number_of.ensures low c.loop-place.invariant.tasks
            (sym stands ∙ (sym c.has_sent_in.ensures ∙ w.if-has_sent_in.true)) w.set_phase.ensures w.tasks-is;
        told =
            ap (λ (v : TasksView). v.told) (w.tasks-is ∙ w.set_phase.ensures)
            ∙ (phase-told _ _ _ ∙ c.loop-place.invariant.told);
        system =
            ap (λ (v : TasksView). v.system) (w.tasks-is ∙ w.set_phase.ensures)
            ∙ (phase-system _ _ _ ∙ c.loop-place.invariant.system);
        count =
            ap (λ (v : TasksView). length v.tasks) (w.tasks-is ∙ w.set_phase.ensures)
            ∙ (phase-count _ _ _ ∙ c.loop-place.invariant.count);
      }
      | else-has_sent_in w ↦ record {
        tasks =
            kept-more c.args.self.now c.args.entry c.args.tasks.now.tasks c.loop-place.tasks c.if-has_sent_in.tasks _
            c.loop-place.place c.in_ok-number_of.ensures low c.loop-place.invariant.tasks
            (sym stands ∙ (sym c.has_sent_in.ensures ∙ w.if-has_sent_in.false)) w.tasks-is;
        told = ap (λ (v : TasksView). v.told) w.tasks-is ∙ c.loop-place.invariant.told;
        system = ap (λ (v : TasksView). v.system) w.tasks-is ∙ c.loop-place.invariant.system;
        count = ap (λ (v : TasksView). length v.tasks) w.tasks-is ∙ c.loop-place.invariant.count;
      }
    ]

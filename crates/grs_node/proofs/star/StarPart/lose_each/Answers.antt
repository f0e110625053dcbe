use Rattle.std.proofs.Common.{arith, rules, sym, ap, ◌∙◌, length}
use Rattle.std.proofs.lemmas.Grind.{common_steps}
use Rattle.grs_node.proofs.Orderly.{lost-more, lost-none}
use Rattle.grs_node.specs.Removal.{standing}
use Rattle.task_state.specs.View.{TasksView}
use Rattle.grs_node.proofs.star.StarPart.lose_each.Goals.{then-has_system+in_ok-lose, else-has_system}
use Rattle.grs_node.proofs.star.StarPart.lose_each.Goals as goal

pub loop-number-preserved : goal.loop-number-preserved
loop-number-preserved c = elim c.if-has_system.branch [
  | then-has_system+in_ok-lose w ↦ record {
    step =
        lost-more (standing c.args.tasks.now c.args.self.now) (standing c.loop-number.tasks c.loop-number.self) _ _
        _ _ c.args.systems c.loop-number.number _
        (first_of (search rules, omega (arith, c.loop-number-test.true), grind (arith, common_steps)))
        c.loop-number.invariant.step (sym c.has_system.ensures ∙ w.if-has_system.true) w.tasks-is w.self-is
        w.in_ok-lose.ensures.step;
    system =
        ap (λ (v : TasksView). v.system) w.tasks-is
        ∙ (w.in_ok-lose.ensures.system ∙ c.loop-number.invariant.system);
    count =
        ap (λ (v : TasksView). length v.tasks) w.tasks-is
        ∙ (w.in_ok-lose.ensures.count ∙ c.loop-number.invariant.count);
  }
  | else-has_system w ↦ record {
    step =
        lost-none (standing c.args.tasks.now c.args.self.now) _ _ _ _ c.args.systems c.loop-number.number _
        (first_of (search rules, omega (arith, c.loop-number-test.true), grind (arith, common_steps)))
        c.loop-number.invariant.step (sym c.has_system.ensures ∙ w.if-has_system.false) w.tasks-is w.self-is;
    system = ap (λ (v : TasksView). v.system) w.tasks-is ∙ c.loop-number.invariant.system;
    count = ap (λ (v : TasksView). length v.tasks) w.tasks-is ∙ c.loop-number.invariant.count;
  }
]

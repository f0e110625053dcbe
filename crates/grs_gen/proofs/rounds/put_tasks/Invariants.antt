use Rattle.std.proofs.Common.{◌≡◌, ◌++◌, drop, map}
use Rattle.grs_wire.specs.declared.deck.Choice.TheVariants.{Task}
use Rattle.grs_gen.specs.Rounds.{by}
use Rattle.grs_gen.proofs.rounds.put_tasks.Given as goal

abbrev pub invariant-loop-task : goal.invariant-loop-task
invariant-loop-task l =
    l.out ++ map (λ t. by l.system (Task t)) (drop l.task-index l.tasks)
    ≡ l.initial.out ++ map (λ t. by l.system (Task t)) l.tasks

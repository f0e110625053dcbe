use Rattle.std.proofs.Common.{◌≡◌, ◌++◌, drop, map}
use Rattle.grs_wire.specs.declared.deck.Choice.TheVariants.{Send}
use Rattle.grs_gen.specs.Rounds.{by}
use Rattle.grs_gen.proofs.rounds.put_sends.Given as goal

abbrev pub invariant-loop-task : goal.invariant-loop-task
invariant-loop-task l =
    l.out ++ map (λ t. by l.system (Send t)) (drop l.task-index l.tasks)
    ≡ l.initial.out ++ map (λ t. by l.system (Send t)) l.tasks

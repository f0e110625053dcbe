use Rattle.std.proofs.Common.{◌≡◌, ◌++◌, drop}
use Rattle.deck_tasks.specs.Tasks.{tasks_of_systems}
use Rattle.deck_tasks.proofs.tasks.tasks_of_systems.Given as goal

abbrev pub invariant-loop-place : goal.invariant-loop-place
invariant-loop-place l =
    l.tasks ++ tasks_of_systems l.place (drop l.place l.systems) ≡ tasks_of_systems 0 l.systems

use Rattle.std.proofs.Common.{◌≡◌, ◌+◌, length}
use Rattle.grs_wire.specs.Decks.{task_count}
use Rattle.grs_deck.proofs.places.task_count.Given as goal

abbrev pub invariant-loop-job : goal.invariant-loop-job
invariant-loop-job l = l.count + task_count l.rest ≡ task_count l.jobs

abbrev pub decreases-loop-job : goal.decreases-loop-job
decreases-loop-job l = length l.rest

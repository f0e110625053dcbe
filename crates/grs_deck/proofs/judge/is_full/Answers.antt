use Rattle.grs_deck.proofs.PlacesLaws.{task_count-now}
use Rattle.grs_deck.proofs.judge.is_full.Goals as goal

pub task_count-requires : goal.task_count-requires
task_count-requires c =
    rw (c.jobs_now-in-Task.ensures, c.as_slice-systems.ensures)
    (task_count-now c.args.draft.now.deck.systems c.requires)

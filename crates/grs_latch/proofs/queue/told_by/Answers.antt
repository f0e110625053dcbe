use Rattle.grs_latch.proofs.LatchLemmas.{told_ok}
use Rattle.grs_latch.proofs.queue.told_by.Goals as goal

pub returns : goal.returns
returns c =
    told_ok c.args.elems.now c.args.task c.place_of-place.result c.tasks_behind.result c.place_of-place.ensures.place
    c.requires c.tasks_behind.ensures

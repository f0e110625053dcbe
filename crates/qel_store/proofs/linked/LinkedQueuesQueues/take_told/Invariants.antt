use Rattle.qel_store.proofs.linked.LinkedQueuesQueues.take_told.Given as goal

abbrev pub ghosts-take_told_in : goal.ghosts-take_told_in
ghosts-take_told_in a = record { name = a.blank.name; parts = a.blank.parts }

use Rattle.qel_store.proofs.linked.LinkedQueuesQueues.standing.Given as goal

abbrev pub ghosts-standing_in : goal.ghosts-standing_in
ghosts-standing_in a = record { name = a.blank.name; parts = a.blank.parts }

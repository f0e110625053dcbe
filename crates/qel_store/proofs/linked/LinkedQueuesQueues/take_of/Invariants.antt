use Rattle.qel_store.proofs.linked.LinkedQueuesQueues.take_of.Given as goal

abbrev pub ghosts-take_of_in : goal.ghosts-take_of_in
ghosts-take_of_in a = record { name = a.blank.name; parts = a.blank.parts }

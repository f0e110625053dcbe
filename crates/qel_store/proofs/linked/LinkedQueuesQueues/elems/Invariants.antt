use Rattle.qel_store.proofs.linked.LinkedQueuesQueues.elems.Given as goal

abbrev pub ghosts-all_in : goal.ghosts-all_in
ghosts-all_in a = record { name = a.blank.name; parts = a.blank.parts }

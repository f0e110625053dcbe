use Rattle.qel_store.proofs.linked.LinkedQueuesQueues.to_exclusive.Given as goal

abbrev pub ghosts-exclude_in : goal.ghosts-exclude_in
ghosts-exclude_in a = record { name = a.blank.name; parts = a.blank.parts }

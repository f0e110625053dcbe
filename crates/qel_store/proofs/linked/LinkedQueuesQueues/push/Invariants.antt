use Rattle.qel_store.proofs.linked.LinkedQueuesQueues.push.Given as goal

abbrev pub ghosts-push_in : goal.ghosts-push_in
ghosts-push_in a = record { name = a.blank.name; parts = a.blank.parts }

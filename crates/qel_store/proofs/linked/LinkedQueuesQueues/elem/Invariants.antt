use Rattle.qel_store.proofs.linked.LinkedQueuesQueues.elem.Given as goal

abbrev pub ghosts-elem_in : goal.ghosts-elem_in
ghosts-elem_in a = record { name = a.blank.name; parts = a.blank.parts }

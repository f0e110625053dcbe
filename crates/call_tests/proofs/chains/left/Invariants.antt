use Rattle.call_tests.proofs.chains.left.Given as goal

abbrev pub ghosts-end : goal.ghosts-end
ghosts-end a = record { name = a.blank.name; parts = a.blank.parts }

use Rattle.call_tests.proofs.lists.places_in_long_list.Given as goal

abbrev pub ghosts-places : goal.ghosts-places
ghosts-places a = record { name = a.blank.name; parts = a.blank.parts }

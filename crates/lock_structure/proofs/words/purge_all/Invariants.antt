use Rattle.std.proofs.Common.{◌≡◌, ◌++◌, map, take, drop}
use Rattle.lock_structure.specs.Purge.{purged_word}
use Rattle.lock_structure.proofs.words.purge_all.Given as goal

abbrev pub invariant-loop-entry : goal.invariant-loop-entry
invariant-loop-entry l =
    l.words.items
    ≡ map (λ w. purged_word w l.target) (take l.entry l.initial.words.items) ++ drop l.entry l.initial.words.items

use Rattle.std.proofs.Common.{◌≡◌, ◌++◌, length}
use Rattle.std.specs.Prelude.{◌==◌}
use Rattle.deck_form.proofs.Systems.{names_left}
use Rattle.deck_form.proofs.system_names.gather.Given as goal

abbrev pub invariant-loop-names : goal.invariant-loop-names
invariant-loop-names l =
    l.names ++ names_left (length l.names == 0) l.rest
    ≡ l.initial.names ++ names_left (length l.initial.names == 0) l.initial.rest

abbrev pub decreases-loop-names : goal.decreases-loop-names
decreases-loop-names l = length l.rest

use Rattle.std.proofs.Common.{◌≡◌, ◌++◌, drop}
use Rattle.grs_report.specs.State.{word_lines}
use Rattle.grs_report.proofs.state.put_lock_words.Given as goal

abbrev pub invariant-loop-entry : goal.invariant-loop-entry
invariant-loop-entry l =
    l.out ++ word_lines l.names l.entry (drop l.entry l.words) ≡ l.initial.out ++ word_lines l.names 0 l.words

use Rattle.std.proofs.Common.{◌≡◌, ◌++◌, drop}
use Rattle.grs_top.specs.Lists.{entries_text}
use Rattle.grs_top.proofs.lists.put_entries.Given as goal

abbrev pub invariant-loop-entry : goal.invariant-loop-entry
invariant-loop-entry l =
    l.out ++ entries_text (drop l.entry-index l.list.entries) ≡ l.initial.out ++ entries_text l.list.entries

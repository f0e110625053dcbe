use Rattle.std.proofs.Common.{◌≡◌, length}
use Rattle.std.specs.List.{list_any}
use Rattle.lock_structure.specs.Entries.{entry_of_res, is_entry}
use Rattle.grs_node.proofs.star.StarPart.any_record_of.Given as goal

abbrev pub invariant-loop-rec : goal.invariant-loop-rec
invariant-loop-rec l =
    list_any (λ y. is_entry l.entry (entry_of_res (length l.self.manager.entries) y.res)) l.rec-iterator
    ≡ list_any (λ y. is_entry l.entry (entry_of_res (length l.self.manager.entries) y.res)) l.records

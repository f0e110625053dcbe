use Rattle.std.proofs.Common.{◌≡◌, map}
use Rattle.std.specs.List.{range_with_len}
use Rattle.grs_node.specs.Change.{is_among}
use Rattle.grs_node.proofs.change.flags_of.Given as goal

abbrev pub invariant-loop-entry : goal.invariant-loop-entry
invariant-loop-entry l = l.flags.items ≡ map (is_among l.among) (range_with_len 0 l.entry)

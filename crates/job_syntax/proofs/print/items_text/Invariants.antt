use Rattle.std.proofs.Common.{◌≡◌, ◌++◌, drop}
use Rattle.std.specs.List.{flat_map}
use Rattle.job_syntax.specs.Printed.{printed_item}
use Rattle.job_syntax.proofs.print.items_text.Given as goal

abbrev pub invariant-loop-item : goal.invariant-loop-item
invariant-loop-item l = l.text ++ flat_map printed_item (drop l.item-index l.items) ≡ flat_map printed_item l.items

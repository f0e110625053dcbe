use Rattle.std.proofs.Common.{◌≡◌, ◌++◌, ◌+◌, ◌-◌}
use Rattle.grs_wire.specs.History.{look_entries}
use Rattle.grs_history.proofs.replies.look_slices.Given as goal

abbrev pub invariant-loop-slice : goal.invariant-loop-slice
invariant-loop-slice l =
    let last = l.fn.first + l.fn.count in
    l.hist ++ look_entries l.table.elements l.task l.slice (last - l.slice) l.filter
    ≡ l.fn.hist ++ look_entries l.table.elements l.task l.fn.first l.fn.count l.filter

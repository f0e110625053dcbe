use Rattle.std.proofs.Common.{◌≡◌, ◌++◌, ◌+◌, ◌-◌, min}
use Rattle.grs_wire.specs.Wants.{looks}
use Rattle.queue_table.proofs.slices.look_slices.Given as goal

abbrev pub invariant-loop-slice : goal.invariant-loop-slice
invariant-loop-slice g l =
    let last = min (l.first + l.count) 64 in
    l.rows ++ looks l.table.elements l.slice (last - l.slice) l.filter
    ≡ looks l.table.elements l.first (last - l.first) l.filter

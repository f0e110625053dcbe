use Rattle.std.proofs.Common.{◌≡◌, ◌≤◌, ◌+◌}
use Rattle.contention_mgr.specs.Manager.{are_of}
use Rattle.contention_mgr.proofs.manager.are_of.Given as goal

abbrev pub invariant-slices : goal.invariant-slices
invariant-slices l = record {
  there : l.slice + l.left ≤ 64;
  same : are_of l.entries l.entry l.slice l.left ≡ are_of l.entries l.entry l.first l.count;
}

abbrev pub decreases-slices : goal.decreases-slices
decreases-slices l = l.left

use Rattle.std.proofs.Common.{◌≡◌, ◌++◌, drop, take}
use Rattle.grs_analyze.specs.Waits.{blocked_behind}
use Rattle.grs_analyze.proofs.blocked.put_behind.Given as goal

abbrev pub invariant-loop-place : goal.invariant-loop-place
invariant-loop-place l =
    l.out ++ blocked_behind l.res (take l.place l.elems) (drop l.place l.elems)
    ≡ l.initial.out ++ blocked_behind l.res (take l.first l.elems) (drop l.first l.elems)

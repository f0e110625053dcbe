use Rattle.std.proofs.Common.{◌≡◌, ◌++◌, map, drop}
use Rattle.grs_latch.proofs.rows.shown.Given as goal

abbrev pub invariant-loop-elem : goal.invariant-loop-elem
invariant-loop-elem l =
    l.shown ++ map (λ e. (e.task.task, e.ctl)) (drop l.elem-index l.elems) ≡ map (λ e. (e.task.task, e.ctl)) l.elems

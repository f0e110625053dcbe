use Rattle.std.proofs.Common.{◌≡◌, ◌++◌, ◌==◌, drop}
use Rattle.grs_base.specs.State.{pick}
use Rattle.contention_mgr.proofs.install.add_owners.Given as goal

abbrev pub invariant-loop-elem : goal.invariant-loop-elem
invariant-loop-elem l =
    l.owners
    ++ pick (λ e. l.system.0 == e.task.system.0) (λ e. (e.task, l.row.res)) (drop l.elem-index l.owning)
    ≡ l.initial.owners ++ pick (λ e. l.system.0 == e.task.system.0) (λ e. (e.task, l.row.res)) l.owning

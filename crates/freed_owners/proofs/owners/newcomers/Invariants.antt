use Rattle.std.proofs.Common.{◌≡◌, ◌++◌, not, drop}
use Rattle.grs_base.specs.Lists.{owns}
use Rattle.grs_base.specs.State.{pick}
use Rattle.freed_owners.proofs.owners.newcomers.Given as goal

abbrev pub invariant-loop-elem : goal.invariant-loop-elem
invariant-loop-elem l =
    l.tasks ++ pick (λ e. not (owns l.before e.task)) (λ e. e.task) (drop l.elem-index l.owning)
    ≡ pick (λ e. not (owns l.before e.task)) (λ e. e.task) l.owning

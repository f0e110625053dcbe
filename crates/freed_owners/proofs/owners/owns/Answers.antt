use Rattle.std.proofs.Common.{ℕ, take, ap, ◌∙◌}
use Rattle.std.specs.List.{list_any}
use Rattle.grs_base.specs.Same.{same_task}
use Rattle.freed_owners.proofs.OwnerLemmas.{owners_any}
use Rattle.freed_owners.proofs.owners.owns.Goals as goal

pub returns : goal.returns
returns c =
    let among =
    ap (λ (n : ℕ). list_any (λ e. same_task c.args.task e.task) (take n c.args.elems.now))
    c.owners_among.ensures.owners in
    c.has_task.ensures ∙ among ∙ owners_any c.args.elems.now c.args.task

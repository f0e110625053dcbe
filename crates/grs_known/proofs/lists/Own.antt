-- A task's own elements in the lists: their resources, and whether one is on a resource.
use Rattle.std.proofs.Common.{◌≡◌, [], ◌∷◌, map, refl, arith}
use Rattle.grs_base.specs.Lists.{has_task}
use Rattle.grs_base.specs.State.{State, list_of, queued_by}
use Rattle.grs_base.specs.declared.resource.Res.{Res}
use Rattle.grs_base.specs.declared.resource.TaskId.{TaskId}
use Rattle.grs_known.specs.Past.{own_elements}
use Rattle.std.specs.List.{list_any}
use Rattle.grs_base.specs.Same.{same_res}

pub queued_by-own : (s : State) (t : TaskId) → queued_by s t ≡ map (λ k. k.0) (own_elements s t)
queued_by-own [] t = refl
queued_by-own (h ∷ s) t = grind (arith, queued_by-own s t)

pub has_task-own : (s : State) (t : TaskId) (r : Res)
    → has_task (list_of s r) t ≡ list_any (λ k. same_res r k.0) (own_elements s t)
has_task-own [] t r = refl
has_task-own (h ∷ s) t r = grind (arith, has_task-own s t r)

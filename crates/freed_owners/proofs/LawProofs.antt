-- Who comes to own by a removal and by a request.
use Rattle.std.proofs.Common.{◌≡◌, Bool, true, false, cond, not, ◌&&◌, List, [], ◌∷◌, take, refl, ap}
use Rattle.std.specs.Prelude.{filter}
use Rattle.grs_base.specs.Lists.{owns, owners}
use Rattle.grs_base.specs.Same.{same_task}
use Rattle.grs_base.specs.State.{pick}
use Rattle.grs_base.specs.declared.resource.Elem.{Elem}
use Rattle.grs_base.specs.declared.resource.TaskId.{TaskId}
use Rattle.freed_owners.specs.FreedLaws.{NewcomersBecomeOwners}

-- tasks of elements that pass two tests, of which the second is one of tasks
pick-both : (p q : TaskId → Bool) (es : List Elem)
    → pick (λ e. p e.task && q e.task) (λ e. e.task) es ≡ filter q (pick (λ e. p e.task) (λ e. e.task) es)
pick-both p q [] = refl
pick-both p q (e ∷ es) = go (p e.task) (q e.task) refl (pick-both p q es)
  where
    go : (b c : Bool) → q e.task ≡ c
        → pick (λ x. p x.task && q x.task) (λ x. x.task) es ≡ filter q (pick (λ x. p x.task) (λ x. x.task) es)
        → cond (b && c) (e.task ∷ pick (λ x. p x.task && q x.task) (λ x. x.task) es)
        (pick (λ x. p x.task && q x.task) (λ x. x.task) es)
        ≡ filter q
        (cond b (e.task ∷ pick (λ x. p x.task) (λ x. x.task) es) (pick (λ x. p x.task) (λ x. x.task) es))
    go false c is rest = rest
    go true true is rest = rw is (ap (λ (ts : List TaskId). e.task ∷ ts) rest)
    go true false is rest = rw is rest

pub newcomers_become_owners : NewcomersBecomeOwners
newcomers_become_owners before after asker =
    pick-both (λ t. not (owns before t)) (λ t. not (same_task asker t)) (take (owners after) after)

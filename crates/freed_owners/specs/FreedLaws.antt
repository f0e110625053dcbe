-- How who gets control by a removal goes with who gets it by a request.
use Rattle.std.specs.Prelude.{◌≡◌, not, List, filter}
use Rattle.grs_base.specs.Same.{same_task}
use Rattle.grs_base.specs.declared.resource.Elem.{Elem}
use Rattle.grs_base.specs.declared.resource.TaskId.{TaskId}
use Rattle.grs_wire.specs.Wants.{became_owners}
use Rattle.freed_owners.specs.Freed.{newcomers}

-- Between two lists the same tasks come to own by a removal as by a request, but for the request's asker.
abbrev pub NewcomersBecomeOwners : Type 0
NewcomersBecomeOwners =
    (before after : List Elem) (asker : TaskId)
    → became_owners before after asker ≡ filter (λ t. not (same_task asker t)) (newcomers before after)

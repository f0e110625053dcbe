-- Who gets latches by a call, whichever it is: those who waited before it and own behind it.
use Rattle.std.specs.Prelude.{ℕ, suc, Bool, not, ◌&&◌, List, [], ◌∷◌, ◌++◌, take}
use Rattle.grs_base.specs.Lists.{has_task, owns, owners}
use Rattle.grs_base.specs.State.{pick}
use Rattle.grs_base.specs.declared.resource.TaskId.{TaskId}
use Rattle.grs_base.specs.declared.resource.Elem.{Elem}
use Rattle.grs_latch.specs.Latches.{Lists, grants_at}
use Rattle.grs_latch.specs.Calls.{Sets}
use Rattle.grs_latch.specs.declared.reply.Grant.{Grant}
use Rattle.grs_latch.specs.declared.sets.NamedSet.{NamedSet}

-- whether a task has a request in a list and doesn't own
abbrev pub waits : List Elem → TaskId → Bool
waits es t = has_task es t && not (owns es t)

-- the tasks that own by the list afterwards and waited in the list before, in order of arrival
abbrev pub granted : List Elem → List Elem → List TaskId
granted before after = pick (λ e. waits before e.task) (λ e. e.task) (take (owners after) after)

-- the same latch by latch, of a set by its place, from this number on
abbrev pub granted_in : ℕ → ℕ → Lists → Lists → List Grant
granted_in at l [] after = []
granted_in at l (es ∷ ls) [] = []
granted_in at l (es ∷ ls) (fs ∷ after) = grants_at at l (granted es fs) ++ granted_in at (suc l) ls after

-- and set by set, from this place on
abbrev pub granted_of : ℕ → Sets → Sets → List Grant
granted_of at [] after = []
granted_of at (s ∷ ss) [] = []
granted_of at (s ∷ ss) (z ∷ after) = granted_in at 0 s.latches z.latches ++ granted_of (suc at) ss after

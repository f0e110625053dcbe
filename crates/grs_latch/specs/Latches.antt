-- Latches as lists of requests in order of arrival: what a call is answered, what it makes of the lists, and who gets a
-- latch by it. (z/OS MVS Programming: Authorized Assembler Services Reference, "ISGLOBT", "ISGLREL" and "ISGLPRG".)
use Rattle.std.specs.Prelude.{ℕ, zero, suc, Bool, true, false, ◌||◌, List, [], ◌∷◌, ◌++◌, length, map, filter}
use Rattle.std.specs.Prelude.{Option, Some, None, if◌then◌else◌}
use Rattle.grs_base.specs.Lists.{can_have, standing_of, has_task, is_owner, list_without}
use Rattle.grs_base.specs.declared.resource.SysId.{SysId}
use Rattle.grs_base.specs.declared.resource.TaskId.{TaskId}
use Rattle.grs_base.specs.declared.resource.Elem.{Elem}
use Rattle.grs_base.specs.declared.resource.Ctl.{Ctl}
use Rattle.grs_base.specs.declared.resource.Ret.{Ret}
use Rattle.grs_base.specs.declared.resource.Ret.TheVariants.{RetUse, RetEcb}
use Rattle.grs_base.specs.declared.decision.Code.{Code}
use Rattle.grs_base.specs.declared.decision.Code.TheVariants.{C00, C04, C08, C14, C18, Wait, End}
use Rattle.grs_base.specs.declared.decision.Standing.{Standing}
use Rattle.grs_base.specs.declared.decision.Standing.TheVariants.{Exclusive, OnlyShared, AmongShared, Waits, Absent}
use Rattle.grs_wire.specs.Wants.{became_owners}
use Rattle.grs_latch.specs.declared.reply.Grant.{Grant}

-- the latches of a set, by number from 0, each with its requests in order of arrival
abbrev pub Lists : Type 0
Lists = List (List Elem)

-- the task by which a requestor's requests stand in the lists of a set
abbrev pub task_of : ℕ → TaskId
task_of r = record { system = record { 0 = 0 }; job = 0; task = r }

-- what an obtain is answered, by how its requestor stands and whether it can have the latch at once
abbrev pub obtain_code : Standing → Bool → ℕ
obtain_code Exclusive can = 8
obtain_code OnlyShared can = 8
obtain_code AmongShared can = 8
obtain_code Waits can = 20
obtain_code Absent can = if can then 0 else 4

-- whether its request goes last: it is granted, or it may wait
abbrev pub is_queued : Standing → Bool → Bool → Bool
is_queued Exclusive can may_wait = false
is_queued OnlyShared can may_wait = false
is_queued AmongShared can may_wait = false
is_queued Waits can may_wait = false
is_queued Absent can may_wait = can || may_wait

-- what a release is answered
abbrev pub release_code : Standing → ℕ
release_code Exclusive = 0
release_code OnlyShared = 0
release_code AmongShared = 0
release_code Waits = 4
release_code Absent = 8

-- an obtain as an ENQ: one that may wait is told so (RET=ECB), another is made only if the latch is free (RET=USE)
abbrev pub ret_of : Bool → Ret
ret_of true = RetEcb
ret_of false = RetUse

-- the codes of ENQ and DEQ that a latch call has too
abbrev pub number_of : Code → Option ℕ
number_of C00 = Some 0
number_of C04 = Some 4
number_of C08 = Some 8
number_of C14 = Some 20
number_of C18 = None
number_of Wait = None
number_of (End n) = None

-- the list of a latch after an obtain
abbrev pub obtained : List Elem → TaskId → Ctl → Bool → List Elem
obtained es t c may_wait =
    if is_queued (standing_of es t) (can_have es c) may_wait then es ++ record { task = t; ctl = c } ∷ [] else es

-- the list of a latch after a release: only an owner gives it up
abbrev pub released : List Elem → TaskId → List Elem
released es t = if is_owner (standing_of es t) then list_without es t else es

-- with what f makes of the latch of this number; where there is none all stay
abbrev pub changed_at : (List Elem → List Elem) → ℕ → Lists → Lists
changed_at f n [] = []
changed_at f zero (es ∷ ls) = f es ∷ ls
changed_at f (suc n) (es ∷ ls) = es ∷ changed_at f n ls

-- what f says of the latch of this number, and 12 where there is none
abbrev pub code_at : (List Elem → ℕ) → ℕ → Lists → ℕ
code_at f n [] = 12
code_at f zero (es ∷ ls) = f es
code_at f (suc n) (es ∷ ls) = code_at f n ls

-- those who got the latch of this number of a set, by its place
abbrev pub grants_at : ℕ → ℕ → List TaskId → List Grant
grants_at s n ts = map (λ t. record { set = s; latch = n; requestor = t.task }) ts

-- those who waited before a task's request was taken out of a list, and own afterwards
abbrev pub owners_without : List Elem → TaskId → List TaskId
owners_without es t = became_owners es (list_without es t) t

-- those who get the latch of this number by its release
abbrev pub release_grants : ℕ → ℕ → ℕ → Lists → TaskId → List Grant
release_grants s at n [] t = []
release_grants s at zero (es ∷ ls) t = grants_at s at (became_owners es (released es t) t)
release_grants s at (suc n) (es ∷ ls) t = release_grants s at n ls t

-- the latches after a task's requests were taken out of all
abbrev pub purged : Lists → TaskId → Lists
purged ls t = map (λ es. list_without es t) ls

-- how many requests a task has
abbrev pub requests_of : Lists → TaskId → ℕ
requests_of ls t = length (filter (λ es. has_task es t) ls)

-- those who get latches when a task's requests are taken out of all, by latch, of which the first has this number, and
-- then in order of arrival
abbrev pub purge_grants : ℕ → ℕ → Lists → TaskId → List Grant
purge_grants s n [] t = []
purge_grants s n (es ∷ ls) t = grants_at s n (owners_without es t) ++ purge_grants s (suc n) ls t

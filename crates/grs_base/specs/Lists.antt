-- The list of one resource, and what is answered by it. (z/OS MVS Programming: Authorized Assembler Services Reference,
-- "ENQ" and "DEQ".)
use Rattle.std.specs.Prelude.{ℕ, suc, Bool, true, false, not, ◌&&◌, ◌||◌, ◌==◌, nat_lt, List, [], ◌∷◌, ◌++◌, length}
use Rattle.std.specs.Prelude.{map, filter, cond, if◌then◌else◌}
use Rattle.grs_base.specs.Same.{same_task}
use Rattle.grs_base.specs.declared.resource.TaskId.{TaskId}
use Rattle.grs_base.specs.declared.resource.Elem.{Elem}
use Rattle.grs_base.specs.declared.resource.Ctl.{Ctl}
use Rattle.grs_base.specs.declared.resource.Ctl.TheVariants.{E, S}
use Rattle.grs_base.specs.declared.resource.Ret.{Ret}
use Rattle.grs_base.specs.declared.resource.Ret.TheVariants.{RetNone, RetUse, RetHave, RetTest, RetChng, RetEcb}
use Rattle.grs_base.specs.declared.decision.Code.{Code}
use Rattle.grs_base.specs.declared.decision.Code.TheVariants.{C00, C04, C08, C14, C18, Wait, End}
use Rattle.grs_base.specs.declared.decision.Effect.{Effect}
use Rattle.grs_base.specs.declared.decision.Effect.TheVariants.{Nothing, Append, MakeExclusive}
use Rattle.grs_base.specs.declared.decision.Decision.{Decision}
use Rattle.grs_base.specs.declared.decision.Standing.{Standing}
use Rattle.grs_base.specs.declared.decision.Standing.TheVariants.{Exclusive, OnlyShared, AmongShared, Waits, Absent}

abbrev pub is_shared : Ctl → Bool
is_shared E = false
is_shared S = true

-- how many shared elements the list begins with
abbrev pub shared_front : List Elem → ℕ
shared_front [] = 0
shared_front (e ∷ es) = if is_shared e.ctl then suc (shared_front es) else 0

-- how many elements own the resource: the first, or all shared ones in front
abbrev pub owners : List Elem → ℕ
owners [] = 0
owners (e ∷ es) = if is_shared e.ctl then suc (shared_front es) else 1

-- whether nobody in the list is exclusive; so of the empty list
abbrev pub all_shared : List Elem → Bool
all_shared [] = true
all_shared (e ∷ es) = is_shared e.ctl && all_shared es

-- whether a task that isn't in the list can have this control at once
abbrev pub can_have : List Elem → Ctl → Bool
can_have es E = length es == 0
can_have es S = all_shared es

-- the place of a task's element, or the length
abbrev pub place_of : List Elem → TaskId → ℕ
place_of [] task = 0
place_of (e ∷ es) task = if same_task task e.task then 0 else suc (place_of es task)

-- whether the list begins with a shared element
abbrev pub begins_shared : List Elem → Bool
begins_shared [] = false
begins_shared (e ∷ es) = is_shared e.ctl

-- how a task stands in the list
abbrev pub standing_of : List Elem → TaskId → Standing
standing_of es task =
    if nat_lt (place_of es task) (owners es)
    then (if begins_shared es then (if owners es == 1 then OnlyShared else AmongShared) else Exclusive)
    else (if nat_lt (place_of es task) (length es) then Waits else Absent)

-- what is answered to an ENQ that may not be made: the task ends with code n where nothing was said of it (RET=NONE),
-- else it is told c
abbrev pub unless_unconditional : Ret → ℕ → Code → Code
unless_unconditional RetNone n c = End n
unless_unconditional RetUse n c = c
unless_unconditional RetHave n c = c
unless_unconditional RetTest n c = c
unless_unconditional RetChng n c = c
unless_unconditional RetEcb n c = c

abbrev pub decided : Code → Effect → Decision
decided c e = record { code = c; effect = e }

-- what ENQ decides for a task that isn't in the list and may have another element, by whether control can be had
abbrev pub enq_absent : Ret → Bool → Decision
enq_absent RetChng can = decided C08 Nothing
enq_absent RetTest can = decided (if can then C00 else C04) Nothing
enq_absent RetUse can = decided (if can then C00 else C04) (if can then Append else Nothing)
enq_absent RetNone can = decided (if can then C00 else Wait) Append
enq_absent RetHave can = decided (if can then C00 else Wait) Append
enq_absent RetEcb can = decided (if can then C00 else C04) Append

-- what ENQ decides for a task that isn't in the list, by whether it has as many elements as it may
abbrev pub enq_new : Ret → Bool → Bool → Decision
enq_new RetChng full can = decided C08 Nothing
enq_new RetNone full can = if full then decided (End 538) Nothing else enq_absent RetNone can
enq_new RetUse full can = if full then decided C18 Nothing else enq_absent RetUse can
enq_new RetHave full can = if full then decided C18 Nothing else enq_absent RetHave can
enq_new RetTest full can = if full then decided C18 Nothing else enq_absent RetTest can
enq_new RetEcb full can = if full then decided C18 Nothing else enq_absent RetEcb can

-- the table of ENQ
abbrev pub enq_decision : Standing → Ret → Bool → Bool → Decision
enq_decision Exclusive RetChng full can = decided C00 Nothing
enq_decision OnlyShared RetChng full can = decided C00 MakeExclusive
enq_decision AmongShared RetChng full can = decided C04 Nothing
enq_decision Exclusive ret full can = decided (unless_unconditional ret 138 C08) Nothing
enq_decision OnlyShared ret full can = decided (unless_unconditional ret 138 C08) Nothing
enq_decision AmongShared ret full can = decided (unless_unconditional ret 138 C08) Nothing
enq_decision Waits ret full can = decided (unless_unconditional ret 138 C14) Nothing
enq_decision Absent ret full can = enq_new ret full can

-- what ENQ decides by the list
abbrev pub decide_enq : List Elem → TaskId → Ctl → Ret → Bool → Decision
decide_enq es task ctl ret full = enq_decision (standing_of es task) ret full (can_have es ctl)

-- the table of DEQ: the code, by whether RET=HAVE was said; an owner's element is taken out
abbrev pub deq_code : Standing → Bool → Code
deq_code Exclusive have = C00
deq_code OnlyShared have = C00
deq_code AmongShared have = C00
deq_code Waits have = if have then C04 else End 530
deq_code Absent have = if have then C08 else End 130

abbrev pub is_owner : Standing → Bool
is_owner Exclusive = true
is_owner OnlyShared = true
is_owner AmongShared = true
is_owner Waits = false
is_owner Absent = false

-- whether a task's element stands among the shared ones in front
abbrev pub owns_shared : List Elem → TaskId → Bool
owns_shared [] task = false
owns_shared (e ∷ es) task = is_shared e.ctl && (same_task task e.task || owns_shared es task)

-- whether a task owns the resource
abbrev pub owns : List Elem → TaskId → Bool
owns [] task = false
owns (e ∷ es) task = same_task task e.task || (is_shared e.ctl && owns_shared es task)

-- whether a task has an element
abbrev pub has_task : List Elem → TaskId → Bool
has_task [] task = false
has_task (e ∷ es) task = same_task task e.task || has_task es task

-- whether no task stands twice
abbrev pub is_apart : List Elem → Bool
is_apart [] = true
is_apart (e ∷ es) = not (has_task es e.task) && is_apart es

-- with the task's element made exclusive in its place
abbrev pub list_exclusive : List Elem → TaskId → List Elem
list_exclusive es task = map (λ x. cond (same_task task x.task) (record { task = x.task; ctl = E }) x) es

-- without the task's element
abbrev pub list_without : List Elem → TaskId → List Elem
list_without es task = filter (λ x. not (same_task task x.task)) es

-- the list after what is decided
abbrev pub list_after : List Elem → TaskId → Ctl → Effect → List Elem
list_after es task ctl Nothing = es
list_after es task ctl Append = es ++ record { task = task; ctl = ctl } ∷ []
list_after es task ctl MakeExclusive = list_exclusive es task

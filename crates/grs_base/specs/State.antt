-- Everything that is held or waited for: elements with their resources, in order of arrival.
use Rattle.std.specs.Prelude.{ℕ, Bool, true, false, not, ◌&&◌, ◌==◌, nat_le, List, [], ◌∷◌, ◌++◌, length, map, filter}
use Rattle.std.specs.Prelude.{cond, Option, Some, None, nat_eq}
use Rattle.grs_base.specs.Same.{same_res, same_task}
use Rattle.grs_base.specs.Lists.{decide_enq, deq_code, is_owner, standing_of}
use Rattle.grs_base.specs.declared.resource.Res.{Res}
use Rattle.grs_base.specs.declared.resource.Res.TheVariants.{Step, System, Systems}
use Rattle.grs_base.specs.declared.resource.TaskId.{TaskId}
use Rattle.grs_base.specs.declared.resource.Elem.{Elem}
use Rattle.grs_base.specs.declared.resource.Ctl.{Ctl}
use Rattle.grs_base.specs.declared.resource.Ctl.TheVariants.{E}
use Rattle.grs_base.specs.declared.resource.Ret.{Ret}
use Rattle.grs_base.specs.declared.decision.Code.{Code}
use Rattle.grs_base.specs.declared.decision.Effect.{Effect}
use Rattle.grs_base.specs.declared.decision.Effect.TheVariants.{Nothing, Append, MakeExclusive}

-- what f reads of each item that passes
abbrev pub pick : {X Y : Type 0} → (X → Bool) → (X → Y) → List X → List Y
pick p f [] = []
pick p f (x ∷ xs) = cond (p x) (f x ∷ pick p f xs) (pick p f xs)

-- elements under keys of one type, in order of arrival
abbrev pub Held : Type 0 → Type 0
Held K = List (K × Elem)

module _ {K : Type 0} (same : K → K → Bool) where
  -- the list of a key
  abbrev pub list_at : Held K → K → List Elem
  list_at s k = pick (λ h. same k h.0) (λ h. h.1) s

  -- whether an entry is this task's element at this key
  abbrev pub is_at : K → TaskId → K × Elem → Bool
  is_at k t h = same k h.0 && same_task t h.1.task

  -- without this task's element at this key
  abbrev pub without : Held K → K → TaskId → Held K
  without s k t = filter (λ h. not (is_at k t h)) s

  -- with this task's element at this key made exclusive in its place
  abbrev pub with_exclusive : Held K → K → TaskId → Held K
  with_exclusive s k t = map (λ h. cond (is_at k t h) (h.0, record { task = h.1.task; ctl = E }) h) s

module _ {K : Type 0} where
  -- the keys at which a task has elements, in the order in which these were queued
  abbrev pub queued_by : Held K → TaskId → List K
  queued_by s t = pick (λ h. same_task t h.1.task) (λ h. h.0) s

-- the elements of all lists
abbrev pub State : Type 0
State = Held Res

-- the list of a resource
abbrev pub list_of : State → Res → List Elem
list_of s r = list_at same_res s r

-- the state after what ENQ decides
abbrev pub after_effect : State → Res → TaskId → Ctl → Effect → State
after_effect s r t c Nothing = s
after_effect s r t c Append = s ++ (r, record { task = t; ctl = c }) ∷ []
after_effect s r t c MakeExclusive = with_exclusive same_res s r t

-- whether a task has as many elements as the limit allows
abbrev pub is_full : ℕ → State → TaskId → Bool
is_full limit s t = nat_le limit (length (queued_by s t))

-- what an ENQ is answered; `full` tells that its task has as many elements as it may
abbrev pub enq_code : State → Res → TaskId → Ctl → Ret → Bool → Code
enq_code s r t c ret full = (decide_enq (list_of s r) t c ret full).code

-- the state after an ENQ
abbrev pub enq_state : State → Res → TaskId → Ctl → Ret → Bool → State
enq_state s r t c ret full = after_effect s r t c (decide_enq (list_of s r) t c ret full).effect

-- what a DEQ is answered; `have` is RET=HAVE
abbrev pub deq_reply : State → Res → TaskId → Bool → Code
deq_reply s r t have = deq_code (standing_of (list_of s r) t) have

-- the state after a DEQ: only an owner gives control up
abbrev pub deq_state : State → Res → TaskId → State
deq_state s r t = cond (is_owner (standing_of (list_of s r) t)) (without same_res s r t) s

-- the state after a task's element was taken out wherever it stood
abbrev pub release_state : State → Res → TaskId → State
release_state s r t = without same_res s r t

-- whether a resource is one of the whole complex
abbrev pub is_systems : Res → Bool
is_systems (Step _ _ _ _) = false
is_systems (System _ _ _) = false
is_systems (Systems _ _) = true

-- whether an element is of a task of another system
abbrev pub is_of_other : ℕ → Elem → Bool
is_of_other n e = not (n == e.task.system.0)

-- without the elements of a system's tasks on Systems resources
abbrev pub remove_state : State → ℕ → State
remove_state s n = filter (λ h. not (is_systems h.0 && (n == h.1.task.system.0))) s

-- the list of a queue, or the empty list where there is none
abbrev pub list_at_some : Held ℕ → Option ℕ → List Elem
list_at_some s None = []
list_at_some s (Some q) = list_at nat_eq s q

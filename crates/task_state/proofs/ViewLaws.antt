-- Laws of the tasks of a system: what each word leaves of the task that it speaks of, of the others, and of
-- what was told.
use Rattle.std.proofs.Common.{◌≡◌, ◌≢◌, ◌<◌, ◌+◌, ℕ, true, List, [], ◌∷◌, ◌++◌, length, get_or, refl, ap, ◌∙◌, arith}
use Rattle.std.proofs.lemmas.List.{get_or_default, get_or-set_same}
use Rattle.std.proofs.Common.{get_or-set_other, length-set}
use Rattle.std.proofs.lemmas.Bool.{and_parts, ltb-true, eqb-true}
use Rattle.grs_base.specs.declared.resource.TaskId.{TaskId}
use Rattle.grs_base.specs.declared.resource.Res.{Res}
use Rattle.grs_wire.specs.declared.told.ToldLine.{ToldLine}
use Rattle.task_state.specs.declared.state.Rec.{Rec}
use Rattle.task_state.specs.declared.state.Phase.{Phase}
use Rattle.task_state.specs.declared.state.TaskState.{TaskState}
use Rattle.std.specs.Prelude.{zero, suc}
use Rattle.std.proofs.Common.{add-one, zero-add, suc-add, sum, take, sym, append_assoc}
use Rattle.std.proofs.lemmas.Grind.{common_steps}
use Rattle.std.proofs.lemmas.List.{length-map}
use Rattle.task_state.specs.View.{TasksView, new_tasks, on_record, is_task, new_task, state_of, with_state, with_phase}
use Rattle.task_state.specs.View.{telling}

-- what stands at a place that is there doesn't depend on what stands for a missing one
pub get_or-read : {A : Type 0} (xs : List A) (i : ℕ) (x d : A) → i < length xs → x ≡ get_or xs i x → x ≡ get_or xs i d
get_or-read xs i x d h e = e ∙ get_or_default xs i x d h

-- a task of the system has a place among its tasks
pub is_task-place : (v : TasksView) (t : TaskId) → is_task v t ≡ true → t.task < length v.tasks
is_task-place v t h = ltb-true _ _ (and_parts _ _ h).1

pub is_task-system : (v : TasksView) (t : TaskId) → is_task v t ≡ true → v.system ≡ t.system.0
is_task-system v t h = eqb-true _ _ (and_parts _ _ h).0

pub state_of-same : (v : TasksView) (t : TaskId) (f : TaskState → TaskState) → is_task v t ≡ true
    → state_of (with_state v t f) t ≡ f (state_of v t)
unfolding state_of with_state
state_of-same v t f h = get_or-set_same v.tasks t.task _ new_task (is_task-place v t h)

pub state_of-other : (v : TasksView) (t u : TaskId) (f : TaskState → TaskState) → u.task ≢ t.task
    → state_of (with_state v t f) u ≡ state_of v u
unfolding state_of with_state
state_of-other v t u f apart = get_or-set_other v.tasks t.task u.task _ new_task apart

pub outstanding-phase : (v : TasksView) (t : TaskId) (p : Phase) → is_task v t ≡ true
    → (state_of (with_phase v t p) t).outstanding ≡ (state_of v t).outstanding
unfolding with_phase
outstanding-phase v t p h = ap (λ (s : TaskState). s.outstanding) (state_of-same v t _ h)

pub told-state : (v : TasksView) (t : TaskId) (f : TaskState → TaskState) → (with_state v t f).told ≡ v.told
unfolding with_state
told-state v t f = refl

pub is_task-state : (v : TasksView) (t u : TaskId) (f : TaskState → TaskState)
    → is_task (with_state v t f) u ≡ is_task v u
unfolding with_state
is_task-state v t u f = grind (arith, length-set {A = TaskState})

pub state_of-telling : (v : TasksView) (u : TaskId) (l : ToldLine) → state_of (telling v l) u ≡ state_of v u
unfolding state_of telling
state_of-telling v u l = refl

pub told-telling : (v : TasksView) (l : ToldLine) → (telling v l).told ≡ v.told ++ l ∷ []
unfolding telling
told-telling v l = refl

pub is_task-telling : (v : TasksView) (u : TaskId) (l : ToldLine) → is_task (telling v l) u ≡ is_task v u
unfolding telling
is_task-telling v u l = refl

-- one more task at the start
pub new_tasks-push : (n : ℕ) → new_tasks n ++ new_task ∷ [] ≡ new_tasks (suc n)
new_tasks-push zero = refl
new_tasks-push (suc n) = ap (λ xs. new_task ∷ xs) (new_tasks-push n)

pub new_tasks-more : (n : ℕ) → new_tasks n ++ new_task ∷ [] ≡ new_tasks (n + 1)
new_tasks-more n = rw add-one (new_tasks-push n)

-- the tasks of several jobs
pub new_tasks-add : (a b : ℕ) → new_tasks (a + b) ≡ new_tasks a ++ new_tasks b
new_tasks-add zero b = ap new_tasks (zero-add b)
new_tasks-add (suc a) b = ap new_tasks (suc-add a b) ∙ ap (λ xs. new_task ∷ xs) (new_tasks-add a b)

-- one more task behind others, and those of one more job
pub more_tasks : (xs ys zs : List TaskState) (n : ℕ) → ys ≡ xs ++ new_tasks n → zs ≡ ys ++ new_task ∷ []
    → zs ≡ xs ++ new_tasks (n + 1)
more_tasks xs ys zs n so_far is =
    is
    ∙ ap (λ (l : List TaskState). l ++ new_task ∷ []) so_far
    ∙ append_assoc xs (new_tasks n) (new_task ∷ [])
    ∙ ap (λ (l : List TaskState). xs ++ l) (new_tasks-more n)

pub more_jobs : (xs ys : List TaskState) (js : List ℕ) (i : ℕ) → i < length js → xs ≡ new_tasks (sum (take i js))
    → ys ≡ xs ++ new_tasks (get_or js i 0) → ys ≡ new_tasks (sum (take (i + 1) js))
more_jobs xs ys js i h so_far is =
    is
    ∙ ap (λ (l : List TaskState). l ++ new_tasks (get_or js i 0)) so_far
    ∙ sym (new_tasks-add (sum (take i js)) (get_or js i 0))
    ∙ ap new_tasks (grind (arith, common_steps, h))

-- a change leaves as many records
pub length-on_record : (r : Res) (f : Rec → Rec) (xs : List Rec) → length (on_record r f xs) ≡ length xs
length-on_record r f xs = length-map xs _

pub ruleset kept = (get_or-read, is_task-place)

pub ruleset still_asked = (outstanding-phase)

-- What a system's outbox has stays of its tasks, and the lists at which a task looks are those of its system.
use Rattle.std.proofs.Common.{◌≡◌, zero, suc, take, drop, set, ℕ, true, List, [], ◌∷◌, ◌++◌, Option, refl, ap, ◌∙◌}
use Rattle.std.proofs.Common.{arith}
use Rattle.std.proofs.lemmas.Bool.Decides.{nat_tests}
use Rattle.std.specs.Prelude.{◌&&◌, ◌==◌, nat_lt}
use Rattle.std.proofs.lemmas.Bool.{eqb-true}
use Rattle.std.proofs.lemmas.List.{set-set}
use Rattle.grs_base.specs.Looks.{look}
use Rattle.grs_base.specs.State.{State}
use Rattle.grs_base.specs.declared.look.Filter.{Filter}
use Rattle.grs_base.specs.declared.look.Place.TheVariants.{Local}
use Rattle.grs_base.specs.declared.resource.SysId.{SysId}
use Rattle.grs_base.specs.declared.resource.TaskId.{TaskId}
use Rattle.grs_wire.specs.declared.request.Req.{Req}
use Rattle.task_state.proofs.Keeps.{keeps}
use Rattle.task_state.proofs.ViewLaws.{state_of-same}
use Rattle.task_state.specs.View.{TasksView, is_task, state_of, with_outstanding, with_state}
use Rattle.task_state.specs.declared.state.Asked.{Asked}
use Rattle.task_state.specs.declared.state.TaskState.{TaskState}
use Rattle.grs_node.specs.Node.{are_of_system}

pub are_of-more : (s n : ℕ) (qs : List Req) (q : Req) → are_of_system s n qs ≡ true
    → (s == q.task.system.0) && nat_lt q.task.task n ≡ true → are_of_system s n (qs ++ q ∷ []) ≡ true
are_of-more s n [] q h new = grind (arith, nat_tests, new)
are_of-more s n (x ∷ qs) q h new = grind (arith, nat_tests, h, new, are_of-more s n qs q)

pub are_of-take : (s n : ℕ) (qs : List Req) (k : ℕ) → are_of_system s n qs ≡ true → are_of_system s n (take k qs) ≡ true
are_of-take s n [] zero h = refl
are_of-take s n [] (suc k) h = refl
are_of-take s n (x ∷ qs) zero h = refl
are_of-take s n (x ∷ qs) (suc k) h = grind (arith, nat_tests, h, are_of-take s n qs k)

pub are_of-drop : (s n : ℕ) (qs : List Req) (k : ℕ) → are_of_system s n qs ≡ true → are_of_system s n (drop k qs) ≡ true
are_of-drop s n [] zero h = refl
are_of-drop s n [] (suc k) h = refl
are_of-drop s n (x ∷ qs) zero h = h
are_of-drop s n (x ∷ qs) (suc k) h = are_of-drop s n qs k (grind (arith, nat_tests, h))

pub own_look : (own : State) (s : SysId) (v : TasksView) (t : TaskId) (f : Filter) → s.0 ≡ v.system → is_task v t ≡ true
    → look own (Local s) f ≡ look own (Local t.system) f
own_look own s v t f is here = ap (λ (x : SysId). look own (Local x) f) same
  where
    same : s ≡ t.system
    same = grind (arith, eqb-true, nat_tests, is, here)

-- what a task asks for now takes the place of what it asked for before
pub outstanding-again : (v : TasksView) (t : TaskId) (a b : Option Asked) → is_task v t ≡ true
    → with_outstanding (with_outstanding v t a) t b ≡ with_outstanding v t b
unfolding with_outstanding with_state
outstanding-again v t a b here =
    ap (λ xs. record v { tasks = xs })
    (set-set v.tasks t.task (record (state_of v t) { outstanding = a })
    (record (state_of (with_outstanding v t a) t) { outstanding = b })
    ∙ ap (λ (x : TaskState). set v.tasks t.task (record x { outstanding = b }))
    (state_of-same v t (λ x. record x { outstanding = a }) here))

pub ruleset asked_again = (outstanding-again)

pub ruleset kept = (keeps, are_of-more, are_of-take, are_of-drop)

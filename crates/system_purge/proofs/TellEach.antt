-- Tasks that are told control stay those of their system, and as many.
use Rattle.std.proofs.Common.{◌≡◌, List, [], ◌∷◌, ◌++◌, length, map, Option, Some, None, refl, ap, sym, ◌∙◌}
use Rattle.std.specs.Prelude.{ℕ, ◌&&◌, ◌==◌}
use Rattle.std.specs.List.{flat_map}
use Rattle.freed_owners.specs.Freed.{freed}
use Rattle.grs_base.specs.declared.resource.Res.{Res}
use Rattle.grs_base.specs.declared.resource.TaskId.{TaskId}
use Rattle.grs_wire.specs.declared.told.ToldLine.{ToldLine}
use Rattle.system_purge.specs.Purge.{tell_each, tell_freed, freed_on, FreedAreTold}
use Rattle.task_state.proofs.Keeps.{either}
use Rattle.task_state.proofs.Stays.{system-phase, count-phase, system-told, count-told, system-telling, count-telling}
use Rattle.task_state.specs.Replies.{tell_all, tell_new, tell_control, tell_untold, tell_line, passes_wait, is_held}
use Rattle.task_state.specs.Replies.{is_held_for, is_leaving}
use Rattle.task_state.specs.View.{TasksView, is_task, state_of, record_of, with_phase, with_told, telling}
use Rattle.task_state.specs.declared.state.Rec.{Rec}
use Rattle.grs_wire.specs.declared.told.ToldLine.TheVariants as told
use Rattle.task_state.specs.declared.state.Phase.TheVariants as phases

-- what a step keeps, which keeps it in each of its parts
module _ {X : Type 0} (keep : TasksView → X)
    (phase : (v : TasksView) (t : TaskId) → keep (with_phase v t phases.Ready) ≡ keep v)
    (marked : (v : TasksView) (t : TaskId) (r : Res) → keep (with_told v t r) ≡ keep v)
    (line : (v : TasksView) (l : ToldLine) → keep (telling v l) ≡ keep v) where
  wait-kept : (v : TasksView) (t : TaskId) (r : Res) → keep (passes_wait v t r) ≡ keep v
  unfolding passes_wait
  wait-kept v t r = either keep (is_held_for r (state_of v t).phase) _ v (keep v) (line _ _ ∙ phase v t) refl

  line-kept : (v : TasksView) (t : TaskId) (r : Res) (k : ℕ) → keep (tell_line v t r k) ≡ keep v
  unfolding tell_line
  line-kept v t r k =
      either keep (is_held (state_of v t).phase && (k == (state_of v t).line)) _ _ (keep v)
      (line _ _ ∙ (phase (with_told v t r) t ∙ marked v t r))
      (wait-kept (telling (with_told v t r) (told.Post t k)) t r ∙ (line _ _ ∙ marked v t r))

  untold-kept : (v : TasksView) (t : TaskId) (r : Res) (o : Option Rec) → keep (tell_untold v t r o) ≡ keep v
  unfolding tell_untold
  untold-kept v t r None = refl
  untold-kept v t r (Some x) =
      either keep x.told v _ (keep v) refl
      (either keep (is_leaving r (state_of v t).outstanding) _ _ (keep v) (marked v t r) (line-kept v t r x.line))

  control-kept : (v : TasksView) (r : Res) (t : TaskId) → keep (tell_control v r t) ≡ keep v
  unfolding tell_control
  control-kept v r t =
      either keep (is_task v t) _ v (keep v) (untold-kept v t r (record_of (state_of v t).records r)) refl

  pub each-kept : (v : TasksView) (os : List (TaskId × Res)) → keep (tell_each v os) ≡ keep v
  unfolding tell_each
  each-kept v [] = refl
  each-kept v (o ∷ os) = each-kept (tell_control v o.1 o.0) os ∙ control-kept v o.1 o.0

pub system-each : (v : TasksView) (os : List (TaskId × Res)) → (tell_each v os).system ≡ v.system
system-each =
    each-kept (λ v. v.system) (λ v t. system-phase v t phases.Ready) (λ v t r. system-told v t r)
    (λ v l. system-telling v l)

pub count-each : (v : TasksView) (os : List (TaskId × Res)) → length (tell_each v os).tasks ≡ length v.tasks
count-each =
    each-kept (λ v. length v.tasks) (λ v t. count-phase v t phases.Ready) (λ v t r. count-told v t r)
    (λ v l. count-telling v l)

-- ---- list by list
all-each : (v : TasksView) (r : Res) (ts : List TaskId) → tell_all v r ts ≡ tell_each v (map (λ t. (t, r)) ts)
unfolding tell_all tell_each
all-each v r [] = refl
all-each v r (t ∷ ts) = all-each (tell_control v r t) r ts

each-behind : (v : TasksView) (xs ys : List (TaskId × Res)) → tell_each v (xs ++ ys) ≡ tell_each (tell_each v xs) ys
unfolding tell_each
each-behind v [] ys = refl
each-behind v (x ∷ xs) ys = each-behind (tell_control v x.1 x.0) xs ys

pub freed_are_told : FreedAreTold
unfolding tell_freed tell_new tell_each
freed_are_told v n [] = refl
freed_are_told v n (x ∷ xs) =
    freed_are_told (tell_all v x.res (freed n x.res x.elems)) n xs
    ∙ ap (λ (w : TasksView). tell_each w (flat_map (freed_on n) xs)) (all-each v x.res (freed n x.res x.elems))
    ∙ sym (each-behind v (freed_on n x) (flat_map (freed_on n) xs))

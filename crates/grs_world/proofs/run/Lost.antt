-- What stays so of a system's tasks and of its part when it loses removed systems, takes a notice, or a part of an
-- entry: what each step of these keeps.
use Rattle.grs_world.proofs.Common.{[], ◌&&◌, ◌++◌, ◌==◌, ◌∙◌, ◌∷◌, ◌≡◌, ap, append_assoc, by_test, C00, Deck, has}
use Rattle.grs_world.proofs.Common.{is_held_for, is_leaving, is_news, is_task, length, List, lose, lose_all, lose_each}
use Rattle.grs_world.proofs.Common.{losing, losing_in, move_each, move_entry, Moved, names_of, NodeState, None, Option}
use Rattle.grs_world.proofs.Common.{PartRec, passes_wait, Phase, Rec, record_of, Res, sent_again, Some, Standing}
use Rattle.grs_world.proofs.Common.{standing, StarPart, state_of, suc, SysId, take_up, take_up_all, take_up_below}
use Rattle.grs_world.proofs.Common.{TaskId, TasksView, tell_control, tell_each, tell_line, tell_untold, telling}
use Rattle.grs_world.proofs.Common.{told-state, told-telling, ToldLine, with_phase, with_role, with_told, zero, ℕ}
use Rattle.task_state.specs.Replies.{is_held}
use Rattle.grs_node.specs.Removal.{installing, took_notice, took_part}
use Rattle.contention_mgr.specs.Installs.{own_owners}
use Rattle.contention_mgr.specs.Loses.{gained}
use Rattle.system_purge.specs.Gathers.{is_complete, with_part_at}
use Rattle.grs_wire.specs.declared.told.ToldLine.TheVariants as lines
use Rattle.grs_wire.specs.declared.told.Verb.TheVariants as verbs
use Rattle.task_state.specs.declared.state.Phase.TheVariants as phases

-- ---- the tasks of a system with its part
module _ (P : Standing → Type 0) (up : (names : List TaskId) (x : Standing) (e : ℕ) → P x → P (take_up names x e)) where
  each-up : (names : List TaskId) (x : Standing) (k : ℕ) → P x → P (take_up_below names x k)
  unfolding take_up_below
  each-up names x zero h = h
  each-up names x (suc e) h =
      by_test P (is_complete (take_up_below names x e).part.gathers e) (take_up names (take_up_below names x e) e)
      (take_up_below names x e) (λ whole. up names (take_up_below names x e) e (each-up names x e h))
      (λ part. each-up names x e h)

  all-up : (names : List TaskId) (x : Standing) → P x → P (take_up_all names x)
  all-up names x h = each-up names x (length x.part.manager.entries) h

  -- a loss
  module _ (loss : (x : Standing) (s : SysId) → P x → P (lose x s)) where
    each-loss : (ss : List SysId) (x : Standing) → P x → P (lose_each x ss)
    unfolding lose_each
    each-loss [] x h = h
    each-loss (s ∷ ss) x h = each-loss ss (lose x s) (loss x s h)

    pub by-loss : (names : List TaskId) (x : Standing) (ss : List SysId) → P x → P (lose_all names x ss)
    by-loss names x ss h = all-up names (lose_each x ss) (each-loss ss x h)

  -- a notice
  module _ (known : ℕ) (move : (x : Standing) (m : Moved) → P x → P (move_entry known x m)) where
    each-move : (ms : List Moved) (x : Standing) → P x → P (move_each known x ms)
    unfolding move_each
    each-move [] x h = h
    each-move (m ∷ ms) x h = each-move ms (move_entry known x m) (move x m h)

    pub by-notice : (names : List TaskId) (x : Standing) (ms : List Moved) → P x → P (took_notice known names x ms)
    by-notice names x ms h = all-up names (move_each known x ms) (each-move ms x h)

  -- a part
  pub by-part : (known : ℕ) (names : List TaskId) (x : Standing) (e : ℕ) (s : SysId) (recs : List PartRec)
      → P (standing x.tasks (record x.part { gathers = with_part_at x.part.gathers e s recs })) → P x
      → P (took_part known names x e s recs)
  by-part known names x e s recs with_one h =
      by_test P (has known s.0) x
      (take_up_all names (standing x.tasks (record x.part { gathers = with_part_at x.part.gathers e s recs })))
      (λ gone. h)
      (λ there.
      all-up names (standing x.tasks (record x.part { gathers = with_part_at x.part.gathers e s recs })) with_one)

-- ---- the tasks alone: what stays so where a task is told control
module _ (P : TasksView → Type 0) (told : (v : TasksView) (r : Res) (t : TaskId) → P v → P (tell_control v r t)) where
  pub tasks-each : (os : List (TaskId × Res)) (v : TasksView) → P v → P (tell_each v os)
  unfolding tell_each
  tasks-each [] v h = h
  tasks-each (o ∷ os) v h = tasks-each os (tell_control v o.1 o.0) (told v o.1 o.0 h)

  tasks-up : (names : List TaskId) (x : Standing) (e : ℕ) → P x.tasks → P (take_up names x e).tasks
  tasks-up names x e h = tasks-each (own_owners (installing names x e) e) x.tasks h

  pub tasks-lost : (deck : Deck) (n : NodeState) (ss : List SysId) → P n.tasks → P (losing deck n ss).tasks
  unfolding losing
  tasks-lost deck n ss h = go n.star
    where
      go : (o : Option StarPart) → P (losing_in deck n o ss).tasks
      go None = h
      go (Some p) =
          by-loss (λ (x : Standing). P x.tasks) tasks-up
          (λ x s k. tasks-each (gained x.part.manager s) x.tasks k) (names_of deck n.tasks.system)
          (standing n.tasks p) ss h

  -- and where tasks send again what is asked of an entry
  pub tasks-notice : ((p : StarPart) (e : ℕ) (v : TasksView) → P v → P (sent_again p e v)) → (known : ℕ)
      → (names : List TaskId) (x : Standing) (ms : List Moved) → P x.tasks → P (took_notice known names x ms).tasks
  tasks-notice again known names x ms h =
      by-notice (λ (y : Standing). P y.tasks) tasks-up known
      (λ y m k.
      by_test (λ (z : Standing). P z.tasks) (is_news y.part m.entry)
      (standing (sent_again y.part m.entry y.tasks) (with_role known y.part m)) y
      (λ news. again y.part m.entry y.tasks k) (λ old. k))
      names x ms h

  pub tasks-part : (known : ℕ) (names : List TaskId) (x : Standing) (e : ℕ) (s : SysId) (recs : List PartRec)
      → P x.tasks → P (took_part known names x e s recs).tasks
  tasks-part known names x e s recs h = by-part (λ (y : Standing). P y.tasks) tasks-up known names x e s recs h h

-- ---- What is told stays told, behind lines that were told before.
abbrev pub IsBehind : List ToldLine → TasksView → Type 0
IsBehind ls v = (more : List ToldLine) × (v.told ≡ ls ++ more)

module _ (ls : List ToldLine) where
  more-telling : (v : TasksView) (l : ToldLine) → IsBehind ls v → IsBehind ls (telling v l)
  more-telling v l h = (
    h.0 ++ l ∷ [],
    told-telling v l ∙ (ap (λ T. T ++ l ∷ []) h.1 ∙ append_assoc ls h.0 (l ∷ [])),
  )

  more-phase : (v : TasksView) (t : TaskId) (p : Phase) → IsBehind ls v → IsBehind ls (with_phase v t p)
  unfolding with_phase
  more-phase v t p h = (h.0, told-state v t _ ∙ h.1)

  more-marked : (v : TasksView) (t : TaskId) (r : Res) → IsBehind ls v → IsBehind ls (with_told v t r)
  unfolding with_told
  more-marked v t r h = (h.0, told-state v t _ ∙ h.1)

  more-pass : (v : TasksView) (t : TaskId) (r : Res) → IsBehind ls v → IsBehind ls (passes_wait v t r)
  unfolding passes_wait
  more-pass v t r h =
      by_test (IsBehind ls) (is_held_for r (state_of v t).phase)
      (telling (with_phase v t phases.Ready) (lines.Coded t (state_of v t).line 0 verbs.Wait C00)) v
      (λ held. more-telling (with_phase v t phases.Ready) _ (more-phase v t phases.Ready h)) (λ free. h)

  more-line : (v : TasksView) (t : TaskId) (r : Res) (k : ℕ) → IsBehind ls v → IsBehind ls (tell_line v t r k)
  unfolding tell_line
  more-line v t r k h =
      by_test (IsBehind ls) (is_held (state_of v t).phase && (k == (state_of v t).line))
      (telling (with_phase (with_told v t r) t phases.Ready) (lines.Coded t k 0 verbs.Enq C00))
      (passes_wait (telling (with_told v t r) (lines.Post t k)) t r)
      (λ held.
      more-telling (with_phase (with_told v t r) t phases.Ready) _
      (more-phase (with_told v t r) t phases.Ready (more-marked v t r h)))
      (λ free.
      more-pass (telling (with_told v t r) (lines.Post t k)) t r
      (more-telling (with_told v t r) (lines.Post t k) (more-marked v t r h)))

  more-untold : (v : TasksView) (t : TaskId) (r : Res) (o : Option Rec) → IsBehind ls v
      → IsBehind ls (tell_untold v t r o)
  unfolding tell_untold
  more-untold v t r None h = h
  more-untold v t r (Some x) h =
      by_test (IsBehind ls) x.told v _ (λ told. h)
      (λ untold.
      by_test (IsBehind ls) (is_leaving r (state_of v t).outstanding) (with_told v t r) (tell_line v t r x.line)
      (λ leaving. more-marked v t r h) (λ stays. more-line v t r x.line h))

  more-control : (v : TasksView) (r : Res) (t : TaskId) → IsBehind ls v → IsBehind ls (tell_control v r t)
  unfolding tell_control
  more-control v r t h =
      by_test (IsBehind ls) (is_task v t) (tell_untold v t r (record_of (state_of v t).records r)) v
      (λ here. more-untold v t r (record_of (state_of v t).records r) h) (λ away. h)

  -- so it is behind the loss of systems
  pub told-lost : (deck : Deck) (n : NodeState) (ss : List SysId) → IsBehind ls n.tasks
      → IsBehind ls (losing deck n ss).tasks
  told-lost deck n ss h = tasks-lost (IsBehind ls) more-control deck n ss h

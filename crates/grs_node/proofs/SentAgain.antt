-- Tasks are to send their requests again, one after the other.
use Rattle.std.proofs.Common.{◌≡◌, ◌+◌, ◌<◌, ℕ, true, false, cond, List, ◌++◌, length, map, take, drop, set, get_or, ap}
use Rattle.std.proofs.Common.{sym, ◌∙◌, arith, refl}
use Rattle.std.proofs.lemmas.List.{length-append, length-map, length-set, take-append-drop, set-get_or, get_or_default}
use Rattle.std.proofs.lemmas.List.Edits.{map_over_more}
use Rattle.grs_base.specs.declared.resource.TaskId.{TaskId}
use Rattle.grs_node.specs.Removal.{has_sent_in, again}
use Rattle.grs_node.specs.Star.{StarPart}
use Rattle.task_state.specs.View.{TasksView, new_task, state_of, with_state, with_phase, code_in}
use Rattle.task_state.specs.declared.state.Phase.{Phase}
use Rattle.task_state.specs.declared.state.TaskState.{TaskState}
use Rattle.task_state.specs.declared.state.Phase.TheVariants as phases

module _ (p : StarPart) (e : ℕ) (xs : List TaskState) where
  as-long : (ys : List TaskState) (i : ℕ) → ys ≡ map (again p e) (take i xs) ++ drop i xs → length ys ≡ length xs
  as-long ys i is =
      ap length is
      ∙ length-append (map (again p e) (take i xs)) (drop i xs)
      ∙ ap (λ (n : ℕ). n + length (drop i xs)) (length-map (take i xs) (again p e))
      ∙ sym (length-append (take i xs) (drop i xs))
      ∙ ap length (take-append-drop i xs)

  again-at : (ys : List TaskState) (i : ℕ) → i < length xs → ys ≡ map (again p e) (take i xs) ++ drop i xs
      → set ys i (again p e (get_or ys i new_task)) ≡ map (again p e) (take (i + 1) xs) ++ drop (i + 1) xs
  again-at ys i low is =
      map_over_more (again p e) xs ys i (get_or ys i new_task) low is
      (get_or_default ys i new_task (get_or ys i new_task) (omega (arith, low, as-long ys i is)))

  pub again-in : (v : TasksView) (t : TaskId) → t.task < length xs
      → v.tasks ≡ map (again p e) (take t.task xs) ++ drop t.task xs → has_sent_in p e (state_of v t) ≡ true
      → (with_phase v t phases.ToSend).tasks ≡ map (again p e) (take (t.task + 1) xs) ++ drop (t.task + 1) xs
  unfolding state_of with_state with_phase
  again-in v t low is sent =
      let x = get_or v.tasks t.task new_task in
      ap (set v.tasks t.task) (sym (ap (λ b. cond b (record x { phase = phases.ToSend }) x) sent))
      ∙ again-at v.tasks t.task low is

  pub again-out : (v : TasksView) (t : TaskId) → t.task < length xs
      → v.tasks ≡ map (again p e) (take t.task xs) ++ drop t.task xs → has_sent_in p e (state_of v t) ≡ false
      → v.tasks ≡ map (again p e) (take (t.task + 1) xs) ++ drop (t.task + 1) xs
  unfolding state_of
  again-out v t low is sent =
      let x = get_or v.tasks t.task new_task in
      sym (set-get_or v.tasks t.task new_task)
      ∙ ap (set v.tasks t.task) (sym (ap (λ b. cond b (record x { phase = phases.ToSend }) x) sent))
      ∙ again-at v.tasks t.task low is

  pub sent-more : (v u w : TasksView) (t : TaskId) (k : ℕ) → t.task ≡ k → k < length xs
      → v.tasks ≡ map (again p e) (take k xs) ++ drop k xs → has_sent_in p e (state_of v t) ≡ true
      → u ≡ with_phase v t phases.ToSend → w ≡ u
      → w.tasks ≡ map (again p e) (take (k + 1) xs) ++ drop (k + 1) xs
  sent-more v u w t k same low is sent step made =
      ap (λ (x : TasksView). x.tasks) (made ∙ step)
      ∙ (again-in v t (omega (arith, same, low))
      (is ∙ ap (λ (n : ℕ). map (again p e) (take n xs) ++ drop n xs) (sym same)) sent
      ∙ ap (λ (n : ℕ). map (again p e) (take (n + 1) xs) ++ drop (n + 1) xs) same)

  pub kept-more : (v w : TasksView) (t : TaskId) (k : ℕ) → t.task ≡ k → k < length xs
      → v.tasks ≡ map (again p e) (take k xs) ++ drop k xs → has_sent_in p e (state_of v t) ≡ false → w ≡ v
      → w.tasks ≡ map (again p e) (take (k + 1) xs) ++ drop (k + 1) xs
  kept-more v w t k same low is sent made =
      ap (λ (x : TasksView). x.tasks) made
      ∙ (again-out v t (omega (arith, same, low))
      (is ∙ ap (λ (n : ℕ). map (again p e) (take n xs) ++ drop n xs) (sym same)) sent
      ∙ ap (λ (n : ℕ). map (again p e) (take (n + 1) xs) ++ drop (n + 1) xs) same)

-- a task in another phase, and what stays
pub phase-told : (v : TasksView) (t : TaskId) (q : Phase) → (with_phase v t q).told ≡ v.told
unfolding with_state with_phase
phase-told v t q = refl

pub phase-system : (v : TasksView) (t : TaskId) (q : Phase) → (with_phase v t q).system ≡ v.system
unfolding with_state with_phase
phase-system v t q = refl

pub phase-count : (v : TasksView) (t : TaskId) (q : Phase) → length (with_phase v t q).tasks ≡ length v.tasks
unfolding with_state with_phase
phase-count v t q =
    length-set v.tasks t.task (record (state_of v t) { phase = q; code = code_in q (state_of v t).code })

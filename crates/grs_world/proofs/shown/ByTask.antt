-- A list of elements, taken apart by their tasks: where these are among tasks of which none stands twice, it has the
-- elements of each of them in turn.
use Rattle.grs_world.proofs.Common.{[], ◌++◌, ◌||◌, ◌∙◌, ◌∷◌, ◌≡◌, and_from, and_parts, ap, append_assoc, Bool, cond}
use Rattle.grs_world.proofs.Common.{Elem, false, filter, is_among, List, list_all, no_truth, not, not-true, or_parts}
use Rattle.grs_world.proofs.Common.{refl, same_task, same_task-exact, stand_apart, subst, sym, task_swap, TaskId, true}
use Rattle.std.specs.List.Sorted.{IsPermutation}
use Rattle.std.proofs.lemmas.List.Sorted.{IsPermutation-append_right, IsPermutation-filter_both, IsPermutation-refl}
use Rattle.std.proofs.lemmas.List.Sorted.{IsPermutation-trans}

abbrev pub of_task : TaskId → List Elem → List Elem
of_task t xs = filter (λ x. same_task t x.task) xs

abbrev pub of_tasks : List TaskId → List Elem → List Elem
of_tasks [] xs = []
of_tasks (t ∷ ts) xs = of_task t xs ++ of_tasks ts xs

pub of_tasks-append : (ts us : List TaskId) (xs : List Elem) → of_tasks (ts ++ us) xs ≡ of_tasks ts xs ++ of_tasks us xs
of_tasks-append [] us xs = refl
of_tasks-append (t ∷ ts) us xs =
    ap (λ (ys : List Elem). of_task t xs ++ ys) (of_tasks-append ts us xs)
    ∙ sym (append_assoc (of_task t xs) (of_tasks ts xs) (of_tasks us xs))

-- the others
abbrev of_others : TaskId → List Elem → List Elem
of_others t xs = filter (λ x. not (same_task t x.task)) xs

-- which are as they were of each other task
task-left : (t u : TaskId) (xs : List Elem) → same_task u t ≡ false → of_task u (of_others t xs) ≡ of_task u xs
task-left t u [] apart = refl
task-left t u (x ∷ xs) apart = go (same_task t x.task) refl (task-left t u xs apart)
  where
    go : (b : Bool) → same_task t x.task ≡ b → of_task u (of_others t xs) ≡ of_task u xs
        → of_task u (cond (not b) (x ∷ of_others t xs) (of_others t xs))
        ≡ cond (same_task u x.task) (x ∷ of_task u xs) (of_task u xs)
    go false e more = ap (λ (ys : List Elem). cond (same_task u x.task) (x ∷ ys) ys) more
    go true e more =
        let off : same_task u x.task ≡ false = ap (same_task u) (sym (same_task-exact t x.task e)) ∙ apart in
        more ∙ sym (ap (λ (b : Bool). cond b (x ∷ of_task u xs) (of_task u xs)) off)

tasks-left : (t : TaskId) (ts : List TaskId) (xs : List Elem) → is_among t ts ≡ false
    → of_tasks ts (of_others t xs) ≡ of_tasks ts xs
tasks-left t [] xs apart = refl
tasks-left t (u ∷ us) xs apart =
    let both = or_parts (same_task t u) (is_among t us) apart in
    ap (λ (ys : List Elem). ys ++ of_tasks us (of_others t xs)) (task-left t u xs (task_swap t u both.0))
    ∙ ap (λ (ys : List Elem). of_task u xs ++ ys) (tasks-left t us xs both.1)

-- and are among the rest
among-left : (t : TaskId) (ts : List TaskId) (xs : List Elem) → list_all (λ x. is_among x.task (t ∷ ts)) xs ≡ true
    → list_all (λ x. is_among x.task ts) (of_others t xs) ≡ true
among-left t ts [] all = refl
among-left t ts (x ∷ xs) all =
    let both = and_parts (is_among x.task (t ∷ ts)) (list_all (λ y. is_among y.task (t ∷ ts)) xs) all in
    go (same_task t x.task) refl both.0 (among-left t ts xs both.1)
  where
    here : (a b : Bool) → (a || b) ≡ true → a ≡ false → b ≡ true
    here true b h off = no_truth true refl off
    here false b h off = h

    go : (b : Bool) → same_task t x.task ≡ b → is_among x.task (t ∷ ts) ≡ true
        → list_all (λ y. is_among y.task ts) (of_others t xs) ≡ true
        → list_all (λ y. is_among y.task ts) (cond (not b) (x ∷ of_others t xs) (of_others t xs)) ≡ true
    go true e among more = more
    go false e among more =
        and_from (is_among x.task ts) (list_all (λ y. is_among y.task ts) (of_others t xs))
        (here (same_task x.task t) (is_among x.task ts) among (task_swap t x.task e)) more

pub by-tasks : (ts : List TaskId) (xs : List Elem) → stand_apart ts ≡ true
    → list_all (λ x. is_among x.task ts) xs ≡ true → IsPermutation xs (of_tasks ts xs)
by-tasks [] [] apart all = IsPermutation-refl []
by-tasks [] (x ∷ xs) apart all = no_truth true refl (sym all)
by-tasks (t ∷ ts) xs apart all =
    let both = and_parts (not (is_among t ts)) (stand_apart ts) apart in
    IsPermutation-trans xs (of_task t xs ++ of_others t xs) (of_task t xs ++ of_tasks ts xs)
    (IsPermutation-filter_both (λ (x : Elem). same_task t x.task) (λ (x : Elem). not (same_task t x.task))
    (λ x. refl) xs)
    (IsPermutation-append_right (of_task t xs) (of_others t xs) (of_tasks ts xs)
    (subst (λ (ys : List Elem). IsPermutation (of_others t xs) ys)
    (tasks-left t ts xs (not-true (is_among t ts) both.0))
    (by-tasks ts (of_others t xs) both.1 (among-left t ts xs all))))

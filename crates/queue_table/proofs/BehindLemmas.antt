-- Who gets control behind an element that leaves, by its place.
use Rattle.std.proofs.Common.{◌≡◌, ◌+◌, ℕ, zero, suc, Bool, true, false, cond, List, [], ◌∷◌, take, drop, length, map}
use Rattle.std.proofs.Common.{refl, ap, sym, ◌∙◌, arith, eqb, leb}
use Rattle.std.specs.Prelude.{Result, Ok, Err, IfOk}
use Rattle.std.proofs.Math.ListN.{drop_of_length-le}
use Rattle.std.proofs.lemmas.Bool.Decides.{nat_tests}
use Rattle.std.proofs.lemmas.List.{length-take-le}
use Rattle.grs_base.specs.Behind.{shared_tasks, owner_tasks, tasks_behind}
use Rattle.grs_base.specs.Same.{same_task}
use Rattle.grs_base.specs.Lists.{is_apart, has_task, is_shared, shared_front, owners, place_of, list_without}
use Rattle.grs_base.specs.State.{State, list_of, release_state}
use Rattle.grs_base.specs.declared.resource.TaskId.{TaskId}
use Rattle.grs_base.specs.declared.resource.Elem.{Elem}
use Rattle.grs_base.specs.declared.resource.Res.{Res}
use Rattle.grs_base.proofs.SameLaws.{same_task-exact}
use Rattle.grs_base.proofs.ListLaws.{shared_front-le, is_owner-standing}
use Rattle.grs_wire.specs.Wants.{became_owners}
use Rattle.queue_table.proofs.OwnerLemmas.{became_owners-without, became_owners-same, list_of-release}

by_cases : {P : Type 0} (b : Bool) → (b ≡ true → P) → (b ≡ false → P) → P
by_cases true yes_it no_it = yes_it refl
by_cases false yes_it no_it = no_it refl

shared_tasks-take : (es : List Elem) → map (λ e. e.task) (take (shared_front es) es) ≡ shared_tasks es
shared_tasks-take [] = refl
shared_tasks-take (e ∷ es) = grind (arith, shared_tasks-take es)

owner_tasks-take : (es : List Elem) → map (λ e. e.task) (take (owners es) es) ≡ owner_tasks es
owner_tasks-take [] = refl
owner_tasks-take (e ∷ es) = grind (arith, shared_tasks-take es)

-- a task without an element leaves nothing behind
list_without-absent : (es : List Elem) (t : TaskId) → has_task es t ≡ false → list_without es t ≡ es
list_without-absent [] t h = refl
list_without-absent (e ∷ es) t h = grind (arith, h, list_without-absent es t)

list_without-take_absent : (n : ℕ) (es : List Elem) (t : TaskId) → has_task es t ≡ false
    → list_without (take n es) t ≡ take n es
list_without-take_absent zero es t h = refl
list_without-take_absent (suc n) [] t h = refl
list_without-take_absent (suc n) (e ∷ es) t h = grind (arith, h, list_without-take_absent n es t)

-- how many of those in front stay
stay : (es : List Elem) (t : TaskId) → has_task es t ≡ false
    → length (list_without (take (shared_front es) es) t) ≡ shared_front es
stay es t h =
    ap (λ (l : List Elem). length l) (list_without-take_absent (shared_front es) es t h)
    ∙ length-take-le (shared_front es) es (shared_front-le es)

none_more : (es : List Elem) → map (λ (e : Elem). e.task) (drop (shared_front es) (take (shared_front es) es)) ≡ []
none_more es =
    ap (map (λ (e : Elem). e.task)) (drop_of_length-le (take (shared_front es) es)
    (omega (arith, length-take-le (shared_front es) es (shared_front-le es))))

absent_behind : (e : Elem) (es : List Elem) (t : TaskId) → is_apart (e ∷ es) ≡ true → same_task t e.task ≡ true
    → has_task es t ≡ false
absent_behind e es t a s = grind (arith, a, s, same_task-exact t e.task)

-- one of shared elements leaves, or what stands behind them
abbrev shared_left : List Elem → TaskId → List TaskId
shared_left es t =
    map (λ e. e.task) (drop (length (list_without (take (shared_front es) es) t))
    (take (shared_front (list_without es t)) (list_without es t)))

abbrev shared_told : List Elem → TaskId → List TaskId
shared_told es t = cond (eqb (place_of es t) (shared_front es)) (shared_tasks (drop (suc (place_of es t)) es)) []

shared_left-shared : (e : Elem) (es : List Elem) (t : TaskId) → has_task es t ≡ false → same_task t e.task ≡ true
    → is_shared e.ctl ≡ true → shared_left (e ∷ es) t ≡ []
shared_left-shared e es t absent s k =
    grind (arith, s, k, list_without-absent es t absent, stay es t absent, none_more es)

shared_left-exclusive : (e : Elem) (es : List Elem) (t : TaskId) → has_task es t ≡ false → same_task t e.task ≡ true
    → is_shared e.ctl ≡ false → shared_left (e ∷ es) t ≡ shared_tasks es
shared_left-exclusive e es t absent s k = grind (arith, s, k, list_without-absent es t absent, shared_tasks-take es)

shared_left-other : (e : Elem) (es : List Elem) (t : TaskId) → shared_left es t ≡ shared_told es t
    → same_task t e.task ≡ false → is_shared e.ctl ≡ true → shared_left (e ∷ es) t ≡ shared_told (e ∷ es) t
shared_left-other e es t rest s k = grind (arith, nat_tests, s, k, rest)

shared_left-blocked : (e : Elem) (es : List Elem) (t : TaskId) → same_task t e.task ≡ false → is_shared e.ctl ≡ false
    → shared_left (e ∷ es) t ≡ shared_told (e ∷ es) t
shared_left-blocked e es t s k = grind (arith, nat_tests, s, k)

shared_left-told : (es : List Elem) (t : TaskId) → is_apart es ≡ true → shared_left es t ≡ shared_told es t
shared_left-told [] t a = refl
shared_left-told (e ∷ es) t a =
    by_cases (same_task t e.task)
    (λ s. let absent = absent_behind e es t a s in by_cases (is_shared e.ctl)
    (λ k. shared_left-shared e es t absent s k ∙ grind (arith, nat_tests, s, k))
    (λ k. shared_left-exclusive e es t absent s k ∙ grind (arith, nat_tests, s, k)))
    (λ s. by_cases (is_shared e.ctl)
    (λ k. shared_left-other e es t (shared_left-told es t (grind (arith, a))) s k)
    (λ k. shared_left-blocked e es t s k))

-- the same of a whole list
abbrev left : List Elem → TaskId → List TaskId
left es t =
    map (λ e. e.task)
    (drop (length (list_without (take (owners es) es) t)) (take (owners (list_without es t)) (list_without es t)))

next_owners : (es : List Elem)
    → map (λ (e : Elem). e.task) (drop (shared_front es) (take (owners es) es))
    ≡ cond (leb (suc (shared_front es)) 1) (owner_tasks es) []
next_owners [] = refl
next_owners (e ∷ es) = by_cases (is_shared e.ctl)
    (λ k. grind (arith, nat_tests, k, none_more es))
    (λ k. grind (arith, nat_tests, k))

left-shared : (e : Elem) (es : List Elem) (t : TaskId) → has_task es t ≡ false → same_task t e.task ≡ true
    → is_shared e.ctl ≡ true
    → left (e ∷ es) t ≡ map (λ (e : Elem). e.task) (drop (shared_front es) (take (owners es) es))
left-shared e es t absent s k = grind (arith, s, k, list_without-absent es t absent, stay es t absent)

left-exclusive : (e : Elem) (es : List Elem) (t : TaskId) → has_task es t ≡ false → same_task t e.task ≡ true
    → is_shared e.ctl ≡ false → left (e ∷ es) t ≡ owner_tasks es
left-exclusive e es t absent s k = grind (arith, s, k, list_without-absent es t absent, owner_tasks-take es)

left-other : (e : Elem) (es : List Elem) (t : TaskId) → same_task t e.task ≡ false → is_shared e.ctl ≡ true
    → left (e ∷ es) t ≡ shared_left es t
left-other e es t s k = grind (arith, s, k)

left-blocked : (e : Elem) (es : List Elem) (t : TaskId) → same_task t e.task ≡ false → is_shared e.ctl ≡ false
    → left (e ∷ es) t ≡ []
left-blocked e es t s k = grind (arith, s, k)

drop_next : (e : Elem) (es : List Elem) (p : ℕ) → drop (suc p) es ≡ drop (suc p + 1) (e ∷ es)
drop_next e es p = let two : suc (suc p) ≡ suc p + 1 = omega arith in ap (λ (n : ℕ). drop n (e ∷ es)) two

other_told : (e : Elem) (es : List Elem) (t : TaskId) → same_task t e.task ≡ false → is_shared e.ctl ≡ true
    → shared_told es t ≡ tasks_behind (e ∷ es) (place_of (e ∷ es) t)
other_told e es t s k = by_cases (eqb (place_of es t) (shared_front es))
    (λ b. grind (arith, nat_tests, s, k, b, drop_next e es (place_of es t)))
    (λ b. grind (arith, nat_tests, s, k, b))

left-behind : (es : List Elem) (t : TaskId) → is_apart es ≡ true → left es t ≡ tasks_behind es (place_of es t)
left-behind [] t a = grind (arith, nat_tests)
left-behind (e ∷ es) t a =
    by_cases (same_task t e.task)
    (λ s. let absent = absent_behind e es t a s in by_cases (is_shared e.ctl)
    (λ k. left-shared e es t absent s k ∙ next_owners es ∙ grind (arith, nat_tests, s, k))
    (λ k. left-exclusive e es t absent s k ∙ grind (arith, nat_tests, s, k)))
    (λ s. by_cases (is_shared e.ctl)
    (λ k. left-other e es t s k ∙ shared_left-told es t (grind (arith, a)) ∙ other_told e es t s k)
    (λ k. left-blocked e es t s k ∙ grind (arith, nat_tests, s, k)))

-- who becomes an owner where a task's element leaves
pub became_owners-behind : (es : List Elem) (t : TaskId) → is_apart es ≡ true
    → became_owners es (list_without es t) t ≡ tasks_behind es (place_of es t)
became_owners-behind es t a = became_owners-without es t a ∙ left-behind es t a

-- so of the list of a resource
pub told_by : (s : State) (r : Res) (t : TaskId) (es : List Elem) (told : List TaskId) → es ≡ list_of s r
    → is_apart es ≡ true → told ≡ tasks_behind es (place_of es t)
    → told ≡ became_owners (list_of s r) (list_of (release_state s r t) r) t
told_by s r t es told is apart behind =
    behind ∙ sym (became_owners-behind es t apart)
    ∙ ap (λ (l : List Elem). became_owners l (list_without l t) t) is
    ∙ ap (λ (l : List Elem). became_owners (list_of s r) l t) (sym (list_of-release s r t))

-- unless memory is wanting
pub told_by_ok : {B : Type 0} (s : State) (r : Res) (t : TaskId) (es : List Elem) (o : Result (List TaskId) B)
    → es ≡ list_of s r → is_apart es ≡ true → IfOk o (λ told. told ≡ tasks_behind es (place_of es t))
    → IfOk o (λ told. told ≡ became_owners (list_of s r) (list_of (release_state s r t) r) t)
told_by_ok s r t es (Ok told) is apart behind = told_by s r t es told is apart behind
told_by_ok s r t es (Err x) is apart behind = tt

-- nobody gets control where there is no list
pub told_none : (s : State) (r : Res) (t : TaskId) → [] ≡ list_of s r
    → [] ≡ became_owners (list_of s r) (list_of (release_state s r t) r) t
told_none s r t is = told_by s r t [] [] is refl (grind (arith, nat_tests))

pub ruleset told = (nat_tests, became_owners-same, is_owner-standing)

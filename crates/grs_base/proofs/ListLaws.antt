-- Laws of the list of one resource.
use Rattle.std.proofs.Common.{◌≡◌, ◌<◌, ◌≤◌, Bool, true, false, ◌||◌, List, [], ◌∷◌, ◌++◌, length, refl, arith, ltb}
use Rattle.std.specs.Prelude.{filter}
use Rattle.std.proofs.lemmas.Bool.Decides.{nat_tests}
use Rattle.grs_base.specs.Same.{same_task}
use Rattle.grs_base.specs.Lists.{shared_front, owners, place_of, standing_of, is_owner, owns, owns_shared, has_task}
use Rattle.grs_base.specs.Lists.{is_apart, list_exclusive}
use Rattle.grs_base.specs.declared.resource.TaskId.{TaskId}
use Rattle.grs_base.specs.declared.resource.Elem.{Elem}
use Rattle.grs_base.proofs.SameLaws.{same_task-exact}

pub owns_shared-place : (es : List Elem) (t : TaskId) → owns_shared es t ≡ ltb (place_of es t) (shared_front es)
owns_shared-place [] t = refl
owns_shared-place (e ∷ es) t = grind (arith, nat_tests, owns_shared-place es t)

pub owns-place : (es : List Elem) (t : TaskId) → owns es t ≡ ltb (place_of es t) (owners es)
owns-place [] t = refl
owns-place (e ∷ es) t = grind (arith, nat_tests, owns_shared-place es t)

pub place-le : (es : List Elem) (t : TaskId) → place_of es t ≤ length es
place-le [] t = omega arith
place-le (e ∷ es) t = grind (arith, place-le es t)

pub has_task-place : (es : List Elem) (t : TaskId) → has_task es t ≡ ltb (place_of es t) (length es)
has_task-place [] t = refl
has_task-place (e ∷ es) t = grind (arith, nat_tests, has_task-place es t)

-- the standing says whether the task owns
pub is_owner-standing : (es : List Elem) (t : TaskId) → is_owner (standing_of es t) ≡ owns es t
is_owner-standing es t = grind (arith, owns-place es t)

-- an owner stays one behind whom an element goes
pub owns_shared-append : (es fs : List Elem) (t : TaskId) → owns_shared es t ≡ true → owns_shared (es ++ fs) t ≡ true
owns_shared-append [] fs t h = cc
owns_shared-append (e ∷ es) fs t h = grind (arith, h, owns_shared-append es fs t)

pub owns-append : (es fs : List Elem) (t : TaskId) → owns es t ≡ true → owns (es ++ fs) t ≡ true
owns-append [] fs t h = cc
owns-append (e ∷ es) fs t h = grind (arith, h, owns_shared-append es fs t)

-- an owner stays one where others leave
pub owns_shared-filter : (q : Elem → Bool) (t : TaskId) → ((e : Elem) → same_task t e.task ≡ true → q e ≡ true)
    → (es : List Elem) → owns_shared es t ≡ true → owns_shared (filter q es) t ≡ true
owns_shared-filter q t keeps [] h = h
owns_shared-filter q t keeps (e ∷ es) h = grind (arith, h, keeps e, owns_shared-filter q t keeps es)

pub owns-from_shared : (es : List Elem) (t : TaskId) → owns_shared es t ≡ true → owns es t ≡ true
owns-from_shared [] t h = h
owns-from_shared (e ∷ es) t h = grind (arith, h)

pub owns-filter : (q : Elem → Bool) (t : TaskId) → ((e : Elem) → same_task t e.task ≡ true → q e ≡ true)
    → (es : List Elem) → owns es t ≡ true → owns (filter q es) t ≡ true
owns-filter q t keeps [] h = h
owns-filter q t keeps (e ∷ es) h =
    grind (arith, h, keeps e, owns_shared-filter q t keeps es, owns-from_shared (filter q es) t)

-- no task twice
pub has_task-append : (es fs : List Elem) (t : TaskId) → has_task (es ++ fs) t ≡ (has_task es t || has_task fs t)
has_task-append [] fs t = refl
has_task-append (e ∷ es) fs t = grind (arith, has_task-append es fs t)

pub has_task-filter : (q : Elem → Bool) (es : List Elem) (t : TaskId) → has_task es t ≡ false
    → has_task (filter q es) t ≡ false
has_task-filter q [] t h = h
has_task-filter q (e ∷ es) t h = grind (arith, h, has_task-filter q es t)

pub is_apart-filter : (q : Elem → Bool) (es : List Elem) → is_apart es ≡ true → is_apart (filter q es) ≡ true
is_apart-filter q [] h = h
is_apart-filter q (e ∷ es) h = grind (arith, h, is_apart-filter q es, has_task-filter q es e.task)

pub same_task-sym : (a b : TaskId) → same_task a b ≡ same_task b a
same_task-sym a b = grind (arith, nat_tests)

pub is_apart-push : (es : List Elem) (e : Elem) → is_apart es ≡ true → has_task es e.task ≡ false
    → is_apart (es ++ e ∷ []) ≡ true
is_apart-push [] e h a = refl
is_apart-push (x ∷ es) e h a =
    grind (arith, h, a, is_apart-push es e, has_task-append es (e ∷ []) x.task, same_task-sym x.task e.task)

pub has_task-exclusive : (es : List Elem) (t u : TaskId) → has_task (list_exclusive es u) t ≡ has_task es t
has_task-exclusive [] t u = refl
has_task-exclusive (e ∷ es) t u = grind (arith, has_task-exclusive es t u)

pub is_apart-exclusive : (es : List Elem) (u : TaskId) → is_apart (list_exclusive es u) ≡ is_apart es
is_apart-exclusive [] u = refl
is_apart-exclusive (e ∷ es) u = grind (arith, is_apart-exclusive es u, has_task-exclusive es e.task u)

-- two tasks at one place below the length are one
pub same_place : (es : List Elem) (t u : TaskId) → place_of es t ≡ place_of es u → place_of es t < length es → t ≡ u
same_place [] t u e h = absurd (omega arith)
same_place (x ∷ es) t u e h = grind (arith, e, h, same_task-exact t x.task, same_task-exact u x.task, same_place es t u)

pub shared_front-le : (es : List Elem) → shared_front es ≤ length es
shared_front-le [] = omega arith
shared_front-le (e ∷ es) = grind (arith, shared_front-le es)

pub owners-le : (es : List Elem) → owners es ≤ length es
owners-le [] = omega arith
owners-le (e ∷ es) = grind (arith, shared_front-le es)

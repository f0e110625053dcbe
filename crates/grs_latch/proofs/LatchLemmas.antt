-- One latch: how its list changes, and who gets it.
use Rattle.std.proofs.Common.{◌≡◌, ◌≤◌, ◌+◌, ℕ, zero, suc, Bool, true, false, List, [], ◌∷◌, ◌++◌, length, drop}
use Rattle.std.proofs.Common.{refl, ap, sym, ◌∙◌, arith, nat_eq, append-nil}
use Rattle.std.specs.Prelude.{slice_get, Result, Ok, Err, IfOk, OnOk}
use Rattle.std.proofs.lemmas.Bool.{eqb-true, eq-eqb}
use Rattle.std.proofs.lemmas.Bool.Decides.{nat_tests}
use Rattle.grs_base.specs.Same.{same_task}
use Rattle.grs_base.specs.Behind.{tasks_behind, owner_tasks, shared_tasks}
use Rattle.grs_base.specs.Lists.{standing_of, place_of, owners, is_apart, has_task, list_without}
use Rattle.grs_base.specs.State.{Held, list_at, without}
use Rattle.grs_base.specs.declared.resource.TaskId.{TaskId}
use Rattle.grs_base.specs.declared.resource.Elem.{Elem}
use Rattle.grs_base.specs.declared.decision.Standing.{Standing}
use Rattle.grs_base.specs.declared.decision.Standing.TheVariants.{Exclusive, OnlyShared, AmongShared, Waits, Absent}
use Rattle.grs_base.proofs.SameLaws.{IsEquality}
use Rattle.grs_base.proofs.ListLaws.{place-le, owners-le, has_task-place}
use Rattle.grs_base.proofs.StateLaws.{list_at-push, list_at-push_other, list_at-without, list_at-without_other}
use Rattle.queue_table.proofs.BehindLemmas.{became_owners-behind}
use Rattle.queue_table.proofs.OwnerLemmas.{became_owners-same}
use Rattle.grs_wire.specs.Wants.{became_owners}
use Rattle.grs_latch.specs.Latches.{is_queued, owners_without}

pub nat_equality : IsEquality nat_eq
nat_equality = record { exact = eqb-true; itself = λ a. eq-eqb a a refl }

-- what is queued is of a requestor that had no request
pub queued_absent : (st : Standing) (can may_wait : Bool) → is_queued st can may_wait ≡ true → st ≡ Absent
queued_absent st can may_wait h = grind (arith, h)

-- it stands at no place
pub absent_place : (es : List Elem) (t : TaskId) → standing_of es t ≡ Absent → place_of es t ≡ length es
absent_place es t h = grind (arith, nat_tests, h, place-le es t, owners-le es)

-- a request that goes last, behind a step that leaves the elements
pub push_absent : (s mid : Held ℕ) (k : ℕ) (t : TaskId) → mid ≡ s → standing_of (list_at nat_eq s k) t ≡ Absent
    → place_of (list_at nat_eq mid k) t ≡ length (list_at nat_eq mid k)
push_absent s mid k t same h =
    ap (λ (l : Held ℕ). place_of (list_at nat_eq l k) t) same
    ∙ absent_place (list_at nat_eq s k) t h
    ∙ sym (ap (λ (l : Held ℕ). length (list_at nat_eq l k)) same)

pub push_here : (s mid new : Held ℕ) (k : ℕ) (e : Elem) → mid ≡ s → new ≡ mid ++ (k, e) ∷ []
    → list_at nat_eq new k ≡ list_at nat_eq s k ++ e ∷ []
push_here s mid new k e same is =
    ap (λ (l : Held ℕ). list_at nat_eq l k) (is ∙ ap (λ (l : Held ℕ). l ++ (k, e) ∷ []) same)
    ∙ list_at-push nat_eq nat_equality s k e

pub push_others : (s mid new : Held ℕ) (k q : ℕ) (e : Elem) → mid ≡ s → new ≡ mid ++ (k, e) ∷ []
    → nat_eq q k ≡ false → list_at nat_eq new q ≡ list_at nat_eq s q
push_others s mid new k q e same is apart =
    ap (λ (l : Held ℕ). list_at nat_eq l q) (is ∙ ap (λ (l : Held ℕ). l ++ (k, e) ∷ []) same)
    ∙ list_at-push_other nat_eq nat_equality s q k e apart

-- a request that is taken out
pub take_here : (s new : Held ℕ) (k : ℕ) (t : TaskId) → new ≡ without nat_eq s k t
    → list_at nat_eq new k ≡ list_without (list_at nat_eq s k) t
take_here s new k t is = ap (λ (l : Held ℕ). list_at nat_eq l k) is ∙ list_at-without nat_eq nat_equality s k t

pub take_others : (s new : Held ℕ) (k q : ℕ) (t : TaskId) → new ≡ without nat_eq s k t → nat_eq q k ≡ false
    → list_at nat_eq new q ≡ list_at nat_eq s q
take_others s new k q t is apart =
    ap (λ (l : Held ℕ). list_at nat_eq l q) is ∙ list_at-without_other nat_eq nat_equality s q k t apart

-- the tasks behind a request that leaves
pub told_ok : {B : Type 0} (es : List Elem) (t : TaskId) (p : ℕ) (o : Result (List TaskId) B) → p ≡ place_of es t
    → is_apart es ≡ true → IfOk o (λ told. told ≡ tasks_behind es p) → IfOk o (λ told. told ≡ owners_without es t)
told_ok es t p (Ok told) place apart is =
    is ∙ ap (λ (n : ℕ). tasks_behind es n) place ∙ sym (became_owners-behind es t apart)
told_ok es t p (Err x) place apart is = tt

-- at most as many as have requests
shared_tasks-le : (es : List Elem) → length (shared_tasks es) ≤ length es
shared_tasks-le [] = omega arith
shared_tasks-le (e ∷ es) = grind (arith, shared_tasks-le es)

owner_tasks-le : (es : List Elem) → length (owner_tasks es) ≤ length es
owner_tasks-le [] = omega arith
owner_tasks-le (e ∷ es) = grind (arith, shared_tasks-le es)

drop-le : (n : ℕ) (es : List Elem) → length (drop n es) ≤ length es
drop-le zero es = omega arith
drop-le (suc n) [] = omega arith
drop-le (suc n) (e ∷ es) = omega (arith, drop-le n es)

pub tasks_behind-le : (es : List Elem) (p : ℕ) → length (tasks_behind es p) ≤ length es
tasks_behind-le es p =
    grind (
      arith,
      nat_tests,
      owner_tasks-le (drop 1 es),
      drop-le 1 es,
      shared_tasks-le (drop (p + 1) es),
      drop-le (p + 1) es,
    )

pub owners_without-behind : (es : List Elem) (t : TaskId) → is_apart es ≡ true
    → owners_without es t ≡ tasks_behind es (place_of es t)
owners_without-behind es t apart = became_owners-behind es t apart

pub ruleset leaves = (tasks_behind-le, owners_without-behind)

pub ruleset latch = (became_owners-same, queued_absent, absent_place)

-- a task without a request leaves nothing behind
list_without-absent : (es : List Elem) (t : TaskId) → has_task es t ≡ false → list_without es t ≡ es
list_without-absent [] t h = refl
list_without-absent (e ∷ es) t h = grind (arith, h, list_without-absent es t)

pub owners_without-absent : (es : List Elem) (t : TaskId) → has_task es t ≡ false → owners_without es t ≡ []
owners_without-absent es t h =
    ap (λ (l : List Elem). became_owners es l t) (list_without-absent es t h) ∙ became_owners-same es t

-- which has one, by how it stands
pub absent_none : (es : List Elem) (t : TaskId) → standing_of es t ≡ Absent → has_task es t ≡ false
absent_none es t h = grind (arith, nat_tests, h, absent_place es t h, has_task-place es t)

pub standing_there : (es : List Elem) (t : TaskId) → has_task es t ≡ false → standing_of es t ≡ Absent
standing_there es t h = grind (arith, nat_tests, h, has_task-place es t, place-le es t, owners-le es)

pub empty_none : (es : List Elem) (t : TaskId) → length es ≡ 0 → has_task es t ≡ false
empty_none [] t h = refl
empty_none (e ∷ es) t h = absurd (omega (arith, h))

pub ruleset purges = (empty_none, absent_none, owners_without-absent, standing_there, append-nil)

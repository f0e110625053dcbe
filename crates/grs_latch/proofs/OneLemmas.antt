-- A purge of a task that has one request.
use Rattle.std.proofs.Common.{◌≡◌, ◌≤◌, ◌+◌, ℕ, zero, suc, Bool, true, false, cond, not, ◌&&◌, ◌||◌, List, [], ◌∷◌}
use Rattle.std.proofs.Common.{◌++◌, length}
use Rattle.std.proofs.Common.{Some, None, refl, ap, sym, ◌∙◌, arith, nat_eq, append-nil}
use Rattle.std.specs.Prelude.{Option, slice_get}
use Rattle.std.specs.List.{list_all}
use Rattle.std.proofs.lemmas.Bool.{eq-eqb}
use Rattle.std.proofs.lemmas.Bool.Decides.{nat_tests}
use Rattle.grs_base.specs.Same.{same_task}
use Rattle.grs_base.specs.Lists.{has_task}
use Rattle.grs_base.specs.State.{Held, list_at, queued_by, without}
use Rattle.grs_base.specs.declared.resource.TaskId.{TaskId}
use Rattle.qel_store.specs.Items.{without_task}
use Rattle.grs_latch.specs.Latches.{Lists, requests_of, purge_grants, grants_at, owners_without, purged}
use Rattle.grs_latch.specs.Numbered.{list_in, lists_at, are_apart}
use Rattle.grs_latch.specs.declared.reply.Grant.{Grant}
use Rattle.grs_latch.proofs.NumberLemmas.{by_cases, lists_at-without_task}
use Rattle.grs_latch.proofs.LatchLemmas.{owners_without-absent}
use Rattle.grs_latch.proofs.PurgeLemmas.{requests-few, requests-next, none-granted}

-- a list of one
pub only-one : (xs : List ℕ) (q : ℕ) → length xs ≡ 1 → Some q ≡ slice_get xs 0 → xs ≡ q ∷ []
only-one [] q len first = absurd (omega (arith, len))
only-one (x ∷ []) q len first = grind (arith, first)
only-one (x ∷ y ∷ xs) q len first = absurd (omega (arith, len))

-- a task has a request where it is queued
abbrev is_one_of : ℕ → List ℕ → Bool
is_one_of q [] = false
is_one_of q (n ∷ ns) = nat_eq q n || is_one_of q ns

queued-has : (s : Held ℕ) (q : ℕ) (t : TaskId) → is_one_of q (queued_by s t) ≡ true
    → has_task (list_at nat_eq s q) t ≡ true
queued-has [] q t h = cc
queued-has ((k, e) ∷ s) q t h =
    by_cases (same_task t e.task)
    (λ i. by_cases (nat_eq q k)
    (λ j. grind (arith, i, j))
    (λ j. let on : has_task (list_at nat_eq s q) t ≡ true = queued-has s q t (grind (arith, h, i, j)) in
    grind (arith, j, on)))
    (λ i. let on : has_task (list_at nat_eq s q) t ≡ true = queued-has s q t (grind (arith, h, i)) in
    by_cases (nat_eq q k) (λ j. grind (arith, j, on)) (λ j. grind (arith, j, on)))

pub one-has : (s : Held ℕ) (q : ℕ) (t : TaskId) → queued_by s t ≡ q ∷ [] → has_task (list_at nat_eq s q) t ≡ true
one-has s q t one = queued-has s q t (ap (is_one_of q) one ∙ ap (λ (b : Bool). b || false) (eq-eqb q q refl))

-- so its set has one of it
some-requests : (s : Held ℕ) (ns : List (Option ℕ)) (l q : ℕ) (t : TaskId) → slice_get ns l ≡ Some (Some q)
    → has_task (list_at nat_eq s q) t ≡ true → 1 ≤ requests_of (lists_at ns s) t
some-requests s [] l q t at has = cc
some-requests s (None ∷ ns) zero q t at has = cc
some-requests s (Some n ∷ ns) zero q t at has =
    let same : n ≡ q = grind (arith, at) in
    let here : has_task (list_at nat_eq s n) t ≡ true = ap (λ (m : ℕ). has_task (list_at nat_eq s m) t) same ∙ has in
    grind (arith, here)
some-requests s (n ∷ ns) (suc l) q t at has =
    let on : 1 ≤ requests_of (lists_at ns s) t = some-requests s ns l q t at has in
    omega (arith, on, requests-next (list_in s n) (lists_at ns s) t)

pub one-request : (s : Held ℕ) (ns : List (Option ℕ)) (l q : ℕ) (t : TaskId) → are_apart ns ≡ true
    → slice_get ns l ≡ Some (Some q)
    → queued_by s t ≡ q ∷ [] → 1 ≡ requests_of (lists_at ns s) t
one-request s ns l q t apart at one =
    let few : requests_of (lists_at ns s) t ≤ length (queued_by s t) = requests-few ns s t apart in
    let len : length (queued_by s t) ≡ 1 = ap (λ (xs : List ℕ). length xs) one in
    omega (arith, few, len, some-requests s ns l q t at (one-has s q t one))

-- and those get latches who get its latch
grants-there : (s : Held ℕ) (set k : ℕ) (ns : List (Option ℕ)) (l q : ℕ) (t : TaskId) → slice_get ns l ≡ Some (Some q)
    → has_task (list_at nat_eq s q) t ≡ true → requests_of (lists_at ns s) t ≤ 1
    → purge_grants set k (lists_at ns s) t ≡ grants_at set (k + l) (owners_without (list_at nat_eq s q) t)
grants-there s set k [] l q t at has few = cc
grants-there s set k (None ∷ ns) zero q t at has few = cc
grants-there s set k (Some n ∷ ns) zero q t at has few =
    let same : n ≡ q = grind (arith, at) in
    let here : has_task (list_at nat_eq s n) t ≡ true = ap (λ (m : ℕ). has_task (list_at nat_eq s m) t) same ∙ has in
    let next = requests-next (list_at nat_eq s n) (lists_at ns s) t in
    let none : requests_of (lists_at ns s) t ≡ 0 = grind (arith, next, here, few) in
    ap (λ (gs : List Grant). grants_at set k (owners_without (list_at nat_eq s n) t) ++ gs)
    (none-granted set (suc k) (lists_at ns s) t none)
    ∙ append-nil (grants_at set k (owners_without (list_at nat_eq s n) t))
    ∙ ap (λ (m : ℕ). grants_at set k (owners_without (list_at nat_eq s m) t)) same
    ∙ ap (λ (m : ℕ). grants_at set m (owners_without (list_at nat_eq s q) t)) (omega arith)
grants-there s set k (n ∷ ns) (suc l) q t at has few =
    let next = requests-next (list_in s n) (lists_at ns s) t in
    let some = some-requests s ns l q t at has in
    let here : has_task (list_in s n) t ≡ false =
    by_cases (has_task (list_in s n) t) (λ h. absurd (grind (arith, next, some, few, h))) (λ h. h) in
    let less : requests_of (lists_at ns s) t ≤ 1 = omega (arith, next, few) in
    let on : purge_grants set (suc k) (lists_at ns s) t
    ≡ grants_at set (suc k + l) (owners_without (list_at nat_eq s q) t) =
    grants-there s set (suc k) ns l q t at has less in
    grind (arith, owners_without-absent (list_in s n) t here, on)

pub one-grants : (s : Held ℕ) (set : ℕ) (ns : List (Option ℕ)) (l q : ℕ) (t : TaskId) → are_apart ns ≡ true
    → slice_get ns l ≡ Some (Some q) → queued_by s t ≡ q ∷ []
    → grants_at set l (owners_without (list_at nat_eq s q) t) ≡ purge_grants set 0 (lists_at ns s) t
one-grants s set ns l q t apart at one =
    let few : requests_of (lists_at ns s) t ≤ 1 = omega (arith, one-request s ns l q t apart at one) in
    let place : 0 + l ≡ l = omega arith in
    sym (grants-there s set 0 ns l q t at (one-has s q t one) few
    ∙ ap (λ (m : ℕ). grants_at set m (owners_without (list_at nat_eq s q) t)) place)

-- it is all that leaves
all-there : (s : Held ℕ) (q : ℕ) (t : TaskId) → list_all (λ k. nat_eq q k) (queued_by s t) ≡ true
    → without nat_eq s q t ≡ without_task s t
all-there [] q t h = refl
all-there ((k, e) ∷ s) q t h =
    by_cases (same_task t e.task)
    (λ i. let there : nat_eq q k ≡ true = grind (arith, h, i) in
    let on : without nat_eq s q t ≡ without_task s t = all-there s q t (grind (arith, h, i)) in
    grind (arith, i, there, on))
    (λ i. let on : without nat_eq s q t ≡ without_task s t = all-there s q t (grind (arith, h, i)) in
    grind (arith, i, on))

pub one-purged : (s new : Held ℕ) (ns : List (Option ℕ)) (q : ℕ) (t : TaskId) → queued_by s t ≡ q ∷ []
    → new ≡ without nat_eq s q t → lists_at ns new ≡ purged (lists_at ns s) t
one-purged s new ns q t one is =
    let there : list_all (λ k. nat_eq q k) (queued_by s t) ≡ true =
    ap (λ (xs : List ℕ). list_all (λ k. nat_eq q k) xs) one ∙ ap (λ (b : Bool). b && true) (eq-eqb q q refl) in
    ap (lists_at ns) (is ∙ all-there s q t there) ∙ lists_at-without_task ns s t

pub ruleset only = (only-one, one-has)

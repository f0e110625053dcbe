-- A system of which a manager keeps no element is lost without a change.
use Rattle.std.proofs.Common.{◌≡◌, ℕ, Bool, true, false, cond, not, ◌&&◌, ◌||◌, List, [], ◌∷◌, ◌++◌, map, Option, Some}
use Rattle.std.proofs.Common.{None}
use Rattle.std.proofs.Common.{refl, ap, sym, ◌∙◌, subst}
use Rattle.std.specs.Prelude.{◌==◌, filter}
use Rattle.std.specs.List.{list_all, list_any, flat_map}
use Rattle.std.specs.Option.{option_map}
use Rattle.std.proofs.lemmas.Bool.{and_parts, or_left, true≢false}
use Rattle.grs_base.specs.Rows.{lists_from, row_of}
use Rattle.grs_base.specs.Same.{same_task}
use Rattle.grs_base.specs.State.{State, is_systems, list_of, pick, remove_state}
use Rattle.grs_base.specs.declared.resource.Elem.{Elem}
use Rattle.grs_base.specs.declared.resource.Res.{Res}
use Rattle.grs_base.specs.declared.resource.Row.{Row}
use Rattle.grs_base.specs.declared.resource.TaskId.{TaskId}
use Rattle.grs_base.proofs.SameLaws.{same_task-itself}
use Rattle.freed_owners.specs.Freed.{freed}
use Rattle.contention_mgr.specs.Laws.{owns_by}
use Rattle.contention_mgr.specs.LoseLaws.{LosingNothing, is_without}
use Rattle.contention_mgr.specs.Loses.{Freed, by_name, freed_at, freed_lists, lost, own_freed, stays, with_freed}
use Rattle.contention_mgr.specs.Manager.{Managed, ManagerView, Ranked, items_of, plain, with_control}
use Rattle.contention_mgr.proofs.GainLemmas.{any-freed, lists-built}
use Rattle.contention_mgr.proofs.NameOrder.{AreVals, built-vals}

-- ---- the lists stay
filter-stays : (n : ℕ) (xs : List Ranked) → list_all (stays n) xs ≡ true → filter (stays n) xs ≡ xs
filter-stays n [] h = refl
filter-stays n (x ∷ xs) h =
    let both = and_parts (stays n x) (list_all (stays n) xs) h in
    ap (λ b. cond b (x ∷ filter (stays n) xs) (filter (stays n) xs)) both.0
    ∙ ap (λ (ys : List Ranked). x ∷ ys) (filter-stays n xs both.1)

plain-stays : (n : ℕ) (xs : List Ranked) → list_all (stays n) xs ≡ true → remove_state (plain xs) n ≡ plain xs
plain-stays n [] h = refl
plain-stays n (x ∷ xs) h =
    let both = and_parts (stays n x) (list_all (stays n) xs) h in
    ap (λ b. cond b ((x.res, x.elem) ∷ remove_state (plain xs) n) (remove_state (plain xs) n)) both.0
    ∙ ap (λ (s : State). (x.res, x.elem) ∷ s) (plain-stays n xs both.1)

-- ---- nobody gets control
nobody : (ts : List TaskId) → ((t : TaskId) → list_any (same_task t) ts ≡ false) → ts ≡ []
nobody [] h = refl
nobody (t ∷ ts) h =
    absurd (true≢false (sym (or_left (same_task t t) (list_any (same_task t) ts) (same_task-itself t)) ∙ h t))

never : (b : Bool) → (b && not b) ≡ false
never true = refl
never false = refl

freed-nobody : (n : ℕ) (s : State) → remove_state s n ≡ s → (r : Res) → freed n r (list_of s r) ≡ []
freed-nobody n s same r =
    nobody (freed n r (list_of s r)) (λ t.
    any-freed n s r t ∙ (ap (λ z. owns_by z r t && not (owns_by s r t)) same ∙ never (owns_by s r t)))

abbrev AreEmpty : List Freed → Type 0
AreEmpty [] = Unit {0}
AreEmpty (f ∷ fs) = (f.1 ≡ []) × AreEmpty fs

rows-nobody : (n : ℕ) (s : State) → remove_state s n ≡ s → (m : List (Res × List Elem))
    → AreVals (λ (h : Res × Elem). h.0) (list_of s) m
    → AreEmpty (map (λ (x : Row). (x.res, freed n x.res x.elems)) (map row_of m))
rows-nobody n s same [] vals = tt
rows-nobody n s same (e ∷ m) vals =
    (ap (freed n e.0) vals.0 ∙ freed-nobody n s same e.0, rows-nobody n s same m vals.1)

lists-nobody : (n : ℕ) (s : State) → remove_state s n ≡ s → AreEmpty (freed_lists n s)
lists-nobody n s same =
    rows-nobody n s same (lists_from s s)
    (subst (AreVals (λ (h : Res × Elem). h.0) (list_of s)) (sym (lists-built s s))
    (built-vals (λ (h : Res × Elem). h.0) (list_of s) s))

-- ---- an entry
marks-stay : (s : ℕ) (fs : List Freed) → AreEmpty fs → (xs : List Ranked) → with_freed s fs xs ≡ xs
marks-stay s [] none xs = refl
marks-stay s (f ∷ fs) none xs =
    ap (λ (ts : List TaskId). with_freed s fs (with_control s f.0 ts xs)) none.0 ∙ marks-stay s fs none.1 xs

lost-nothing : (s n : ℕ) (m : Managed) → list_all (stays n) m.items ≡ true → lost s n m ≡ m
lost-nothing s n m h =
    ap (λ (xs : List Ranked). let z : Managed = record { next = m.next; items = xs } in z)
    (marks-stay s (freed_lists n (plain m.items)) (lists-nobody n (plain m.items) (plain-stays n m.items h))
    (filter (stays n) m.items)
    ∙ filter-stays n m.items h)

own-nobody : (s : ℕ) (fs : List Freed) → AreEmpty fs → flat_map (own_freed s) fs ≡ []
own-nobody s [] none = refl
own-nobody s (f ∷ fs) none =
    ap (λ (ts : List TaskId). pick (λ u. s == u.system.0) (λ u. (u, f.0)) ts ++ flat_map (own_freed s) fs) none.0
    ∙ own-nobody s fs none.1

freed-at : (n : ℕ) (o : Option Managed) → is_without n o ≡ true → AreEmpty (freed_at n o)
freed-at n o h = lists-nobody n (plain (items_of o)) (plain-stays n (items_of o) h)

-- ---- all entries
entries-stay : (s n : ℕ) (os : List (Option Managed)) → list_all (is_without n) os ≡ true
    → map (option_map (lost s n)) os ≡ os
entries-stay s n [] h = refl
entries-stay s n (o ∷ os) h =
    let both = and_parts (is_without n o) (list_all (is_without n) os) h in
    ap (λ (z : Option Managed). z ∷ map (option_map (lost s n)) os) (one o both.0)
    ∙ ap (λ (zs : List (Option Managed)). o ∷ zs) (entries-stay s n os both.1)
  where
    one : (z : Option Managed) → is_without n z ≡ true → option_map (lost s n) z ≡ z
    one None k = refl
    one (Some m) k = ap (λ (x : Managed). Some x) (lost-nothing s n m k)

all-nobody : (s n : ℕ) (os : List (Option Managed)) → list_all (is_without n) os ≡ true
    → flat_map (λ fs. flat_map (own_freed s) fs) (map (freed_at n) os) ≡ []
all-nobody s n [] h = refl
all-nobody s n (o ∷ os) h =
    let both = and_parts (is_without n o) (list_all (is_without n) os) h in
    ap (λ (ps : List (TaskId × Res)). ps ++ flat_map (λ fs. flat_map (own_freed s) fs) (map (freed_at n) os))
    (own-nobody s (freed_at n o) (freed-at n o both.0))
    ∙ all-nobody s n os both.1

pub losing_nothing : LosingNothing
losing_nothing v n h = (
  ap (λ (os : List (Option Managed)). let z : ManagerView = record { system = v.system; entries = os } in z)
      (entries-stay v.system.0 n.0 v.entries h),
  ap by_name (all-nobody v.system.0 n.0 v.entries h),
)

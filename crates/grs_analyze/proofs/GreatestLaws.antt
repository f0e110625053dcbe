-- What is left in the end is the greatest set of tasks each of which depends on one of the set.
use Rattle.std.proofs.Common.{◌≡◌, ◌⊎◌, inl, inr, ◌≤◌, ◌<◌, ℕ, zero, suc, Bool, true, false, ◌&&◌, ◌||◌, List, [], ◌∷◌}
use Rattle.std.proofs.Common.{◌++◌, length, take, drop, refl, ap, sym, ◌∙◌, arith}
use Rattle.std.specs.Prelude.{filter, if◌then◌else◌}
use Rattle.std.specs.List.{list_any, list_all}
use Rattle.std.proofs.lemmas.List.Folds.{list_any-append}
use Rattle.grs_base.specs.Same.{same_task}
use Rattle.grs_base.specs.Lists.{has_task, owners}
use Rattle.grs_base.specs.declared.resource.Elem.{Elem}
use Rattle.grs_base.specs.declared.resource.Row.{Row}
use Rattle.grs_base.specs.declared.resource.TaskId.{TaskId}
use Rattle.grs_base.proofs.SameLaws.{same_task-exact}
use Rattle.grs_analyze.specs.Depends.{is_kept_by, waits_somewhere, depends, depends_on}
use Rattle.grs_analyze.specs.Greatest.{is_among, with_task, with_tasks, with_rows, tasks_of, supported, left_after}
use Rattle.grs_analyze.specs.Greatest.{greatest}
use Rattle.grs_analyze.specs.Greatest.{is_supported, GreatestIsGreatest}
use Rattle.grs_analyze.specs.Waits.{waiters}
use Rattle.grs_analyze.proofs.PassLemmas.{left-settled}

-- a test that a task among these passes
pub any-among : (f : TaskId → Bool) (us : List TaskId) (v : TaskId) → is_among us v ≡ true → f v ≡ true
    → list_any f us ≡ true
any-among f [] v h e = cc
any-among f (u ∷ us) v h e = grind (arith, h, e, same_task-exact v u, any-among f us v)

pub among-filter : (q : TaskId → Bool) (us : List TaskId) (t : TaskId)
    → is_among (filter q us) t ≡ (is_among us t && q t)
among-filter q [] t = refl
among-filter q (u ∷ us) t = grind (arith, same_task-exact t u, among-filter q us t)

pub depends-within : (rows : List Row) (vs us : List TaskId) (t : TaskId) → list_all (is_among us) vs ≡ true
    → depends_on rows vs t ≡ true → depends_on rows us t ≡ true
depends-within rows [] us t h d = cc
depends-within rows (v ∷ vs) us t h d =
    grind (arith, h, d, any-among (depends rows t) us v, depends-within rows vs us t)

within-supported : (rows : List Row) (us ws vs : List TaskId) → list_all (is_among us) ws ≡ true
    → list_all (depends_on rows ws) vs ≡ true → list_all (is_among us) vs ≡ true
    → list_all (is_among (supported rows us)) vs ≡ true
within-supported rows us ws [] h s v = refl
within-supported rows us ws (x ∷ vs) h s v =
    grind (
      arith,
      s,
      v,
      among-filter (depends_on rows us) us x,
      depends-within rows ws us x h,
      within-supported rows us ws vs h,
    )

within-left : (rows : List Row) (n : ℕ) (us vs : List TaskId) → is_supported rows vs ≡ true
    → list_all (is_among us) vs ≡ true → list_all (is_among (left_after rows n us)) vs ≡ true
within-left rows zero us vs s h = h
within-left rows (suc n) us vs s h = within-left rows n (supported rows us) vs s (within-supported rows us vs vs h s h)

-- who waits has an element, and is one of the tasks
kept-has : (p : TaskId → Bool) (t : TaskId) (fs es : List Elem) → is_kept_by p t fs es ≡ true → has_task es t ≡ true
kept-has p t fs [] h = h
kept-has p t fs (e ∷ es) h = grind (arith, h, kept-has p t (fs ++ e ∷ []) es)

has-drop : (k : ℕ) (es : List Elem) (t : TaskId) → has_task (drop k es) t ≡ true → has_task es t ≡ true
has-drop zero es t h = h
has-drop (suc k) [] t h = h
has-drop (suc k) (e ∷ es) t h = grind (arith, has-drop k es t h)

among-with_task : (ts : List TaskId) (u t : TaskId) → is_among (with_task ts u) t ≡ (is_among ts t || same_task t u)
among-with_task ts u t = by (is_among ts u) refl
  where
    by : (b : Bool) → is_among ts u ≡ b
        → is_among (if b then ts else ts ++ u ∷ []) t ≡ (is_among ts t || same_task t u)
    by true e = grind (arith, e, same_task-exact t u)
    by false e = grind (arith, list_any-append (same_task t) ts (u ∷ []))

among-with_tasks : (es : List Elem) (ts : List TaskId) (t : TaskId)
    → is_among (with_tasks ts es) t ≡ (is_among ts t || has_task es t)
among-with_tasks [] ts t = grind (arith)
among-with_tasks (e ∷ es) ts t =
    grind (arith, among-with_tasks es (with_task ts e.task) t, among-with_task ts e.task t)

among-kept : (rows : List Row) (ts : List TaskId) (t : TaskId) → is_among ts t ≡ true
    → is_among (with_rows ts rows) t ≡ true
among-kept [] ts t h = h
among-kept (row ∷ rows) ts t h =
    among-kept rows (with_tasks ts row.elems) t (grind (arith, h, among-with_tasks row.elems ts t))

waits-among : (p : TaskId → Bool) (rows : List Row) (ts : List TaskId) (t : TaskId)
    → waits_somewhere p t rows ≡ true → is_among (with_rows ts rows) t ≡ true
waits-among p [] ts t h = cc
waits-among p (row ∷ rows) ts t h =
    by (is_kept_by p t (take (owners row.elems) row.elems) (waiters row.elems)) refl
    (waits-among p rows (with_tasks ts row.elems) t)
  where
    by : (b : Bool) → is_kept_by p t (take (owners row.elems) row.elems) (waiters row.elems) ≡ b
        → (waits_somewhere p t rows ≡ true → is_among (with_rows (with_tasks ts row.elems) rows) t ≡ true)
        → is_among (with_rows (with_tasks ts row.elems) rows) t ≡ true
    by true e rest =
        among-kept rows (with_tasks ts row.elems) t
        (among-with_tasks row.elems ts t
        ∙ grind (
          arith,
          has-drop (owners row.elems) row.elems t
              (kept-has p t (take (owners row.elems) row.elems) (waiters row.elems) e),
        ))
    by false e rest = rest (grind (arith, h, e))

depends-task : (rows : List Row) (t : TaskId) (us : List TaskId) → depends_on rows us t ≡ true
    → is_among (tasks_of rows) t ≡ true
depends-task rows t [] h = cc
depends-task rows t (u ∷ us) h =
    grind (arith, h, waits-among (same_task u) rows [] t, depends-task rows t us)

within-tasks : (rows : List Row) (ws vs : List TaskId) → list_all (depends_on rows ws) vs ≡ true
    → list_all (is_among (tasks_of rows)) vs ≡ true
within-tasks rows ws [] h = refl
within-tasks rows ws (v ∷ vs) h = grind (arith, h, depends-task rows v ws, within-tasks rows ws vs)

-- a filter leaves all, or fewer
pub filter-le : (q : TaskId → Bool) (us : List TaskId) → length (filter q us) ≤ length us
filter-le q [] = omega arith
filter-le q (u ∷ us) = grind (arith, filter-le q us)

filter-shrinks : (q : TaskId → Bool) (us : List TaskId) → (filter q us ≡ us) ⊎ (length (filter q us) < length us)
filter-shrinks q [] = inl refl
filter-shrinks q (u ∷ us) = by (q u) refl (filter-shrinks q us)
  where
    by : (b : Bool) → q u ≡ b → (filter q us ≡ us) ⊎ (length (filter q us) < length us)
        → (filter q (u ∷ us) ≡ u ∷ us) ⊎ (length (filter q (u ∷ us)) < length (u ∷ us))
    by true e (inl s) = inl (grind (arith, e, s))
    by true e (inr l) = inr (grind (arith, e, l))
    by false e s = inr (grind (arith, e, filter-le q us))

pub left-settles : (rows : List Row) (n : ℕ) (us : List TaskId) → length us ≤ n
    → supported rows (left_after rows n us) ≡ left_after rows n us
left-settles rows zero [] h = refl
left-settles rows zero (u ∷ us) h = absurd (omega (arith, h))
left-settles rows (suc n) us h =
    by (filter-shrinks (depends_on rows us) us) (left-settles rows n (supported rows us))
  where
    by : (supported rows us ≡ us) ⊎ (length (supported rows us) < length us)
        → (length (supported rows us) ≤ n
        → supported rows (left_after rows n (supported rows us)) ≡ left_after rows n (supported rows us))
        → supported rows (left_after rows n (supported rows us)) ≡ left_after rows n (supported rows us)
    by (inl s) rest =
        let same : left_after rows n (supported rows us) ≡ us = ap (left_after rows n) s ∙ left-settled rows n us s in
        ap (supported rows) same ∙ s ∙ sym same
    by (inr l) rest = rest (omega (arith, l, h))

all-kept : (q : TaskId → Bool) (us : List TaskId) → filter q us ≡ us → list_all q us ≡ true
all-kept q [] e = refl
all-kept q (u ∷ us) e = by (q u) refl (all-kept q us)
  where
    by : (b : Bool) → q u ≡ b → (filter q us ≡ us → list_all q us ≡ true) → list_all q (u ∷ us) ≡ true
    by true h rest = grind (arith, h, e, rest)
    by false h rest =
        let less : length (filter q us) ≤ length us = filter-le q us in
        let same : length (filter q (u ∷ us)) ≡ suc (length us) = ap length e in
        grind (arith, h, less, same)

pub greatest_supported : (rows : List Row) → is_supported rows (greatest rows) ≡ true
greatest_supported rows =
    all-kept (depends_on rows (greatest rows)) (greatest rows)
    (left-settles rows (length (tasks_of rows)) (tasks_of rows) (omega arith))

pub greatest_holds : (rows : List Row) (vs : List TaskId) → is_supported rows vs ≡ true
    → list_all (is_among (greatest rows)) vs ≡ true
greatest_holds rows vs s = within-left rows (length (tasks_of rows)) (tasks_of rows) vs s (within-tasks rows vs vs s)

pub greatest_is_greatest : GreatestIsGreatest
greatest_is_greatest rows = record { supported = greatest_supported rows; holds_all = greatest_holds rows }

pub left-le : (rows : List Row) (n : ℕ) (us : List TaskId) → length (left_after rows n us) ≤ length us
left-le rows zero us = omega arith
left-le rows (suc n) us =
    omega (arith, left-le rows n (supported rows us), filter-le (depends_on rows us) us)

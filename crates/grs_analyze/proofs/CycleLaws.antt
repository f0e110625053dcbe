-- What is reported is a cycle, or there is none.
use Rattle.std.proofs.Common.{◌≡◌, ◌⊎◌, inl, inr, ◌≤◌, ◌+◌, ℕ, zero, suc, Bool, true, false, not, ◌&&◌, List, [], ◌∷◌}
use Rattle.std.proofs.Common.{◌++◌, length, Option, Some, None, refl, ap, sym, ◌∙◌, arith}
use Rattle.std.specs.Prelude.{filter, is_some, if◌then◌else◌}
use Rattle.std.specs.List.{list_any, list_all}
use Rattle.std.proofs.lemmas.List.Folds.{list_all-append}
use Rattle.grs_base.specs.Same.{same_task}
use Rattle.grs_base.specs.declared.resource.Row.{Row}
use Rattle.grs_base.specs.declared.resource.TaskId.{TaskId}
use Rattle.grs_base.proofs.SameLaws.{same_task-exact, same_task-itself}
use Rattle.grs_analyze.specs.Depends.{depends, depends_on}
use Rattle.grs_analyze.specs.Greatest.{is_among, tasks_of, greatest, is_supported}
use Rattle.grs_analyze.specs.Walk.{is_less, lesser, least_with, least, next_of, from_task, walk, reported_cycle}
use Rattle.grs_analyze.specs.Walk.{leads_to}
use Rattle.grs_analyze.specs.Walk.{is_cycle, CyclesAreReported}
use Rattle.grs_analyze.specs.Numbered.{is_distinct}
use Rattle.grs_analyze.proofs.NumberLemmas.{distinct-push}
use Rattle.grs_analyze.proofs.GreatestLaws.{any-among, among-filter, filter-le, greatest_supported, greatest_holds}
use Rattle.grs_analyze.proofs.GreatestLaws.{left-le}

-- the least of some tasks is one of them
lesser-among : (o : Option TaskId) (t u : TaskId) → Some (lesser o t) ≡ Some u → (o ≡ Some u) ⊎ (t ≡ u)
lesser-among None t u e = inr (grind (arith, e))
lesser-among (Some v) t u e = by (is_less t v) refl
  where
    by : (b : Bool) → is_less t v ≡ b → (Some v ≡ Some u) ⊎ (t ≡ u)
    by true h = inr (grind (arith, e, h))
    by false h = inl (grind (arith, e, h))

least-among : (ts : List TaskId) (o : Option TaskId) (u : TaskId) → least_with o ts ≡ Some u
    → (o ≡ Some u) ⊎ (is_among ts u ≡ true)
least-among [] o u e = inl e
least-among (t ∷ ts) o u e = by (least-among ts (Some (lesser o t)) u e)
  where
    behind : (o ≡ Some u) ⊎ (t ≡ u) → (o ≡ Some u) ⊎ (is_among (t ∷ ts) u ≡ true)
    behind (inl h) = inl h
    behind (inr h) = inr (grind (arith, h, same_task-itself u))

    by : (Some (lesser o t) ≡ Some u) ⊎ (is_among ts u ≡ true) → (o ≡ Some u) ⊎ (is_among (t ∷ ts) u ≡ true)
    by (inl h) = behind (lesser-among o t u h)
    by (inr h) = inr (grind (arith, h))

-- and some have one
least-some : (ts : List TaskId) (t : TaskId) → is_some (least_with (Some t) ts) ≡ true
least-some [] t = refl
least-some (u ∷ ts) t = least-some ts (lesser (Some t) u)

least-there : (ts : List TaskId) (u : TaskId) → least ts ≡ Some u → is_among ts u ≡ true
least-there ts u e = by (least-among ts None u e)
  where
    by : (None ≡ Some u) ⊎ (is_among ts u ≡ true) → is_among ts u ≡ true
    by (inl h) = cc
    by (inr h) = h

least-found : (ts : List TaskId) (q : TaskId → Bool) → list_any q ts ≡ true → is_some (least (filter q ts)) ≡ true
least-found ts q h = by (filter q ts) (some ts h)
  where
    some : (xs : List TaskId) → list_any q xs ≡ true → list_any q (filter q xs) ≡ true
    some [] e = e
    some (x ∷ xs) e = grind (arith, e, some xs)

    by : (xs : List TaskId) → list_any q xs ≡ true → is_some (least xs) ≡ true
    by [] e = cc
    by (x ∷ xs) e = least-some xs x

-- of tasks that differ and are all among others there are no more than of these
among-all : (us : List TaskId) (q : TaskId → Bool) (v : TaskId) → list_all q us ≡ true → is_among us v ≡ true
    → q v ≡ true
among-all [] q v h e = cc
among-all (u ∷ us) q v h e = grind (arith, h, e, same_task-exact v u, among-all us q v)

filter-less : (us : List TaskId) (t : TaskId) → is_among us t ≡ true
    → suc (length (filter (λ u. not (same_task t u)) us)) ≤ length us
filter-less [] t h = cc
filter-less (u ∷ us) t h = grind (arith, h, filter-less us t, filter-le (λ u. not (same_task t u)) us)

within-others : (past us : List TaskId) (t : TaskId) → list_any (same_task t) past ≡ false
    → list_all (is_among us) past ≡ true → list_all (is_among (filter (λ u. not (same_task t u)) us)) past ≡ true
within-others [] us t n h = refl
within-others (x ∷ past) us t n h =
    grind (arith, n, h, among-filter (λ u. not (same_task t u)) us x, within-others past us t)

fewer : (past us : List TaskId) → is_distinct past ≡ true → list_all (is_among us) past ≡ true → length past ≤ length us
fewer [] us d h = omega arith
fewer (t ∷ past) us d h =
    let others : List TaskId = filter (λ u. not (same_task t u)) us in
    let absent : list_any (same_task t) past ≡ false = grind (arith, d) in
    let apart : is_distinct past ≡ true = grind (arith, d) in
    let there : is_among us t ≡ true = grind (arith, h) in
    let rest : list_all (is_among us) past ≡ true = grind (arith, h) in
    omega (arith, filter-less us t there, fewer past others apart (within-others past us t absent rest))

-- whether each of these tasks depends on the next, and the last on this one
abbrev is_chain : List Row → List TaskId → TaskId → Bool
is_chain rows [] t = true
is_chain rows (a ∷ xs) t = leads_to rows a xs t

leads-push : (rows : List Row) (a : TaskId) (xs : List TaskId) (t u : TaskId) → leads_to rows a xs t ≡ true
    → depends rows t u ≡ true → leads_to rows a (xs ++ t ∷ []) u ≡ true
leads-push rows a [] t u h d = grind (arith, h, d)
leads-push rows a (b ∷ xs) t u h d = grind (arith, h, leads-push rows b xs t u, d)

chain-push : (rows : List Row) (past : List TaskId) (t u : TaskId) → is_chain rows past t ≡ true
    → depends rows t u ≡ true → is_chain rows (past ++ t ∷ []) u ≡ true
chain-push rows [] t u h d = d
chain-push rows (a ∷ xs) t u h d = leads-push rows a xs t u h d

-- a chain that comes back to one of its tasks is a cycle from there on
chain-back : (rows : List Row) (past : List TaskId) (t : TaskId) → is_among past t ≡ true → is_chain rows past t ≡ true
    → is_cycle rows (from_task t past) ≡ true
chain-back rows [] t h c = cc
chain-back rows (a ∷ past) t h c = by (same_task t a) refl (chain-back rows past t)
  where
    tail : (xs : List TaskId) → leads_to rows a xs t ≡ true → is_chain rows xs t ≡ true
    tail [] e = refl
    tail (b ∷ bs) e = grind (arith, e)

    by : (b : Bool) → same_task t a ≡ b
        → (is_among past t ≡ true → is_chain rows past t ≡ true → is_cycle rows (from_task t past) ≡ true)
        → is_cycle rows (if b then a ∷ past else from_task t past) ≡ true
    by true e rest = ap (leads_to rows a past) (sym (same_task-exact t a e)) ∙ c
    by false e rest = rest (grind (arith, h, e)) (tail past c)

-- a walk with so many steps left that has come along tasks each of which depends on the next comes to a cycle
abbrev WalksBack : List Row → List TaskId → ℕ → Type 0
WalksBack rows us n =
    (past : List TaskId) (t : TaskId) → is_chain rows past t ≡ true → is_distinct past ≡ true
    → list_all (is_among us) past ≡ true → is_among us t ≡ true → suc (length us) ≤ n + length past
    → is_cycle rows (walk rows us n past (Some t)) ≡ true

length-push : (xs : List TaskId) (x : TaskId) → length (xs ++ x ∷ []) ≡ suc (length xs)
length-push [] x = refl
length-push (y ∷ xs) x = ap suc (length-push xs x)

-- a step on to the next task
walk-on : (rows : List Row) (us : List TaskId) (n : ℕ) → WalksBack rows us n → (past : List TaskId) (t : TaskId)
    → is_chain rows past t ≡ true → is_distinct past ≡ true → list_all (is_among us) past ≡ true → is_among us t ≡ true
    → suc (length us) ≤ suc n + length past → (o : Option TaskId) → is_some o ≡ true → next_of rows us t ≡ o
    → is_among past t ≡ false → is_cycle rows (walk rows us n (past ++ t ∷ []) o) ≡ true
walk-on rows us n back past t c d w a room None k e f = cc
walk-on rows us n back past t c d w a room (Some u) k e f =
    let found : is_among (filter (depends rows t) us) u ≡ true = least-there (filter (depends rows t) us) u e in
    let both : (is_among us u && depends rows t u) ≡ true = sym (among-filter (depends rows t) us u) ∙ found in
    back (past ++ t ∷ []) u (chain-push rows past t u c (grind (arith, both))) (distinct-push past t d f)
    (list_all-append (is_among us) past (t ∷ []) ∙ grind (arith, w, a)) (grind (arith, both))
    (omega (arith, room, length-push past t))

walk-more : (rows : List Row) (us : List TaskId) (n : ℕ) → is_supported rows us ≡ true → WalksBack rows us n
    → WalksBack rows us (suc n)
walk-more rows us n s back past t c d w a room = by (is_among past t) refl
  where
    by : (b : Bool) → is_among past t ≡ b
        → is_cycle rows (if b then from_task t past else walk rows us n (past ++ t ∷ []) (next_of rows us t)) ≡ true
    by true e = chain-back rows past t e c
    by false e =
        walk-on rows us n back past t c d w a room (next_of rows us t)
        (least-found us (depends rows t) (among-all us (depends_on rows us) t s a)) refl e

-- a walk along tasks each of which depends on one of them comes to a cycle
walk-cycle : (rows : List Row) (us : List TaskId) → is_supported rows us ≡ true → (n : ℕ) → WalksBack rows us n
walk-cycle rows us s zero past t c d w a room = absurd (omega (arith, room, fewer past us d w))
walk-cycle rows us s (suc n) past t c d w a room =
    walk-more rows us n s (walk-cycle rows us s n) past t c d w a room

-- the tasks of a cycle depend on one another
leads-supported : (rows : List Row) (us : List TaskId) (a : TaskId) (xs : List TaskId) (back : TaskId)
    → leads_to rows a xs back ≡ true → list_all (is_among us) xs ≡ true → is_among us back ≡ true
    → list_all (depends_on rows us) (a ∷ xs) ≡ true
leads-supported rows us a [] back h w b = grind (arith, any-among (depends rows a) us back b h)
leads-supported rows us a (c ∷ xs) back h w b =
    grind (arith, h, w, any-among (depends rows a) us c, leads-supported rows us c xs back)

among-more : (u : TaskId) (us vs : List TaskId) → list_all (is_among us) vs ≡ true
    → list_all (is_among (u ∷ us)) vs ≡ true
among-more u us [] h = refl
among-more u us (v ∷ vs) h = grind (arith, h, among-more u us vs)

among-itself : (us : List TaskId) → list_all (is_among us) us ≡ true
among-itself [] = refl
among-itself (u ∷ us) = grind (arith, same_task-itself u, among-more u us us (among-itself us))

cycle-supported : (rows : List Row) (ts : List TaskId) → is_cycle rows ts ≡ true → is_supported rows ts ≡ true
cycle-supported rows [] h = refl
cycle-supported rows (t ∷ ts) h =
    leads-supported rows (t ∷ ts) t ts t h (among-more t ts ts (among-itself ts)) (grind (arith, same_task-itself t))

-- where the greatest set is empty there is no cycle
none-within : (rows : List Row) (ts : List TaskId) → is_cycle rows ts ≡ true → list_all (is_among []) ts ≡ true → ⊥
none-within rows [] h w = cc
none-within rows (t ∷ ts) h w = cc

no-cycle : (rows : List Row) → greatest rows ≡ [] → (ts : List TaskId) → is_cycle rows ts ≡ false
no-cycle rows e ts = by (is_cycle rows ts) refl
  where
    by : (b : Bool) → is_cycle rows ts ≡ b → b ≡ false
    by false h = refl
    by true h =
        absurd (none-within rows ts h
        (ap (λ (us : List TaskId). list_all (is_among us) ts) (sym e)
        ∙ greatest_holds rows ts (cycle-supported rows ts h)))

-- the walk begins where there is a task, and comes to a cycle
walk-begins : (rows : List Row) (us : List TaskId) (n : ℕ) → is_supported rows us ≡ true → suc (length us) ≤ n
    → (us ≡ []) ⊎ (is_cycle rows (walk rows us n [] (least us)) ≡ true)
walk-begins rows [] n s room = inl refl
walk-begins rows (u ∷ us) n s room = inr (from (least (u ∷ us)) (least-some us u) refl)
  where
    from : (o : Option TaskId) → is_some o ≡ true → least (u ∷ us) ≡ o
        → is_cycle rows (walk rows (u ∷ us) n [] o) ≡ true
    from None k e = cc
    from (Some t) k e =
        walk-cycle rows (u ∷ us) s n [] t refl refl refl (least-there (u ∷ us) t e) (omega (arith, room))

walk-nothing : (rows : List Row) (us : List TaskId) (n : ℕ) → us ≡ [] → walk rows us n [] (least us) ≡ []
walk-nothing rows us n e = ap (λ (vs : List TaskId). walk rows vs n [] (least vs)) e

begun : (rows : List Row) → (greatest rows ≡ []) ⊎ (is_cycle rows (reported_cycle rows) ≡ true)
begun rows =
    walk-begins rows (greatest rows) (suc (length (tasks_of rows))) (greatest_supported rows)
    (omega (arith, left-le rows (length (tasks_of rows)) (tasks_of rows)))

pub cycle_some : (rows : List Row) → (reported_cycle rows ≡ []) ⊎ (is_cycle rows (reported_cycle rows) ≡ true)
cycle_some rows = by (begun rows)
  where
    by : (greatest rows ≡ []) ⊎ (is_cycle rows (reported_cycle rows) ≡ true)
        → (reported_cycle rows ≡ []) ⊎ (is_cycle rows (reported_cycle rows) ≡ true)
    by (inl e) = inl (walk-nothing rows (greatest rows) (suc (length (tasks_of rows))) e)
    by (inr c) = inr c

pub cycle_none : (rows : List Row) → reported_cycle rows ≡ [] → (ts : List TaskId) → is_cycle rows ts ≡ false
cycle_none rows e ts = by (begun rows)
  where
    by : (greatest rows ≡ []) ⊎ (is_cycle rows (reported_cycle rows) ≡ true) → is_cycle rows ts ≡ false
    by (inl g) = no-cycle rows g ts
    by (inr c) =
        let no : false ≡ true = ap (is_cycle rows) (sym e) ∙ c in
        cc

pub cycles_are_reported : (rows : List Row) → CyclesAreReported rows
cycles_are_reported rows = record { some = cycle_some rows; none = cycle_none rows }

-- where none is reported, no tasks but none at all each depend on one of them
none-left : (ts : List TaskId) → list_all (is_among []) ts ≡ true → ts ≡ []
none-left [] h = refl
none-left (t ∷ ts) h = cc

pub supported-told : (rows : List Row) (ts : List TaskId) → is_supported rows ts ≡ true → reported_cycle rows ≡ []
    → ts ≡ []
supported-told rows ts s none = by (begun rows)
  where
    by : (greatest rows ≡ []) ⊎ (is_cycle rows (reported_cycle rows) ≡ true) → ts ≡ []
    by (inl e) =
        none-left ts (ap (λ (us : List TaskId). list_all (is_among us) ts) (sym e) ∙ greatest_holds rows ts s)
    by (inr c) =
        let no : false ≡ true = ap (is_cycle rows) (sym none) ∙ c in
        cc

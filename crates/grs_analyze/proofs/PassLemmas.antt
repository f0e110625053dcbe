-- What a pass leaves, and where the walk goes on.
use Rattle.std.proofs.Common.{◌≡◌, ℕ, zero, suc, Bool, true, false, ◌&&◌, List, [], ◌∷◌, length, get_or, Some}
use Rattle.std.proofs.Common.{◌<◌, ◌≤◌, ◌+◌, ◌-◌, ◌++◌, None, refl, ap, sym, ◌∙◌, arith}
use Rattle.std.specs.Prelude.{replicate, Option, if◌then◌else◌}
use Rattle.grs_base.specs.Same.{same_task}
use Rattle.grs_base.specs.declared.resource.Row.{Row}
use Rattle.grs_base.specs.declared.resource.TaskId.{TaskId}
use Rattle.grs_analyze.specs.declared.numbered.Numbered.{Numbered}
use Rattle.grs_analyze.specs.Depends.{AreApart, waits_somewhere, depends, depends_on}
use Rattle.grs_analyze.specs.Greatest.{is_among, tasks_of, supported, left_after, greatest}
use Rattle.grs_analyze.specs.Walk.{least, next_of, from_task, walk}
use Rattle.grs_analyze.specs.Numbered.{is_flagged, flagged, waits_among, IsNumbered}
use Rattle.grs_analyze.proofs.FlagLemmas.{flag-read, among-flagged, all-flagged, flagged-both}
use Rattle.grs_analyze.proofs.DependLemmas.{depends-somewhere, depends-among, among-rows}

-- marks that were all down, and went up for some
marks-read : (f q : TaskId → Bool) (ts : List TaskId) (marks : List Bool) (n : ℕ) (t : TaskId)
    → length marks ≡ length ts
    → ((u : TaskId) → is_flagged ts marks u ≡ f u)
    → get_or marks n false ≡ is_flagged ts marks t → f t ≡ q t → get_or marks n false ≡ q t
marks-read f q ts marks n t long marked read same =
    read ∙ marked t ∙ same

pub pass-supported : (rows : List Row) (d : Numbered) (ms marks new : List Bool) → IsNumbered rows d → AreApart rows
    → length ms ≡ length d.tasks → length marks ≡ length d.tasks → length new ≡ length ms
    → ((t : TaskId) → is_flagged d.tasks marks t ≡ waits_among (is_flagged d.tasks ms) t d.lines)
    → ((n : ℕ) → get_or new n false ≡ (get_or ms n false && get_or marks n false))
    → flagged d.tasks new ≡ supported rows (flagged d.tasks ms)
pass-supported rows d ms marks new is apart lm lk ln marked both =
    let us : List TaskId = flagged d.tasks ms in
    flagged-both d.tasks new ms marks (depends_on rows us) (ln ∙ lm) lm both
    (λ n t e.
    marks-read (λ (u : TaskId). waits_among (is_flagged d.tasks ms) u d.lines) (depends_on rows us) d.tasks marks n
    t lk marked (flag-read d.tasks marks n t false is.distinct lk e)
    (among-rows (is_flagged d.tasks ms) t d.lines rows is.lines
    ∙ ap (λ (p : TaskId → Bool). waits_somewhere p t rows) (λ i. λ u. sym (among-flagged d.tasks ms u) i)
    ∙ depends-among us t rows apart))

pub next-least : (rows : List Row) (d : Numbered) (t : TaskId) (ms marks new : List Bool) → IsNumbered rows d
    → AreApart rows
    → length ms ≡ length d.tasks → length marks ≡ length d.tasks → length new ≡ length marks
    → ((u : TaskId) → is_flagged d.tasks marks u ≡ waits_among (same_task u) t d.lines)
    → ((n : ℕ) → get_or new n false ≡ (get_or marks n false && get_or ms n false))
    → least (flagged d.tasks new) ≡ next_of rows (flagged d.tasks ms) t
next-least rows d t ms marks new is apart lm lk ln marked both =
    ap least
    (flagged-both d.tasks new ms marks (depends rows t) (ln ∙ lk) lm
    (λ (n : ℕ). both n ∙ turned (get_or marks n false) (get_or ms n false))
    (λ n u e.
    marks-read (λ (v : TaskId). waits_among (same_task v) t d.lines) (depends rows t) d.tasks marks n
    u lk marked (flag-read d.tasks marks n u false is.distinct lk e)
    (among-rows (same_task u) t d.lines rows is.lines ∙ depends-somewhere t u rows apart)))
  where
    turned : (a b : Bool) → (a && b) ≡ (b && a)
    turned true true = refl
    turned true false = refl
    turned false true = refl
    turned false false = refl

-- once a pass takes nobody away, all are left
pub left-settled : (rows : List Row) (n : ℕ) (us : List TaskId) → supported rows us ≡ us → left_after rows n us ≡ us
left-settled rows zero us e = refl
left-settled rows (suc n) us e = ap (left_after rows n) e ∙ left-settled rows n us e

-- a pass more, or the last one
pub left-step : (rows : List Row) (count i : ℕ) (us vs all : List TaskId) → i < count → vs ≡ supported rows us
    → left_after rows (count - i) us ≡ all → left_after rows (count - (i + 1)) vs ≡ all
left-step rows count i us vs all lt is h =
    let n : ℕ = count - (i + 1) in
    let more : count - i ≡ suc n = omega (arith, lt) in
    ap (left_after rows n) is ∙ sym (ap (λ (k : ℕ). left_after rows k us) more) ∙ h

pub left-stop : (rows : List Row) (n : ℕ) (us vs all : List TaskId) → vs ≡ supported rows us → vs ≡ us
    → left_after rows n us ≡ all → vs ≡ all
left-stop rows n us vs all is same h = same ∙ sym (left-settled rows n us (sym is ∙ same)) ∙ h

pub ruleset passes = (left-step, left-stop)

pub greatest-starts : (rows : List Row) (ts us : List TaskId) (bs : List Bool) → ts ≡ tasks_of rows
    → bs ≡ replicate (length ts) true → us ≡ left_after rows (length ts) (flagged ts bs) → us ≡ greatest rows
greatest-starts rows ts us bs is all h =
    h ∙ ap (λ (xs : List Bool). left_after rows (length ts) (flagged ts xs)) all
    ∙ ap (left_after rows (length ts)) (all-flagged ts)
    ∙ ap (λ (xs : List TaskId). left_after rows (length xs) xs) is

pub ruleset starts = (greatest-starts)

-- a step of the walk
pub walk-step : (rows : List Row) (us past more all : List TaskId) (total i : ℕ) (t : TaskId) (o next : Option TaskId)
    → i < total → o ≡ Some t → is_among past t ≡ false → more ≡ past ++ t ∷ [] → next ≡ next_of rows us t
    → walk rows us (total - i) past o ≡ all → walk rows us (total - (i + 1)) more next ≡ all
walk-step rows us past more all total i t o next lt is new pushed on h =
    let n : ℕ = total - (i + 1) in
    let steps : total - i ≡ suc n = omega (arith, lt) in
    ap (λ (xs : List TaskId). walk rows us n xs next) pushed
    ∙ ap (walk rows us n (past ++ t ∷ [])) on
    ∙ sym (ap (λ (b : Bool). if b then from_task t past else walk rows us n (past ++ t ∷ []) (next_of rows us t)) new)
    ∙ sym (ap (λ (k : ℕ). walk rows us k past (Some t)) steps)
    ∙ sym (ap (walk rows us (total - i) past) is)
    ∙ h

pub walk-back : (rows : List Row) (us past all : List TaskId) (total i : ℕ) (t : TaskId) (o : Option TaskId)
    → i < total → o ≡ Some t → is_among past t ≡ true → walk rows us (total - i) past o ≡ all → from_task t past ≡ all
walk-back rows us past all total i t o lt is there h =
    let n : ℕ = total - (i + 1) in
    let steps : total - i ≡ suc n = omega (arith, lt) in
    sym (ap (λ (b : Bool). if b then from_task t past else walk rows us n (past ++ t ∷ []) (next_of rows us t)) there)
    ∙ sym (ap (λ (k : ℕ). walk rows us k past (Some t)) steps)
    ∙ sym (ap (walk rows us (total - i) past) is)
    ∙ h

pub walk-none : (rows : List Row) (us past all : List TaskId) (n : ℕ) (o : Option TaskId) → o ≡ None
    → walk rows us n past o ≡ all → [] ≡ all
walk-none rows us past all n o is h = sym (ap (walk rows us n past) is) ∙ h

pub walk-out : (rows : List Row) (us past all : List TaskId) (total i : ℕ) (o : Option TaskId) → total ≤ i
    → walk rows us (total - i) past o ≡ all → [] ≡ all
walk-out rows us past all total i o over h =
    let no : total - i ≡ 0 = omega (arith, over) in
    sym (ended o) ∙ sym (ap (λ (k : ℕ). walk rows us k past o) no) ∙ h
  where
    ended : (x : Option TaskId) → walk rows us 0 past x ≡ []
    ended None = refl
    ended (Some t) = refl

pub ruleset walks = (walk-step, walk-back, walk-none, walk-out)

-- Tasks under numbers: those that have one keep it, and each has one.
use Rattle.std.proofs.Common.{◌≡◌, ℕ, zero, suc, Bool, true, false, List, [], ◌∷◌, ◌++◌, map, take, drop}
use Rattle.std.proofs.Common.{Some, refl, ap, sym, subst, ◌∙◌, arith, append_assoc, length, get_or, ◌+◌, ◌<◌}
use Rattle.std.specs.Prelude.{slice_get, if◌then◌else◌}
use Rattle.std.specs.List.{list_any}
use Rattle.std.proofs.lemmas.List.Elements.{All-weaker, All-push}
use Rattle.std.proofs.lemmas.List.Folds.{list_any-append}
use Rattle.grs_base.specs.Same.{same_task}
use Rattle.grs_base.specs.declared.resource.Elem.{Elem}
use Rattle.grs_base.specs.declared.resource.Row.{Row}
use Rattle.grs_base.specs.declared.resource.TaskId.{TaskId}
use Rattle.grs_base.proofs.SameLaws.{same_task-exact}
use Rattle.grs_analyze.specs.declared.numbered.Spot.{Spot}
use Rattle.grs_analyze.specs.declared.numbered.Line.{Line}
use Rattle.grs_analyze.specs.Greatest.{is_among, with_task, with_tasks, with_rows, tasks_of}
use Rattle.grs_base.specs.Lists.{owners}
use Rattle.grs_analyze.specs.Numbered.{elems_of, AreNamed, IsNamedLine, AreNamedLines, plain_line, parted, is_distinct}
use Rattle.grs_analyze.specs.Numbered.{IsNumbered}

-- what is behind a place begins with what is there
drop_got : (xs : List TaskId) (n : ℕ) (x : TaskId) → slice_get xs n ≡ Some x → drop n xs ≡ x ∷ drop (n + 1) xs
drop_got [] n x e = cc
drop_got (y ∷ xs) zero x e = grind (arith, e)
drop_got (y ∷ xs) (suc n) x e = grind (arith, drop_got xs n x e)

drop_next : (rows : List Row) (i : ℕ) (row : Row) → i < length rows → row ≡ get_or rows i row
    → drop i rows ≡ row ∷ drop (i + 1) rows
drop_next [] i row lt is = absurd (omega (arith, lt))
drop_next (r ∷ rows) zero row lt is = grind (arith, is)
drop_next (r ∷ rows) (suc i) row lt is = grind (arith, drop_next rows i row (omega (arith, lt)) is)

pub get-append : {X : Type 0} (xs ys : List X) (n : ℕ) (x : X) → slice_get xs n ≡ Some x
    → slice_get (xs ++ ys) n ≡ Some x
get-append [] ys n x e = cc
get-append (y ∷ xs) ys zero x e = e
get-append (y ∷ xs) ys (suc n) x e = get-append xs ys n x e

pub get-with_task : (ts : List TaskId) (t : TaskId) (n : ℕ) (x : TaskId)
    → slice_get ts n ≡ Some x → slice_get (with_task ts t) n ≡ Some x
get-with_task ts t n x e = by (is_among ts t)
  where
    by : (b : Bool) → slice_get (if b then ts else ts ++ t ∷ []) n ≡ Some x
    by true = e
    by false = get-append ts (t ∷ []) n x e

pub get-with_tasks : (es : List Elem) (ts : List TaskId) (n : ℕ) (x : TaskId)
    → slice_get ts n ≡ Some x → slice_get (with_tasks ts es) n ≡ Some x
get-with_tasks [] ts n x e = e
get-with_tasks (h ∷ es) ts n x e = get-with_tasks es (with_task ts h.task) n x (get-with_task ts h.task n x e)

pub named-with_task : (ts : List TaskId) (t : TaskId) (ss : List Spot) → AreNamed ts ss → AreNamed (with_task ts t) ss
named-with_task ts t ss h =
    All-weaker (λ (s : Spot). slice_get ts s.number ≡ Some s.elem.task)
    (λ (s : Spot). slice_get (with_task ts t) s.number ≡ Some s.elem.task)
    (λ (s : Spot). get-with_task ts t s.number s.elem.task) ss h

pub named-with_tasks : (ts : List TaskId) (es : List Elem) (ss : List Spot)
    → AreNamed ts ss → AreNamed (with_tasks ts es) ss
named-with_tasks ts es ss h =
    All-weaker (λ (s : Spot). slice_get ts s.number ≡ Some s.elem.task)
    (λ (s : Spot). slice_get (with_tasks ts es) s.number ≡ Some s.elem.task)
    (λ (s : Spot). get-with_tasks es ts s.number s.elem.task) ss h

pub lines-with_tasks : (ts : List TaskId) (es : List Elem) (ls : List Line)
    → AreNamedLines ts ls → AreNamedLines (with_tasks ts es) ls
lines-with_tasks ts es ls h =
    All-weaker (IsNamedLine ts) (IsNamedLine (with_tasks ts es))
    (λ (l : Line). λ (n : IsNamedLine ts l).
    (named-with_tasks ts es l.front n.0, named-with_tasks ts es l.waiters n.1)) ls h

pub with_tasks-append : (es fs : List Elem) (ts : List TaskId)
    → with_tasks ts (es ++ fs) ≡ with_tasks (with_tasks ts es) fs
with_tasks-append [] fs ts = refl
with_tasks-append (e ∷ es) fs ts = with_tasks-append es fs (with_task ts e.task)

-- the tasks of a list, taken in two parts
pub with_tasks-parts : (k : ℕ) (es : List Elem) (ts : List TaskId)
    → with_tasks (with_tasks ts (take k es)) (drop k es) ≡ with_tasks ts es
with_tasks-parts zero es ts = refl
with_tasks-parts (suc k) [] ts = refl
with_tasks-parts (suc k) (e ∷ es) ts = with_tasks-parts k es (with_task ts e.task)

-- a task that isn't there goes last
pub distinct-push : (ts : List TaskId) (t : TaskId) → is_distinct ts ≡ true → list_any (same_task t) ts ≡ false
    → is_distinct (ts ++ t ∷ []) ≡ true
distinct-push [] t d n = refl
distinct-push (u ∷ ts) t d n =
    grind (
      arith,
      d,
      n,
      distinct-push ts t,
      list_any-append (same_task u) ts (t ∷ []),
      same_task-exact t u,
      same_task-exact u t,
    )

pub distinct-with_task : (ts : List TaskId) (t : TaskId) → is_distinct ts ≡ true → is_distinct (with_task ts t) ≡ true
distinct-with_task ts t d = by (is_among ts t) refl
  where
    by : (b : Bool) → is_among ts t ≡ b → is_distinct (if b then ts else ts ++ t ∷ []) ≡ true
    by true e = d
    by false e = distinct-push ts t d e

distinct-with_tasks : (es : List Elem) (ts : List TaskId) → is_distinct ts ≡ true
    → is_distinct (with_tasks ts es) ≡ true
distinct-with_tasks [] ts d = d
distinct-with_tasks (e ∷ es) ts d = distinct-with_tasks es (with_task ts e.task) (distinct-with_task ts e.task d)

distinct-with_rows : (rows : List Row) (ts : List TaskId) → is_distinct ts ≡ true
    → is_distinct (with_rows ts rows) ≡ true
distinct-with_rows [] ts d = d
distinct-with_rows (row ∷ rows) ts d =
    distinct-with_rows rows (with_tasks ts row.elems) (distinct-with_tasks row.elems ts d)

pub distinct-tasks : (rows : List Row) → is_distinct (tasks_of rows) ≡ true
distinct-tasks rows = distinct-with_rows rows [] refl

-- an element more
pub named-push : (ts us : List TaskId) (e : Elem) (n : ℕ) (ss rs : List Spot) → us ≡ with_task ts e.task
    → slice_get us n ≡ Some e.task → rs ≡ ss ++ record { elem = e; number = n } ∷ [] → AreNamed ts ss → AreNamed us rs
named-push ts us e n ss rs is got more h =
    let kept : AreNamed us ss =
    subst (λ (xs : List TaskId). AreNamed xs ss) (sym is) (named-with_task ts e.task ss h) in
    subst (AreNamed us) (sym more)
    (All-push (λ (s : Spot). slice_get us s.number ≡ Some s.elem.task) ss (record { elem = e; number = n }) kept got)

-- a row more
pub rows-next : (ts us all : List TaskId) (row : Row) (rows : List Row) (i : ℕ) (es : List Elem) → i < length rows
    → row ≡ get_or rows i row → es ≡ row.elems → us ≡ with_tasks ts es → with_rows ts (drop i rows) ≡ all
    → with_rows us (drop (i + 1) rows) ≡ all
rows-next ts us all row rows i es lt is same more h =
    let next : drop i rows ≡ row ∷ drop (i + 1) rows = drop_next rows i row lt is in
    ap (λ (xs : List TaskId). with_rows xs (drop (i + 1) rows)) (more ∙ ap (with_tasks ts) same)
    ∙ sym (ap (with_rows ts) next) ∙ h

pub lines-next : (row : Row) (rows : List Row) (i : ℕ) (es : List Elem) (ls ms : List Line) (l : Line) → i < length rows
    → row ≡ get_or rows i row → es ≡ row.elems → elems_of l.front ≡ take (owners es) es
    → elems_of l.waiters ≡ drop (owners es) es → ms ≡ ls ++ l ∷ []
    → map plain_line ls ++ map parted (drop i rows) ≡ map parted rows
    → map plain_line ms ++ map parted (drop (i + 1) rows) ≡ map parted rows
lines-next row rows i es ls ms l lt is same front behind more h =
    let next : drop i rows ≡ row ∷ drop (i + 1) rows = drop_next rows i row lt is in
    let pair : plain_line l ≡ parted row =
    (λ j. (front j, behind j)) ∙ ap (λ (xs : List Elem). (take (owners xs) xs, drop (owners xs) xs)) same in
    ap (λ (xs : List Line). map plain_line xs ++ map parted (drop (i + 1) rows)) more
    ∙ pushed ls
    ∙ ap (λ (x : List Elem × List Elem). map plain_line ls ++ x ∷ map parted (drop (i + 1) rows)) pair
    ∙ ap (λ (xs : List Row). map plain_line ls ++ map parted xs) (sym next)
    ∙ h
  where
    pushed : (xs : List Line)
        → map plain_line (xs ++ l ∷ []) ++ map parted (drop (i + 1) rows)
        ≡ map plain_line xs ++ plain_line l ∷ map parted (drop (i + 1) rows)
    pushed [] = refl
    pushed (x ∷ xs) = ap (λ (ys : List (List Elem × List Elem)). plain_line x ∷ ys) (pushed xs)

pub lines-push : (ts us : List TaskId) (es : List Elem) (ls ms : List Line) (l : Line) → us ≡ with_tasks ts es
    → IsNamedLine us l → ms ≡ ls ++ l ∷ [] → AreNamedLines ts ls → AreNamedLines us ms
lines-push ts us es ls ms l is named more h =
    let kept : AreNamedLines us ls =
    subst (λ (xs : List TaskId). AreNamedLines xs ls) (sym is) (lines-with_tasks ts es ls h) in
    subst (AreNamedLines us) (sym more) (All-push (IsNamedLine us) ls l kept named)

-- a task more
pub list-next : (xs out new all : List TaskId) (n : ℕ) (x : TaskId) → out ++ drop n xs ≡ all → slice_get xs n ≡ Some x
    → new ≡ out ++ x ∷ [] → new ++ drop (n + 1) xs ≡ all
list-next xs out new all n x h e is =
    ap (λ (ys : List TaskId). ys ++ drop (n + 1) xs) is
    ∙ append_assoc out (x ∷ []) (drop (n + 1) xs)
    ∙ ap (λ (ys : List TaskId). out ++ ys) (sym (drop_got xs n x e))
    ∙ h

-- numbered lists of rows
pub numbered-is : (rows : List Row) (ts ks none : List TaskId) (ls : List Line) → length none ≡ 0
    → ks ≡ with_rows none rows → ts ≡ ks → map plain_line ls ≡ map parted rows → AreNamedLines ks ls
    → IsNumbered rows (record { tasks = ts; lines = ls })
numbered-is rows ts ks (x ∷ none) ls l k t lines named = absurd (omega (arith, l))
numbered-is rows ts ks [] ls l k t lines named = record {
  tasks = t ∙ k;
  lines = lines;
  named = subst (λ (xs : List TaskId). AreNamedLines xs ls) (sym t) named;
  distinct = ap is_distinct (t ∙ k) ∙ distinct-tasks rows;
}

pub ruleset line_steps = (with_tasks-parts, named-with_tasks)

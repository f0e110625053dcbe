-- Who waits for whom, by tests and by lists.
use Rattle.std.proofs.Common.{◌≡◌, ℕ, zero, suc, Bool, true, false, not, ◌&&◌, ◌||◌, List, [], ◌∷◌, ◌++◌, map, take}
use Rattle.std.proofs.Common.{drop}
use Rattle.std.proofs.Common.{refl, ap, sym, ◌∙◌, arith}
use Rattle.std.specs.List.{list_any}
use Rattle.std.proofs.lemmas.List.Elements.{All-head, All-tail}
use Rattle.grs_base.specs.Same.{same_task}
use Rattle.grs_base.specs.Lists.{is_apart, has_task, owners}
use Rattle.grs_base.specs.declared.resource.Ctl.{Ctl}
use Rattle.grs_base.specs.declared.resource.Ctl.TheVariants.{E, S}
use Rattle.grs_base.specs.declared.resource.Elem.{Elem}
use Rattle.grs_base.specs.declared.resource.Row.{Row}
use Rattle.grs_base.specs.declared.resource.TaskId.{TaskId}
use Rattle.grs_base.proofs.SameLaws.{same_task-exact, same_task-itself}
use Rattle.grs_base.proofs.ListLaws.{has_task-append}
use Rattle.grs_analyze.specs.declared.numbered.Line.{Line}
use Rattle.grs_analyze.specs.declared.front.Front.{Front}
use Rattle.grs_analyze.specs.Depends.{AreApart, blocks, is_kept_by, waits_somewhere, depends, depends_on}
use Rattle.grs_analyze.specs.Greatest.{is_among}
use Rattle.grs_analyze.specs.Waits.{waiters}
use Rattle.grs_analyze.specs.Numbered.{elems_of, plain_line, parted, waits_among, front_of, front_with, is_away}
use Rattle.grs_analyze.specs.Numbered.{is_kept_behind}

-- of elements in two parts
pub blocks-append : (p : TaskId → Bool) (c : Ctl) (es fs : List Elem)
    → blocks p c (es ++ fs) ≡ (blocks p c es || blocks p c fs)
blocks-append p c [] fs = refl
blocks-append p c (e ∷ es) fs = grind (arith, blocks-append p c es fs)

-- what counts of the elements in front tells all
pub away-front : (p : TaskId → Bool) (c : Ctl) (es : List Elem) → is_away (front_of p es) c ≡ blocks p c es
away-front p E es = refl
away-front p S es = refl

pub front-is : (f : Front) (p : TaskId → Bool) (es : List Elem) → f.any ≡ blocks p E es → f.exclusive ≡ blocks p S es
    → f ≡ front_of p es
front-is f p es a b = λ i. record { any = a i; exclusive = b i }

pub front-more : (p : TaskId → Bool) (es : List Elem) (e : Elem)
    → front_with (front_of p es) e.ctl (p e.task) ≡ front_of p (es ++ e ∷ [])
front-more p es e = grind (arith, blocks-append p E es (e ∷ []), blocks-append p S es (e ∷ []))

pub kept-front : (p : TaskId → Bool) (t : TaskId) (fs es : List Elem)
    → is_kept_behind p t (front_of p fs) es ≡ is_kept_by p t fs es
kept-front p t fs [] = refl
kept-front p t fs (e ∷ es) =
    let rest : is_kept_behind p t (front_with (front_of p fs) e.ctl (p e.task)) es ≡ is_kept_by p t (fs ++ e ∷ []) es =
    ap (λ (f : Front). is_kept_behind p t f es) (front-more p fs e) ∙ kept-front p t (fs ++ e ∷ []) es in
    grind (arith, rest, away-front p e.ctl fs)

-- a test that one of two passes
blocks-or : (p q : TaskId → Bool) (c : Ctl) (es : List Elem)
    → blocks (λ t. p t || q t) c es ≡ (blocks p c es || blocks q c es)
blocks-or p q c [] = refl
blocks-or p q c (e ∷ es) = grind (arith, blocks-or p q c es)

kept-or : (p q : TaskId → Bool) (t : TaskId) (fs es : List Elem)
    → is_kept_by (λ u. p u || q u) t fs es ≡ (is_kept_by p t fs es || is_kept_by q t fs es)
kept-or p q t fs [] = refl
kept-or p q t fs (e ∷ es) = grind (arith, blocks-or p q e.ctl fs, kept-or p q t (fs ++ e ∷ []) es)

somewhere-or : (p q : TaskId → Bool) (t : TaskId) (rows : List Row)
    → waits_somewhere (λ u. p u || q u) t rows ≡ (waits_somewhere p t rows || waits_somewhere q t rows)
somewhere-or p q t [] = refl
somewhere-or p q t (row ∷ rows) =
    grind (arith, kept-or p q t (take (owners row.elems) row.elems) (waiters row.elems), somewhere-or p q t rows)

-- a test that nobody passes
blocks-none : (c : Ctl) (es : List Elem) → blocks (λ t. false) c es ≡ false
blocks-none c [] = refl
blocks-none c (e ∷ es) = blocks-none c es

kept-none : (t : TaskId) (fs es : List Elem) → is_kept_by (λ u. false) t fs es ≡ false
kept-none t fs [] = refl
kept-none t fs (e ∷ es) = grind (arith, blocks-none e.ctl fs, kept-none t (fs ++ e ∷ []) es)

somewhere-none : (t : TaskId) (rows : List Row) → waits_somewhere (λ u. false) t rows ≡ false
somewhere-none t [] = refl
somewhere-none t (row ∷ rows) =
    grind (arith, kept-none t (take (owners row.elems) row.elems) (waiters row.elems), somewhere-none t rows)

-- nobody is kept away by itself
blocks-absent : (t : TaskId) (c : Ctl) (es : List Elem) → has_task es t ≡ false → blocks (same_task t) c es ≡ false
blocks-absent t c [] h = refl
blocks-absent t c (e ∷ es) h = grind (arith, h, blocks-absent t c es)

apart-front : (fs : List Elem) (e : Elem) (es : List Elem) → is_apart (fs ++ e ∷ es) ≡ true → has_task fs e.task ≡ false
apart-front [] e es h = refl
apart-front (f ∷ fs) e es h =
    grind (
      arith,
      h,
      apart-front fs e es,
      has_task-append fs (e ∷ es) f.task,
      same_task-exact e.task f.task,
      same_task-itself e.task,
    )

append-more : (fs : List Elem) (e : Elem) (es : List Elem) → (fs ++ e ∷ []) ++ es ≡ fs ++ e ∷ es
append-more [] e es = refl
append-more (f ∷ fs) e es = ap (λ (xs : List Elem). f ∷ xs) (append-more fs e es)

kept-itself : (t : TaskId) (fs es : List Elem) → is_apart (fs ++ es) ≡ true → is_kept_by (same_task t) t fs es ≡ false
kept-itself t fs [] h = refl
kept-itself t fs (e ∷ es) h =
    grind (
      arith,
      same_task-exact t e.task,
      blocks-absent e.task e.ctl fs (apart-front fs e es h),
      kept-itself t (fs ++ e ∷ []) es (ap is_apart (append-more fs e es) ∙ h),
    )

parts : (k : ℕ) (es : List Elem) → take k es ++ drop k es ≡ es
parts zero es = refl
parts (suc k) [] = refl
parts (suc k) (e ∷ es) = ap (λ (xs : List Elem). e ∷ xs) (parts k es)

somewhere-itself : (t : TaskId) (rows : List Row) → AreApart rows → waits_somewhere (same_task t) t rows ≡ false
somewhere-itself t [] h = refl
somewhere-itself t (row ∷ rows) h =
    grind (
      arith,
      kept-itself t (take (owners row.elems) row.elems) (waiters row.elems)
          (ap is_apart (parts (owners row.elems) row.elems)
          ∙ All-head (λ (r : Row). is_apart r.elems ≡ true) row rows h),
      somewhere-itself t rows (All-tail (λ (r : Row). is_apart r.elems ≡ true) row rows h),
    )

-- where no task stands twice in a list, nobody has to be told from itself
pub depends-somewhere : (t u : TaskId) (rows : List Row) → AreApart rows
    → waits_somewhere (same_task u) t rows ≡ depends rows t u
depends-somewhere t u rows h = by (same_task t u) refl
  where
    by : (b : Bool) → same_task t u ≡ b
        → waits_somewhere (same_task u) t rows ≡ (not b && waits_somewhere (same_task u) t rows)
    by true e =
        ap (λ (v : TaskId). waits_somewhere (same_task v) t rows) (sym (same_task-exact t u e))
        ∙ somewhere-itself t rows h
    by false e = refl

-- to be kept away by one of these is to depend on one of them
same_task-turned : (a b : TaskId) → same_task a b ≡ same_task b a
same_task-turned a b =
    grind (arith, same_task-exact a b, same_task-exact b a, same_task-itself a, same_task-itself b)

pub depends-among : (us : List TaskId) (t : TaskId) (rows : List Row) → AreApart rows
    → waits_somewhere (is_among us) t rows ≡ depends_on rows us t
depends-among [] t rows h = somewhere-none t rows
depends-among (u ∷ us) t rows h =
    ap (λ (p : TaskId → Bool). waits_somewhere p t rows) (λ i. λ v. same_task-turned v u i || is_among us v)
    ∙ somewhere-or (same_task u) (is_among us) t rows
    ∙ grind (arith, depends-somewhere t u rows h, depends-among us t rows h)

-- numbered lists wait as the rows do
pub among-rows : (p : TaskId → Bool) (t : TaskId) (ls : List Line) (rows : List Row)
    → map plain_line ls ≡ map parted rows → waits_among p t ls ≡ waits_somewhere p t rows
among-rows p t ls rows e =
    by_parts_line ls ∙ ap kept_parts e ∙ by_parts_row rows
  where
    kept_parts : List (List Elem × List Elem) → Bool
    kept_parts xs = list_any (λ x. is_kept_by p t x.0 x.1) xs

    by_parts_line : (ls : List Line) → waits_among p t ls ≡ kept_parts (map plain_line ls)
    by_parts_line [] = refl
    by_parts_line (l ∷ ls) =
        ap (λ (b : Bool). is_kept_by p t (elems_of l.front) (elems_of l.waiters) || b) (by_parts_line ls)

    by_parts_row : (rows : List Row) → kept_parts (map parted rows) ≡ waits_somewhere p t rows
    by_parts_row [] = refl
    by_parts_row (r ∷ rows) =
        ap (λ (b : Bool). is_kept_by p t (take (owners r.elems) r.elems) (waiters r.elems) || b) (by_parts_row rows)

pub ruleset fronts = (front-is)

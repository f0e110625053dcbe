-- A step of the loops that put flags up.
use Rattle.std.proofs.Common.{◌≡◌, Bool, true, false, ◌||◌, List, [], ◌∷◌, ◌++◌, refl, ap, sym, ◌∙◌, arith}
use Rattle.std.proofs.Common.{◌≤◌, ◌+◌, ℕ, zero, suc, Some, length, take, drop, slice_get, append_assoc}
use Rattle.grs_base.specs.Same.{same_task}
use Rattle.grs_base.specs.declared.resource.Elem.{Elem}
use Rattle.grs_base.specs.declared.resource.TaskId.{TaskId}
use Rattle.grs_analyze.specs.declared.front.Front.{Front}
use Rattle.grs_analyze.specs.Depends.{blocks, is_kept_by}
use Rattle.std.proofs.lemmas.List.{drop_all}
use Rattle.grs_analyze.specs.declared.numbered.Spot.{Spot}
use Rattle.grs_analyze.specs.Numbered.{elems_of, front_of, front_with, is_away, is_kept_behind}
use Rattle.grs_analyze.proofs.DependLemmas.{blocks-append, kept-front}

-- a flag of the task of an element that is kept away, or that isn't
pub kept-up : (p : TaskId → Bool) (t : TaskId) (f : Front) (e : Elem) (es : List Elem) (old new : Bool)
    → is_away f e.ctl ≡ true → new ≡ (same_task t e.task || old)
    → (new || is_kept_behind p t (front_with f e.ctl (p e.task)) es) ≡ (old || is_kept_behind p t f (e ∷ es))
kept-up p t f e es old new away is = grind (arith, away, is)

pub kept-down : (p : TaskId → Bool) (t : TaskId) (f : Front) (e : Elem) (es : List Elem) (old : Bool)
    → is_away f e.ctl ≡ false
    → (old || is_kept_behind p t (front_with f e.ctl (p e.task)) es) ≡ (old || is_kept_behind p t f (e ∷ es))
kept-down p t f e es old away = grind (arith, away)

-- the flags of those before an element of the task that is looked at, or of another
pub before-up : (u t : TaskId) (fs gs : List Elem) (e : Elem) (es : List Elem) (old mid new : Bool)
    → same_task t e.task ≡ true → mid ≡ (old || blocks (same_task u) e.ctl fs)
    → new ≡ (mid || blocks (same_task u) e.ctl gs)
    → (new || is_kept_by (same_task u) t ((fs ++ gs) ++ e ∷ []) es)
    ≡ (old || is_kept_by (same_task u) t (fs ++ gs) (e ∷ es))
before-up u t fs gs e es old mid new same a b = grind (arith, same, a, b, blocks-append (same_task u) e.ctl fs gs)

pub before-down : (u t : TaskId) (fs : List Elem) (e : Elem) (es : List Elem) (old : Bool) → same_task t e.task ≡ false
    → (old || is_kept_by (same_task u) t (fs ++ e ∷ []) es) ≡ (old || is_kept_by (same_task u) t fs (e ∷ es))
before-down u t fs e es old same = grind (arith, same)

or-false : (b : Bool) → b ≡ (b || false)
or-false true = refl
or-false false = refl

-- at the end all elements were passed
pub kept-end : (p : TaskId → Bool) (t : TaskId) (f first : Front) (fs gs ws vs : List Spot) (i : ℕ) (new old : Bool)
    → vs ≡ ws → length vs ≤ i → fs ≡ gs → first ≡ front_of p (elems_of fs)
    → (new || is_kept_behind p t f (elems_of (drop i ws))) ≡ (old || is_kept_behind p t first (elems_of ws))
    → new ≡ (old || is_kept_by p t (elems_of gs) (elems_of ws))
kept-end p t f first fs gs ws vs i new old same past front is h =
    let none : drop i ws ≡ [] = drop_all i ws (omega (arith, past, ap length same)) in
    let begun : first ≡ front_of p (elems_of gs) = is ∙ ap (λ (ss : List Spot). front_of p (elems_of ss)) front in
    or-false new
    ∙ sym (ap (λ (ss : List Spot). new || is_kept_behind p t f (elems_of ss)) none)
    ∙ h
    ∙ ap (λ (x : Front). old || is_kept_behind p t x (elems_of ws)) begun
    ∙ ap (λ (b : Bool). old || b) (kept-front p t (elems_of gs) (elems_of ws))

got-split : (ws : List Spot) (i : ℕ) (s : Spot) → slice_get ws i ≡ Some s → drop i ws ≡ s ∷ drop (i + 1) ws
got-split [] i s e = cc
got-split (w ∷ ws) zero s e = grind (arith, e)
got-split (w ∷ ws) (suc i) s e = grind (arith, got-split ws i s e)

got-taken : (ws : List Spot) (i : ℕ) (s : Spot) → slice_get ws i ≡ Some s
    → elems_of (take (i + 1) ws) ≡ elems_of (take i ws) ++ s.elem ∷ []
got-taken [] i s e = cc
got-taken (w ∷ ws) zero s e = grind (arith, e)
got-taken (w ∷ ws) (suc i) s e = grind (arith, got-taken ws i s e)

-- an element more of those that wait
waiter-more : (u t : TaskId) (fs : List Elem) (ws : List Spot) (i : ℕ) (s : Spot) (old new : Bool)
    → slice_get ws i ≡ Some s
    → (new || is_kept_by (same_task u) t ((fs ++ elems_of (take i ws)) ++ s.elem ∷ []) (elems_of (drop (i + 1) ws)))
    ≡ (old || is_kept_by (same_task u) t (fs ++ elems_of (take i ws)) (s.elem ∷ elems_of (drop (i + 1) ws)))
    → (new || is_kept_by (same_task u) t (fs ++ elems_of (take (i + 1) ws)) (elems_of (drop (i + 1) ws)))
    ≡ (old || is_kept_by (same_task u) t (fs ++ elems_of (take i ws)) (elems_of (drop i ws)))
waiter-more u t fs ws i s old new e h =
    ap (λ (es : List Elem). new || is_kept_by (same_task u) t es (elems_of (drop (i + 1) ws)))
    (ap (λ (es : List Elem). fs ++ es) (got-taken ws i s e)
    ∙ sym (append_assoc fs (elems_of (take i ws)) (s.elem ∷ [])))
    ∙ h
    ∙ ap (λ (ss : List Spot). old || is_kept_by (same_task u) t (fs ++ elems_of (take i ws)) (elems_of ss))
    (sym (got-split ws i s e))

pub waiter-up : (u t : TaskId) (fs : List Elem) (ws : List Spot) (i : ℕ) (s : Spot) (old mid new : Bool)
    → slice_get ws i ≡ Some s → same_task t s.elem.task ≡ true → mid ≡ (old || blocks (same_task u) s.elem.ctl fs)
    → new ≡ (mid || blocks (same_task u) s.elem.ctl (elems_of (take i ws)))
    → (new || is_kept_by (same_task u) t (fs ++ elems_of (take (i + 1) ws)) (elems_of (drop (i + 1) ws)))
    ≡ (old || is_kept_by (same_task u) t (fs ++ elems_of (take i ws)) (elems_of (drop i ws)))
waiter-up u t fs ws i s old mid new e same a b =
    waiter-more u t fs ws i s old new e
    (before-up u t fs (elems_of (take i ws)) s.elem (elems_of (drop (i + 1) ws)) old mid new same a b)

pub waiter-down : (u t : TaskId) (fs : List Elem) (ws : List Spot) (i : ℕ) (s : Spot) (old : Bool)
    → slice_get ws i ≡ Some s → same_task t s.elem.task ≡ false
    → (old || is_kept_by (same_task u) t (fs ++ elems_of (take (i + 1) ws)) (elems_of (drop (i + 1) ws)))
    ≡ (old || is_kept_by (same_task u) t (fs ++ elems_of (take i ws)) (elems_of (drop i ws)))
waiter-down u t fs ws i s old e same =
    waiter-more u t fs ws i s old old e
    (before-down u t (fs ++ elems_of (take i ws)) s.elem (elems_of (drop (i + 1) ws)) old same)

pub ruleset waiters_more = (waiter-up, waiter-down)

-- The names of the tasks of all live systems: none stands twice, and each task of a live system is among them.
use Rattle.grs_world.proofs.Common.{[], ◌++◌, ◌+◌, ◌==◌, ◌||◌, ◌∙◌, ◌∷◌, ◌≡◌, ◌≤◌, ◌⊎◌, and_from, and_parts, ap, arith}
use Rattle.grs_world.proofs.Common.{Bool, cond, Deck, eq-eqb, eqb-true, false, false_by, has, inl, inr, is_among}
use Rattle.grs_world.proofs.Common.{is_home_at, is_some, lines_of, List, meanings, names_of, no_truth, NodeState, None}
use Rattle.grs_world.proofs.Common.{not, Option, or_left, or_right, refl, same_Some, same_task, same_task-exact}
use Rattle.grs_world.proofs.Common.{same_task-itself, slice_get, Some, stand_apart, subst, suc, sym, TaskId, true, zero}
use Rattle.grs_world.proofs.Common.{ℕ}
use Rattle.grs_legal.specs.Asks.{Script, lines_at, scripts_of}
use Rattle.grs_node.specs.Names.{names_from}

-- task n of system s, in this job
abbrev pub task_at : ℕ → ℕ → ℕ → TaskId
task_at s job n = record { system = record { 0 = s }; job = job; task = n }

-- who is among these tasks and others is among one of the two
pub among-either : (t : TaskId) (ts us : List TaskId) → is_among t (ts ++ us) ≡ true
    → (is_among t ts ≡ true) ⊎ (is_among t us ≡ true)
among-either t [] us h = inr h
among-either t (u ∷ ts) us h = go (same_task t u) h (among-either t ts us)
  where
    go : (b : Bool) → (b || is_among t (ts ++ us)) ≡ true
        → (is_among t (ts ++ us) ≡ true → (is_among t ts ≡ true) ⊎ (is_among t us ≡ true))
        → ((b || is_among t ts) ≡ true) ⊎ (is_among t us ≡ true)
    go true k more = inl refl
    go false k more = more k

pub among-first : (t : TaskId) (ts us : List TaskId) → is_among t ts ≡ true → is_among t (ts ++ us) ≡ true
among-first t [] us h = no_truth true refl (sym h)
among-first t (u ∷ ts) us h = go (same_task t u) h (among-first t ts us)
  where
    go : (b : Bool) → (b || is_among t ts) ≡ true → (is_among t ts ≡ true → is_among t (ts ++ us) ≡ true)
        → (b || is_among t (ts ++ us)) ≡ true
    go true k more = refl
    go false k more = more k

pub among-second : (t : TaskId) (ts us : List TaskId) → is_among t us ≡ true → is_among t (ts ++ us) ≡ true
among-second t [] us h = h
among-second t (u ∷ ts) us h = or_right (same_task t u) (is_among t (ts ++ us)) (among-second t ts us h)

-- two lists of tasks, of which no task stands in both
pub apart-both : (ts us : List TaskId) → stand_apart ts ≡ true → stand_apart us ≡ true
    → ((t : TaskId) → is_among t ts ≡ true → is_among t us ≡ false) → stand_apart (ts ++ us) ≡ true
apart-both [] us first second none = second
apart-both (t ∷ ts) us first second none =
    let both = and_parts (not (is_among t ts)) (stand_apart ts) first in
    and_from (not (is_among t (ts ++ us))) (stand_apart (ts ++ us))
    (ap not (false_by (is_among t (ts ++ us)) (λ h. either (among-either t ts us h) both.0)))
    (apart-both ts us both.1 second (λ u h. none u (or_right (same_task u t) (is_among u ts) h)))
  where
    off : (b : Bool) → b ≡ true → not b ≡ true → true ≡ false
    off true e k = sym k
    off false e k = sym e

    either : (is_among t ts ≡ true) ⊎ (is_among t us ≡ true) → not (is_among t ts) ≡ true
        → is_among t (ts ++ us) ≡ false
    either (inl h) apart = no_truth true refl (off (is_among t ts) h apart)
    either (inr h) apart =
        no_truth (is_among t us) h (none t (or_left (same_task t t) (is_among t ts) (same_task-itself t)))

pub zero_plus : (k : ℕ) → 0 + k ≡ k
zero_plus k = omega arith

-- ---- the tasks of one system
pub names-above : (s n : ℕ) (xs : List Script) (t : TaskId) → is_among t (names_from s n xs) ≡ true
    → (t.system.0 ≡ s) × (n ≤ t.task)
names-above s n [] t h = no_truth true refl (sym h)
names-above s n (x ∷ xs) t h = go (same_task t (task_at s x.job n)) refl h (names-above s (suc n) xs t)
  where
    go : (b : Bool) → same_task t (task_at s x.job n) ≡ b → (b || is_among t (names_from s (suc n) xs)) ≡ true
        → (is_among t (names_from s (suc n) xs) ≡ true → (t.system.0 ≡ s) × (suc n ≤ t.task))
        → (t.system.0 ≡ s) × (n ≤ t.task)
    go true e k more =
        let same : t ≡ task_at s x.job n = same_task-exact t (task_at s x.job n) e in
        let place : t.task ≡ n = ap (λ (z : TaskId). z.task) same in
        (ap (λ (z : TaskId). (z.system).0) same, omega (arith, place))
    go false e k more = let above = more k in let far = above.1 in (above.0, omega (arith, far))

names-apart : (s n : ℕ) (xs : List Script) → stand_apart (names_from s n xs) ≡ true
names-apart s n [] = refl
names-apart s n (x ∷ xs) =
    and_from (not (is_among (task_at s x.job n) (names_from s (suc n) xs))) (stand_apart (names_from s (suc n) xs))
    (ap not (false_by (is_among (task_at s x.job n) (names_from s (suc n) xs)) (λ h.
    let above = (names-above s (suc n) xs (task_at s x.job n) h).1 in absurd (omega (arith, above)))))
    (names-apart s (suc n) xs)

-- a task is named where its script stands
names-at : (s n : ℕ) (xs : List Script) (k : ℕ) (x : Script) → slice_get xs k ≡ Some x
    → is_among (task_at s x.job (n + k)) (names_from s n xs) ≡ true
names-at s n [] k x at = absurd (cc)
names-at s n (y ∷ ys) zero x at =
    let same : y ≡ x = same_Some y x at in
    let place : n + 0 ≡ n = omega arith in
    let t : TaskId = task_at s x.job (n + 0) in
    or_left (same_task t (task_at s y.job n)) (is_among t (names_from s (suc n) ys))
    (ap (same_task t) (ap (λ (z : Script). task_at s z.job n) same ∙ ap (task_at s x.job) (sym place))
    ∙ same_task-itself t)
names-at s n (y ∷ ys) (suc k) x at =
    let place : suc n + k ≡ n + suc k = omega arith in
    or_right (same_task (task_at s x.job (n + suc k)) (task_at s y.job n))
    (is_among (task_at s x.job (n + suc k)) (names_from s (suc n) ys))
    (subst (λ i. is_among (task_at s x.job i) (names_from s (suc n) ys) ≡ true) place
    (names-at s (suc n) ys k x at))

-- so each task of a system is among its names,
pub home-named : (deck : Deck) (s : ℕ) (t : TaskId) → is_home_at deck s t ≡ true → is_among t (names_of deck s) ≡ true
home-named deck s t home = subst (λ i. is_among t (names_of deck i) ≡ true) at by-script
  where
    both : ((t.system.0 == s) ≡ true) × (is_some (lines_of deck t) ≡ true)
    both = and_parts (t.system.0 == s) (is_some (lines_of deck t)) home

    at : t.system.0 ≡ s
    at = eqb-true t.system.0 s both.0

    scripts : List Script
    scripts = scripts_of deck t.system.0

    by-job : (x : Script) → slice_get scripts t.task ≡ Some x → (b : Bool) → (x.job == t.job) ≡ b
        → is_some (meanings deck.lists t (cond b (Some x.lines) None)) ≡ true
        → is_among t (names_from t.system.0 0 scripts) ≡ true
    by-job x found false e h = no_truth true refl (sym h)
    by-job x found true e h =
        subst (λ i. is_among (task_at t.system.0 i t.task) (names_from t.system.0 0 scripts) ≡ true)
        (eqb-true x.job t.job e)
        (subst (λ i. is_among (task_at t.system.0 x.job i) (names_from t.system.0 0 scripts) ≡ true)
        (zero_plus t.task) (names-at t.system.0 0 scripts t.task x found))

    go : (o : Option Script) → slice_get scripts t.task ≡ o
        → is_some (meanings deck.lists t (lines_at t.job o)) ≡ true
        → is_among t (names_from t.system.0 0 scripts) ≡ true
    go None found h = no_truth true refl (sym h)
    go (Some x) found h = by-job x found (x.job == t.job) refl h

    by-script : is_among t (names_of deck t.system.0) ≡ true
    by-script = go (slice_get scripts t.task) refl both.1

-- and each name is of a task of it
pub named-home : (deck : Deck) (s k : ℕ) (x : Script) → slice_get (scripts_of deck s) k ≡ Some x
    → is_home_at deck s (task_at s x.job k) ≡ true
named-home deck s k x found =
    and_from (s == s) (is_some (lines_of deck (task_at s x.job k))) (eq-eqb s s refl)
    (ap (λ (o : Option Script). is_some (meanings deck.lists (task_at s x.job k) (lines_at x.job o))) found
    ∙ ap (λ b. is_some (meanings deck.lists (task_at s x.job k) (cond b (Some x.lines) None)))
    (eq-eqb x.job x.job refl))

-- ---- those of the live ones among systems, of which the first has this number
abbrev pub live_names : Deck → ℕ → ℕ → List NodeState → List TaskId
live_names deck removed s [] = []
live_names deck removed s (n ∷ ns) =
    cond (has removed s) [] (names_of deck s) ++ live_names deck removed (s + 1) ns

live-above : (deck : Deck) (removed s : ℕ) (ns : List NodeState) (t : TaskId)
    → is_among t (live_names deck removed s ns) ≡ true → s ≤ t.system.0
live-above deck removed s [] t h = no_truth true refl (sym h)
live-above deck removed s (n ∷ ns) t h =
    go (has removed s) h (live-above deck removed (s + 1) ns t)
  where
    late : (is_among t (live_names deck removed (s + 1) ns) ≡ true → s + 1 ≤ t.system.0)
        → is_among t (live_names deck removed (s + 1) ns) ≡ true → s ≤ t.system.0
    late more k = let above = more k in omega (arith, above)

    go : (b : Bool) → is_among t (cond b [] (names_of deck s) ++ live_names deck removed (s + 1) ns) ≡ true
        → (is_among t (live_names deck removed (s + 1) ns) ≡ true → s + 1 ≤ t.system.0) → s ≤ t.system.0
    go true k more = late more k
    go false k more = either (among-either t (names_of deck s) (live_names deck removed (s + 1) ns) k)
      where
        either : (is_among t (names_of deck s) ≡ true) ⊎ (is_among t (live_names deck removed (s + 1) ns) ≡ true)
            → s ≤ t.system.0
        either (inl i) =
            let at : t.system.0 ≡ s = (names-above s 0 (scripts_of deck s) t i).0 in omega (arith, at)
        either (inr i) = late more i

pub live-apart : (deck : Deck) (removed s : ℕ) (ns : List NodeState)
    → stand_apart (live_names deck removed s ns) ≡ true
live-apart deck removed s [] = refl
live-apart deck removed s (n ∷ ns) =
    go (has removed s) (live-apart deck removed (s + 1) ns)
  where
    go : (b : Bool) → stand_apart (live_names deck removed (s + 1) ns) ≡ true
        → stand_apart (cond b [] (names_of deck s) ++ live_names deck removed (s + 1) ns) ≡ true
    go true more = more
    go false more =
        apart-both (names_of deck s) (live_names deck removed (s + 1) ns) (names-apart s 0 (scripts_of deck s)) more
        (λ t mine.
        false_by (is_among t (live_names deck removed (s + 1) ns)) (λ other.
        let at : t.system.0 ≡ s = (names-above s 0 (scripts_of deck s) t mine).0 in
        let above : s + 1 ≤ t.system.0 = live-above deck removed (s + 1) ns t other in
        absurd (omega (arith, at, above))))

-- a task of a live system is among them
pub live-named : (deck : Deck) (removed s : ℕ) (ns : List NodeState) (k : ℕ) (n : NodeState) (t : TaskId)
    → slice_get ns k ≡ Some n → has removed (s + k) ≡ false → is_among t (names_of deck (s + k)) ≡ true
    → is_among t (live_names deck removed s ns) ≡ true
live-named deck removed s [] k n t at alive named = absurd (cc)
live-named deck removed s (m ∷ ms) zero n t at alive named =
    let place : s + 0 ≡ s = omega arith in
    among-first t (cond (has removed s) [] (names_of deck s)) (live_names deck removed (s + 1) ms)
    (ap (λ b. is_among t (cond b [] (names_of deck s)))
    (subst (λ i. has removed i ≡ false) place alive)
    ∙ subst (λ i. is_among t (names_of deck i) ≡ true) place named)
live-named deck removed s (m ∷ ms) (suc k) n t at alive named =
    let place : s + suc k ≡ (s + 1) + k = omega arith in
    among-second t (cond (has removed s) [] (names_of deck s)) (live_names deck removed (s + 1) ms)
    (live-named deck removed (s + 1) ms k n t at (subst (λ i. has removed i ≡ false) place alive)
    (subst (λ i. is_among t (names_of deck i) ≡ true) place named))

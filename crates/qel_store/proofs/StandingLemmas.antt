-- How a task stands in a queue, read off its element and those in front.
use Rattle.std.proofs.Common.{◌≡◌, ◌<◌, ◌≤◌, ◌+◌, ℕ, zero, suc, Bool, true, false, not, cond, ◌&&◌, ◌||◌, List, [], ◌∷◌}
use Rattle.std.proofs.Common.{length, drop, Option, Some, None, is_some, refl, ap, sym, ◌∙◌, arith, eqb, leb, ltb}
use Rattle.std.specs.Prelude.{slice_get}
use Rattle.std.specs.Option.{option_map_or}
use Rattle.std.proofs.lemmas.Bool.{eqb-true, eq-eqb}
use Rattle.std.proofs.lemmas.Bool.Decides.{nat_tests}
use Rattle.grs_base.specs.Same.{same_task}
use Rattle.grs_base.specs.Behind.{shared_tasks, owner_tasks, tasks_behind}
use Rattle.grs_base.specs.Lists.{is_shared, shared_front, owners, all_shared, place_of, begins_shared, standing_of}
use Rattle.grs_base.specs.Lists.{owns, owns_shared, has_task}
use Rattle.grs_base.specs.declared.decision.Standing.TheVariants.{Exclusive, OnlyShared, AmongShared, Waits, Absent}
use Rattle.grs_base.specs.declared.resource.TaskId.{TaskId}
use Rattle.grs_base.specs.declared.resource.Elem.{Elem}
use Rattle.grs_base.proofs.ListLaws.{owns-place, has_task-place}
use Rattle.qel_store.specs.declared.elements.Element.{Element}
use Rattle.qel_store.specs.declared.elements.Side.TheVariants.{Queue}
use Rattle.qel_store.specs.declared.rings.Ring.{Ring}
use Rattle.qel_store.specs.Items.{Item, Items, found, has_key, keys_apart, members, is_in, is_of, key_of, index_of}
use Rattle.qel_store.specs.Items.{elems_of, count_exclusive, is_shared_at}
use Rattle.qel_store.specs.Rings.{IsCircle, first_key}
use Rattle.qel_store.proofs.ItemLemmas.{by_cases, key_of-has, has_key-found, key_of-members, key_of-same}
use Rattle.qel_store.proofs.ItemLemmas.{keys_apart-members}
use Rattle.qel_store.proofs.WalkLemmas.{found-member, key_of-item, circle-first, circle-length, place-found, place-item}
use Rattle.qel_store.proofs.WalkLemmas.{place-next}

-- the standing, by who owns
standing-by : (es : List Elem) (t : TaskId)
    → standing_of es t
    ≡ cond (owns es t) (cond (begins_shared es) (cond (eqb (owners es) 1) OnlyShared AmongShared) Exclusive)
    (cond (has_task es t) Waits Absent)
standing-by es t = grind (arith, owns-place es t, has_task-place es t)

pub length-elems_of : (ms : Items) → length (elems_of ms) ≡ length ms
length-elems_of [] = refl
length-elems_of (x ∷ xs) = grind (arith, length-elems_of xs)

pub drop-elems_of : (n : ℕ) (ms : Items) → drop n (elems_of ms) ≡ elems_of (drop n ms)
drop-elems_of zero ms = refl
drop-elems_of (suc n) [] = refl
drop-elems_of (suc n) (x ∷ xs) = drop-elems_of n xs

-- a task has an element where there is a key of it
pub has_task-key : (ms : Items) (t : TaskId) → has_task (elems_of ms) t ≡ is_some (key_of (is_of t) ms)
has_task-key [] t = refl
has_task-key (x ∷ xs) t = grind (arith, has_task-key xs t)

pub standing-absent : (ms : Items) (t : TaskId) → key_of (is_of t) ms ≡ None → standing_of (elems_of ms) t ≡ Absent
standing-absent ms t h = standing-by (elems_of ms) t ∙ grind (arith, has_task-key ms t, h, owner_has (elems_of ms) t)
  where
    shared_has : (es : List Elem) (u : TaskId) → owns_shared es u ≡ true → has_task es u ≡ true
    shared_has [] u o = o
    shared_has (e ∷ es) u o = grind (arith, o, shared_has es u)

    owner_has : (es : List Elem) (u : TaskId) → owns es u ≡ true → has_task es u ≡ true
    owner_has [] u o = o
    owner_has (e ∷ es) u o = grind (arith, o, shared_has es u)

-- the place of a task is that of its key
pub place_of-key : (ms : Items) (t : TaskId) (k : ℕ) → keys_apart ms ≡ true → key_of (is_of t) ms ≡ Some k
    → place_of (elems_of ms) t ≡ index_of ms k
place_of-key [] t k a h = cc
place_of-key (x ∷ xs) t k a h = grind (arith, nat_tests, a, h, place_of-key xs t k, key_of-has (is_of t) xs k)

pub index_of-lt : (ms : Items) (k : ℕ) → has_key ms k ≡ true → index_of ms k < length ms
index_of-lt [] k h = absurd (cc)
index_of-lt (x ∷ xs) k h = grind (arith, nat_tests, h, index_of-lt xs k)

-- the key at a place
pub index_of-first : (ms : Items) (n k d : ℕ) → keys_apart ms ≡ true → n < length ms → k ≡ first_key (drop n ms) d
    → index_of ms k ≡ n
index_of-first [] n k d a h e = absurd (omega arith)
index_of-first (x ∷ xs) zero k d a h e = grind (arith, nat_tests, e)
index_of-first (x ∷ xs) (suc n) k d a h e =
    grind (arith, nat_tests, a, h, e, index_of-first xs n k d, first_in xs n d (omega arith))
  where
    first_in : (ys : Items) (m c : ℕ) → m < length ys → has_key ys (first_key (drop m ys) c) ≡ true
    first_in [] m c l = absurd (omega arith)
    first_in (y ∷ ys) zero c l = grind (arith, nat_tests)
    first_in (y ∷ ys) (suc m) c l = grind (arith, first_in ys m c (omega arith))

pub first-index_of : (ms : Items) (k d : ℕ) → has_key ms k ≡ true → first_key (drop (index_of ms k) ms) d ≡ k
first-index_of [] k d h = absurd (cc)
first-index_of (x ∷ xs) k d h = by_cases (eqb k x.0)
    (λ e. grind (arith, nat_tests, e))
    (λ e. grind (arith, e, first-index_of xs k d (grind (arith, e, h))))

-- where all are shared
front-all : (ms : Items) → count_exclusive ms ≡ 0 → shared_front (elems_of ms) ≡ length ms
front-all [] h = refl
front-all (x ∷ xs) h = grind (arith, h, front-all xs)

all_shared-count : (ms : Items) → all_shared (elems_of ms) ≡ eqb (count_exclusive ms) 0
all_shared-count [] = refl
all_shared-count (x ∷ xs) = grind (arith, nat_tests, all_shared-count xs)

pub shared_of-count : (ms : Items) (n : ℕ) → n ≡ count_exclusive ms → eqb n 0 ≡ all_shared (elems_of ms)
shared_of-count ms n h = grind (arith, h, all_shared-count ms)

pub front-none : (ms : Items) (n : ℕ) → n ≡ 0 → n ≡ count_exclusive ms → length ms ≡ shared_front (elems_of ms)
front-none ms n z h = sym (front-all ms (omega arith))

owns-all : (ms : Items) (t : TaskId) → count_exclusive ms ≡ 0 → owns_shared (elems_of ms) t ≡ has_task (elems_of ms) t
owns-all [] t h = refl
owns-all (x ∷ xs) t h = grind (arith, h, owns-all xs t)

pub standing-all : (ms : Items) (t : TaskId) (k : ℕ) → count_exclusive ms ≡ 0 → key_of (is_of t) ms ≡ Some k
    → standing_of (elems_of ms) t ≡ cond (eqb (length ms) 1) OnlyShared AmongShared
standing-all [] t k h e = cc
standing-all (x ∷ xs) t k h e =
    standing-by (elems_of (x ∷ xs)) t
    ∙ grind (arith, nat_tests, h, front-all xs, owns-all xs t, has_task-key (x ∷ xs) t, e)

-- the task's own element
pub own_element : (ms : Items) (t : TaskId) (k : ℕ) (e : Element) → keys_apart ms ≡ true → key_of (is_of t) ms ≡ Some k
    → found ms k ≡ Some e → same_task t e.elem.task ≡ true
own_element [] t k e a h f = cc
own_element (x ∷ xs) t k e a h f = grind (arith, nat_tests, a, h, f, own_element xs t k e, key_of-has (is_of t) xs k)

pub standing-exclusive_first : (ms : Items) (t : TaskId) (k d : ℕ) (e : Element) → keys_apart ms ≡ true
    → key_of (is_of t) ms ≡ Some k → found ms k ≡ Some e → is_shared e.elem.ctl ≡ false → k ≡ first_key ms d
    → standing_of (elems_of ms) t ≡ Exclusive
standing-exclusive_first [] t k d e a h f s i = cc
standing-exclusive_first (x ∷ xs) t k d e a h f s i =
    standing-by (elems_of (x ∷ xs)) t ∙ grind (arith, nat_tests, i, f, s, own_element (x ∷ xs) t k e a h f)

-- an exclusive element owns only where it is first
exclusive_waits : (ms : Items) (t : TaskId) (k : ℕ) (e : Element) → keys_apart ms ≡ true → key_of (is_of t) ms ≡ Some k
    → found ms k ≡ Some e → is_shared e.elem.ctl ≡ false → owns_shared (elems_of ms) t ≡ false
exclusive_waits [] t k e a h f s = refl
exclusive_waits (x ∷ xs) t k e a h f s =
    grind (arith, nat_tests, a, h, f, s, exclusive_waits xs t k e, key_of-has (is_of t) xs k)

pub standing-exclusive_behind : (ms : Items) (t : TaskId) (k d : ℕ) (e : Element) → keys_apart ms ≡ true
    → key_of (is_of t) ms ≡ Some k → found ms k ≡ Some e → is_shared e.elem.ctl ≡ false → eqb k (first_key ms d) ≡ false
    → standing_of (elems_of ms) t ≡ Waits
standing-exclusive_behind [] t k d e a h f s i = cc
standing-exclusive_behind (x ∷ xs) t k d e a h f s i =
    let other : is_of t x.1 ≡ false = grind (arith, nat_tests, h, i) in
    standing-by (elems_of (x ∷ xs)) t
    ∙ grind (
      arith,
      nat_tests,
      a,
      other,
      h,
      f,
      s,
      i,
      exclusive_waits xs t k e,
      has_task-key xs t,
      key_of-has (is_of t) xs k,
    )

-- a shared one owns where it is among those in front
owns-shared_own : (ms : Items) (t : TaskId) (k : ℕ) (e : Element) → keys_apart ms ≡ true → key_of (is_of t) ms ≡ Some k
    → found ms k ≡ Some e → is_shared e.elem.ctl ≡ true → owns (elems_of ms) t ≡ owns_shared (elems_of ms) t
owns-shared_own [] t k e a h f s = refl
owns-shared_own (x ∷ xs) t k e a h f s = grind (arith, nat_tests, a, h, f, s, key_of-has (is_of t) xs k)

pub begins_where : (es : List Elem) (t : TaskId) → owns_shared es t ≡ true → begins_shared es ≡ true
begins_where [] t h = cc
begins_where (e ∷ es) t h = grind (arith, h)

pub standing-shared : (ms : Items) (t : TaskId) (k : ℕ) (e : Element) → keys_apart ms ≡ true
    → key_of (is_of t) ms ≡ Some k → found ms k ≡ Some e → is_shared e.elem.ctl ≡ true
    → standing_of (elems_of ms) t
    ≡ cond (owns_shared (elems_of ms) t) (cond (eqb (owners (elems_of ms)) 1) OnlyShared AmongShared) Waits
standing-shared ms t k e a h f s = standing-by (elems_of ms) t ∙ by_owner (owns_shared (elems_of ms) t) refl
  where
    by_owner : (b : Bool) → owns_shared (elems_of ms) t ≡ b
        → cond (owns (elems_of ms) t)
        (cond (begins_shared (elems_of ms)) (cond (eqb (owners (elems_of ms)) 1) OnlyShared AmongShared) Exclusive)
        (cond (has_task (elems_of ms) t) Waits Absent)
        ≡ cond b (cond (eqb (owners (elems_of ms)) 1) OnlyShared AmongShared) Waits
    by_owner true o = grind (arith, o, owns-shared_own ms t k e a h f s, begins_where (elems_of ms) t)
    by_owner false o = grind (arith, o, owns-shared_own ms t k e a h f s, has_task-key ms t, h)

-- one that isn't first has another before it
pub among-behind : (ms : Items) (t : TaskId) (k d : ℕ) → key_of (is_of t) ms ≡ Some k
    → owns_shared (elems_of ms) t ≡ true → eqb k (first_key ms d) ≡ false → eqb (owners (elems_of ms)) 1 ≡ false
among-behind [] t k d h o i = cc
among-behind (x ∷ xs) t k d h o i = grind (arith, nat_tests, h, o, i, owned (elems_of xs) t)
  where
    owned : (es : List Elem) (u : TaskId) → owns_shared es u ≡ true → 0 < shared_front es
    owned [] u p = absurd (cc)
    owned (e ∷ es) u p = grind (arith, p)

-- the first alone owns where no shared one stands behind it
pub owners-one : (ms : Items) → length ms ≡ 1 → owners (elems_of ms) ≡ 1
owners-one [] h = absurd (omega arith)
owners-one (x ∷ []) h = grind arith
owners-one (x ∷ (y ∷ xs)) h = absurd (omega arith)

pub owners-second : (ms : Items) (x y : Item) (rest : Items) → ms ≡ x ∷ y ∷ rest → is_shared x.1.elem.ctl ≡ true
    → eqb (owners (elems_of ms)) 1 ≡ not (is_shared y.1.elem.ctl)
owners-second ms x y rest h s = grind (arith, nat_tests, h, s)

-- who gets control behind an element
pub behind-all : (ms : Items) (t : TaskId) (k : ℕ) → count_exclusive ms ≡ 0 → keys_apart ms ≡ true
    → key_of (is_of t) ms ≡ Some k → tasks_behind (elems_of ms) (place_of (elems_of ms) t) ≡ []
behind-all ms t k h a e = by_length ms refl
  where
    place : place_of (elems_of ms) t < length ms
    place = omega (arith, place_of-key ms t k a e, index_of-lt ms k (key_of-has (is_of t) ms k e))

    by_length : (ns : Items) → ns ≡ ms → tasks_behind (elems_of ms) (place_of (elems_of ms) t) ≡ []
    by_length [] i = absurd (omega (arith, place, ap (λ (l : Items). length l) i))
    by_length (x ∷ []) i = grind (arith, nat_tests, sym i, place, front-all ms h)
    by_length (x ∷ (y ∷ ns)) i = grind (arith, nat_tests, sym i, place, front-all ms h)

pub behind-first : (ms : Items) (t : TaskId) (k d : ℕ) → keys_apart ms ≡ true → key_of (is_of t) ms ≡ Some k
    → k ≡ first_key ms d
    → tasks_behind (elems_of ms) (place_of (elems_of ms) t)
    ≡ cond (leb (shared_front (elems_of ms)) 1) (owner_tasks (elems_of (drop 1 ms))) []
behind-first [] t k d a h i = cc
behind-first (x ∷ xs) t k d a h i =
    let place : place_of (elems_of (x ∷ xs)) t ≡ 0 = place_of-key (x ∷ xs) t k a h ∙ grind (arith, nat_tests, i) in
    ap (tasks_behind (elems_of (x ∷ xs))) place ∙ grind (arith, nat_tests)

pub behind-other : (ms : Items) (t : TaskId) (k d : ℕ) → keys_apart ms ≡ true → key_of (is_of t) ms ≡ Some k
    → eqb k (first_key ms d) ≡ false
    → tasks_behind (elems_of ms) (place_of (elems_of ms) t)
    ≡ cond (eqb (index_of ms k) (shared_front (elems_of ms))) (shared_tasks (elems_of (drop (index_of ms k + 1) ms))) []
behind-other [] t k d a h i = cc
behind-other (x ∷ xs) t k d a h i =
    ap (tasks_behind (elems_of (x ∷ xs))) (place_of-key (x ∷ xs) t k a h)
    ∙ grind (arith, nat_tests, i, drop-elems_of (index_of (x ∷ xs) k + 1) (x ∷ xs))

-- an element that stands where the shared ones in front end is exclusive
pub wall-exclusive : (ms : Items) (k : ℕ) (e : Element) → keys_apart ms ≡ true → found ms k ≡ Some e
    → is_shared e.elem.ctl ≡ true → eqb (index_of ms k) (shared_front (elems_of ms)) ≡ false
wall-exclusive [] k e a f s = cc
wall-exclusive (x ∷ xs) k e a f s = grind (arith, nat_tests, a, f, s, wall-exclusive xs k e)

-- the key behind those in front
pub wall-key : (ms : Items) (k w d : ℕ) → keys_apart ms ≡ true → has_key ms k ≡ true
    → w ≡ first_key (drop (shared_front (elems_of ms)) ms) d → eqb k d ≡ false
    → eqb w k ≡ eqb (index_of ms k) (shared_front (elems_of ms))
wall-key ms k w d a h e i = by_end (ltb (shared_front (elems_of ms)) (length ms)) refl
  where
    dropped_all : (ns : Items) (n : ℕ) → length ns ≤ n → first_key (drop n ns) d ≡ d
    dropped_all [] zero l = refl
    dropped_all [] (suc n) l = refl
    dropped_all (y ∷ ns) zero l = absurd (omega arith)
    dropped_all (y ∷ ns) (suc n) l = dropped_all ns n (omega arith)

    by_key : (b c : Bool) → eqb w k ≡ b → eqb (index_of ms k) (shared_front (elems_of ms)) ≡ c
        → shared_front (elems_of ms) < length ms → b ≡ c
    by_key true true p q l = refl
    by_key false false p q l = refl
    by_key true false p q l =
        absurd (grind (arith, nat_tests, p, q, index_of-first ms (shared_front (elems_of ms)) w d a l e))
    by_key false true p q l = absurd (grind (arith, nat_tests, p, q, e, first-index_of ms k d h))

    by_end : (b : Bool) → ltb (shared_front (elems_of ms)) (length ms) ≡ b
        → eqb w k ≡ eqb (index_of ms k) (shared_front (elems_of ms))
    by_end true b =
        by_key (eqb w k) (eqb (index_of ms k) (shared_front (elems_of ms))) refl refl (grind (arith, nat_tests, b))
    by_end false b = grind (arith, nat_tests, b, e, i, dropped_all ms (shared_front (elems_of ms)), index_of-lt ms k h)

-- going over the shared ones, place by place
pub shared_tasks-item : (ms : Items) (n k : ℕ) (e : Element) → drop n ms ≡ (k, e) ∷ drop (n + 1) ms
    → shared_tasks (elems_of (drop n ms))
    ≡ cond (is_shared e.elem.ctl) (e.elem.task ∷ shared_tasks (elems_of (drop (n + 1) ms))) []
shared_tasks-item ms n k e h = ap (λ (l : Items). shared_tasks (elems_of l)) h ∙ grind arith

pub owner_tasks-item : (ms : Items) (n k : ℕ) (e : Element) → drop n ms ≡ (k, e) ∷ drop (n + 1) ms
    → owner_tasks (elems_of (drop n ms))
    ≡ e.elem.task ∷ cond (is_shared e.elem.ctl) (shared_tasks (elems_of (drop (n + 1) ms))) []
owner_tasks-item ms n k e h = ap (λ (l : Items). owner_tasks (elems_of l)) h ∙ by_ctl (is_shared e.elem.ctl) refl
  where
    by_ctl : (b : Bool) → is_shared e.elem.ctl ≡ b
        → owner_tasks (elems_of ((k, e) ∷ drop (n + 1) ms))
        ≡ e.elem.task ∷ cond b (shared_tasks (elems_of (drop (n + 1) ms))) []
    by_ctl true s = grind (arith, s)
    by_ctl false s = grind (arith, s)

pub front-item : (ms : Items) (n k : ℕ) (e : Element) → drop n ms ≡ (k, e) ∷ drop (n + 1) ms
    → shared_front (elems_of (drop n ms))
    ≡ cond (is_shared e.elem.ctl) (suc (shared_front (elems_of (drop (n + 1) ms)))) 0
front-item ms n k e h = ap (λ (l : Items). shared_front (elems_of l)) h ∙ grind arith

pub front-end : (ms : Items) (n k : ℕ) (e : Element) → drop n ms ≡ (k, e) ∷ drop (n + 1) ms
    → is_shared e.elem.ctl ≡ false → shared_front (elems_of (drop n ms)) ≡ 0
front-end ms n k e h s =
    front-item ms n k e h ∙ ap (λ (b : Bool). cond b (suc (shared_front (elems_of (drop (n + 1) ms)))) 0) s

pub front-more : (ms : Items) (n k : ℕ) (e : Element) → drop n ms ≡ (k, e) ∷ drop (n + 1) ms
    → is_shared e.elem.ctl ≡ true
    → shared_front (elems_of (drop n ms)) ≡ suc (shared_front (elems_of (drop (n + 1) ms)))
front-more ms n k e h s =
    front-item ms n k e h ∙ ap (λ (b : Bool). cond b (suc (shared_front (elems_of (drop (n + 1) ms)))) 0) s

pub tasks-end : (ms : Items) (n k : ℕ) (e : Element) → drop n ms ≡ (k, e) ∷ drop (n + 1) ms
    → is_shared e.elem.ctl ≡ false → shared_tasks (elems_of (drop n ms)) ≡ []
tasks-end ms n k e h s =
    shared_tasks-item ms n k e h
    ∙ ap (λ (b : Bool). cond b (e.elem.task ∷ shared_tasks (elems_of (drop (n + 1) ms))) []) s

pub tasks-more : (ms : Items) (n k : ℕ) (e : Element) → drop n ms ≡ (k, e) ∷ drop (n + 1) ms
    → is_shared e.elem.ctl ≡ true
    → shared_tasks (elems_of (drop n ms)) ≡ e.elem.task ∷ shared_tasks (elems_of (drop (n + 1) ms))
tasks-more ms n k e h s =
    shared_tasks-item ms n k e h
    ∙ ap (λ (b : Bool). cond b (e.elem.task ∷ shared_tasks (elems_of (drop (n + 1) ms))) []) s

pub owners-end : (ms : Items) (n k : ℕ) (e : Element) → drop n ms ≡ (k, e) ∷ drop (n + 1) ms
    → is_shared e.elem.ctl ≡ false → owner_tasks (elems_of (drop n ms)) ≡ e.elem.task ∷ []
owners-end ms n k e h s =
    owner_tasks-item ms n k e h
    ∙ ap (λ (b : Bool). e.elem.task ∷ cond b (shared_tasks (elems_of (drop (n + 1) ms))) []) s

pub owners-more : (ms : Items) (n k : ℕ) (e : Element) → drop n ms ≡ (k, e) ∷ drop (n + 1) ms
    → is_shared e.elem.ctl ≡ true
    → owner_tasks (elems_of (drop n ms)) ≡ e.elem.task ∷ shared_tasks (elems_of (drop (n + 1) ms))
owners-more ms n k e h s =
    owner_tasks-item ms n k e h
    ∙ ap (λ (b : Bool). e.elem.task ∷ cond b (shared_tasks (elems_of (drop (n + 1) ms))) []) s

-- whether a shared one is among those in front, place by place
owns-item : (ms : Items) (t : TaskId) (n k : ℕ) (e : Element) → drop n ms ≡ (k, e) ∷ drop (n + 1) ms
    → owns_shared (elems_of (drop n ms)) t
    ≡ (is_shared e.elem.ctl && (same_task t e.elem.task || owns_shared (elems_of (drop (n + 1) ms)) t))
owns-item ms t n k e h = ap (λ (l : Items). owns_shared (elems_of l) t) h

pub owns-end : (ms : Items) (t : TaskId) (n k : ℕ) (e : Element) → drop n ms ≡ (k, e) ∷ drop (n + 1) ms
    → is_shared e.elem.ctl ≡ false → owns_shared (elems_of (drop n ms)) t ≡ false
owns-end ms t n k e h s =
    owns-item ms t n k e h
    ∙ ap (λ (b : Bool). b && (same_task t e.elem.task || owns_shared (elems_of (drop (n + 1) ms)) t)) s

pub owns-more : (ms : Items) (t : TaskId) (n k : ℕ) (e : Element) → drop n ms ≡ (k, e) ∷ drop (n + 1) ms
    → is_of t e ≡ false → is_shared e.elem.ctl ≡ true
    → owns_shared (elems_of (drop n ms)) t ≡ owns_shared (elems_of (drop (n + 1) ms)) t
owns-more ms t n k e h o s =
    owns-item ms t n k e h
    ∙ ap (λ (b : Bool). b && (same_task t e.elem.task || owns_shared (elems_of (drop (n + 1) ms)) t)) s
    ∙ ap (λ (b : Bool). b || owns_shared (elems_of (drop (n + 1) ms)) t) o

-- the task's own key stands further on
pub own-later : (ms : Items) (t : TaskId) (n k j : ℕ) (e : Element) → drop n ms ≡ (j, e) ∷ drop (n + 1) ms
    → key_of (is_of t) (drop n ms) ≡ Some k → (j ≡ k → ⊥)
    → (is_of t e ≡ false) × (key_of (is_of t) (drop (n + 1) ms) ≡ Some k)
own-later ms t n k j e h o d = by_cases (is_of t e)
    (λ b. absurd (d (some_same (sym (here b) ∙ o))))
    (λ b. (b, sym (here b) ∙ o))
  where
    here : {b : Bool} → is_of t e ≡ b
        → key_of (is_of t) (drop n ms) ≡ cond b (Some j) (key_of (is_of t) (drop (n + 1) ms))
    here b =
        key_of-item (is_of t) ms n j e h ∙ ap (λ (c : Bool). cond c (Some j) (key_of (is_of t) (drop (n + 1) ms))) b

    some_same : Some j ≡ Some k → j ≡ k
    some_same i = cc

-- and at its place the task owns
shared_at : (xs : Items) (k : ℕ) (o : Option Element) → found xs k ≡ o → is_shared_at xs k ≡ true
    → option_map_or (λ e. is_shared e.elem.ctl) o false ≡ true
shared_at xs k o f s = sym (ap (λ (p : Option Element). option_map_or (λ e. is_shared e.elem.ctl) p false) f) ∙ s

pub owns-found : (q : ℕ) (t : TaskId) (xs : Items) (r : Ring) (c : IsCircle Queue (is_in q) xs r) (i k : ℕ) → i < r.len
    → k ≡ first_key (drop i (members (is_in q) xs)) r.first → key_of (is_of t) (members (is_in q) xs) ≡ Some k
    → is_shared_at xs k ≡ true → owns_shared (elems_of (drop i (members (is_in q) xs))) t ≡ true
owns-found q t xs r c i k l at own s = by_found (found xs k) refl
  where
    by_found : (o : Option Element) → found xs k ≡ o → owns_shared (elems_of (drop i (members (is_in q) xs))) t ≡ true
    by_found None f = let wrong : false ≡ true = shared_at xs k None f s in absurd (cc)
    by_found (Some e) f =
        let ms = members (is_in q) xs in
        let mine : same_task t e.elem.task ≡ true =
        own_element ms t k e (keys_apart-members (is_in q) xs c.apart) own
        (found-member (is_in q) xs k c.apart (key_of-has (is_of t) ms k own) ∙ f) in
        let shared : is_shared e.elem.ctl ≡ true = shared_at xs k (Some e) f s in
        owns-item ms t i k e (place-item Queue (is_in q) xs r c i k e l at f)
        ∙ ap (λ (b : Bool). b && (same_task t e.elem.task || owns_shared (elems_of (drop (i + 1) ms)) t)) shared
        ∙ ap (λ (b : Bool). b || owns_shared (elems_of (drop (i + 1) ms)) t) mine

-- whether the first owns alone
pub begins-some : (ms : Items) → begins_shared (elems_of ms) ≡ true → 0 < length ms
begins-some [] h = absurd (cc)
begins-some (x ∷ xs) h = omega arith

pub alone-one : (ms : Items) → length ms ≡ 1 → true ≡ eqb (owners (elems_of ms)) 1
alone-one ms h = sym (ap (λ (n : ℕ). eqb n 1) (owners-one ms h))

module _ (q : ℕ) (xs : Items) (r : Ring) (c : IsCircle Queue (is_in q) xs r) where
  pub circle-some : begins_shared (elems_of (members (is_in q) xs)) ≡ true → 0 < r.len
  circle-some b = omega (arith, begins-some (members (is_in q) xs) b, circle-length Queue (is_in q) xs r c)

  pub first-there : 0 < r.len → is_some (found xs r.first) ≡ true
  first-there h = place-found Queue (is_in q) xs r c 0 r.first h (circle-first Queue (is_in q) xs r c)

  pub first-item : (e : Element) → 0 < r.len → found xs r.first ≡ Some e
      → drop 0 (members (is_in q) xs) ≡ (r.first, e) ∷ drop 1 (members (is_in q) xs)
  first-item e h f = place-item Queue (is_in q) xs r c 0 r.first e h (circle-first Queue (is_in q) xs r c) f

  pub first-next : (e : Element) → 0 < r.len → found xs r.first ≡ Some e
      → e.in_queue.next ≡ first_key (drop 1 (members (is_in q) xs)) r.first
  first-next e h f = place-next Queue (is_in q) xs r c 0 r.first e h (circle-first Queue (is_in q) xs r c) f

  pub second-there : (e : Element) → 1 < r.len → found xs r.first ≡ Some e → is_some (found xs e.in_queue.next) ≡ true
  second-there e h f = place-found Queue (is_in q) xs r c 1 e.in_queue.next h (first-next e (omega arith) f)

  pub alone-second : (e f : Element) → 1 < r.len → found xs r.first ≡ Some e → found xs e.in_queue.next ≡ Some f
      → begins_shared (elems_of (members (is_in q) xs)) ≡ true
      → eqb (owners (elems_of (members (is_in q) xs))) 1 ≡ not (is_shared f.elem.ctl)
  alone-second e f h i j b =
      let two : members (is_in q) xs ≡ (r.first, e) ∷ (e.in_queue.next, f) ∷ drop 2 (members (is_in q) xs) =
      first-item e (omega arith) i
      ∙ ap (λ (l : Items). (r.first, e) ∷ l)
      (place-item Queue (is_in q) xs r c 1 e.in_queue.next f h (first-next e (omega arith) i) j) in
      owners-second (members (is_in q) xs) (r.first, e) (e.in_queue.next, f) (drop 2 (members (is_in q) xs)) two
      (sym (ap (λ (l : Items). begins_shared (elems_of l)) two) ∙ b)

pub begins-at : (es : List Elem) (e : Elem) → slice_get es 0 ≡ Some e → begins_shared es ≡ is_shared e.ctl
begins-at [] e h = cc
begins-at (x ∷ es) e h = grind (arith, h)

pub owners-at : (es : List Elem) (e : Elem) → slice_get es 0 ≡ Some e → is_shared e.ctl ≡ false
    → true ≡ eqb (owners es) 1
owners-at [] e h s = cc
owners-at (x ∷ es) e h s = grind (arith, nat_tests, h, s)

pub front-alone : (es : List Elem) → 0 < length es → eqb (owners es) 1 ≡ leb (shared_front es) 1
front-alone [] h = absurd (omega arith)
front-alone (e ∷ es) h = grind (arith, nat_tests)

pub elem-first : (ms : Items) (k : ℕ) (e : Element) → drop 0 ms ≡ (k, e) ∷ drop 1 ms
    → slice_get (elems_of ms) 0 ≡ Some e.elem
elem-first ms k e h = ap (λ (l : Items). slice_get (elems_of l) 0) h

-- an element of a task in a queue is looked for among the task's too
pub key_of-either : (q : ℕ) (t : TaskId) (xs : Items)
    → key_of (is_in q) (members (is_of t) xs) ≡ key_of (is_of t) (members (is_in q) xs)
key_of-either q t xs =
    key_of-members (is_in q) (is_of t) xs
    ∙ key_of-same (λ e. is_of t e && is_in q e) (λ e. is_in q e && is_of t e) (λ e. swapped (is_of t e) (is_in q e)) xs
    ∙ sym (key_of-members (is_of t) (is_in q) xs)
  where
    swapped : (a b : Bool) → (a && b) ≡ (b && a)
    swapped true true = refl
    swapped true false = refl
    swapped false true = refl
    swapped false false = refl

-- the element of a task in a queue is there
pub own-there : (q : ℕ) (t : TaskId) (xs : Items) (k : ℕ) → keys_apart xs ≡ true
    → key_of (is_of t) (members (is_in q) xs) ≡ Some k → is_some (found xs k) ≡ true
own-there q t xs k a h =
    let here = key_of-has (is_of t) (members (is_in q) xs) k h in
    ap is_some (sym (found-member (is_in q) xs k a here)) ∙ sym (has_key-found (members (is_in q) xs) k) ∙ here

pub own-found : (q : ℕ) (t : TaskId) (xs : Items) (k : ℕ) (e : Element) → keys_apart xs ≡ true
    → key_of (is_of t) (members (is_in q) xs) ≡ Some k → found xs k ≡ Some e → found (members (is_in q) xs) k ≡ Some e
own-found q t xs k e a h f = found-member (is_in q) xs k a (key_of-has (is_of t) (members (is_in q) xs) k h) ∙ f

-- a key that isn't the first
pub key_other : (k d : ℕ) (ms : Items) → (k ≡ d → ⊥) → d ≡ first_key ms d → eqb k (first_key ms d) ≡ false
key_other k d ms n h = by_cases (eqb k (first_key ms d))
    (λ b. let same : k ≡ first_key ms d = grind (arith, nat_tests, b) in absurd (n (same ∙ sym h)))
    (λ b. b)

pub standing-of_shared : (q : ℕ) (t : TaskId) (xs : Items) (k : ℕ) → keys_apart xs ≡ true
    → key_of (is_of t) (members (is_in q) xs) ≡ Some k → is_shared_at xs k ≡ true
    → standing_of (elems_of (members (is_in q) xs)) t
    ≡ cond (owns_shared (elems_of (members (is_in q) xs)) t)
    (cond (eqb (owners (elems_of (members (is_in q) xs))) 1) OnlyShared AmongShared) Waits
standing-of_shared q t xs k a h s = by_found (found xs k) refl
  where
    by_found : (o : Option Element) → found xs k ≡ o
        → standing_of (elems_of (members (is_in q) xs)) t
        ≡ cond (owns_shared (elems_of (members (is_in q) xs)) t)
        (cond (eqb (owners (elems_of (members (is_in q) xs))) 1) OnlyShared AmongShared) Waits
    by_found None f = let wrong : false ≡ true = shared_at xs k None f s in absurd (cc)
    by_found (Some e) f =
        standing-shared (members (is_in q) xs) t k e (keys_apart-members (is_in q) xs a) h (own-found q t xs k e a h f)
        (shared_at xs k (Some e) f s)

pub own-some : (ms : Items) (t : TaskId) (k : ℕ) → key_of (is_of t) ms ≡ Some k → 0 < length ms
own-some [] t k h = absurd (cc)
own-some (x ∷ xs) t k h = omega arith

-- the first exclusive one has a place
pub wall-place : (q : ℕ) (xs : Items) (r : Ring) (c : IsCircle Queue (is_in q) xs r) (k w n : ℕ)
    → has_key (members (is_in q) xs) k ≡ true → eqb k r.first ≡ false
    → n ≡ shared_front (elems_of (members (is_in q) xs)) → w ≡ first_key (drop n (members (is_in q) xs)) r.first → w ≡ k
    → n < r.len
wall-place q xs r c k w n h o is at same =
    let ms = members (is_in q) xs in
    let key =
    wall-key ms k w r.first (keys_apart-members (is_in q) xs c.apart) h
    (at ∙ ap (λ (m : ℕ). first_key (drop m ms) r.first) is) o in
    let here : eqb (index_of ms k) (shared_front (elems_of ms)) ≡ true = sym key ∙ eq-eqb w k same in
    omega (
      arith,
      index_of-lt ms k h,
      circle-length Queue (is_in q) xs r c,
      is,
      eqb-true (index_of ms k) (shared_front (elems_of ms)) here,
    )

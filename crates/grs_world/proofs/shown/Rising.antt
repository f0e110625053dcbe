-- Along the list of a resource that a manager keeps the ranks of its tasks rise.
use Rattle.grs_world.proofs.Common.{[], ◌==◌, ◌||◌, ◌∙◌, ◌∷◌, ◌≡◌, and_from, and_parts, ap, Bool, cond, Elem, eqb-true}
use Rattle.grs_world.proofs.Common.{false, filter, has_task, List, list_all, list_of, map, nat_lt, not, plain, Ranked}
use Rattle.grs_world.proofs.Common.{refl, Res, same_res, same_res-exact, same_task, same_task-itself, subst, sym}
use Rattle.grs_world.proofs.Common.{TaskId, true, ℕ}
use Rattle.contention_mgr.specs.Laws.{by_rank}
use Rattle.lock_structure.specs.RankedRows.{rises}
use Rattle.grs_world.proofs.star.ranks.Carried.{AllOf, first-has, has_this_rank, more-has}

-- each element of a resource has its task's rank
abbrev pub EachOn : Res → (TaskId → ℕ) → List Ranked → Type 0
EachOn r f [] = Unit {0}
EachOn r f (x ∷ xs) = (same_res r x.res ≡ true → x.rank ≡ f x.elem.task) × EachOn r f xs

-- as far as those that stand in its list do
pub each-on : (r : Res) (f : TaskId → ℕ) (xs : List Ranked)
    → ((t : TaskId) → has_task (list_of (plain xs) r) t ≡ true → AllOf (has_this_rank r t (f t)) xs) → EachOn r f xs
each-on r f [] h = tt
each-on r f (x ∷ xs) h = (
  own,
  each-on r f xs (λ t stands.
      (and_parts (has_this_rank r t (f t) x) (list_all (has_this_rank r t (f t)) xs)
      (h t (more-has r x xs t stands))).1),
)
  where
    own : same_res r x.res ≡ true → x.rank ≡ f x.elem.task
    own is =
        let here =
        (and_parts (has_this_rank r x.elem.task (f x.elem.task) x)
        (list_all (has_this_rank r x.elem.task (f x.elem.task)) xs) (h x.elem.task (first-has r x xs is))).0 in
        eqb-true x.rank (f x.elem.task)
        (sym (ap (λ b. not b || (x.rank == f x.elem.task))
        (and_from (same_res r x.res) (same_task x.elem.task x.elem.task) is (same_task-itself x.elem.task)))
        ∙ here)

-- all behind one have higher ranks
above : (r : Res) (f : TaskId → ℕ) (n : ℕ) (xs : List Ranked)
    → list_all (λ y. not (same_res r y.res) || nat_lt n y.rank) xs ≡ true → EachOn r f xs
    → list_all (λ k. nat_lt n k) (map (λ (z : Elem). f z.task) (list_of (plain xs) r)) ≡ true
above r f n [] h e = refl
above r f n (y ∷ ys) h e =
    let both =
    and_parts (not (same_res r y.res) || nat_lt n y.rank)
    (list_all (λ z. not (same_res r z.res) || nat_lt n z.rank) ys) h in
    go (same_res r y.res) refl both.0 (above r f n ys both.1 e.1)
  where
    go : (b : Bool) → same_res r y.res ≡ b → (not b || nat_lt n y.rank) ≡ true
        → list_all (λ k. nat_lt n k) (map (λ (z : Elem). f z.task) (list_of (plain ys) r)) ≡ true →
        list_all (λ k. nat_lt n k)
        (map (λ (z : Elem). f z.task) (cond b (y.elem ∷ list_of (plain ys) r) (list_of (plain ys) r)))
        ≡ true
    go true is low more =
        and_from (nat_lt n (f y.elem.task))
        (list_all (λ k. nat_lt n k) (map (λ (z : Elem). f z.task) (list_of (plain ys) r)))
        (ap (nat_lt n) (sym (e.0 is)) ∙ low) more
    go false is low more = more

pub rises-on : (r : Res) (f : TaskId → ℕ) (xs : List Ranked) → by_rank xs ≡ true → EachOn r f xs
    → rises (map (λ (z : Elem). f z.task) (list_of (plain xs) r)) ≡ true
rises-on r f [] h e = refl
rises-on r f (x ∷ xs) h e =
    let both =
    and_parts (list_all (λ y. not (same_res x.res y.res) || nat_lt x.rank y.rank) xs) (by_rank xs) h in
    go (same_res r x.res) refl both.0 (rises-on r f xs both.1 e.1)
  where
    go : (b : Bool) → same_res r x.res ≡ b
        → list_all (λ y. not (same_res x.res y.res) || nat_lt x.rank y.rank) xs ≡ true
        → rises (map (λ (z : Elem). f z.task) (list_of (plain xs) r)) ≡ true →
        rises (map (λ (z : Elem). f z.task) (cond b (x.elem ∷ list_of (plain xs) r) (list_of (plain xs) r))) ≡ true
    go true is low more =
        and_from
        (list_all (λ k. nat_lt (f x.elem.task) k) (map (λ (z : Elem). f z.task) (list_of (plain xs) r)))
        (rises (map (λ (z : Elem). f z.task) (list_of (plain xs) r)))
        (subst (λ n. list_all (λ k. nat_lt n k) (map (λ (z : Elem). f z.task) (list_of (plain xs) r)) ≡ true) (e.0 is)
        (above r f x.rank xs
        (subst (λ (q : Res). list_all (λ y. not (same_res q y.res) || nat_lt x.rank y.rank) xs ≡ true)
        (sym (same_res-exact r x.res is)) low)
        e.1))
        more
    go false is low more = more

-- and they are the ranks of the list's tasks
pub ranks-on : (r : Res) (f : TaskId → ℕ) (xs : List Ranked) → EachOn r f xs
    → map (λ (x : Ranked). x.rank) (filter (λ x. same_res r x.res) xs)
    ≡ map (λ (z : Elem). f z.task) (list_of (plain xs) r)
ranks-on r f [] e = refl
ranks-on r f (x ∷ xs) e = go (same_res r x.res) refl (ranks-on r f xs e.1)
  where
    go : (b : Bool) → same_res r x.res ≡ b
        → map (λ (y : Ranked). y.rank) (filter (λ y. same_res r y.res) xs)
        ≡ map (λ (z : Elem). f z.task) (list_of (plain xs) r) →
        map (λ (y : Ranked). y.rank)
        (cond b (x ∷ filter (λ y. same_res r y.res) xs) (filter (λ y. same_res r y.res) xs))
        ≡ map (λ (z : Elem). f z.task) (cond b (x.elem ∷ list_of (plain xs) r) (list_of (plain xs) r))
    go true is more =
        ap (λ (n : ℕ). n ∷ map (λ (y : Ranked). y.rank) (filter (λ y. same_res r y.res) xs)) (e.0 is)
        ∙ ap (λ (ns : List ℕ). f x.elem.task ∷ ns) more
    go false is more = more

-- Which records count, and that their order is one.
use Rattle.std.proofs.Common.{◌≡◌, ◌≤◌, ◌<◌, ℕ, zero, suc, Bool, true, false, cond, not, ◌&&◌, ◌||◌, List, [], ◌∷◌}
use Rattle.std.proofs.Common.{◌++◌, ◌⊎◌, inl, inr, refl, ap, sym, ◌∙◌, subst, arith, append_assoc, append-nil}
use Rattle.std.specs.Prelude.{nat_eq, nat_lt, ◌==◌}
use Rattle.std.specs.List.{Contains, IsDistinct, AllByRecursion, list_any, list_all}
use Rattle.std.specs.List.Sorted.{IsPermutation, IsNonDecreasingBy}
use Rattle.std.proofs.lemmas.Bool.{and_parts, ltb-true, eq-eqb}
use Rattle.std.proofs.lemmas.Bool.Decides.{nat_tests}
use Rattle.std.proofs.lemmas.List.Sorted.{IsPermutation-map, IsPermutation-sym, IsPermutation-trans, IsPermutation-refl}
use Rattle.std.proofs.lemmas.List.Sorted.{IsPermutation-cons, IsPermutation-middle, Contains-permutation}
use Rattle.std.proofs.lemmas.List.Sorted.{IsNonDecreasingBy-drop}
use Rattle.std.proofs.lemmas.List.Folds.{list_any-append}
use Rattle.std.proofs.lemmas.Map.Keys.{IsDistinct-head, IsDistinct-tail, IsDistinct-IsPermutation}
use Rattle.grs_base.specs.Same.{same_res, same_task}
use Rattle.grs_base.proofs.ListLaws.{same_task-sym}
use Rattle.grs_base.proofs.SameLaws.{same_res-sym}
use Rattle.grs_wire.specs.declared.gather.PartRec.{PartRec}
use Rattle.lock_structure.specs.RankedRows.{rises}
use Rattle.system_purge.specs.Gather.{ranks, AreInOrder, clash, with_counting, counting_behind, counting, are_clear}
use Rattle.system_purge.specs.Gather.{placed, by_rank, all_of, OrderIsOne, CountingAreClear, ClearAllCount}
use Rattle.system_purge.specs.Gather.{NoneIsMissing, FirstCounts, GatheredInOrder}

-- ---- members
abbrev In : PartRec → List PartRec → Type 0
In x [] = ⊥
In x (y ∷ ys) = (x ≡ y) ⊎ In x ys

all-in : (p : ℕ → Bool) (xs : List PartRec) (x : PartRec) → list_all p (ranks xs) ≡ true → In x xs → p x.rank ≡ true
all-in p [] x h i = absurd i
all-in p (y ∷ ys) x h (inl e) =
    subst (λ (z : PartRec). p z.rank ≡ true) (sym e) (and_parts (p y.rank) (list_all p (ranks ys)) h).0
all-in p (y ∷ ys) x h (inr i) = all-in p ys x (and_parts (p y.rank) (list_all p (ranks ys)) h).1 i

all-from : (p : ℕ → Bool) (xs : List PartRec) → ((x : PartRec) → In x xs → p x.rank ≡ true)
    → list_all p (ranks xs) ≡ true
all-from p [] h = refl
all-from p (x ∷ xs) h = grind (arith, h x (inl refl), all-from p xs (λ y i. h y (inr i)))

contains-from : (xs : List PartRec) (x : PartRec) → In x xs → Contains xs x
contains-from [] x i = absurd i
contains-from (y ∷ ys) x (inl e) = (0, omega arith, sym e)
contains-from (y ∷ ys) x (inr i) =
    let c : Contains ys x = contains-from ys x i in (suc c.0, omega (arith, c.1), c.2)

from-contains : (xs : List PartRec) (x : PartRec) → Contains xs x → In x xs
from-contains [] x (k, l, e) = absurd (omega (arith, l))
from-contains (y ∷ ys) x (zero, l, e) = inl (sym e)
from-contains (y ∷ ys) x (suc k, l, e) = inr (from-contains ys x (k, omega (arith, l), e))

moves : (xs zs : List PartRec) → IsPermutation xs zs → (x : PartRec) → In x xs → In x zs
moves xs zs p x i = from-contains zs x (Contains-permutation xs zs x p (contains-from xs x i))

-- ---- rising ranks
behind : (x : PartRec) (xs : List PartRec) (z : PartRec) → rises (ranks (x ∷ xs)) ≡ true → In z xs → x.rank < z.rank
behind x xs z h i =
    let parts = and_parts (list_all (λ k. nat_lt x.rank k) (ranks xs)) (rises (ranks xs)) h in
    ltb-true x.rank z.rank (all-in (λ k. nat_lt x.rank k) xs z parts.0 i)

rest : (x : PartRec) (xs : List PartRec) → rises (ranks (x ∷ xs)) ≡ true → rises (ranks xs) ≡ true
rest x xs h = (and_parts (list_all (λ k. nat_lt x.rank k) (ranks xs)) (rises (ranks xs)) h).1

-- the lowest is the first of each
first : (x y : PartRec) (xs ys : List PartRec) → rises (ranks (x ∷ xs)) ≡ true → rises (ranks (y ∷ ys)) ≡ true
    → In x (y ∷ ys) → In y (x ∷ xs) → x ≡ y
first x y xs ys rx ry (inl e) j = e
first x y xs ys rx ry (inr i) (inl e) = sym e
first x y xs ys rx ry (inr i) (inr j) = absurd (omega (arith, behind x xs y rx j, behind y ys x ry i))

-- what stands behind the first stands behind the first of the other
within : (x y : PartRec) (xs ys : List PartRec) → x ≡ y → rises (ranks (x ∷ xs)) ≡ true
    → ((z : PartRec) → In z (x ∷ xs) → In z (y ∷ ys)) → (z : PartRec) → In z xs → In z ys
within x y xs ys same rx h z i = go (h z (inr i))
  where
    go : In z (y ∷ ys) → In z ys
    go (inl e) =
        absurd (let f : x.rank ≡ z.rank = ap (λ (w : PartRec). w.rank) (same ∙ sym e) in
        omega (arith, behind x xs z rx i, f))
    go (inr j) = j

unique : (xs ys : List PartRec) → rises (ranks xs) ≡ true → rises (ranks ys) ≡ true
    → ((z : PartRec) → In z xs → In z ys) → ((z : PartRec) → In z ys → In z xs) → xs ≡ ys
unique [] [] rx ry there back = refl
unique [] (y ∷ ys) rx ry there back = absurd (back y (inl refl))
unique (x ∷ xs) [] rx ry there back = absurd (there x (inl refl))
unique (x ∷ xs) (y ∷ ys) rx ry there back =
    let same : x ≡ y = first x y xs ys rx ry (there x (inl refl)) (back y (inl refl)) in
    let tails : xs ≡ ys =
    unique xs ys (rest x xs rx) (rest y ys ry) (within x y xs ys same rx there)
    (within y x ys xs (sym same) ry back) in
    cc

pub order_is_one : OrderIsOne
order_is_one recs one other h k =
    unique one other h.rising k.rising
    (moves one other (IsPermutation-trans one recs other (IsPermutation-sym recs one h.same) k.same))
    (moves other one (IsPermutation-trans other recs one (IsPermutation-sym recs other k.same) h.same))

-- ---- a sort where no two ranks are equal
others : (n : ℕ) (zs : List PartRec) → AllByRecursion (λ k. nat_eq n k ≡ false) (ranks zs) → (y : PartRec) → In y zs
    → nat_eq n y.rank ≡ false
others n [] h y i = absurd i
others n (z ∷ zs) h y (inl e) = subst (λ (w : PartRec). nat_eq n w.rank ≡ false) (sym e) h.0
others n (z ∷ zs) h y (inr i) = others n zs h.1 y i

rises-from : (zs : List PartRec) → IsDistinct nat_eq (ranks zs) → IsNonDecreasingBy (λ z. z.rank) zs
    → rises (ranks zs) ≡ true
rises-from [] d n = refl
rises-from (z ∷ zs) d n =
    let above : list_all (λ k. nat_lt z.rank k) (ranks zs) ≡ true =
    all-from (λ k. nat_lt z.rank k) zs (λ y i.
    let c : Contains zs y = contains-from zs y i in
    let f : nat_eq z.rank y.rank ≡ false = others z.rank zs (IsDistinct-head nat_eq z.rank (ranks zs) d) y i in
    let l : z.rank ≤ y.rank =
    subst (λ (w : PartRec). z.rank ≤ w.rank) c.2 (n 0 (suc c.0) y (omega arith) (omega (arith, c.1))) in
    grind (arith, nat_tests, f, l)) in
    let more : rises (ranks zs) ≡ true =
    rises-from zs (IsDistinct-tail nat_eq z.rank (ranks zs) d)
    (IsNonDecreasingBy-drop (λ (r : PartRec). r.rank) 1 (z ∷ zs) n) in
    grind (arith, above, more)

flips : (a b : ℕ) → nat_eq a b ≡ nat_eq b a
flips a b = grind (arith, nat_tests)

pub in-order : (xs zs : List PartRec) → IsDistinct nat_eq (ranks xs) → IsPermutation xs zs
    → IsNonDecreasingBy (λ z. z.rank) zs → AreInOrder xs zs
in-order xs zs d p n = record {
  same = p;
  rising =
      rises-from zs
      (IsDistinct-IsPermutation nat_eq flips (ranks xs) (ranks zs)
      (IsPermutation-map (λ (r : PartRec). r.rank) xs zs p) d)
      n;
}

-- ---- records placed by their ranks
placed-same : (r : PartRec) (xs : List PartRec) → IsPermutation (r ∷ xs) (placed r xs)
placed-same r [] = IsPermutation-refl (r ∷ [])
placed-same r (y ∷ ys) = go (nat_lt r.rank y.rank) (placed-same r ys)
  where
    go : (b : Bool) → IsPermutation (r ∷ ys) (placed r ys)
        → IsPermutation (r ∷ (y ∷ ys)) (cond b (r ∷ (y ∷ ys)) (y ∷ placed r ys))
    go true same = IsPermutation-refl (r ∷ (y ∷ ys))
    go false same =
        IsPermutation-trans (r ∷ (y ∷ ys)) (y ∷ (r ∷ ys)) (y ∷ placed r ys)
        (IsPermutation-sym (y ∷ (r ∷ ys)) (r ∷ (y ∷ ys)) (IsPermutation-middle (y ∷ []) r ys))
        (IsPermutation-cons y (r ∷ ys) (placed r ys) same)

by-rank-same : (xs : List PartRec) → IsPermutation xs (by_rank xs)
by-rank-same [] = IsPermutation-refl []
by-rank-same (r ∷ rs) =
    IsPermutation-trans (r ∷ rs) (r ∷ by_rank rs) (placed r (by_rank rs))
    (IsPermutation-cons r rs (by_rank rs) (by-rank-same rs)) (placed-same r (by_rank rs))

in-placed : (r : PartRec) (xs : List PartRec) (x : PartRec) → In x (placed r xs) → (x ≡ r) ⊎ In x xs
in-placed r xs x i =
    moves (placed r xs) (r ∷ xs) (IsPermutation-sym (r ∷ xs) (placed r xs) (placed-same r xs)) x i

in-by-rank : (xs : List PartRec) (x : PartRec) → In x (by_rank xs) → In x xs
in-by-rank xs x i = moves (by_rank xs) xs (IsPermutation-sym xs (by_rank xs) (by-rank-same xs)) x i

-- ranks still rise, where the new one differs from all
placed-rises : (r : PartRec) (xs : List PartRec) → rises (ranks xs) ≡ true
    → ((x : PartRec) → In x xs → nat_eq r.rank x.rank ≡ false) → rises (ranks (placed r xs)) ≡ true
placed-rises r [] h differ = refl
placed-rises r (y ∷ ys) h differ =
    go (nat_lt r.rank y.rank) refl (placed-rises r ys (rest y ys h) (λ x i. differ x (inr i)))
  where
    go : (b : Bool) → nat_lt r.rank y.rank ≡ b → rises (ranks (placed r ys)) ≡ true
        → rises (ranks (cond b (r ∷ (y ∷ ys)) (y ∷ placed r ys))) ≡ true
    go true is more =
        let low : r.rank < y.rank = ltb-true r.rank y.rank is in
        let above : list_all (λ k. nat_lt r.rank k) (ranks (y ∷ ys)) ≡ true =
        all-from (λ k. nat_lt r.rank k) (y ∷ ys) (λ z i. over low z i) in
        grind (arith, above, h)
      where
        over : r.rank < y.rank → (z : PartRec) → In z (y ∷ ys) → nat_lt r.rank z.rank ≡ true
        over low z (inl e) = subst (λ (w : PartRec). nat_lt r.rank w.rank ≡ true) (sym e) is
        over low z (inr i) =
            let far : y.rank < z.rank = behind y ys z h i in grind (arith, nat_tests, low, far)
    go false is more =
        let f : nat_eq r.rank y.rank ≡ false = differ y (inl refl) in
        let low : nat_lt y.rank r.rank ≡ true = grind (arith, nat_tests, is, f) in
        let above : list_all (λ k. nat_lt y.rank k) (ranks (placed r ys)) ≡ true =
        all-from (λ k. nat_lt y.rank k) (placed r ys) (λ z i. over low z (in-placed r ys z i)) in
        grind (arith, above, more)
      where
        over : nat_lt y.rank r.rank ≡ true → (z : PartRec) → (z ≡ r) ⊎ In z ys → nat_lt y.rank z.rank ≡ true
        over low z (inl e) = subst (λ (w : PartRec). nat_lt y.rank w.rank ≡ true) (sym e) low
        over low z (inr i) =
            let far : y.rank < z.rank = behind y ys z h i in grind (arith, nat_tests, far)

by-rank-rises : (xs : List PartRec) → IsDistinct nat_eq (ranks xs) → rises (ranks (by_rank xs)) ≡ true
by-rank-rises [] d = refl
by-rank-rises (r ∷ rs) d =
    placed-rises r (by_rank rs) (by-rank-rises rs (IsDistinct-tail nat_eq r.rank (ranks rs) d))
    (λ x i. others r.rank rs (IsDistinct-head nat_eq r.rank (ranks rs) d) x (in-by-rank rs x i))

by-rank-orders : (xs : List PartRec) → IsDistinct nat_eq (ranks xs) → AreInOrder xs (by_rank xs)
by-rank-orders xs d = record { same = by-rank-same xs; rising = by-rank-rises xs d }

-- so what is in order is placed by rank
pub in-order-is : (xs zs : List PartRec) → IsDistinct nat_eq (ranks xs) → AreInOrder xs zs → zs ≡ by_rank xs
in-order-is xs zs d h = order_is_one xs zs (by_rank xs) h (by-rank-orders xs d)

-- ---- which records count
clash-sym : (a b : PartRec) → clash a b ≡ clash b a
clash-sym a b = grind (arith, nat_tests, same-rank a.rank b.rank, same-ones a b)
  where
    same-rank : (m n : ℕ) → (m == n) ≡ (n == m)
    same-rank m n = grind (arith, nat_tests)

    same-ones : (x y : PartRec)
        → (same_task x.task y.task && same_res x.res y.res) ≡ (same_task y.task x.task && same_res y.res x.res)
    same-ones x y = grind (arith, same_task-sym x.task y.task, same_res-sym x.res y.res)

clash-itself : (r : PartRec) → clash r r ≡ true
clash-itself r = grind (arith, eq-eqb r.rank r.rank refl)

-- with one more that clashes with none
clear-last : (rs : List PartRec) (r : PartRec) → are_clear rs ≡ true → list_any (clash r) rs ≡ false
    → are_clear (rs ++ r ∷ []) ≡ true
clear-last [] r h none = refl
clear-last (x ∷ rs) r h none =
    grind (arith, h, none, clash-sym r x, list_any-append (clash x) rs (r ∷ []), clear-last rs r)

pub with-clear : (recs : List PartRec) (r : PartRec) → are_clear recs ≡ true → are_clear (with_counting recs r) ≡ true
with-clear recs r h = go (list_any (clash r) recs) refl
  where
    go : (b : Bool) → list_any (clash r) recs ≡ b → are_clear (cond b recs (recs ++ r ∷ [])) ≡ true
    go true is = h
    go false is = clear-last recs r h is

behind-clear : (recs rs : List PartRec) → are_clear recs ≡ true → are_clear (counting_behind recs rs) ≡ true
behind-clear recs [] h = h
behind-clear recs (r ∷ rs) h = behind-clear (with_counting recs r) rs (with-clear recs r h)

pub counting_are_clear : CountingAreClear
counting_are_clear rs = behind-clear [] rs refl

-- records that clash with none before them
or-none : (a b : Bool) → (a || b) ≡ false → (a ≡ false) × (b ≡ false)
or-none true b h = absurd cc
or-none false b h = (refl, h)

none-left : (a : Bool) → not a ≡ true → a ≡ false
none-left true h = absurd cc
none-left false h = refl

any-middle : (p : PartRec → Bool) (xs : List PartRec) (x : PartRec) (ys : List PartRec)
    → list_any p (xs ++ x ∷ ys) ≡ false → p x ≡ false
any-middle p [] x ys h = (or-none (p x) (list_any p ys) h).0
any-middle p (y ∷ xs) x ys h = any-middle p xs x ys (or-none (p y) (list_any p (xs ++ x ∷ ys)) h).1

none-before : (xs : List PartRec) (x : PartRec) (ys : List PartRec) → are_clear (xs ++ x ∷ ys) ≡ true
    → list_any (clash x) xs ≡ false
none-before [] x ys h = refl
none-before (y ∷ xs) x ys h =
    let parts = and_parts (not (list_any (clash y) (xs ++ x ∷ ys))) (are_clear (xs ++ x ∷ ys)) h in
    let here : clash y x ≡ false =
    any-middle (clash y) xs x ys (none-left (list_any (clash y) (xs ++ x ∷ ys)) parts.0) in
    ap (λ (b : Bool). b || list_any (clash x) xs) (clash-sym x y ∙ here) ∙ none-before xs x ys parts.1

clear-front : (recs rs : List PartRec) → are_clear (recs ++ rs) ≡ true → counting_behind recs rs ≡ recs ++ rs
clear-front recs [] h = sym (append-nil recs)
clear-front recs (r ∷ rs) h =
    ap (λ (b : Bool). counting_behind (cond b recs (recs ++ r ∷ [])) rs) (none-before recs r rs h)
    ∙ clear-front (recs ++ r ∷ []) rs (ap are_clear (append_assoc recs (r ∷ []) rs) ∙ h)
    ∙ append_assoc recs (r ∷ []) rs

pub clear_all_count : ClearAllCount
clear_all_count rs h = clear-front [] rs h

-- what counts goes on counting
any-left : (p : PartRec → Bool) (recs rs : List PartRec) → list_any p recs ≡ true
    → list_any p (counting_behind recs rs) ≡ true
any-left p recs [] h = h
any-left p recs (r ∷ rs) h = any-left p (with_counting recs r) rs (go (list_any (clash r) recs))
  where
    go : (b : Bool) → list_any p (cond b recs (recs ++ r ∷ [])) ≡ true
    go true = h
    go false = list_any-append p recs (r ∷ []) ∙ ap (λ (c : Bool). c || list_any p (r ∷ [])) h

now-counts : (recs : List PartRec) (r : PartRec) → list_any (clash r) (with_counting recs r) ≡ true
now-counts recs r = go (list_any (clash r) recs) refl
  where
    go : (b : Bool) → list_any (clash r) recs ≡ b → list_any (clash r) (cond b recs (recs ++ r ∷ [])) ≡ true
    go true is = is
    go false is = grind (arith, list_any-append (clash r) recs (r ∷ []), clash-itself r)

none-missing : (recs rs : List PartRec) → list_all (λ r. list_any (clash r) (counting_behind recs rs)) rs ≡ true
none-missing recs [] = refl
none-missing recs (r ∷ rs) =
    both _ _ (any-left (clash r) (with_counting recs r) rs (now-counts recs r)) (none-missing (with_counting recs r) rs)
  where
    both : (a b : Bool) → a ≡ true → b ≡ true → (a && b) ≡ true
    both true true e f = refl
    both true false e f = absurd cc
    both false b e f = absurd cc

pub none_is_missing : NoneIsMissing
none_is_missing rs = none-missing [] rs

first-stays : (r : PartRec) (recs rs : List PartRec)
    → (more : List PartRec) × (counting_behind (r ∷ recs) rs ≡ r ∷ more)
first-stays r recs [] = (recs, refl)
first-stays r recs (x ∷ rs) =
    go (list_any (clash x) (r ∷ recs)) (first-stays r recs rs) (first-stays r (recs ++ x ∷ []) rs)
  where
    Stays : List PartRec → Type 0
    Stays xs = (more : List PartRec) × (counting_behind (r ∷ xs) rs ≡ r ∷ more)

    go : (b : Bool) → Stays recs → Stays (recs ++ x ∷ [])
        → (more : List PartRec) × (counting_behind (cond b (r ∷ recs) ((r ∷ recs) ++ x ∷ [])) rs ≡ r ∷ more)
    go true left added = left
    go false left added = added

pub first_counts : FirstCounts
first_counts r rs = first-stays r [] rs

-- ranks of records that don't clash differ
apart : (r : PartRec) (rs : List PartRec) → list_any (clash r) rs ≡ false
    → AllByRecursion (λ k. nat_eq r.rank k ≡ false) (ranks rs)
apart r [] h = tt
apart r (x ∷ rs) h = (grind (arith, h), apart r rs (grind (arith, h)))

pub clear-distinct : (rs : List PartRec) → are_clear rs ≡ true → IsDistinct nat_eq (ranks rs)
unfolding IsDistinct
clear-distinct [] h = tt
clear-distinct (r ∷ rs) h = (apart r rs (grind (arith, h)), clear-distinct rs (grind (arith, h)))

pub gathered_in_order : GatheredInOrder
gathered_in_order own parts =
    by-rank-orders (counting (all_of own parts))
    (clear-distinct (counting (all_of own parts)) (counting_are_clear (all_of own parts)))

-- records that don't clash, in another order
none-clash : (r : PartRec) (rs : List PartRec) → list_any (clash r) rs ≡ false
    → AllByRecursion (λ y. clash r y ≡ false) rs
none-clash r [] h = tt
none-clash r (x ∷ rs) h =
    let parts = or-none (clash r x) (list_any (clash r) rs) h in (parts.0, none-clash r rs parts.1)

clash-none : (r : PartRec) (rs : List PartRec) → AllByRecursion (λ y. clash r y ≡ false) rs
    → list_any (clash r) rs ≡ false
clash-none r [] h = refl
clash-none r (x ∷ rs) h = ap (λ (b : Bool). b || list_any (clash r) rs) h.0 ∙ clash-none r rs h.1

clear-pairs : (rs : List PartRec) → are_clear rs ≡ true → IsDistinct clash rs
unfolding IsDistinct
clear-pairs [] h = tt
clear-pairs (r ∷ rs) h =
    let parts = and_parts (not (list_any (clash r) rs)) (are_clear rs) h in
    (none-clash r rs (none-left (list_any (clash r) rs) parts.0), clear-pairs rs parts.1)

pairs-clear : (rs : List PartRec) → IsDistinct clash rs → are_clear rs ≡ true
unfolding IsDistinct
pairs-clear [] h = refl
pairs-clear (r ∷ rs) h =
    ap (λ (b : Bool). not b && are_clear rs) (clash-none r rs h.0) ∙ pairs-clear rs h.1

pub clear-moved : (xs zs : List PartRec) → IsPermutation xs zs → are_clear xs ≡ true → are_clear zs ≡ true
clear-moved xs zs p h = pairs-clear zs (IsDistinct-IsPermutation clash clash-sym xs zs p (clear-pairs xs h))

pub ruleset clear = (with-clear)

-- Facts on lists and options, whatever their items are.
use Rattle.std.proofs.Common.{◌≡◌, ◌≢◌, ◌≤◌, ◌+◌, ℕ, zero, suc, Bool, true, false, ◌&&◌, ◌||◌, List, [], ◌∷◌, ◌++◌}
use Rattle.std.proofs.Common.{length, take, Option, Some, None, refl, ap, arith, append-nil}
use Rattle.std.specs.Prelude.{filter, slice_get, set, is_some}
use Rattle.std.specs.List.{list_all, list_any}
use Rattle.std.proofs.lemmas.Bool.{cases_Bool, and_parts}
use Rattle.std.proofs.lemmas.List.Elements.{filter-append}

-- ---- places
-- the item at a place is the last of those up to it
pub take-more : {X : Type 0} (xs : List X) (n : ℕ) (x : X) → slice_get xs n ≡ Some x
    → take (n + 1) xs ≡ take n xs ++ x ∷ []
take-more [] n x h = cc
take-more (y ∷ xs) zero x h = grind (arith, h)
take-more (y ∷ xs) (suc n) x h = grind (arith, take-more xs n x h)

pub slice_get-past : {X : Type 0} (xs : List X) (n : ℕ) → slice_get xs n ≡ None → length xs ≤ n
slice_get-past [] n h = omega arith
slice_get-past (y ∷ xs) zero h = absurd (cc)
slice_get-past (y ∷ xs) (suc n) h = omega (arith, slice_get-past xs n h)

pub slice_get-append : {X : Type 0} (xs ys : List X) (i : ℕ) (x : X) → slice_get xs i ≡ Some x
    → slice_get (xs ++ ys) i ≡ Some x
slice_get-append [] ys i x h = cc
slice_get-append (y ∷ xs) ys zero x h = h
slice_get-append (y ∷ xs) ys (suc i) x h = slice_get-append xs ys i x h

pub slice_get-end : {X : Type 0} (xs : List X) (y : X) (ys : List X) → slice_get (xs ++ y ∷ ys) (length xs) ≡ Some y
slice_get-end [] y ys = refl
slice_get-end (x ∷ xs) y ys = slice_get-end xs y ys

pub slice_get-set : {X : Type 0} (xs : List X) (i : ℕ) (x y : X) → slice_get xs i ≡ Some x
    → slice_get (set xs i y) i ≡ Some y
slice_get-set [] i x y h = cc
slice_get-set (z ∷ xs) zero x y h = refl
slice_get-set (z ∷ xs) (suc i) x y h = slice_get-set xs i x y h

pub slice_get-set_other : {X : Type 0} (xs : List X) (i j : ℕ) (y : X) → j ≢ i
    → slice_get (set xs i y) j ≡ slice_get xs j
slice_get-set_other [] i j y ne = refl
slice_get-set_other (z ∷ xs) zero zero y ne = absurd (ne refl)
slice_get-set_other (z ∷ xs) zero (suc j) y ne = refl
slice_get-set_other (z ∷ xs) (suc i) zero y ne = refl
slice_get-set_other (z ∷ xs) (suc i) (suc j) y ne = slice_get-set_other xs i j y (λ e. ne (ap suc e))

-- ---- first parts, and what is behind them
-- a first part, taken again
pub take-taken : {X : Type 0} (k : ℕ) (xs : List X) → take (length (take k xs)) xs ≡ take k xs
take-taken zero xs = refl
take-taken (suc k) [] = refl
take-taken (suc k) (x ∷ xs) = ap (λ ys. x ∷ ys) (take-taken k xs)

pub take-none : {X : Type 0} (xs : List X) → take 0 xs ≡ []
take-none xs = grind (arith)

-- ---- filters
-- what an item adds to a filtered list
pub filter-push_kept : {X : Type 0} (p : X → Bool) (xs : List X) (x : X) → p x ≡ true
    → filter p (xs ++ x ∷ []) ≡ filter p xs ++ x ∷ []
filter-push_kept p xs x h = grind (arith, h, filter-append p xs (x ∷ []))

pub filter-push_left : {X : Type 0} (p : X → Bool) (xs : List X) (x : X) → p x ≡ false
    → filter p (xs ++ x ∷ []) ≡ filter p xs
filter-push_left p xs x h = grind (arith, h, append-nil, filter-append p xs (x ∷ []))

-- a filter at the first item
pub filter-cons_kept : {X : Type 0} (p : X → Bool) (x : X) (xs : List X) → p x ≡ true
    → filter p (x ∷ xs) ≡ x ∷ filter p xs
filter-cons_kept p x xs h = rw h refl

pub filter-cons_left : {X : Type 0} (p : X → Bool) (x : X) (xs : List X) → p x ≡ false → filter p (x ∷ xs) ≡ filter p xs
filter-cons_left p x xs h = rw h refl

-- ---- what holds of some, and of all
pub list_any-push : {X : Type 0} (p : X → Bool) (xs : List X) (x : X)
    → list_any p (xs ++ x ∷ []) ≡ (list_any p xs || p x)
list_any-push p [] x = grind arith
list_any-push p (y ∷ xs) x = grind (arith, list_any-push p xs x)

pub list_all-push : {X : Type 0} (p : X → Bool) (xs : List X) (x : X)
    → list_all p (xs ++ x ∷ []) ≡ (list_all p xs && p x)
list_all-push p [] x = grind arith
list_all-push p (y ∷ xs) x = grind (arith, list_all-push p xs x)

pub any-more : {X : Type 0} (p : X → Bool) (xs : List X) (x : X) → list_any p xs ≡ true
    → list_any p (xs ++ x ∷ []) ≡ true
any-more p xs x h = grind (arith, h, list_any-push p xs x)

pub any-last : {X : Type 0} (p : X → Bool) (xs : List X) (x : X) → p x ≡ true → list_any p (xs ++ x ∷ []) ≡ true
any-last p xs x h = grind (arith, h, list_any-push p xs x, cases_Bool (list_any p xs))

pub none-more : {X : Type 0} (p : X → Bool) (xs : List X) (x : X) → list_any p xs ≡ false → p x ≡ false
    → list_any p (xs ++ x ∷ []) ≡ false
none-more p xs x h e = grind (arith, h, e, list_any-push p xs x)

pub all-more : {X : Type 0} (p : X → Bool) (xs : List X) (x : X) → list_all p xs ≡ true → p x ≡ true
    → list_all p (xs ++ x ∷ []) ≡ true
all-more p xs x h e = grind (arith, h, e, list_all-push p xs x)

pub all-kept : {X : Type 0} (p q : X → Bool) → ((x : X) → p x ≡ true → q x ≡ true) → (xs : List X)
    → list_all p xs ≡ true → list_all q xs ≡ true
all-kept p q k [] h = refl
all-kept p q k (x ∷ xs) h = grind (arith, h, k x, all-kept p q k xs)

pub any-kept : {X : Type 0} (p q : X → Bool) → ((x : X) → p x ≡ true → q x ≡ true) → (xs : List X)
    → list_any p xs ≡ true → list_any q xs ≡ true
any-kept p q k [] e = e
any-kept p q k (x ∷ xs) e = grind (arith, e, k x, any-kept p q k xs, cases_Bool (p x), cases_Bool (q x))

pub all-filter : {X : Type 0} (p q : X → Bool) (xs : List X) → list_all p xs ≡ true → list_all p (filter q xs) ≡ true
all-filter p q [] h = refl
all-filter p q (x ∷ xs) h = grind (arith, h, all-filter p q xs, cases_Bool (q x))

-- what holds of all holds of one among them
pub all-middle : {X : Type 0} (p : X → Bool) (xs : List X) (q : X) (ys : List X) → list_all p (xs ++ q ∷ ys) ≡ true
    → p q ≡ true
all-middle p [] q ys h = (and_parts (p q) (list_all p ys) h).0
all-middle p (x ∷ xs) q ys h = all-middle p xs q ys (and_parts (p x) (list_all p (xs ++ q ∷ ys)) h).1

pub all-behind : {X : Type 0} (p : X → Bool) (xs ys : List X) → list_all p (xs ++ ys) ≡ true → list_all p ys ≡ true
all-behind p [] ys h = h
all-behind p (x ∷ xs) ys h = all-behind p xs ys (and_parts (p x) (list_all p (xs ++ ys)) h).1

-- ---- options
pub some_of : {X : Type 0} (o : Option X) → is_some o ≡ true → (x : X) × (o ≡ Some x)
some_of None h = absurd (cc)
some_of (Some x) h = (x, refl)

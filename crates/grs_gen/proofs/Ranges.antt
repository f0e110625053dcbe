-- Lists that are made of the numbers of a range.
use Rattle.std.proofs.Common.{◌≡◌, ◌≤◌, ◌<◌, ℕ, zero, suc, ◌+◌, Bool, true, false, List, [], ◌∷◌, ◌++◌, length, map}
use Rattle.std.proofs.Common.{refl, ap, sym, ◌∙◌, subst, arith, append_assoc, append-nil}
use Rattle.std.specs.Prelude.{All, ◌≢◌, ◌==◌, filter}
use Rattle.std.specs.List.{AllPairs, flat_map, list_all, range_with_len}
use Rattle.std.proofs.lemmas.Bool.{and_parts}
use Rattle.std.proofs.lemmas.Bool.Decides.{nat_tests}
use Rattle.std.proofs.lemmas.List.{length-append, map-append}
use Rattle.std.proofs.lemmas.List.Concat.{flat_map-append}
use Rattle.std.proofs.lemmas.List.Elements.{All-nil, All-cons, All-head, All-tail, All-append}
use Rattle.std.proofs.lemmas.List.Kept.{AllPairs-cons}

-- ---- what is so of each number is so of the list

pub all_range : {X : Type 0} (P : X → Type 0) (f : ℕ → X) (a n : ℕ) → ((k : ℕ) → a ≤ k → k < a + n → P (f k))
    → All P (map f (range_with_len a n))
all_range P f a zero h = All-nil P
all_range P f a (suc n) h =
    All-cons P (f a) (map f (range_with_len (a + 1) n)) (h a (omega arith) (omega arith))
    (all_range P f (a + 1) n (λ k low high. h k (omega (arith, low)) (omega (arith, high))))

pub pairs_range : {X : Type 0} (f : ℕ → X) (a n : ℕ) → ((i j : ℕ) → a ≤ i → i < j → j < a + n → f i ≢ f j)
    → AllPairs (λ x y. x ≢ y) (map f (range_with_len a n))
pairs_range f a zero h = λ i j d before within. absurd (omega (arith, within))
pairs_range f a (suc n) h =
    AllPairs-cons (λ x y. x ≢ y) (f a) (map f (range_with_len (a + 1) n))
    (all_range (λ y. f a ≢ y) f (a + 1) n
    (λ k low high. h a k (omega arith) (omega (arith, low)) (omega (arith, high))))
    (pairs_range f (a + 1) n (λ i j low less high. h i j (omega (arith, low)) less (omega (arith, high))))

-- a test that each number of a range passes
pub each_passes : (test : ℕ → Bool) (a n : ℕ) → list_all test (range_with_len a n) ≡ true → (k : ℕ) → a ≤ k → k < a + n
    → test k ≡ true
each_passes test a zero all k low high = absurd (omega (arith, low, high))
each_passes test a (suc n) all k low high =
    by_first (a == k) refl
    (λ other. each_passes test (a + 1) n parts.1 k (grind (arith, nat_tests, other, low)) (omega (arith, high)))
  where
    parts : (test a ≡ true) × (list_all test (range_with_len (a + 1) n) ≡ true)
    parts = and_parts _ _ all

    by_first : (b : Bool) → (a == k) ≡ b → ((a == k) ≡ false → test k ≡ true) → test k ≡ true
    by_first true is rest =
        let same : a ≡ k = grind (arith, nat_tests, is) in subst (λ (x : ℕ). test x ≡ true) same parts.0
    by_first false other rest = rest other

-- ---- lists joined

pub all_flat : {X Y : Type 0} (P : Y → Type 0) (g : X → List Y) (xs : List X) → All (λ x. All P (g x)) xs
    → All P (flat_map g xs)
all_flat P g [] h = All-nil P
all_flat P g (x ∷ xs) h =
    All-append P (g x) (flat_map g xs) (All-head (λ y. All P (g y)) x xs h)
    (all_flat P g xs (All-tail (λ y. All P (g y)) x xs h))

-- so many times a number
abbrev pub times : ℕ → ℕ → ℕ
times zero c = 0
times (suc n) c = c + times n c

pub times-le : (n m c : ℕ) → n ≤ m → times n c ≤ times m c
times-le zero m c le = omega arith
times-le (suc n) zero c le = absurd (omega (arith, le))
times-le (suc n) (suc m) c le = let more = times-le n m c (omega (arith, le)) in omega (arith, more)

pub length_flat : {X Y : Type 0} (g : X → List Y) (c : ℕ) (xs : List X) → All (λ x. length (g x) ≤ c) xs
    → length (flat_map g xs) ≤ times (length xs) c
length_flat g c [] h = omega arith
length_flat g c (x ∷ xs) h =
    let joined = length-append (g x) (flat_map g xs) in
    let first : length (g x) ≤ c = All-head (λ y. length (g y) ≤ c) x xs h in
    let rest = length_flat g c xs (All-tail (λ y. length (g y) ≤ c) x xs h) in
    omega (arith, joined, first, rest)

-- nothing passes a test that each fails
pub none_pass : {X : Type 0} (test : X → Bool) (xs : List X) → All (λ x. test x ≡ false) xs → filter test xs ≡ []
none_pass test [] h = refl
none_pass test (x ∷ xs) h =
    let first : test x ≡ false = All-head (λ y. test y ≡ false) x xs h in
    rw first (none_pass test xs (All-tail (λ y. test y ≡ false) x xs h))

-- ---- one number more

pub range-more : (a n : ℕ) → range_with_len a (n + 1) ≡ range_with_len a n ++ (a + n) ∷ []
range-more a n =
    let next : suc n ≡ n + 1 = omega arith in
    subst (λ (k : ℕ). range_with_len a k ≡ range_with_len a n ++ (a + n) ∷ []) next (go a n)
  where
    go : (b k : ℕ) → range_with_len b (suc k) ≡ range_with_len b k ++ (b + k) ∷ []
    go b zero = ap (λ (x : ℕ). x ∷ []) (omega arith)
    go b (suc k) =
        ap (λ (xs : List ℕ). b ∷ xs) (go (b + 1) k ∙ ap (λ (x : ℕ). range_with_len (b + 1) k ++ x ∷ []) (omega arith))

pub map-range_more : {X : Type 0} (f : ℕ → X) (a n j : ℕ) → a + n ≡ j
    → map f (range_with_len a (n + 1)) ≡ map f (range_with_len a n) ++ f j ∷ []
map-range_more {X} f a n j at =
    ap (map f) (range-more a n)
    ∙ map-append f (range_with_len a n) ((a + n) ∷ [])
    ∙ ap (λ (k : ℕ). map f (range_with_len a n) ++ f k ∷ []) at

pub flat_map-range_more : {X : Type 0} (f : ℕ → List X) (a n j : ℕ) → a + n ≡ j
    → flat_map f (range_with_len a (n + 1)) ≡ flat_map f (range_with_len a n) ++ f j
flat_map-range_more {X} f a n j at =
    ap (flat_map f) (range-more a n) ∙ flat_map-append f (range_with_len a n) ((a + n) ∷ [])
    ∙ ap (λ (xs : List X). flat_map f (range_with_len a n) ++ xs) (append-nil (f (a + n)) ∙ ap f at)

-- ---- what a loop keeps that puts them last

pub put_last : {X : Type 0} (f : ℕ → X) (now new : List X) (a n j : ℕ) → a + n ≡ j → now ≡ map f (range_with_len a n)
    → new ≡ now ++ f j ∷ [] → new ≡ map f (range_with_len a (n + 1))
put_last {X} f now new a n j at is then =
    then ∙ ap (λ (xs : List X). xs ++ f j ∷ []) is ∙ sym (map-range_more f a n j at)

pub put_behind : {X : Type 0} (f : ℕ → X) (out now new : List X) (a n j : ℕ) → a + n ≡ j
    → now ≡ out ++ map f (range_with_len a n) → new ≡ now ++ f j ∷ [] → new ≡ out ++ map f (range_with_len a (n + 1))
put_behind {X} f out now new a n j at is then =
    then ∙ ap (λ (xs : List X). xs ++ f j ∷ []) is ∙ append_assoc out (map f (range_with_len a n)) (f j ∷ [])
    ∙ ap (λ (xs : List X). out ++ xs) (sym (map-range_more f a n j at))

pub joined_last : {X : Type 0} (g : ℕ → List X) (now new : List X) (a n j : ℕ) → a + n ≡ j
    → now ≡ flat_map g (range_with_len a n) → new ≡ now ++ g j → new ≡ flat_map g (range_with_len a (n + 1))
joined_last {X} g now new a n j at is then =
    then ∙ ap (λ (xs : List X). xs ++ g j) is ∙ sym (flat_map-range_more g a n j at)

-- How far a task is in its lines.
use Rattle.std.proofs.Common.{◌≡◌, ◌<◌, ◌+◌, ℕ, zero, suc, Bool, true, false, cond, List, [], ◌∷◌, ◌++◌, length, take}
use Rattle.std.proofs.Common.{Some, refl, ap, sym, ◌∙◌, subst, arith, append-nil, append_assoc, length-append}
use Rattle.std.specs.Prelude.{slice_get, ◌==◌, nat_lt, ◌-◌}
use Rattle.std.proofs.lemmas.Bool.{lt-ltb, le-ltb}
use Rattle.grs_legal.specs.declared.meaning.Meaning.{Meaning}
use Rattle.grs_base.specs.declared.look.Filter.{Filter}
use Rattle.grs_base.specs.declared.look.Place.TheVariants.{Slice}
use Rattle.grs_legal.specs.Asks.{Ask, AsksLook, asks_in, asks_of, is_silent, slice_asks}
use Rattle.grs_legal.specs.Legal.{passed_behind}
use Rattle.grs_known.proofs.lists.Facts.{take-more}

pub asks_of-append : (ls ms : List Meaning) → asks_of (ls ++ ms) ≡ asks_of ls ++ asks_of ms
asks_of-append [] ms = refl
asks_of-append (l ∷ ls) ms =
    ap (λ xs. asks_in l ++ xs) (asks_of-append ls ms) ∙ sym (append_assoc (asks_in l) (asks_of ls) (asks_of ms))

-- a place among the first items, and one behind them
slice_get-front : {X : Type 0} (xs ys : List X) (i : ℕ) → i < length xs → slice_get (xs ++ ys) i ≡ slice_get xs i
slice_get-front [] ys i e = absurd (omega (arith, e))
slice_get-front (x ∷ xs) ys zero e = refl
slice_get-front (x ∷ xs) ys (suc i) e = slice_get-front xs ys i (omega (arith, e))

pub slice_get-back : {X : Type 0} (xs ys : List X) (i : ℕ) → slice_get (xs ++ ys) (length xs + i) ≡ slice_get ys i
slice_get-back [] ys i = ap (slice_get ys) (omega arith)
slice_get-back (x ∷ xs) ys i =
    let more : length (x ∷ xs) + i ≡ suc (length xs + i) = omega arith in
    ap (slice_get (x ∷ xs ++ ys)) more ∙ slice_get-back xs ys i

-- what is behind the asks of the first line
count-first : (m : Meaning) (ls : List Meaning) → length (asks_of (m ∷ ls)) ≡ length (asks_in m) + length (asks_of ls)
count-first m ls = length-append (asks_in m) (asks_of ls)

-- looks at slices: as many as there are slices, each at its own
pub length-slice_asks : (first count : ℕ) (f : Filter) → length (slice_asks first count f) ≡ count
length-slice_asks first zero f = refl
length-slice_asks first (suc count) f = ap suc (length-slice_asks (suc first) count f)

pub slice_asks-at : (first count : ℕ) (f : Filter) (i : ℕ) → i < count
    → slice_get (slice_asks first count f) i ≡ Some (AsksLook (Slice (first + i)) f)
slice_asks-at first zero f i e = absurd (omega (arith, e))
slice_asks-at first (suc count) f zero e = ap (λ n. Some (AsksLook (Slice n) f)) (omega arith)
slice_asks-at first (suc count) f (suc i) e =
    slice_asks-at (suc first) count f i (omega (arith, e)) ∙ ap (λ n. Some (AsksLook (Slice n) f)) (omega arith)

-- a place behind the same items
slice_get-skip : {X : Type 0} (bs xs ys : List X) → slice_get (bs ++ xs) (length (bs ++ ys)) ≡ slice_get xs (length ys)
slice_get-skip [] xs ys = refl
slice_get-skip (b ∷ bs) xs ys = slice_get-skip bs xs ys

-- what a line asks stands behind what the lines before it ask
pub asks_of-place : (ls : List Meaning) (n : ℕ) (l : Meaning) (i : ℕ) → slice_get ls n ≡ Some l → i < length (asks_in l)
    → slice_get (asks_of ls) (length (asks_of (take n ls)) + i) ≡ slice_get (asks_in l) i
asks_of-place [] n l i h e = absurd (cc)
asks_of-place (m ∷ ls) zero l i h e =
    let same : m ≡ l = cc in
    ap (slice_get (asks_of (m ∷ ls))) (omega arith)
    ∙ slice_get-front (asks_in m) (asks_of ls) i (subst (λ z. i < length (asks_in z)) (sym same) e)
    ∙ ap (λ z. slice_get (asks_in z) i) same
asks_of-place (m ∷ ls) (suc n) l i h e =
    ap (slice_get (asks_in m ++ asks_of ls)) (omega (arith, count-first m (take n ls)))
    ∙ slice_get-back (asks_in m) (asks_of ls) (length (asks_of (take n ls)) + i)
    ∙ asks_of-place ls n l i h e

-- the next asking line is asked at the place that is next
pub asks_of-at : (ls : List Meaning) (n : ℕ) (l : Meaning) (a : Ask) → slice_get ls n ≡ Some l → asks_in l ≡ a ∷ []
    → slice_get (asks_of ls) (length (asks_of (take n ls))) ≡ Some a
asks_of-at [] n l a h e = cc
asks_of-at (m ∷ ls) zero l a h e = let same : m ≡ l = cc in rw (same, e) refl
asks_of-at (m ∷ ls) (suc n) l a h e =
    slice_get-skip (asks_in m) (asks_of ls) (asks_of (take n ls)) ∙ asks_of-at ls n l a h e

-- one line more
pub asks-take : (ls : List Meaning) (n : ℕ) (l : Meaning) → slice_get ls n ≡ Some l
    → asks_of (take (n + 1) ls) ≡ asks_of (take n ls) ++ asks_in l
asks-take ls n l h =
    ap asks_of (take-more ls n l h)
    ∙ asks_of-append (take n ls) (l ∷ [])
    ∙ ap (λ xs. asks_of (take n ls) ++ xs) (append-nil (asks_in l))

-- one line more that asks, or doesn't
pub asks-more : (ls : List Meaning) (n : ℕ) (l : Meaning) (a : Ask) → slice_get ls n ≡ Some l → asks_in l ≡ a ∷ []
    → asks_of (take (n + 1) ls) ≡ asks_of (take n ls) ++ a ∷ []
asks-more ls n l a h e = rw (take-more ls n l h, asks_of-append (take n ls) (l ∷ []), e) refl

pub asks-same : (ls : List Meaning) (n : ℕ) (l : Meaning) → slice_get ls n ≡ Some l → asks_in l ≡ []
    → asks_of (take (n + 1) ls) ≡ asks_of (take n ls)
asks-same ls n l h e = rw (take-more ls n l h, asks_of-append (take n ls) (l ∷ []), e) (append-nil _)

-- a line that asks this asks something
pub asking : (l : Meaning) (a : Ask) → asks_in l ≡ a ∷ [] → is_silent l ≡ false
asking l a e = ap (λ z. length z == 0) e

pub silent : (l : Meaning) → asks_in l ≡ [] → is_silent l ≡ true
silent l e = ap (λ z. length z == 0) e

silent-count : (m : Meaning) → length (asks_in m) ≡ 0 → is_silent m ≡ true
silent-count m e = ap (λ z. z == 0) e

-- lines passed: up to the next asking line it doesn't matter what follows
pub passed-before : (ls : List Meaning) (n : ℕ) (l : Meaning) → slice_get ls n ≡ Some l → is_silent l ≡ false → (k : ℕ)
    → k ≡ length (asks_of (take n ls)) → passed_behind k ls ≡ passed_behind k (take n ls)
passed-before [] n l h e k same = cc
passed-before (m ∷ ls) zero l h e k same = let at : m ≡ l = cc in rw (same, ap is_silent at ∙ e) refl
passed-before (m ∷ ls) (suc n) l h e zero same =
    let count : 0 ≡ length (asks_in m) + length (asks_of (take n ls)) = same ∙ count-first m (take n ls) in
    let quiet : is_silent m ≡ true = silent-count m (omega (arith, count)) in
    rw quiet (ap (λ (xs : List Meaning). m ∷ xs) (passed-before ls n l h e zero (omega (arith, count))))
passed-before (m ∷ ls) (suc n) l h e (suc k) same =
    let count : suc k ≡ length (asks_in m) + length (asks_of (take n ls)) = same ∙ count-first m (take n ls) in
    ap (λ xs. cond (nat_lt (suc k) (length (asks_in m))) [] xs)
    (passed-before ls n l h e (suc k - length (asks_in m)) (omega (arith, count)))

pub passed-stop : (ls : List Meaning) (n : ℕ) (l : Meaning) (a : Ask) → slice_get ls n ≡ Some l → asks_in l ≡ a ∷ []
    → (k : ℕ) → k ≡ length (asks_of (take n ls)) → passed_behind k ls ≡ passed_behind k (take n ls)
passed-stop ls n l a h e k same = passed-before ls n l h (asking l a e) k same

-- no line is passed amid what a line asks
pub passed-middle : (ls : List Meaning) (n : ℕ) (l : Meaning) (i : ℕ) → slice_get ls n ≡ Some l → 0 < i
    → i < length (asks_in l) → (k : ℕ) → k ≡ length (asks_of (take n ls)) + i → passed_behind k ls ≡ []
passed-middle [] n l i h some more k same = absurd (cc)
passed-middle (m ∷ ls) n l i h some more zero same = absurd (omega (arith, some, same))
passed-middle (m ∷ ls) zero l i h some more (suc k) same =
    let at : m ≡ l = cc in
    let here : suc k ≡ 0 + i = same in
    let within : i < length (asks_in m) = subst (λ z. i < length (asks_in z)) (sym at) more in
    let few : suc k < length (asks_in m) = omega (arith, here, within) in
    rw (lt-ltb (suc k) (length (asks_in m)) few) refl
passed-middle (m ∷ ls) (suc n) l i h some more (suc k) same =
    let count : suc k ≡ length (asks_in m) + length (asks_of (take n ls)) + i =
    same ∙ ap (λ j. j + i) (count-first m (take n ls)) in
    by_rest (nat_lt (suc k) (length (asks_in m)))
    (passed-middle ls n l i h some more (suc k - length (asks_in m)) (omega (arith, count)))
  where
    by_rest : (b : Bool) → passed_behind (suc k - length (asks_in m)) ls ≡ []
        → cond b [] (passed_behind (suc k - length (asks_in m)) ls) ≡ []
    by_rest true e = refl
    by_rest false e = e

-- nor right behind an asking line
pub passed-end : (ls : List Meaning) (l : Meaning) → is_silent l ≡ false → (k : ℕ)
    → k ≡ length (asks_of ls) + length (asks_in l) → passed_behind k (ls ++ l ∷ []) ≡ []
passed-end [] l e zero same = rw e refl
passed-end [] l e (suc k) same = by_end (nat_lt (suc k) (length (asks_in l))) (suc k - length (asks_in l))
  where
    by_end : (b : Bool) (j : ℕ) → cond b [] (passed_behind j []) ≡ []
    by_end true j = refl
    by_end false j = refl
passed-end (m ∷ ls) l e zero same =
    let none : length (asks_in l) ≡ 0 = omega (arith, same) in
    absurd (let f : true ≡ false = sym (silent-count l none) ∙ e in cc)
passed-end (m ∷ ls) l e (suc k) same =
    let count : suc k ≡ length (asks_in m) + length (asks_of ls) + length (asks_in l) =
    same ∙ ap (λ j. j + length (asks_in l)) (count-first m ls) in
    by_rest (nat_lt (suc k) (length (asks_in m)))
    (passed-end ls l e (suc k - length (asks_in m)) (omega (arith, count)))
  where
    by_rest : (b : Bool) → passed_behind (suc k - length (asks_in m)) (ls ++ l ∷ []) ≡ []
        → cond b [] (passed_behind (suc k - length (asks_in m)) (ls ++ l ∷ [])) ≡ []
    by_rest true h = refl
    by_rest false h = h

pub passed-none : (ls : List Meaning) (l : Meaning) (a : Ask) → asks_in l ≡ a ∷ [] → (k : ℕ)
    → k ≡ suc (length (asks_of ls)) → passed_behind k (ls ++ l ∷ []) ≡ []
passed-none ls l a e k same =
    passed-end ls l (asking l a e) k (same ∙ let one : length (asks_in l) ≡ 1 = ap length e in omega (arith, one))

-- a line that asks nothing is passed behind the others
pub passed-more : (ls : List Meaning) (l : Meaning) → asks_in l ≡ [] → (k : ℕ) → k ≡ length (asks_of ls)
    → passed_behind k (ls ++ l ∷ []) ≡ passed_behind k ls ++ l ∷ []
passed-more [] l e zero same = rw (silent l e) refl
passed-more [] l e (suc k) same = absurd (omega (arith, same))
passed-more (m ∷ ls) l e zero same =
    let count : 0 ≡ length (asks_in m) + length (asks_of ls) = same ∙ count-first m ls in
    let quiet : is_silent m ≡ true = silent-count m (omega (arith, count)) in
    rw quiet (ap (λ (xs : List Meaning). m ∷ xs) (passed-more ls l e zero (omega (arith, count))))
passed-more (m ∷ ls) l e (suc k) same =
    let count : suc k ≡ length (asks_in m) + length (asks_of ls) = same ∙ count-first m ls in
    let behind : nat_lt (suc k) (length (asks_in m)) ≡ false =
    le-ltb (suc k) (length (asks_in m)) (omega (arith, count)) in
    rw behind (passed-more ls l e (suc k - length (asks_in m)) (omega (arith, count)))

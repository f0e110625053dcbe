-- Elements in their slots, seen in the order of pushing.
use Rattle.std.proofs.Common.{◌≡◌, ◌<◌, ◌≤◌, ◌+◌, ℕ, zero, suc, Bool, true, false, cond, List, [], ◌∷◌, ◌++◌, length}
use Rattle.std.proofs.Common.{set, get_or, Option, Some, None, is_some, count_by, refl, ap, sym, ◌∙◌, arith, eqb, ltb}
use Rattle.std.proofs.Common.{length-append, add-one}
use Rattle.std.proofs.lemmas.Bool.Decides.{nat_tests}
use Rattle.std.proofs.lemmas.List.Sums.{sum_by-cons}
use Rattle.qel_store.specs.declared.elements.Element.{Element}
use Rattle.qel_store.specs.declared.elements.Pushed.{Pushed}
use Rattle.qel_store.specs.Items.{Items, found, changed, dropped}
use Rattle.qel_store.specs.Numbered.{numbered, put_item, items_at, in_order, is_below, room_of}
use Rattle.slab.specs.Slab.{Slab, get, Updates}
use Rattle.qel_store.proofs.ItemLemmas.{or_else, found-append, changed-append, dropped-append}

-- the element of a slot, if its number is below n
abbrev pub shown : ℕ → Option Pushed → Option Element
shown n None = None
shown n (Some x) = cond (ltb x.number n) (Some x.element) None

found-put_other : (i k : ℕ) (o : Option Element) (xs : Items) → eqb k i ≡ false → found (put_item i o xs) k ≡ found xs k
found-put_other i k None xs h = refl
found-put_other i k (Some e) xs h = grind (arith, h)

found-put_here : (i : ℕ) (o : Option Element) (xs : Items) → found xs i ≡ None → found (put_item i o xs) i ≡ o
found-put_here i None xs h = h
found-put_here i (Some e) xs h = grind (arith, nat_tests)

found-low : (n i k : ℕ) (ss : List (Option Pushed)) → k < i → found (items_at n i ss) k ≡ None
found-low n i k [] h = refl
found-low n i k (o ∷ ss) h =
    grind (arith, nat_tests, h, found-put_other i k (numbered n o) (items_at n (suc i) ss), found-low n (suc i) k ss)

found-items_at : (n i k j : ℕ) (ss : List (Option Pushed)) → k ≡ i + j
    → found (items_at n i ss) k ≡ numbered n (get_or ss j None)
found-items_at n i k j [] h = grind arith
found-items_at n i k zero (o ∷ ss) h =
    grind (arith, nat_tests, h, found-put_here i (numbered n o) (items_at n (suc i) ss), found-low n (suc i) k ss)
found-items_at n i k (suc j) (o ∷ ss) h =
    grind (
      arith,
      nat_tests,
      h,
      found-put_other i k (numbered n o) (items_at n (suc i) ss),
      found-items_at n (suc i) k j ss,
    )

shown-next : (n : ℕ) (o : Option Pushed) → or_else (shown n o) (numbered n o) ≡ shown (suc n) o
shown-next n None = refl
shown-next n (Some x) = grind (arith, nat_tests)

shown-zero : (o : Option Pushed) → None ≡ shown 0 o
shown-zero None = refl
shown-zero (Some x) = grind (arith, nat_tests)

-- a key finds the element of its slot
pub found-in_order : (n k : ℕ) (ss : List (Option Pushed)) → found (in_order n ss) k ≡ shown n (get_or ss k None)
found-in_order zero k ss = shown-zero (get_or ss k None)
found-in_order (suc n) k ss =
    found-append (in_order n ss) (items_at n 0 ss) k
    ∙ grind (arith, found-in_order n k ss, found-items_at n 0 k k ss, shown-next n (get_or ss k None))

shown-below : (n : ℕ) (o : Option Pushed) (x : Pushed) → is_below n o ≡ true → o ≡ Some x → shown n o ≡ Some x.element
shown-below n None x h e = cc
shown-below n (Some y) x h e = grind (arith, nat_tests, h, e)

pub found-below : (n k : ℕ) (ss : List (Option Pushed)) (x : Pushed) → is_below n (get_or ss k None) ≡ true
    → get_or ss k None ≡ Some x → found (in_order n ss) k ≡ Some x.element
found-below n k ss x h e = found-in_order n k ss ∙ shown-below n (get_or ss k None) x h e

pub found-vacant : (n k : ℕ) (ss : List (Option Pushed)) → get_or ss k None ≡ None → found (in_order n ss) k ≡ None
found-vacant n k ss h = found-in_order n k ss ∙ ap (shown n) h

shown_some : (n : ℕ) (o : Option Pushed) → is_some (shown n o) ≡ true → is_some o ≡ true
shown_some n None h = h
shown_some n (Some x) h = refl

pub found_some : (n k : ℕ) (ss : List (Option Pushed)) → is_some (found (in_order n ss) k) ≡ true
    → is_some (get_or ss k None) ≡ true
found_some n k ss h = shown_some n (get_or ss k None) (ap is_some (sym (found-in_order n k ss)) ∙ h)

-- slots that differ in no element with this number
items_at-none : (n i : ℕ) (ss : List (Option Pushed)) → ((k : ℕ) → numbered n (get_or ss k None) ≡ None)
    → items_at n i ss ≡ []
items_at-none n i [] h = refl
items_at-none n i (o ∷ ss) h = grind (arith, h 0, items_at-none n (suc i) ss (λ k. h (suc k)))

items_at-same : (n i : ℕ) (ss ts : List (Option Pushed))
    → ((k : ℕ) → numbered n (get_or ss k None) ≡ numbered n (get_or ts k None)) → items_at n i ss ≡ items_at n i ts
items_at-same n i [] [] h = refl
items_at-same n i [] (o ∷ ts) h = sym (items_at-none n i (o ∷ ts) (λ k. sym (h k)))
items_at-same n i (o ∷ ss) [] h = items_at-none n i (o ∷ ss) h
items_at-same n i (o ∷ ss) (p ∷ ts) h = grind (arith, h 0, items_at-same n (suc i) ss ts (λ k. h (suc k)))

items_at-one : (n i j k : ℕ) (e : Element) (ss : List (Option Pushed)) → k ≡ i + j
    → ((l : ℕ) → numbered n (get_or ss l None) ≡ cond (eqb l j) (Some e) None) → items_at n i ss ≡ (k, e) ∷ []
items_at-one n i j k e [] a h = grind (arith, nat_tests, h j)
items_at-one n i zero k e (o ∷ ss) a h =
    grind (arith, nat_tests, a, h 0, items_at-none n (suc i) ss (λ l. grind (arith, nat_tests, h (suc l))))
items_at-one n i (suc j) k e (o ∷ ss) a h =
    grind (
      arith,
      nat_tests,
      a,
      h 0,
      items_at-one n (suc i) j k e ss (omega arith) (λ l. grind (arith, nat_tests, h (suc l))),
    )

-- a push
numbered-below : (n m : ℕ) (o : Option Pushed) → is_below n o ≡ true → n ≤ m → numbered m o ≡ None
numbered-below n m None b h = refl
numbered-below n m (Some x) b h = grind (arith, nat_tests, b, h)

in_order-same : (n : ℕ) (ss ts : List (Option Pushed))
    → ((m k : ℕ) → m < n → numbered m (get_or ss k None) ≡ numbered m (get_or ts k None))
    → in_order n ss ≡ in_order n ts
in_order-same zero ss ts h = refl
in_order-same (suc n) ss ts h =
    grind (
      arith,
      in_order-same n ss ts (λ m k l. h m k (omega arith)),
      items_at-same n 0 ss ts (λ k. h n k (omega arith)),
    )

module _ (n key : ℕ) (x : Pushed) (ss ts : List (Option Pushed)) (number : x.number ≡ n)
    (below : (k : ℕ) → is_below n (get_or ss k None) ≡ true) (vacant : get_or ss key None ≡ None)
    (here : get_or ts key None ≡ Some x)
    (others : (k : ℕ) → eqb k key ≡ false → get_or ts k None ≡ get_or ss k None) where
  pushed_number : (m k : ℕ) → m < n → (b : Bool) → eqb k key ≡ b
      → numbered m (get_or ss k None) ≡ numbered m (get_or ts k None)
  pushed_number m k h true e = grind (arith, nat_tests, h, e, number, vacant, here)
  pushed_number m k h false e = grind (arith, e, others k)

  pushed_last : (k : ℕ) (b : Bool) → eqb k key ≡ b → numbered n (get_or ts k None) ≡ cond b (Some x.element) None
  pushed_last k true e = grind (arith, nat_tests, e, number, here)
  pushed_last k false e = grind (arith, e, others k, below k, numbered-below n n (get_or ss k None))

  -- an element with the next number goes last
  pub in_order-push : in_order (suc n) ts ≡ in_order n ss ++ (key, x.element) ∷ []
  in_order-push =
      grind (
        arith,
        in_order-same n ss ts (λ m k h. pushed_number m k h (eqb k key) refl),
        items_at-one n 0 key key x.element ts (omega arith) (λ k. pushed_last k (eqb k key) refl),
      )

  is_below-higher : (o : Option Pushed) → is_below n o ≡ true → is_below (suc n) o ≡ true
  is_below-higher None h = refl
  is_below-higher (Some y) h = grind (arith, nat_tests, h)

  pushed_below : (k : ℕ) (b : Bool) → eqb k key ≡ b → is_below (suc n) (get_or ts k None) ≡ true
  pushed_below k true e = grind (arith, nat_tests, e, number, here)
  pushed_below k false e = grind (arith, e, others k, below k, is_below-higher (get_or ss k None))

  pub is_below-push : (k : ℕ) → is_below (suc n) (get_or ts k None) ≡ true
  is_below-push k = pushed_below k (eqb k key) refl

-- a change of an element that keeps its number
changed-put_other : (i k : ℕ) (f : Element → Element) (o : Option Element) (xs : Items) → eqb k i ≡ false
    → changed k f (put_item i o xs) ≡ put_item i o (changed k f xs)
changed-put_other i k f None xs h = refl
changed-put_other i k f (Some e) xs h = grind (arith, h)

changed-low : (n i k : ℕ) (f : Element → Element) (ss : List (Option Pushed)) → k < i
    → changed k f (items_at n i ss) ≡ items_at n i ss
changed-low n i k f [] h = refl
changed-low n i k f (o ∷ ss) h =
    grind (
      arith,
      nat_tests,
      h,
      changed-put_other i k f (numbered n o) (items_at n (suc i) ss),
      changed-low n (suc i) k f ss,
    )

changed-put_here : (n i : ℕ) (f : Element → Element) (x y : Pushed) (xs : Items) → y.number ≡ x.number
    → y.element ≡ f x.element → changed i f xs ≡ xs
    → put_item i (numbered n (Some y)) xs ≡ changed i f (put_item i (numbered n (Some x)) xs)
changed-put_here n i f x y xs a b h = grind (arith, nat_tests, a, b, h)

items_at-set : (n i j k : ℕ) (f : Element → Element) (x y : Pushed) (ss : List (Option Pushed)) → k ≡ i + j
    → y.number ≡ x.number → y.element ≡ f x.element → get_or ss j None ≡ Some x
    → items_at n i (set ss j (Some y)) ≡ changed k f (items_at n i ss)
items_at-set n i j k f x y [] a b c h = absurd (cc)
items_at-set n i zero k f x y (o ∷ ss) a b c h =
    grind (arith, nat_tests, a, h, changed-put_here n i f x y (items_at n (suc i) ss) b c, changed-low n (suc i) k f ss)
items_at-set n i (suc j) k f x y (o ∷ ss) a b c h =
    grind (
      arith,
      nat_tests,
      a,
      h,
      changed-put_other i k f (numbered n o) (items_at n (suc i) ss),
      items_at-set n (suc i) j k f x y ss (omega arith) b c,
    )

pub in_order-set : (n k : ℕ) (f : Element → Element) (x y : Pushed) (ss : List (Option Pushed)) → y.number ≡ x.number
    → y.element ≡ f x.element → get_or ss k None ≡ Some x → in_order n (set ss k (Some y)) ≡ changed k f (in_order n ss)
in_order-set zero k f x y ss b c h = refl
in_order-set (suc n) k f x y ss b c h =
    grind (
      arith,
      in_order-set n k f x y ss b c h,
      items_at-set n 0 k k f x y ss (omega arith) b c h,
      changed-append k f (in_order n ss) (items_at n 0 ss),
    )

is_below-same : (n : ℕ) (x y : Pushed) → y.number ≡ x.number → is_below n (Some x) ≡ true → is_below n (Some y) ≡ true
is_below-same n x y b h = grind (arith, b, h)

pub is_below-set : (n k : ℕ) (x y : Pushed) (ss : List (Option Pushed)) → y.number ≡ x.number
    → get_or ss k None ≡ Some x → ((l : ℕ) → is_below n (get_or ss l None) ≡ true) → (l : ℕ)
    → is_below n (get_or (set ss k (Some y)) l None) ≡ true
is_below-set n k x y [] b h a l = absurd (cc)
is_below-set n zero x y (o ∷ ss) b h a zero = is_below-same n x y b (ap (is_below n) (sym h) ∙ a 0)
is_below-set n zero x y (o ∷ ss) b h a (suc l) = a (suc l)
is_below-set n (suc k) x y (o ∷ ss) b h a zero = a 0
is_below-set n (suc k) x y (o ∷ ss) b h a (suc l) = is_below-set n k x y ss b h (λ l. a (suc l)) l

-- an element that is taken out
dropped-put_other : (i k : ℕ) (o : Option Element) (xs : Items) → eqb k i ≡ false
    → dropped k (put_item i o xs) ≡ put_item i o (dropped k xs)
dropped-put_other i k None xs h = refl
dropped-put_other i k (Some e) xs h = grind (arith, h)

dropped-put_here : (i : ℕ) (o : Option Element) (xs : Items) → dropped i (put_item i o xs) ≡ dropped i xs
dropped-put_here i None xs = refl
dropped-put_here i (Some e) xs = grind (arith, nat_tests)

dropped-low : (n i k : ℕ) (ss : List (Option Pushed)) → k < i → dropped k (items_at n i ss) ≡ items_at n i ss
dropped-low n i k [] h = refl
dropped-low n i k (o ∷ ss) h =
    grind (
      arith,
      nat_tests,
      h,
      dropped-put_other i k (numbered n o) (items_at n (suc i) ss),
      dropped-low n (suc i) k ss,
    )

items_at-take : (n i j k : ℕ) (ss : List (Option Pushed)) → k ≡ i + j
    → items_at n i (set ss j None) ≡ dropped k (items_at n i ss)
items_at-take n i j k [] a = grind arith
items_at-take n i zero k (o ∷ ss) a =
    grind (arith, nat_tests, a, dropped-put_here i (numbered n o) (items_at n (suc i) ss), dropped-low n (suc i) k ss)
items_at-take n i (suc j) k (o ∷ ss) a =
    grind (
      arith,
      nat_tests,
      a,
      dropped-put_other i k (numbered n o) (items_at n (suc i) ss),
      items_at-take n (suc i) j k ss,
    )

pub in_order-take : (n k : ℕ) (ss : List (Option Pushed)) → in_order n (set ss k None) ≡ dropped k (in_order n ss)
in_order-take zero k ss = refl
in_order-take (suc n) k ss =
    grind (arith, in_order-take n k ss, items_at-take n 0 k k ss, dropped-append k (in_order n ss) (items_at n 0 ss))

pub is_below-take : (n k : ℕ) (ss : List (Option Pushed)) → ((l : ℕ) → is_below n (get_or ss l None) ≡ true) → (l : ℕ)
    → is_below n (get_or (set ss k None) l None) ≡ true
is_below-take n k [] a l = grind arith
is_below-take n zero (o ∷ ss) a zero = refl
is_below-take n zero (o ∷ ss) a (suc l) = a (suc l)
is_below-take n (suc k) (o ∷ ss) a zero = a 0
is_below-take n (suc k) (o ∷ ss) a (suc l) = is_below-take n k ss (λ l. a (suc l)) l

-- as many elements as slots have one
abbrev count_at : ℕ → List (Option Pushed) → ℕ
count_at n ss = count_by (λ o. is_some (numbered n o)) ss

abbrev count_shown : ℕ → List (Option Pushed) → ℕ
count_shown n ss = count_by (λ o. is_some (shown n o)) ss

length-put_item : (i : ℕ) (o : Option Element) (xs : Items)
    → length (put_item i o xs) ≡ cond (is_some o) 1 0 + length xs
length-put_item i None xs = omega arith
length-put_item i (Some e) xs = omega arith

length-items_at : (n i : ℕ) (ss : List (Option Pushed)) → length (items_at n i ss) ≡ count_at n ss
length-items_at n i [] = refl
length-items_at n i (o ∷ ss) =
    grind (
      arith,
      length-put_item i (numbered n o) (items_at n (suc i) ss),
      length-items_at n (suc i) ss,
      sum_by-cons (λ o. cond (is_some (numbered n o)) 1 0) o ss,
    )

count_one : (n : ℕ) (o : Option Pushed)
    → cond (is_some (shown n o)) 1 0 + cond (is_some (numbered n o)) 1 0 ≡ cond (is_some (shown (suc n) o)) 1 0
count_one n None = omega arith
count_one n (Some x) = grind (arith, nat_tests)

count-next : (n : ℕ) (ss : List (Option Pushed)) → count_shown n ss + count_at n ss ≡ count_shown (suc n) ss
count-next n [] = omega arith
count-next n (o ∷ ss) =
    grind (
      arith,
      count_one n o,
      count-next n ss,
      sum_by-cons (λ o. cond (is_some (numbered n o)) 1 0) o ss,
      sum_by-cons (λ o. cond (is_some (shown n o)) 1 0) o ss,
      sum_by-cons (λ o. cond (is_some (shown (suc n) o)) 1 0) o ss,
    )

length-in_order_shown : (n : ℕ) (ss : List (Option Pushed)) → length (in_order n ss) ≤ count_shown n ss
length-in_order_shown zero ss = omega arith
length-in_order_shown (suc n) ss =
    grind (
      arith,
      length-in_order_shown n ss,
      length-items_at n 0 ss,
      count-next n ss,
      length-append (in_order n ss) (items_at n 0 ss),
    )

one_shown : (n : ℕ) (o : Option Pushed) → cond (is_some (shown n o)) 1 0 ≤ cond (is_some o) 1 0
one_shown n None = omega arith
one_shown n (Some x) = grind (arith, nat_tests)

count_shown-le : (n : ℕ) (ss : List (Option Pushed)) → count_shown n ss ≤ count_by is_some ss
count_shown-le n [] = omega arith
count_shown-le n (o ∷ ss) =
    grind (
      arith,
      one_shown n o,
      count_shown-le n ss,
      sum_by-cons (λ o. cond (is_some (shown n o)) 1 0) o ss,
      sum_by-cons (λ (o : Option Pushed). cond (is_some o) 1 0) o ss,
    )

pub length-in_order : (n : ℕ) (ss : List (Option Pushed)) → length (in_order n ss) ≤ count_by is_some ss
length-in_order n ss = omega (arith, length-in_order_shown n ss, count_shown-le n ss)

differs : (a b : ℕ) → eqb a b ≡ false → a ≡ b → ⊥
differs a b h i = grind (arith, nat_tests, h, i)

-- what an insert leaves
pub in_order-inserted : (n : ℕ) (old new : Slab Pushed) (key : ℕ) (e : Element)
    → ((k : ℕ) → is_below n (get old k) ≡ true) → get old key ≡ None
    → Updates old new key (Some (record { number = n; element = e }))
    → in_order (n + 1) new.slots ≡ in_order n old.slots ++ (key, e) ∷ []
in_order-inserted n old new key e below vacant updates =
    rw add-one (in_order-push n key (record { number = n; element = e }) old.slots new.slots refl below vacant
    updates.changed (λ k h. updates.others k (differs k key h)))

-- a slab with room has few elements
pub room-few : (n : ℕ) (s : Slab Pushed) → 1 ≤ room_of n s → length (in_order n s.slots) < 0xffff_ffff
room-few n s h = grind (arith, nat_tests, h, length-in_order n s.slots)

-- a change takes no room
slab_len-set : (ss : List (Option Pushed)) (k : ℕ) (x y : Pushed) → get_or ss k None ≡ Some x
    → count_by is_some (set ss k (Some y)) ≡ count_by is_some ss
slab_len-set [] k x y h = absurd (cc)
slab_len-set (o ∷ ss) zero x y h =
    grind (
      arith,
      h,
      sum_by-cons (λ (p : Option Pushed). cond (is_some p) 1 0) o ss,
      sum_by-cons (λ (p : Option Pushed). cond (is_some p) 1 0) (Some y) ss,
    )
slab_len-set (o ∷ ss) (suc k) x y h =
    grind (
      arith,
      h,
      sum_by-cons (λ (p : Option Pushed). cond (is_some p) 1 0) o ss,
      sum_by-cons (λ (p : Option Pushed). cond (is_some p) 1 0) o (set ss k (Some y)),
      slab_len-set ss k x y,
    )

pub room_of-set : (n : ℕ) (s : Slab Pushed) (k : ℕ) (x y : Pushed) → get s k ≡ Some x
    → room_of n (record s { slots = set s.slots k (Some y) }) ≡ room_of n s
room_of-set n s k x y h = grind (arith, slab_len-set s.slots k x y h)

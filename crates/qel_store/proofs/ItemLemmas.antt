-- Laws of items under keys.
use Rattle.std.proofs.Common.{◌≡◌, ℕ, zero, suc, Bool, true, false, cond, ◌&&◌, ◌||◌, [], ◌∷◌, ◌++◌, length, Option}
use Rattle.std.proofs.Common.{Some, None, is_some, refl, ap, ◌∙◌, arith, eqb}
use Rattle.std.specs.Prelude.{slice_get}
use Rattle.std.proofs.lemmas.Bool.Decides.{nat_tests}
use Rattle.qel_store.specs.declared.elements.Element.{Element}
use Rattle.qel_store.specs.Items.{Item, Items, found, has_key, keys_apart, changed, dropped, members, key_of}

-- a proof by what a test says
pub by_cases : {P : Type 0} (b : Bool) → (b ≡ true → P) → (b ≡ false → P) → P
by_cases true yes_it no_it = yes_it refl
by_cases false yes_it no_it = no_it refl

-- the first of two, or the other where there is none
abbrev pub or_else : Option Element → Option Element → Option Element
or_else None b = b
or_else (Some a) b = Some a

-- an element that passes
abbrev pub pass : (Element → Bool) → Option Element → Option Element
pass p None = None
pass p (Some e) = cond (p e) (Some e) None

abbrev pub passes : (Element → Bool) → Option Element → Bool
passes p None = false
passes p (Some e) = p e

pub found-append : (xs ys : Items) (k : ℕ) → found (xs ++ ys) k ≡ or_else (found xs k) (found ys k)
found-append [] ys k = refl
found-append (x ∷ xs) ys k = grind (arith, found-append xs ys k)

pub changed-append : (k : ℕ) (f : Element → Element) (xs ys : Items)
    → changed k f (xs ++ ys) ≡ changed k f xs ++ changed k f ys
changed-append k f [] ys = refl
changed-append k f (x ∷ xs) ys = grind (arith, changed-append k f xs ys)

pub dropped-append : (k : ℕ) (xs ys : Items) → dropped k (xs ++ ys) ≡ dropped k xs ++ dropped k ys
dropped-append k [] ys = refl
dropped-append k (x ∷ xs) ys = grind (arith, dropped-append k xs ys)

pub members-append : (p : Element → Bool) (xs ys : Items) → members p (xs ++ ys) ≡ members p xs ++ members p ys
members-append p [] ys = refl
members-append p (x ∷ xs) ys = grind (arith, members-append p xs ys)

pub has_key-append : (xs ys : Items) (k : ℕ) → has_key (xs ++ ys) k ≡ (has_key xs k || has_key ys k)
has_key-append [] ys k = refl
has_key-append (x ∷ xs) ys k = grind (arith, has_key-append xs ys k)

pub has_key-found : (xs : Items) (k : ℕ) → has_key xs k ≡ is_some (found xs k)
has_key-found [] k = refl
has_key-found (x ∷ xs) k = grind (arith, has_key-found xs k)

pub has_key-members : (p : Element → Bool) (xs : Items) (k : ℕ) → has_key xs k ≡ false
    → has_key (members p xs) k ≡ false
has_key-members p [] k h = refl
has_key-members p (x ∷ xs) k h = grind (arith, h, has_key-members p xs k)

pub keys_apart-members : (p : Element → Bool) (xs : Items) → keys_apart xs ≡ true → keys_apart (members p xs) ≡ true
keys_apart-members p [] h = refl
keys_apart-members p (x ∷ xs) h = grind (arith, h, keys_apart-members p xs, has_key-members p xs x.0)

pub keys_apart-push : (xs : Items) (x : Item) → keys_apart xs ≡ true → has_key xs x.0 ≡ false
    → keys_apart (xs ++ x ∷ []) ≡ true
keys_apart-push [] x h a = refl
keys_apart-push (y ∷ xs) x h a = grind (arith, nat_tests, h, a, keys_apart-push xs x, has_key-append xs (x ∷ []) y.0)

-- what a key finds among the members
pub found-members : (p : Element → Bool) (xs : Items) (k : ℕ) → keys_apart xs ≡ true
    → found (members p xs) k ≡ pass p (found xs k)
found-members p [] k h = refl
found-members p (x ∷ xs) k h =
    grind (
      arith,
      nat_tests,
      h,
      found-members p xs k,
      has_key-members p xs x.0,
      has_key-found (members p xs) x.0,
      found_none (members p xs) x.0,
    )
  where
    found_none : (ys : Items) (j : ℕ) → has_key ys j ≡ false → found ys j ≡ None
    found_none [] j a = refl
    found_none (y ∷ ys) j a = grind (arith, a, found_none ys j)

pub found_none : (xs : Items) (k : ℕ) → has_key xs k ≡ false → found xs k ≡ None
found_none [] k a = refl
found_none (x ∷ xs) k a = grind (arith, a, found_none xs k)

pub has_key-some : (xs : Items) (k : ℕ) (e : Element) → found xs k ≡ Some e → has_key xs k ≡ true
has_key-some xs k e h = has_key-found xs k ∙ ap is_some h

pub has_key-none : (xs : Items) (k : ℕ) → found xs k ≡ None → has_key xs k ≡ false
has_key-none xs k h = has_key-found xs k ∙ ap is_some h

-- a key of one list isn't one of another, where no element is of both
pub has_key-other : (p q : Element → Bool) (xs : Items) (k : ℕ) (e : Element) → keys_apart xs ≡ true
    → found xs k ≡ Some e → q e ≡ false → has_key (members q xs) k ≡ false
has_key-other p q xs k e h a b =
    has_key-none (members q xs) k (found-members q xs k h ∙ ap (pass q) a ∙ ap (λ c. cond c (Some e) None) b)

-- the same items with a change at one key
pub found-changed : (k : ℕ) (f : Element → Element) (xs : Items) (j : ℕ) (e : Element) → found xs j ≡ Some e
    → found (changed k f xs) j ≡ Some (cond (eqb k j) (f e) e)
found-changed k f [] j e h = cc
found-changed k f (x ∷ xs) j e h = grind (arith, nat_tests, h, found-changed k f xs j e)

pub has_key-changed : (k : ℕ) (f : Element → Element) (xs : Items) (j : ℕ) → has_key (changed k f xs) j ≡ has_key xs j
has_key-changed k f [] j = refl
has_key-changed k f (x ∷ xs) j = grind (arith, has_key-changed k f xs j)

pub keys_apart-changed : (k : ℕ) (f : Element → Element) (xs : Items) → keys_apart (changed k f xs) ≡ keys_apart xs
keys_apart-changed k f [] = refl
keys_apart-changed k f (x ∷ xs) = grind (arith, keys_apart-changed k f xs, has_key-changed k f xs x.0)

pub members-changed : (p : Element → Bool) (k : ℕ) (f : Element → Element) → ((e : Element) → p (f e) ≡ p e)
    → (xs : Items) → members p (changed k f xs) ≡ changed k f (members p xs)
members-changed p k f keeps [] = refl
members-changed p k f keeps (x ∷ xs) = grind (arith, keeps x.1, members-changed p k f keeps xs)

pub changed-absent : (k : ℕ) (f : Element → Element) (xs : Items) → has_key xs k ≡ false → changed k f xs ≡ xs
changed-absent k f [] h = refl
changed-absent k f (x ∷ xs) h = grind (arith, h, changed-absent k f xs)

-- the same items without one
pub found-dropped : (k : ℕ) (xs : Items) (j : ℕ) → found (dropped k xs) j ≡ cond (eqb k j) None (found xs j)
found-dropped k [] j = grind arith
found-dropped k (x ∷ xs) j = grind (arith, nat_tests, found-dropped k xs j)

pub has_key-dropped : (k : ℕ) (xs : Items) (j : ℕ) → has_key xs j ≡ false → has_key (dropped k xs) j ≡ false
has_key-dropped k [] j h = refl
has_key-dropped k (x ∷ xs) j h = grind (arith, h, has_key-dropped k xs j)

pub has_key-dropped_itself : (k : ℕ) (xs : Items) → has_key (dropped k xs) k ≡ false
has_key-dropped_itself k [] = refl
has_key-dropped_itself k (x ∷ xs) = grind (arith, has_key-dropped_itself k xs)

pub keys_apart-dropped : (k : ℕ) (xs : Items) → keys_apart xs ≡ true → keys_apart (dropped k xs) ≡ true
keys_apart-dropped k [] h = refl
keys_apart-dropped k (x ∷ xs) h = grind (arith, h, keys_apart-dropped k xs, has_key-dropped k xs x.0)

pub members-dropped : (p : Element → Bool) (k : ℕ) (xs : Items) → members p (dropped k xs) ≡ dropped k (members p xs)
members-dropped p k [] = refl
members-dropped p k (x ∷ xs) = grind (arith, members-dropped p k xs)

pub dropped-absent : (k : ℕ) (xs : Items) → has_key xs k ≡ false → dropped k xs ≡ xs
dropped-absent k [] h = refl
dropped-absent k (x ∷ xs) h = grind (arith, h, dropped-absent k xs)

pub length-dropped : (k : ℕ) (xs : Items) → keys_apart xs ≡ true → has_key xs k ≡ true
    → suc (length (dropped k xs)) ≡ length xs
length-dropped k [] h a = absurd (cc)
length-dropped k (x ∷ xs) h a = grind (arith, nat_tests, h, a, length-dropped k xs, dropped-absent k xs)

-- the first item that passes
pub key_of-members : (p q : Element → Bool) (xs : Items) → key_of p (members q xs) ≡ key_of (λ e. q e && p e) xs
key_of-members p q [] = refl
key_of-members p q (x ∷ xs) = grind (arith, key_of-members p q xs)

pub key_of-same : (p q : Element → Bool) → ((e : Element) → p e ≡ q e) → (xs : Items) → key_of p xs ≡ key_of q xs
key_of-same p q same [] = refl
key_of-same p q same (x ∷ xs) = grind (arith, same x.1, key_of-same p q same xs)

pub key_of-has : (p : Element → Bool) (xs : Items) (k : ℕ) → key_of p xs ≡ Some k → has_key xs k ≡ true
key_of-has p [] k h = cc
key_of-has p (x ∷ xs) k h = grind (arith, nat_tests, h, key_of-has p xs k)

pub key_of-passes : (p : Element → Bool) (xs : Items) (k : ℕ) → keys_apart xs ≡ true → key_of p xs ≡ Some k
    → passes p (found xs k) ≡ true
key_of-passes p [] k a h = cc
key_of-passes p (x ∷ xs) k a h = grind (arith, nat_tests, a, h, key_of-passes p xs k, key_of-has p xs k)

-- an item at a place
pub found-at : (xs : Items) (i : ℕ) (x : Item) → keys_apart xs ≡ true → slice_get xs i ≡ Some x
    → found xs x.0 ≡ Some x.1
found-at [] i x a h = cc
found-at (y ∷ xs) zero x a h = grind (arith, nat_tests, h)
found-at (y ∷ xs) (suc i) x a h = grind (arith, nat_tests, h, a, found-at xs i x, has_key-some xs x.0 x.1)

-- Going round a circle, forth and back.
use Rattle.std.proofs.Common.{◌≡◌, ◌<◌, ◌≤◌, ◌+◌, ◌-◌, ℕ, zero, suc, Bool, true, false, cond, List, [], ◌∷◌, ◌++◌}
use Rattle.std.proofs.Common.{length, drop, Option, Some, None, is_some, refl, ap, sym, ◌∙◌, arith, add-one}
use Rattle.std.proofs.Common.{append_assoc}
use Rattle.std.proofs.Math.ListN.{drop_of_length-le}
use Rattle.std.proofs.lemmas.Bool.Decides.{nat_tests}
use Rattle.grs_base.specs.declared.resource.Elem.{Elem}
use Rattle.qel_store.specs.declared.elements.Element.{Element}
use Rattle.qel_store.specs.declared.elements.Side.{Side}
use Rattle.qel_store.specs.declared.rings.Ring.{Ring}
use Rattle.qel_store.specs.Items.{Item, Items, found, has_key, keys_apart, members, key_of, is_in, elems_of}
use Rattle.qel_store.specs.Rings.{link_of, chain, ring, leads, first_key, IsCircle}
use Rattle.qel_store.proofs.ItemLemmas.{by_cases, pass, found-members, has_key-found, keys_apart-members}

-- a member is found by its key
pass_some : (p : Element → Bool) (o : Option Element) → is_some (pass p o) ≡ true → pass p o ≡ o
pass_some p None h = refl
pass_some p (Some e) h = grind (arith, h)

pub found-member : (p : Element → Bool) (xs : Items) (k : ℕ) → keys_apart xs ≡ true → has_key (members p xs) k ≡ true
    → found (members p xs) k ≡ found xs k
found-member p xs k a h =
    found-members p xs k a
    ∙ pass_some p (found xs k) (ap is_some (sym (found-members p xs k a)) ∙ sym (has_key-found (members p xs) k) ∙ h)

pub leads-length : (r : Ring) (ms : Items) → leads r ms ≡ true → r.len ≡ length ms
leads-length r [] h = grind (arith, nat_tests, h)
leads-length r (x ∷ xs) h = grind (arith, nat_tests, h)

leads-first : (r : Ring) (x : Item) (xs : Items) → leads r (x ∷ xs) ≡ true → r.first ≡ x.0
leads-first r x xs h = grind (arith, nat_tests, h)

has_key-first : (ms : Items) (i d : ℕ) → i < length ms → has_key ms (first_key (drop i ms) d) ≡ true
has_key-first [] i d h = absurd (omega arith)
has_key-first (x ∷ xs) zero d h = grind (arith, nat_tests)
has_key-first (x ∷ xs) (suc i) d h = grind (arith, has_key-first xs i d (omega arith))

-- the item at a place
drop_item : (ms : Items) (i k d : ℕ) (e : Element) → keys_apart ms ≡ true → i < length ms → k ≡ first_key (drop i ms) d
    → found ms k ≡ Some e → drop i ms ≡ (k, e) ∷ drop (suc i) ms
drop_item [] i k d e a h f g = absurd (omega arith)
drop_item (x ∷ xs) zero k d e a h f g =
    let same : Some x.1 ≡ Some e = grind (arith, nat_tests, f, g) in grind (arith, f, same)
drop_item (x ∷ xs) (suc i) k d e a h f g =
    drop_item xs i k d e (grind (arith, a)) (omega arith) f
    (grind (arith, nat_tests, a, f, g, has_key-first xs i d (omega arith)))

-- the key behind a place, and before it
chain-next : (s : Side) (a : Item) (xs : Items) (z : Item) (i : ℕ) (x : Item) (rest : Items) → chain s a xs z ≡ true
    → drop i (a ∷ xs) ≡ x ∷ rest → (link_of s x.1).next ≡ first_key rest z.0
chain-next s a [] z zero x rest h d = grind (arith, nat_tests, h, d)
chain-next s a [] z (suc i) x rest h d = absurd (nothing i d)
  where
    nothing : (j : ℕ) → drop j [] ≡ x ∷ rest → ⊥
    nothing zero e = cc
    nothing (suc j) e = cc
chain-next s a (y ∷ ys) z zero x rest h d = grind (arith, nat_tests, h, d)
chain-next s a (y ∷ ys) z (suc i) x rest h d = chain-next s y ys z i x rest (grind (arith, h)) d

abbrev first_item : Items → Item → Item
first_item [] z = z
first_item (x ∷ xs) z = x

chain-prev : (s : Side) (a : Item) (xs : Items) (z : Item) (i : ℕ) (x : Item) (rest : Items) → chain s a xs z ≡ true
    → drop i (a ∷ xs) ≡ x ∷ rest → (link_of s (first_item rest z).1).prev ≡ x.0
chain-prev s a [] z zero x rest h d = grind (arith, nat_tests, h, d)
chain-prev s a [] z (suc i) x rest h d = absurd (nothing i d)
  where
    nothing : (j : ℕ) → drop j [] ≡ x ∷ rest → ⊥
    nothing zero e = cc
    nothing (suc j) e = cc
chain-prev s a (y ∷ ys) z zero x rest h d = grind (arith, nat_tests, h, d)
chain-prev s a (y ∷ ys) z (suc i) x rest h d = chain-prev s y ys z i x rest (grind (arith, h)) d

ring-next : (s : Side) (r : Ring) (ms : Items) (i : ℕ) (x : Item) (rest : Items) → ring s ms ≡ true → leads r ms ≡ true
    → drop i ms ≡ x ∷ rest → (link_of s x.1).next ≡ first_key rest r.first
ring-next s r [] zero x rest h l d = absurd (cc)
ring-next s r [] (suc i) x rest h l d = absurd (cc)
ring-next s r (a ∷ xs) i x rest h l d = rw (leads-first r a xs l) (chain-next s a xs a i x rest h d)

first_found : (rest : Items) (a : Item) (ms : Items) (k : ℕ) (e : Element) → found ms k ≡ Some e
    → found ms a.0 ≡ Some a.1 → ((x : Item) (more : Items) → rest ≡ x ∷ more → found ms x.0 ≡ Some x.1)
    → k ≡ first_key rest a.0 → (first_item rest a).1 ≡ e
first_found [] a ms k e f g n h = some_same (sym g ∙ ap (found ms) (sym h) ∙ f)
  where
    some_same : Some a.1 ≡ Some e → a.1 ≡ e
    some_same i = cc
first_found (x ∷ more) a ms k e f g n h = some_same (sym (n x more refl) ∙ ap (found ms) (sym h) ∙ f)
  where
    some_same : Some x.1 ≡ Some e → x.1 ≡ e
    some_same i = cc

found-dropped_first : (ms : Items) (i : ℕ) (x : Item) (more : Items) → keys_apart ms ≡ true → drop i ms ≡ x ∷ more
    → found ms x.0 ≡ Some x.1
found-dropped_first [] zero x more a h = absurd (cc)
found-dropped_first [] (suc i) x more a h = absurd (cc)
found-dropped_first (y ∷ ys) zero x more a h = grind (arith, nat_tests, h)
found-dropped_first (y ∷ ys) (suc i) x more a h =
    grind (arith, nat_tests, a, found-dropped_first ys i x more (grind (arith, a)) h, has_key-found ys x.0)

ring-prev : (s : Side) (r : Ring) (ms : Items) (i k : ℕ) (e : Element) (x : Item) (rest : Items) → keys_apart ms ≡ true
    → ring s ms ≡ true → leads r ms ≡ true → drop i ms ≡ x ∷ rest → drop (suc i) ms ≡ rest → found ms k ≡ Some e
    → k ≡ first_key rest r.first → (link_of s e).prev ≡ x.0
ring-prev s r [] zero k e x rest a h l d n f i = absurd (cc)
ring-prev s r [] (suc j) k e x rest a h l d n f i = absurd (cc)
ring-prev s r (y ∷ ys) j k e x rest a h l d n f i =
    ap (λ (u : Element). (link_of s u).prev) (sym (first_found rest y (y ∷ ys) k e f (grind (arith, nat_tests))
    (λ u more m. found-dropped_first (y ∷ ys) (suc j) u more a (n ∙ m))
    (i ∙ ap (first_key rest) (leads-first r y ys l))))
    ∙ chain-prev s y ys y j x rest h d

drop-suc_of : (ms : Items) (i : ℕ) (x : Item) (rest : Items) → drop i ms ≡ x ∷ rest → drop (suc i) ms ≡ rest
drop-suc_of [] zero x rest h = absurd (cc)
drop-suc_of [] (suc i) x rest h = absurd (cc)
drop-suc_of (y ∷ ys) zero x rest h = cc
drop-suc_of (y ∷ ys) (suc i) x rest h = drop-suc_of ys i x rest h

module _ (s : Side) (p : Element → Bool) (xs : Items) (r : Ring) (c : IsCircle s p xs r) where
  pub circle-length : r.len ≡ length (members p xs)
  circle-length = leads-length r (members p xs) c.led

  pub place_in : (i k : ℕ) → i < r.len → k ≡ first_key (drop i (members p xs)) r.first → has_key (members p xs) k ≡ true
  place_in i k h e =
      ap (has_key (members p xs)) e ∙ has_key-first (members p xs) i r.first (omega (arith, circle-length))

  -- the key at a place has an element
  pub place-found : (i k : ℕ) → i < r.len → k ≡ first_key (drop i (members p xs)) r.first → is_some (found xs k) ≡ true
  place-found i k h e =
      ap is_some (sym (found-member p xs k c.apart (place_in i k h e)))
      ∙ sym (has_key-found (members p xs) k)
      ∙ place_in i k h e

  -- which is the item there
  pub place-item : (i k : ℕ) (e : Element) → i < r.len → k ≡ first_key (drop i (members p xs)) r.first
      → found xs k ≡ Some e → drop i (members p xs) ≡ (k, e) ∷ drop (i + 1) (members p xs)
  place-item i k e h f g =
      rw add-one (drop_item (members p xs) i k r.first e (keys_apart-members p xs c.apart)
      (omega (arith, circle-length)) f (found-member p xs k c.apart (place_in i k h f) ∙ g))

  -- and leads to the next place
  pub place-next : (i k : ℕ) (e : Element) → i < r.len → k ≡ first_key (drop i (members p xs)) r.first
      → found xs k ≡ Some e → (link_of s e).next ≡ first_key (drop (i + 1) (members p xs)) r.first
  place-next i k e h f g =
      ring-next s r (members p xs) i (k, e) (drop (i + 1) (members p xs)) c.circle c.led (place-item i k e h f g)

  pub first_place : (ms : Items) → leads r ms ≡ true → r.first ≡ first_key ms r.first
  first_place [] l = refl
  first_place (x ∷ ys) l = leads-first r x ys l

  wrapped_in : (j : ℕ) (rest : Items) → 0 < r.len → drop j (members p xs) ≡ rest
      → has_key (members p xs) (first_key rest r.first) ≡ true
  wrapped_in j [] h d = place_in 0 r.first h (first_place (members p xs) c.led)
  wrapped_in j (x ∷ more) h d =
      has_key-found (members p xs) x.0
      ∙ ap is_some (found-dropped_first (members p xs) j x more (keys_apart-members p xs c.apart) d)

  -- so has the key behind the last place, which is the first
  pub place-found_behind : (j k : ℕ) → 0 < r.len → k ≡ first_key (drop j (members p xs)) r.first
      → is_some (found xs k) ≡ true
  place-found_behind j k h f =
      let here : has_key (members p xs) k ≡ true =
      ap (has_key (members p xs)) f ∙ wrapped_in j (drop j (members p xs)) h refl in
      ap is_some (sym (found-member p xs k c.apart here)) ∙ sym (has_key-found (members p xs) k) ∙ here

  -- and leads back to the one before
  pub place-prev : (i j k : ℕ) (e : Element) → i < r.len → j ≡ suc i → k ≡ first_key (drop j (members p xs)) r.first
      → found xs k ≡ Some e → (link_of s e).prev ≡ first_key (drop i (members p xs)) r.first
  place-prev i j k e h a f g = by_item (drop i (members p xs)) refl
    where
      here : has_key (members p xs) k ≡ true
      here = ap (has_key (members p xs)) f ∙ wrapped_in j (drop j (members p xs)) (omega arith) refl

      by_item : (rest : Items) → drop i (members p xs) ≡ rest → (link_of s e).prev ≡ first_key rest r.first
      by_item [] d = absurd (empty (members p xs) i (omega (arith, circle-length)) d)
        where
          empty : (ms : Items) (n : ℕ) → n < length ms → drop n ms ≡ [] → ⊥
          empty [] n l m = omega arith
          empty (x ∷ ys) zero l m = cc
          empty (x ∷ ys) (suc n) l m = empty ys n (omega arith) m
      by_item (x ∷ more) d =
          let next : drop (suc i) (members p xs) ≡ more = drop-suc_of (members p xs) i x more d in
          ring-prev s r (members p xs) i k e x more (keys_apart-members p xs c.apart) c.circle c.led d next
          (found-member p xs k c.apart here ∙ g) (f
          ∙ ap (λ (n : ℕ). first_key (drop n (members p xs)) r.first) a
          ∙ ap (λ (l : Items). first_key l r.first) next)

  -- the first key begins the circle
  pub circle-first : r.first ≡ first_key (members p xs) r.first
  circle-first = first_place (members p xs) c.led

  -- behind the last place nothing is left
  pub place-end : (i : ℕ) → r.len ≤ i → drop i (members p xs) ≡ []
  place-end i h = drop_of_length-le (members p xs) (omega (arith, circle-length))

  -- going back begins with the first
  pub circle-back : r.first ≡ first_key (drop (r.len - 0) (members p xs)) r.first
  circle-back = sym (ap (λ (l : Items). first_key l r.first) (place-end (r.len - 0) (omega arith)))

-- a search, one item further
pub key_of-item : (p : Element → Bool) (ms : Items) (i k : ℕ) (e : Element) → drop i ms ≡ (k, e) ∷ drop (i + 1) ms
    → key_of p (drop i ms) ≡ cond (p e) (Some k) (key_of p (drop (i + 1) ms))
key_of-item p ms i k e h = ap (key_of p) h

pub in_queue : (q : ℕ) (e : Element) → e.queue ≡ q → is_in q e ≡ true
in_queue q e h = grind (arith, nat_tests, h)

pub in_other : (q : ℕ) (e : Element) → (e.queue ≡ q → ⊥) → is_in q e ≡ false
in_other q e h = by_cases (is_in q e) (λ b. absurd (h (grind (arith, nat_tests, b)))) (λ b. b)

-- the elements of a list, one place further
pub elems-further : (ms : Items) (i k : ℕ) (e : Element) (before now : List Elem) → drop i ms ≡ (k, e) ∷ drop (i + 1) ms
    → before ++ elems_of (drop i ms) ≡ elems_of ms → now ≡ before ++ e.elem ∷ []
    → now ++ elems_of (drop (i + 1) ms) ≡ elems_of ms
elems-further ms i k e before now d h p =
    ap (λ (l : List Elem). l ++ elems_of (drop (i + 1) ms)) p
    ∙ append_assoc before (e.elem ∷ []) (elems_of (drop (i + 1) ms))
    ∙ ap (λ (l : Items). before ++ elems_of l) (sym d) ∙ h

module _ (s : Side) (q p : Element → Bool) (xs : Items) (r : Ring) (c : IsCircle s q xs r) (i k : ℕ) (e : Element)
    (l : i < r.len) (at : k ≡ first_key (drop i (members q xs)) r.first) (f : found xs k ≡ Some e)
    (rest : key_of p (drop i (members q xs)) ≡ key_of p (members q xs)) where
  further : key_of p (drop i (members q xs)) ≡ cond (p e) (Some k) (key_of p (drop (i + 1) (members q xs)))
  further = key_of-item p (members q xs) i k e (place-item s q xs r c i k e l at f)

  -- a search that finds, and one that goes on
  pub seek-hit : p e ≡ true → Some k ≡ key_of p (members q xs)
  seek-hit h = sym (further ∙ ap (λ (b : Bool). cond b (Some k) (key_of p (drop (i + 1) (members q xs)))) h) ∙ rest

  pub seek-miss : p e ≡ false → key_of p (drop (i + 1) (members q xs)) ≡ key_of p (members q xs)
  seek-miss h = sym (further ∙ ap (λ (b : Bool). cond b (Some k) (key_of p (drop (i + 1) (members q xs)))) h) ∙ rest

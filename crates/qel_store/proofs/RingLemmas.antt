-- Laws of circles: an element more, and one less.
use Rattle.std.proofs.Common.{◌≡◌, ℕ, Bool, true, false, cond, ◌&&◌, [], ◌∷◌, ◌++◌, Some, refl, ap, sym, ◌∙◌, arith}
use Rattle.std.proofs.Common.{eqb}
use Rattle.std.proofs.lemmas.Bool.Decides.{nat_tests}
use Rattle.qel_store.specs.declared.elements.Element.{Element}
use Rattle.qel_store.specs.declared.elements.Link.{Link}
use Rattle.qel_store.specs.declared.elements.Side.{Side}
use Rattle.qel_store.specs.declared.elements.Side.TheVariants.{Queue, Task}
use Rattle.qel_store.specs.Items.{Item, Items, found, has_key, keys_apart, changed, dropped}
use Rattle.qel_store.specs.Rings.{link_of, with_next, with_prev, is_led, chain, ring, tie, tied, has_neighbours}
use Rattle.qel_store.proofs.ItemLemmas.{by_cases, has_key-append, has_key-some, dropped-append, dropped-absent}

-- where an element leads behind a change
next-with_next : (s : Side) (n : ℕ) (e : Element) → (link_of s (with_next s n e)).next ≡ n
next-with_next Queue n e = refl
next-with_next Task n e = refl

next-with_prev : (s : Side) (n : ℕ) (e : Element) → (link_of s (with_prev s n e)).next ≡ (link_of s e).next
next-with_prev Queue n e = refl
next-with_prev Task n e = refl

prev-with_prev : (s : Side) (n : ℕ) (e : Element) → (link_of s (with_prev s n e)).prev ≡ n
prev-with_prev Queue n e = refl
prev-with_prev Task n e = refl

prev-with_next : (s : Side) (n : ℕ) (e : Element) → (link_of s (with_next s n e)).prev ≡ (link_of s e).prev
prev-with_next Queue n e = refl
prev-with_next Task n e = refl

pub key-tie : (s : Side) (at to : Link) (x : Item) → (tie s at to x).0 ≡ x.0
key-tie s at to x = grind arith

next-tie : (s : Side) (at to : Link) (x : Item)
    → (link_of s (tie s at to x).1).next ≡ cond (eqb at.prev x.0) to.next (link_of s x.1).next
next-tie s at to x =
    grind (
      arith,
      next-with_next s to.next x.1,
      next-with_prev s to.prev x.1,
      next-with_prev s to.prev (with_next s to.next x.1),
    )

prev-tie : (s : Side) (at to : Link) (x : Item)
    → (link_of s (tie s at to x).1).prev ≡ cond (eqb at.next x.0) to.prev (link_of s x.1).prev
prev-tie s at to x =
    grind (
      arith,
      prev-with_next s to.next x.1,
      prev-with_prev s to.prev x.1,
      prev-with_prev s to.prev (with_next s to.next x.1),
    )

abbrev led_to : Side → Item → ℕ
led_to s x = (link_of s x.1).next

abbrev led_from : Side → Item → ℕ
led_from s x = (link_of s x.1).prev

-- where the ends of a chain lead
pub prev_in : (s : Side) (a : Item) (xs : Items) (z : Item) → chain s a xs z ≡ true
    → has_key (a ∷ xs) (led_from s z) ≡ true
prev_in s a [] z h = grind (arith, nat_tests, h)
prev_in s a (x ∷ xs) z h = grind (arith, nat_tests, h, prev_in s x xs z)

next_in : (s : Side) (a : Item) (xs : Items) (z : Item) → chain s a xs z ≡ true
    → has_key (xs ++ z ∷ []) (led_to s a) ≡ true
next_in s a [] z h = grind (arith, nat_tests, h)
next_in s a (x ∷ xs) z h = grind (arith, nat_tests, h)

-- and where an element inside does
prev_within : (s : Side) (k : ℕ) (e : Element) (a : Item) (xs : Items) (z : Item) → chain s a xs z ≡ true
    → found xs k ≡ Some e → has_key (a ∷ xs) (link_of s e).prev ≡ true
prev_within s k e a [] z h f = cc
prev_within s k e a (x ∷ xs) z h f = grind (arith, nat_tests, h, f, prev_within s k e x xs z)

next_within : (s : Side) (k : ℕ) (e : Element) (a : Item) (xs : Items) (z : Item) → chain s a xs z ≡ true
    → found xs k ≡ Some e → has_key (xs ++ z ∷ []) (link_of s e).next ≡ true
next_within s k e a [] z h f = cc
next_within s k e a (x ∷ xs) z h f = grind (arith, nat_tests, h, f, next_in s x xs z, next_within s k e x xs z)

-- a chain that a change doesn't touch
is_led-kept : (s : Side) (at to : Link) (a b : Item) → eqb at.prev a.0 ≡ false → eqb at.next b.0 ≡ false
    → is_led s (tie s at to a) (tie s at to b) ≡ is_led s a b
is_led-kept s at to a b p n =
    grind (arith, p, n, key-tie s at to a, key-tie s at to b, next-tie s at to a, prev-tie s at to b)

chain-kept : (s : Side) (at to : Link) (a : Item) (xs : Items) (z : Item) → has_key (a ∷ xs) at.prev ≡ false
    → has_key (xs ++ z ∷ []) at.next ≡ false
    → chain s (tie s at to a) (tied s at to xs) (tie s at to z) ≡ chain s a xs z
chain-kept s at to a [] z p n = grind (arith, p, n, is_led-kept s at to a z)
chain-kept s at to a (x ∷ xs) z p n = grind (arith, p, n, is_led-kept s at to a x, chain-kept s at to x xs z)

-- a chain whose last item comes to lead elsewhere
is_led-turned : (s : Side) (at to : Link) (a w : Item) → at.prev ≡ a.0 → to.next ≡ w.0 → led_from s w ≡ at.prev
    → is_led s (tie s at to a) w ≡ true
is_led-turned s at to a w p n b = grind (arith, nat_tests, p, n, b, key-tie s at to a, next-tie s at to a)

chain-turned : (s : Side) (at to : Link) (a : Item) (xs : Items) (z w : Item) → keys_apart (a ∷ xs) ≡ true
    → has_key xs at.next ≡ false → led_from s z ≡ at.prev → to.next ≡ w.0 → led_from s w ≡ at.prev
    → chain s a xs z ≡ true → chain s (tie s at to a) (tied s at to xs) w ≡ true
chain-turned s at to a [] z w d n f t b h = is_led-turned s at to a w (grind (arith, nat_tests, f, h)) t b
chain-turned s at to a (x ∷ xs) z w d n f t b h =
    grind (arith, nat_tests, d, n, f, h, prev_in s x xs z, is_led-kept s at to a x, chain-turned s at to x xs z w)

-- an element less inside a chain
is_led-joined : (s : Side) (l : Link) (a b : Item) → l.prev ≡ a.0 → l.next ≡ b.0
    → is_led s (tie s l l a) (tie s l l b) ≡ true
is_led-joined s l a b p n =
    grind (arith, nat_tests, p, n, key-tie s l l a, key-tie s l l b, next-tie s l l a, prev-tie s l l b)

chain-first : (s : Side) (e : Element) (a x : Item) (xs : Items) (z : Item) → e ≡ x.1 → keys_apart (a ∷ x ∷ xs) ≡ true
    → has_key (x ∷ xs) z.0 ≡ false → chain s a (x ∷ xs) z ≡ true
    → chain s (tie s (link_of s e) (link_of s e) a) (tied s (link_of s e) (link_of s e) xs)
    (tie s (link_of s e) (link_of s e) z)
    ≡ true
chain-first s e a x [] z i d f h =
    is_led-joined s (link_of s e) a z (grind (arith, nat_tests, i, h)) (grind (arith, nat_tests, i, h))
chain-first s e a x (y ∷ ys) z i d f h =
    let back : (link_of s e).prev ≡ a.0 = grind (arith, nat_tests, i, h) in
    let on : (link_of s e).next ≡ y.0 = grind (arith, nat_tests, i, h) in
    let rest :
    chain s (tie s (link_of s e) (link_of s e) y) (tied s (link_of s e) (link_of s e) ys)
    (tie s (link_of s e) (link_of s e) z)
    ≡ chain s y ys z =
    chain-kept s (link_of s e) (link_of s e) y ys z (grind (arith, nat_tests, d, back))
    (grind (arith, nat_tests, d, f, on, has_key-append ys (z ∷ []) y.0)) in
    grind (arith, h, rest, is_led-joined s (link_of s e) a y back on)

chain-dropped : (s : Side) (k : ℕ) (e : Element) (a : Item) (xs : Items) (z : Item) → found xs k ≡ Some e
    → keys_apart (a ∷ xs) ≡ true → has_key xs z.0 ≡ false → chain s a xs z ≡ true
    → chain s (tie s (link_of s e) (link_of s e) a) (tied s (link_of s e) (link_of s e) (dropped k xs))
    (tie s (link_of s e) (link_of s e) z)
    ≡ true
chain-dropped s k e a [] z i d f h = absurd (cc)
chain-dropped s k e a (x ∷ xs) z i d f h = by_cases (eqb k x.0)
    (λ b. grind (arith, nat_tests, b, i, d, dropped-absent k xs, chain-first s e a x xs z (grind (arith, b, i)) d f h))
    (λ b.
    let inside : found xs k ≡ Some e = grind (arith, b, i) in
    let rest = chain-dropped s k e x xs z inside (grind (arith, d)) (grind (arith, f)) (grind (arith, h)) in
    let back = prev_within s k e x xs z (grind (arith, h)) inside in
    let on = next_within s k e x xs z (grind (arith, h)) inside in
    let led : is_led s (tie s (link_of s e) (link_of s e) a) (tie s (link_of s e) (link_of s e) x) ≡ is_led s a x =
    is_led-kept s (link_of s e) (link_of s e) a x (grind (arith, nat_tests, d, back))
    (grind (arith, nat_tests, d, f, on, has_key-append xs (z ∷ []) x.0)) in
    grind (arith, b, h, rest, led))

-- a circle without an element
pub ring-dropped : (s : Side) (k : ℕ) (e : Element) (ms : Items) → keys_apart ms ≡ true → found ms k ≡ Some e
    → ring s ms ≡ true → ring s (tied s (link_of s e) (link_of s e) (dropped k ms)) ≡ true
ring-dropped s k e [] d f h = refl
ring-dropped s k e (x ∷ xs) d f h = by_key (eqb k x.0) refl
  where
    first : (ys : Items) → ys ≡ xs → e ≡ x.1 → ring s (tied s (link_of s e) (link_of s e) ys) ≡ true
    first [] same i = refl
    first (y ∷ ys) same i =
        let all : chain s x (y ∷ ys) x ≡ true = grind (arith, same, h) in
        let on : (link_of s e).next ≡ y.0 = grind (arith, nat_tests, i, all) in
        let d2 : keys_apart (y ∷ ys) ≡ true = grind (arith, same, d) in
        chain-turned s (link_of s e) (link_of s e) y ys x (tie s (link_of s e) (link_of s e) y) d2
        (grind (arith, on, d2)) (grind (arith, i)) (grind (arith, on, key-tie s (link_of s e) (link_of s e) y))
        (grind (arith, nat_tests, on, prev-tie s (link_of s e) (link_of s e) y)) (grind (arith, all))

    by_key : (b : Bool) → eqb k x.0 ≡ b → ring s (tied s (link_of s e) (link_of s e) (dropped k (x ∷ xs))) ≡ true
    by_key true b = grind (arith, nat_tests, b, d, dropped-absent k xs, first xs refl (grind (arith, b, f)))
    by_key false b = grind (arith, b, chain-dropped s k e x xs x (grind (arith, b, f)) d (grind (arith, d)) h)

-- where an element of a circle leads
pub neighbours_in : (s : Side) (k : ℕ) (e : Element) (ms : Items) → found ms k ≡ Some e → ring s ms ≡ true
    → (has_key ms (link_of s e).next ≡ true) × (has_key ms (link_of s e).prev ≡ true)
neighbours_in s k e [] f h = absurd (cc)
neighbours_in s k e (x ∷ xs) f h = by_key (eqb k x.0) refl
  where
    turned : (j : ℕ) → has_key (xs ++ x ∷ []) j ≡ true → has_key (x ∷ xs) j ≡ true
    turned j g = grind (arith, nat_tests, g, has_key-append xs (x ∷ []) j)

    by_key : (b : Bool) → eqb k x.0 ≡ b
        → (has_key (x ∷ xs) (link_of s e).next ≡ true) × (has_key (x ∷ xs) (link_of s e).prev ≡ true)
    by_key true b =
        let same : x.1 ≡ e = some_same (grind (arith, b, f)) in (
          turned (link_of s e).next
              (ap (λ (u : Element). has_key (xs ++ x ∷ []) (link_of s u).next) (sym same) ∙ next_in s x xs x h),
          ap (λ (u : Element). has_key (x ∷ xs) (link_of s u).prev) (sym same) ∙ prev_in s x xs x h,
        )
      where
        some_same : Some x.1 ≡ Some e → x.1 ≡ e
        some_same i = cc
    by_key false b =
        let inside : found xs k ≡ Some e = grind (arith, b, f) in (
          turned (link_of s e).next (next_within s k e x xs x h inside),
          prev_within s k e x xs x h inside,
        )

within_prev : (s : Side) (k : ℕ) (e : Element) (a : Item) (xs : Items) (z : Item) → chain s a xs z ≡ true
    → found xs k ≡ Some e → keys_apart (a ∷ xs) ≡ true → has_key (dropped k (a ∷ xs)) (link_of s e).prev ≡ true
within_prev s k e a [] z h f d = absurd (cc)
within_prev s k e a (x ∷ xs) z h f d =
    let apart : eqb k a.0 ≡ false = grind (arith, nat_tests, f, d, has_key-some (x ∷ xs) k e) in
    by_cases (eqb k x.0)
    (λ b. grind (arith, nat_tests, b, f, h, apart))
    (λ b.
    let inside : found xs k ≡ Some e = grind (arith, b, f) in
    let rest = within_prev s k e x xs z (grind (arith, h)) inside (grind (arith, d)) in
    grind (arith, nat_tests, b, apart, rest))

within_next : (s : Side) (k : ℕ) (e : Element) (a : Item) (xs : Items) (z : Item) → chain s a xs z ≡ true
    → found xs k ≡ Some e → keys_apart (a ∷ xs) ≡ true → has_key xs z.0 ≡ false
    → has_key (dropped k (xs ++ z ∷ [])) (link_of s e).next ≡ true
within_next s k e a [] z h f d n = absurd (cc)
within_next s k e a (x ∷ xs) z h f d n = by_cases (eqb k x.0)
    (λ b.
    let absent : has_key (xs ++ z ∷ []) k ≡ false = grind (arith, nat_tests, b, d, n, has_key-append xs (z ∷ []) k) in
    let on = next_in s x xs z (grind (arith, h)) in
    grind (arith, nat_tests, b, f, on, dropped-absent k (xs ++ z ∷ [])))
    (λ b.
    let inside : found xs k ≡ Some e = grind (arith, b, f) in
    let rest = within_next s k e x xs z (grind (arith, h)) inside (grind (arith, d)) (grind (arith, n)) in
    grind (arith, nat_tests, b, rest))

-- to itself alone, or to others
pub ring-neighbours : (s : Side) (k : ℕ) (e : Element) (ms : Items) → keys_apart ms ≡ true → found ms k ≡ Some e
    → ring s ms ≡ true → has_neighbours (dropped k ms) k (link_of s e) ≡ true
ring-neighbours s k e [] d f h = absurd (cc)
ring-neighbours s k e (x ∷ []) d f h = grind (arith, nat_tests, f, h)
ring-neighbours s k e (x ∷ (y ∷ ys)) d f h = by_key (eqb k x.0) refl
  where
    by_key : (b : Bool) → eqb k x.0 ≡ b → has_neighbours (dropped k (x ∷ (y ∷ ys))) k (link_of s e) ≡ true
    by_key true b = grind (arith, nat_tests, b, d, f, h, dropped-absent k (y ∷ ys), prev_in s y ys x)
    by_key false b =
        let inside : found (y ∷ ys) k ≡ Some e = grind (arith, b, f) in
        let back = within_prev s k e x (y ∷ ys) x h inside d in
        let on = within_next s k e x (y ∷ ys) x h inside d (grind (arith, d)) in
        let split : dropped k ((y ∷ ys) ++ x ∷ []) ≡ dropped k (y ∷ ys) ++ dropped k (x ∷ []) =
        dropped-append k (y ∷ ys) (x ∷ []) in
        let on2 : has_key (dropped k (y ∷ ys) ++ dropped k (x ∷ [])) (link_of s e).next ≡ true =
        ap (λ (l : Items). has_key l (link_of s e).next) (sym split) ∙ on in
        grind (
          arith,
          nat_tests,
          b,
          back,
          on2,
          has_key-append (dropped k (y ∷ ys)) (dropped k (x ∷ [])) (link_of s e).next,
        )

-- a circle with an element more
chain-append : (s : Side) (a : Item) (xs : Items) (y z : Item)
    → chain s a (xs ++ y ∷ []) z ≡ (chain s a xs y && is_led s y z)
chain-append s a [] y z = refl
chain-append s a (x ∷ xs) y z = grind (arith, chain-append s x xs y z)

abbrev pub is_last_link : Side → Items → ℕ → Link → Bool
is_last_link s [] k l = eqb l.next k && eqb l.prev k
is_last_link s (x ∷ xs) k l = eqb l.next x.0 && eqb l.prev (link_of s x.1).prev

pub ring-push : (s : Side) (k : ℕ) (e : Element) (to : Link) (ms : Items) → keys_apart ms ≡ true → to.next ≡ k
    → to.prev ≡ k → is_last_link s ms k (link_of s e) ≡ true → ring s ms ≡ true
    → ring s (tied s (link_of s e) to ms ++ (k, e) ∷ []) ≡ true
ring-push s k e to [] d a b l h = grind (arith, nat_tests, l)
ring-push s k e to (x ∷ xs) d a b l h =
    let on : (link_of s e).next ≡ x.0 = grind (arith, nat_tests, l) in
    let back : (link_of s e).prev ≡ led_from s x = grind (arith, nat_tests, l) in
    let turned = chain-turned s (link_of s e) to x xs x (k, e) d (grind (arith, on, d)) (sym back) a refl h in
    chain-append s (tie s (link_of s e) to x) (tied s (link_of s e) to xs) (k, e) (tie s (link_of s e) to x)
    ∙ grind (arith, nat_tests, turned, on, b, key-tie s (link_of s e) to x, prev-tie s (link_of s e) to x)

-- changes on the other list
pub ring-other_queue : (at to : Link) (ms : Items) → ring Queue (tied Task at to ms) ≡ ring Queue ms
ring-other_queue at to [] = refl
ring-other_queue at to (x ∷ xs) = over x xs x
  where
    led : (a b : Item) → is_led Queue (tie Task at to a) (tie Task at to b) ≡ is_led Queue a b
    led a b = grind arith

    over : (a : Item) (ys : Items) (z : Item)
        → chain Queue (tie Task at to a) (tied Task at to ys) (tie Task at to z) ≡ chain Queue a ys z
    over a [] z = led a z
    over a (y ∷ ys) z = grind (arith, led a y, over y ys z)

pub ring-other_task : (at to : Link) (ms : Items) → ring Task (tied Queue at to ms) ≡ ring Task ms
ring-other_task at to [] = refl
ring-other_task at to (x ∷ xs) = over x xs x
  where
    led : (a b : Item) → is_led Task (tie Queue at to a) (tie Queue at to b) ≡ is_led Task a b
    led a b = grind arith

    over : (a : Item) (ys : Items) (z : Item)
        → chain Task (tie Queue at to a) (tied Queue at to ys) (tie Queue at to z) ≡ chain Task a ys z
    over a [] z = led a z
    over a (y ∷ ys) z = grind (arith, led a y, over y ys z)

-- the neighbours of an element that isn't there
tie-absent : (s : Side) (at to : Link) (x : Item) → eqb at.next x.0 ≡ false → eqb at.prev x.0 ≡ false
    → tie s at to x ≡ x
tie-absent s at to x n p = grind (arith, n, p)

pub tied-absent : (s : Side) (at to : Link) (xs : Items) → has_key xs at.next ≡ false → has_key xs at.prev ≡ false
    → tied s at to xs ≡ xs
tied-absent s at to [] n p = refl
tied-absent s at to (x ∷ xs) n p = grind (arith, n, p, tie-absent s at to x, tied-absent s at to xs)

pub tied-changes : (s : Side) (at to : Link) (xs : Items)
    → changed at.next (with_prev s to.prev) (changed at.prev (with_next s to.next) xs) ≡ tied s at to xs
tied-changes s at to [] = refl
tied-changes s at to (x ∷ xs) = ap (λ (l : Items). tie s at to x ∷ l) (tied-changes s at to xs)

pub tied_others : (xs : Items) (k : ℕ) (at : Link) → has_neighbours xs k at ≡ true → (at.next ≡ k → ⊥)
    → (has_key xs at.prev ≡ true) × (has_key xs at.next ≡ true)
tied_others xs k at h n = by_cases (eqb at.next k)
    (λ b. absurd (n (grind (arith, nat_tests, b))))
    (λ b. (grind (arith, b, h), grind (arith, b, h)))

pub tied_alone : (s : Side) (xs : Items) (k : ℕ) (at to : Link) → has_key xs k ≡ false → has_neighbours xs k at ≡ true
    → at.next ≡ k → xs ≡ tied s at to xs
tied_alone s xs k at to a h n =
    let back : has_key xs at.prev ≡ false = grind (arith, nat_tests, a, h, n) in
    sym (tied-absent s at to xs (ap (has_key xs) n ∙ a) back)

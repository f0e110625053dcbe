-- Items whose links are tied anew, and the circles and counts of those that are left.
use Rattle.std.proofs.Common.{◌≡◌, ◌<◌, ◌≤◌, ◌+◌, ℕ, suc, Bool, true, false, cond, ◌&&◌, ◌||◌, List, [], ◌∷◌, ◌++◌}
use Rattle.std.proofs.Common.{length, map, Option, Some, None, is_some, refl, ap, sym, ◌∙◌, arith, eqb, nat_eq}
use Rattle.std.proofs.lemmas.Bool.Decides.{nat_tests}
use Rattle.grs_base.specs.Lists.{is_apart, has_task}
use Rattle.grs_base.specs.State.{list_at, queued_by}
use Rattle.grs_base.specs.declared.resource.TaskId.{TaskId}
use Rattle.grs_base.proofs.SameLaws.{same_task-exact, same_task-itself}
use Rattle.qel_store.specs.declared.elements.Element.{Element}
use Rattle.qel_store.specs.declared.elements.Link.{Link}
use Rattle.qel_store.specs.declared.elements.Side.{Side}
use Rattle.qel_store.specs.declared.elements.Side.TheVariants.{Queue, Task}
use Rattle.qel_store.specs.declared.heads.Head.{Head}
use Rattle.qel_store.specs.declared.rings.Ring.{Ring}
use Rattle.qel_store.specs.Items.{Item, Items, found, has_key, keys_apart, dropped, members, is_in, is_of}
use Rattle.qel_store.specs.Items.{all_pass, elems_of, count_exclusive, held_of}
use Rattle.qel_store.specs.Rings.{link_of, is_led, chain, ring, leads, tie, tied, ring_with, ring_without}
use Rattle.qel_store.specs.Rings.{has_neighbours, IsLastLink}
use Rattle.qel_store.specs.Heads.{head_at, exclusive_one}
use Rattle.qel_store.specs.Tasks.{TaskRings}
use Rattle.qel_store.specs.Linked.{QueuesLinked, AllLinked, is_live_in, unqueued}
use Rattle.qel_store.proofs.ItemLemmas.{pass, found-members, has_key-found, has_key-some, has_key-none}
use Rattle.qel_store.proofs.ItemLemmas.{has_key-members, keys_apart-members, has_key-dropped_itself}
use Rattle.qel_store.proofs.ItemLemmas.{members-dropped}
use Rattle.qel_store.proofs.ItemLemmas.{dropped-absent, length-dropped}
use Rattle.qel_store.proofs.RingLemmas.{tied-absent, ring-dropped, ring-push, is_last_link, prev_in, key-tie}
use Rattle.qel_store.proofs.RingLemmas.{neighbours_in, ring-neighbours}
use Rattle.qel_store.proofs.HeadLemmas.{live_there}
use Rattle.qel_store.proofs.WalkLemmas.{found-member}

-- what is held, by queue and by task
pub list_at-held : (xs : Items) (q : ℕ) → list_at nat_eq (held_of xs) q ≡ elems_of (members (is_in q) xs)
list_at-held [] q = refl
list_at-held (x ∷ xs) q = grind (arith, list_at-held xs q)

pub queued_by-held : (xs : Items) (t : TaskId) → queued_by (held_of xs) t ≡ map (λ x. x.1.queue) (members (is_of t) xs)
queued_by-held [] t = refl
queued_by-held (x ∷ xs) t = grind (arith, queued_by-held xs t)

-- what a change of links leaves
queue-tie : (s : Side) (at to : Link) (x : Item) → (tie s at to x).1.queue ≡ x.1.queue
queue-tie Queue at to x = grind arith
queue-tie Task at to x = grind arith

elem-tie : (s : Side) (at to : Link) (x : Item) → (tie s at to x).1.elem ≡ x.1.elem
elem-tie Queue at to x = grind arith
elem-tie Task at to x = grind arith

pub elems_of-tied : (s : Side) (at to : Link) (xs : Items) → elems_of (tied s at to xs) ≡ elems_of xs
elems_of-tied s at to [] = refl
elems_of-tied s at to (x ∷ xs) = grind (arith, elem-tie s at to x, elems_of-tied s at to xs)

pub held_of-tied : (s : Side) (at to : Link) (xs : Items) → held_of (tied s at to xs) ≡ held_of xs
held_of-tied s at to [] = refl
held_of-tied s at to (x ∷ xs) = grind (arith, elem-tie s at to x, queue-tie s at to x, held_of-tied s at to xs)

pub count_exclusive-tied : (s : Side) (at to : Link) (xs : Items) → count_exclusive (tied s at to xs) ≡ count_exclusive xs
count_exclusive-tied s at to [] = refl
count_exclusive-tied s at to (x ∷ xs) = grind (arith, elem-tie s at to x, count_exclusive-tied s at to xs)

pub live-tied : (hs : List Head) (s : Side) (at to : Link) (xs : Items)
    → all_pass (is_live_in hs) (tied s at to xs) ≡ all_pass (is_live_in hs) xs
live-tied hs s at to [] = refl
live-tied hs s at to (x ∷ xs) = grind (arith, queue-tie s at to x, live-tied hs s at to xs)

pub in-tied : (q : ℕ) (s : Side) (at to : Link) (xs : Items)
    → members (is_in q) (tied s at to xs) ≡ tied s at to (members (is_in q) xs)
in-tied q s at to [] = refl
in-tied q s at to (x ∷ xs) = grind (arith, queue-tie s at to x, in-tied q s at to xs)

pub of-tied : (t : TaskId) (s : Side) (at to : Link) (xs : Items)
    → members (is_of t) (tied s at to xs) ≡ tied s at to (members (is_of t) xs)
of-tied t s at to [] = refl
of-tied t s at to (x ∷ xs) = grind (arith, elem-tie s at to x, of-tied t s at to xs)

pub has_key-tied : (s : Side) (at to : Link) (xs : Items) (k : ℕ) → has_key (tied s at to xs) k ≡ has_key xs k
has_key-tied s at to [] k = refl
has_key-tied s at to (x ∷ xs) k = grind (arith, key-tie s at to x, has_key-tied s at to xs k)

pub keys_apart-tied : (s : Side) (at to : Link) (xs : Items) → keys_apart (tied s at to xs) ≡ keys_apart xs
keys_apart-tied s at to [] = refl
keys_apart-tied s at to (x ∷ xs) =
    grind (arith, key-tie s at to x, keys_apart-tied s at to xs, has_key-tied s at to xs x.0)

pub length-tied : (s : Side) (at to : Link) (xs : Items) → length (tied s at to xs) ≡ length xs
length-tied s at to [] = refl
length-tied s at to (x ∷ xs) = grind (arith, length-tied s at to xs)

pub leads-tied : (r : Ring) (s : Side) (at to : Link) (xs : Items) → leads r (tied s at to xs) ≡ leads r xs
leads-tied r s at to [] = refl
leads-tied r s at to (x ∷ xs) = grind (arith, key-tie s at to x, length-tied s at to xs)

-- the two lists of an element change apart
tie-commutes : (a b c d : Link) (x : Item) → tie Task a b (tie Queue c d x) ≡ tie Queue c d (tie Task a b x)
tie-commutes a b c d x = grind arith

pub tied-commutes : (a b c d : Link) (xs : Items) → tied Task a b (tied Queue c d xs) ≡ tied Queue c d (tied Task a b xs)
tied-commutes a b c d [] = refl
tied-commutes a b c d (x ∷ xs) = grind (arith, tie-commutes a b c d x, tied-commutes a b c d xs)

-- whether two lists have the same keys and lead the same way
abbrev pub same_links : Side → Items → Items → Bool
same_links s [] [] = true
same_links s [] (y ∷ ys) = false
same_links s (x ∷ xs) [] = false
same_links s (x ∷ xs) (y ∷ ys) =
    (eqb x.0 y.0 && (eqb (link_of s x.1).next (link_of s y.1).next && eqb (link_of s x.1).prev (link_of s y.1).prev))
    && same_links s xs ys

abbrev same_item : Side → Item → Item → Bool
same_item s x y =
    eqb x.0 y.0 && (eqb (link_of s x.1).next (link_of s y.1).next && eqb (link_of s x.1).prev (link_of s y.1).prev)

same_item-itself : (s : Side) (x : Item) → same_item s x x ≡ true
same_item-itself s x = grind (arith, nat_tests)

same_links-itself : (s : Side) (xs : Items) → same_links s xs xs ≡ true
same_links-itself s [] = refl
same_links-itself s (x ∷ xs) = grind (arith, same_item-itself s x, same_links-itself s xs)

pub same_links-append : (s : Side) (xs ys zs : Items) → same_links s xs ys ≡ true
    → same_links s (xs ++ zs) (ys ++ zs) ≡ true
same_links-append s [] [] zs h = same_links-itself s zs
same_links-append s [] (y ∷ ys) zs h = absurd (cc)
same_links-append s (x ∷ xs) [] zs h = absurd (cc)
same_links-append s (x ∷ xs) (y ∷ ys) zs h = grind (arith, h, same_links-append s xs ys zs)

pub same_queue-tied : (at to : Link) (xs : Items) → same_links Queue (tied Task at to xs) xs ≡ true
same_queue-tied at to [] = refl
same_queue-tied at to (x ∷ xs) = grind (arith, nat_tests, same_queue-tied at to xs)

pub same_task-tied : (at to : Link) (xs : Items) → same_links Task (tied Queue at to xs) xs ≡ true
same_task-tied at to [] = refl
same_task-tied at to (x ∷ xs) = grind (arith, nat_tests, same_task-tied at to xs)

is_led-same : (s : Side) (a b c d : Item) → same_item s a c ≡ true → same_item s b d ≡ true
    → is_led s a b ≡ is_led s c d
is_led-same s a b c d h k = grind (arith, nat_tests, h, k)

chain-same : (s : Side) (a : Item) (xs : Items) (z : Item) (b : Item) (ys : Items) (w : Item) → same_item s a b ≡ true
    → same_links s xs ys ≡ true → same_item s z w ≡ true → chain s a xs z ≡ chain s b ys w
chain-same s a [] z b [] w h k l = is_led-same s a z b w h l
chain-same s a [] z b (y ∷ ys) w h k l = absurd (cc)
chain-same s a (x ∷ xs) z b [] w h k l = absurd (cc)
chain-same s a (x ∷ xs) z b (y ∷ ys) w h k l = grind (arith, k, is_led-same s a x b y h, chain-same s x xs z y ys w)

pub ring-same : (s : Side) (xs ys : Items) → same_links s xs ys ≡ true → ring s xs ≡ ring s ys
ring-same s [] [] h = refl
ring-same s [] (y ∷ ys) h = absurd (cc)
ring-same s (x ∷ xs) [] h = absurd (cc)
ring-same s (x ∷ xs) (y ∷ ys) h = grind (arith, h, chain-same s x xs x y ys y)

-- members of one kind are none of another
disjoint : (p q : Element → Bool) (xs : Items) (k : ℕ) → keys_apart xs ≡ true
    → ((u : Element) → p u ≡ true → q u ≡ false) → has_key (members p xs) k ≡ true → has_key (members q xs) k ≡ false
disjoint p q xs k a d h =
    has_key-found (members q xs) k
    ∙ ap is_some (found-members q xs k a)
    ∙ by_found (found xs k) (sym (ap is_some (found-members p xs k a)) ∙ sym (has_key-found (members p xs) k) ∙ h)
  where
    by_found : (o : Option Element) → is_some (pass p o) ≡ true → is_some (pass q o) ≡ false
    by_found None g = refl
    by_found (Some u) g = grind (arith, g, d u)

-- a circle behind a take, and its head
module _ (s : Side) (p own : Element → Bool) (xs : Items) (k : ℕ) (e : Element) (a : keys_apart xs ≡ true)
    (f : found xs k ≡ Some e) (o : own e ≡ true) (c : ring s (members own xs) ≡ true)
    (d : p e ≡ false → (u : Element) → own u ≡ true → p u ≡ false) where
  own_found : found (members own xs) k ≡ Some e
  own_found = found-members own xs k a ∙ grind (arith, f, o)

  pub ring-taken : ring s (members p xs) ≡ true
      → ring s (tied s (link_of s e) (link_of s e) (dropped k (members p xs))) ≡ true
  ring-taken r = by_pass (p e) refl
    where
      by_pass : (b : Bool) → p e ≡ b → ring s (tied s (link_of s e) (link_of s e) (dropped k (members p xs))) ≡ true
      by_pass true b =
          ring-dropped s k e (members p xs) (keys_apart-members p xs a) (found-members p xs k a ∙ grind (arith, f, b)) r
      by_pass false b =
          let near = neighbours_in s k e (members own xs) own_found c in
          let absent : has_key (members p xs) k ≡ false =
          has_key-none (members p xs) k (found-members p xs k a ∙ grind (arith, f, b)) in
          let next : has_key (members p xs) (link_of s e).next ≡ false =
          disjoint own p xs (link_of s e).next a (d b) near.0 in
          let prev : has_key (members p xs) (link_of s e).prev ≡ false =
          disjoint own p xs (link_of s e).prev a (d b) near.1 in
          ap (λ (l : Items). ring s (tied s (link_of s e) (link_of s e) l)) (dropped-absent k (members p xs) absent)
          ∙ ap (ring s) (tied-absent s (link_of s e) (link_of s e) (members p xs) next prev) ∙ r

  pub neighbours_taken : has_neighbours (dropped k xs) k (link_of s e) ≡ true
  neighbours_taken = lift (ring-neighbours s k e (members own xs) (keys_apart-members own xs a) own_found c)
    where
      lift_key : (j : ℕ) → has_key (dropped k (members own xs)) j ≡ true → has_key (dropped k xs) j ≡ true
      lift_key j h = by_has (has_key (dropped k xs) j) refl
        where
          by_has : (b : Bool) → has_key (dropped k xs) j ≡ b → b ≡ true
          by_has true g = refl
          by_has false g =
              sym (has_key-members own (dropped k xs) j g)
              ∙ ap (λ (l : Items). has_key l j) (members-dropped own k xs)
              ∙ h

      lift : has_neighbours (dropped k (members own xs)) k (link_of s e) ≡ true
          → has_neighbours (dropped k xs) k (link_of s e) ≡ true
      lift h = grind (arith, h, lift_key (link_of s e).prev, lift_key (link_of s e).next)

leads-dropped : (s : Side) (r : Ring) (k : ℕ) (e : Element) (ms : Items) → keys_apart ms ≡ true → found ms k ≡ Some e
    → ring s ms ≡ true → leads r ms ≡ true → leads (ring_without r k (link_of s e).next) (dropped k ms) ≡ true
leads-dropped s r k e [] a f c l = absurd (cc)
leads-dropped s r k e (x ∷ []) a f c l = by_key (eqb k x.0) refl
  where
    by_key : (b : Bool) → eqb k x.0 ≡ b → leads (ring_without r k (link_of s e).next) (dropped k (x ∷ [])) ≡ true
    by_key true b = grind (arith, nat_tests, b, l)
    by_key false b = absurd (grind (arith, b, f))
leads-dropped s r k e (x ∷ (y ∷ ys)) a f c l = by_key (eqb k x.0) refl
  where
    by_key : (b : Bool) → eqb k x.0 ≡ b → leads (ring_without r k (link_of s e).next) (dropped k (x ∷ (y ∷ ys))) ≡ true
    by_key true b = grind (arith, nat_tests, a, b, f, c, l, dropped-absent k (y ∷ ys))
    by_key false b = grind (arith, nat_tests, a, b, f, c, l, length-dropped k (y ∷ ys), has_key-some (y ∷ ys) k e)

pub leads-taken : (s : Side) (p : Element → Bool) (r : Ring) (xs : Items) (k : ℕ) (e : Element) → keys_apart xs ≡ true
    → found xs k ≡ Some e → ring s (members p xs) ≡ true → leads r (members p xs) ≡ true
    → leads (cond (p e) (ring_without r k (link_of s e).next) r) (dropped k (members p xs)) ≡ true
leads-taken s p r xs k e a f c l = by_pass (p e) refl
  where
    by_pass : (b : Bool) → p e ≡ b
        → leads (cond b (ring_without r k (link_of s e).next) r) (dropped k (members p xs)) ≡ true
    by_pass true b =
        leads-dropped s r k e (members p xs) (keys_apart-members p xs a) (found-members p xs k a ∙ grind (arith, f, b))
        c l
    by_pass false b =
        ap (leads r) (dropped-absent k (members p xs)
        (has_key-none (members p xs) k (found-members p xs k a ∙ grind (arith, f, b))))
        ∙ l

-- a circle behind a push, and its head
last_link_of : (s : Side) (p : Element → Bool) (xs : Items) (r : Ring) (k : ℕ) (l : Link) → keys_apart xs ≡ true
    → leads r (members p xs) ≡ true → IsLastLink s xs r k l → is_last_link s (members p xs) k l ≡ true
last_link_of s p xs r k l a d i = by_members (members p xs) refl
  where
    alone : leads r [] ≡ true → is_last_link s [] k l ≡ true
    alone h = let here = i.alone (grind (arith, nat_tests, h)) in grind (arith, nat_tests, here)

    first_is : (x : Item) (ms : Items) → x ∷ ms ≡ members p xs → found xs x.0 ≡ Some x.1
    first_is x ms e =
        sym (found-member p xs x.0 a (ap (λ (l2 : Items). has_key l2 x.0) (sym e) ∙ grind (arith, nat_tests)))
        ∙ ap (λ (l2 : Items). found l2 x.0) (sym e)
        ∙ grind (arith, nat_tests)

    by_members : (ms : Items) → ms ≡ members p xs → is_last_link s ms k l ≡ true
    by_members [] e = alone (ap (leads r) e ∙ d)
    by_members (x ∷ ms) e =
        let led : leads r (x ∷ ms) ≡ true = ap (leads r) e ∙ d in
        let first : r.first ≡ x.0 = grind (arith, nat_tests, led) in
        let some : 0 < r.len = grind (arith, nat_tests, led) in
        let here = i.behind x.1 some (ap (found xs) first ∙ first_is x ms e) in
        grind (arith, nat_tests, here, first)

neighbours_last : (s : Side) (ms : Items) (k : ℕ) (l : Link) → ring s ms ≡ true → is_last_link s ms k l ≡ true
    → has_neighbours ms k l ≡ true
neighbours_last s [] k l c h = grind (arith, h)
neighbours_last s (x ∷ xs) k l c h = grind (arith, nat_tests, h, prev_in s x xs x c)

module _ (s : Side) (p own : Element → Bool) (xs : Items) (r : Ring) (k : ℕ) (e : Element) (to : Link)
    (a : keys_apart xs ≡ true) (n : has_key xs k ≡ false) (o : own e ≡ true) (c : ring s (members own xs) ≡ true)
    (led : leads r (members own xs) ≡ true) (i : IsLastLink s xs r k (link_of s e)) (next : to.next ≡ k)
    (prev : to.prev ≡ k) where
  near_pushed : has_neighbours (members own xs) k (link_of s e) ≡ true
  near_pushed = neighbours_last s (members own xs) k (link_of s e) c (last_link_of s own xs r k (link_of s e) a led i)

  pub neighbours_pushed : has_neighbours xs k (link_of s e) ≡ true
  neighbours_pushed = grind (arith, near_pushed, lift_key (link_of s e).prev, lift_key (link_of s e).next)
    where
      lift_key : (j : ℕ) → has_key (members own xs) j ≡ true → has_key xs j ≡ true
      lift_key j h = by_has (has_key xs j) refl
        where
          by_has : (b : Bool) → has_key xs j ≡ b → b ≡ true
          by_has true g = refl
          by_has false g = sym (has_key-members own xs j g) ∙ h

  -- the circle to which it belongs
  pub ring-pushed_own : ring s (tied s (link_of s e) to (members own xs) ++ (k, e) ∷ []) ≡ true
  ring-pushed_own =
      ring-push s k e to (members own xs) (keys_apart-members own xs a) next prev
      (last_link_of s own xs r k (link_of s e) a led i) c

  -- any other
  pub ring-pushed_other : ((u : Element) → own u ≡ true → p u ≡ false) → ring s (members p xs) ≡ true
      → ring s (tied s (link_of s e) to (members p xs)) ≡ true
  ring-pushed_other d h =
      ap (ring s) (tied-absent s (link_of s e) to (members p xs)
      (away (link_of s e).next (grind (arith, nat_tests, near_pushed)))
      (away (link_of s e).prev (grind (arith, nat_tests, near_pushed))))
      ∙ h
    where
      away : (j : ℕ) → (eqb j k || has_key (members own xs) j) ≡ true → has_key (members p xs) j ≡ false
      away j g = by_key (eqb j k) refl
        where
          same : eqb j k ≡ true → j ≡ k
          same m = grind (arith, nat_tests, m)

          by_key : (b : Bool) → eqb j k ≡ b → has_key (members p xs) j ≡ false
          by_key true m = ap (has_key (members p xs)) (same m) ∙ has_key-members p xs k n
          by_key false m = disjoint own p xs j a d (grind (arith, g, m))

pub leads-push : (r : Ring) (k : ℕ) (e : Element) (ms : Items) → leads r ms ≡ true
    → leads (ring_with r k) (ms ++ (k, e) ∷ []) ≡ true
leads-push r k e [] h = grind (arith, nat_tests, h)
leads-push r k e (x ∷ xs) h = grind (arith, nat_tests, h, length_more xs)
  where
    length_more : (ys : Items) → length (ys ++ (k, e) ∷ []) ≡ suc (length ys)
    length_more [] = refl
    length_more (y ∷ ys) = grind (arith, length_more ys)

-- counts and tasks of lists with one more or less
pub count_exclusive-append : (xs ys : Items) → count_exclusive (xs ++ ys) ≡ count_exclusive xs + count_exclusive ys
count_exclusive-append [] ys = omega arith
count_exclusive-append (x ∷ xs) ys = grind (arith, count_exclusive-append xs ys)

pub elems_of-append : (xs ys : Items) → elems_of (xs ++ ys) ≡ elems_of xs ++ elems_of ys
elems_of-append [] ys = refl
elems_of-append (x ∷ xs) ys = grind (arith, elems_of-append xs ys)

pub held_of-append : (xs ys : Items) → held_of (xs ++ ys) ≡ held_of xs ++ held_of ys
held_of-append [] ys = refl
held_of-append (x ∷ xs) ys = grind (arith, held_of-append xs ys)

pub all_pass-append : (p : Element → Bool) (xs ys : Items) → all_pass p (xs ++ ys) ≡ (all_pass p xs && all_pass p ys)
all_pass-append p [] ys = refl
all_pass-append p (x ∷ xs) ys = grind (arith, all_pass-append p xs ys)

pub all_pass-dropped : (p : Element → Bool) (k : ℕ) (xs : Items) → all_pass p xs ≡ true → all_pass p (dropped k xs) ≡ true
all_pass-dropped p k [] h = refl
all_pass-dropped p k (x ∷ xs) h = grind (arith, h, all_pass-dropped p k xs)

pub all_pass-same : (p q : Element → Bool) → ((u : Element) → p u ≡ q u) → (xs : Items) → all_pass p xs ≡ all_pass q xs
all_pass-same p q same [] = refl
all_pass-same p q same (x ∷ xs) = grind (arith, same x.1, all_pass-same p q same xs)

pub all_pass-found : (p : Element → Bool) (xs : Items) (k : ℕ) (e : Element) → all_pass p xs ≡ true
    → found xs k ≡ Some e → p e ≡ true
all_pass-found p [] k e h f = cc
all_pass-found p (x ∷ xs) k e h f = grind (arith, h, f, all_pass-found p xs k e)

pub count_exclusive-dropped : (k : ℕ) (e : Element) (ms : Items) → keys_apart ms ≡ true → found ms k ≡ Some e
    → count_exclusive (dropped k ms) + exclusive_one e.elem.ctl ≡ count_exclusive ms
count_exclusive-dropped k e [] a f = absurd (cc)
count_exclusive-dropped k e (x ∷ xs) a f =
    grind (arith, nat_tests, a, f, count_exclusive-dropped k e xs, dropped-absent k xs)

has_task-dropped : (k : ℕ) (xs : Items) (t : TaskId) → has_task (elems_of xs) t ≡ false
    → has_task (elems_of (dropped k xs)) t ≡ false
has_task-dropped k [] t h = refl
has_task-dropped k (x ∷ xs) t h = grind (arith, h, has_task-dropped k xs t)

pub is_apart-dropped : (k : ℕ) (xs : Items) → is_apart (elems_of xs) ≡ true → is_apart (elems_of (dropped k xs)) ≡ true
is_apart-dropped k [] h = refl
is_apart-dropped k (x ∷ xs) h = grind (arith, h, is_apart-dropped k xs, has_task-dropped k xs x.1.elem.task)

pub count_exclusive-le : (xs : Items) → count_exclusive xs ≤ length xs
count_exclusive-le [] = omega arith
count_exclusive-le (x ∷ xs) = grind (arith, count_exclusive-le xs)

pub length-members : (p : Element → Bool) (xs : Items) → length (members p xs) ≤ length xs
length-members p [] = omega arith
length-members p (x ∷ xs) = grind (arith, length-members p xs)

-- elements of one queue, or task, are of no other
pub queues_disjoint : (q : ℕ) (e : Element) → is_in q e ≡ false → (u : Element) → is_in e.queue u ≡ true → is_in q u ≡ false
queues_disjoint q e h u g = grind (arith, nat_tests, h, g)

pub tasks_disjoint : (t : TaskId) (e : Element) → is_of t e ≡ false → (u : Element) → is_of e.elem.task u ≡ true
    → is_of t u ≡ false
tasks_disjoint t e h u g = grind (arith, h, same_task-exact e.elem.task u.elem.task g)

pub in_itself : (e : Element) → is_in e.queue e ≡ true
in_itself e = grind (arith, nat_tests)

pub of_itself : (e : Element) → is_of e.elem.task e ≡ true
of_itself e = same_task-itself e.elem.task

-- a queue that has an element is there, and its head counts it
pub queue_there : (xs : Items) (hs : List Head) (k : ℕ) (e : Element) → QueuesLinked xs hs → found xs k ≡ Some e
    → e.queue < length hs
queue_there xs hs k e l f = live_there hs e.queue (all_pass-found (is_live_in hs) xs k e l.live f)

pub exclusive_there : (xs : Items) (hs : List Head) (k : ℕ) (e : Element) → QueuesLinked xs hs → found xs k ≡ Some e
    → exclusive_one e.elem.ctl ≤ (head_at hs e.queue).exclusives
exclusive_there xs hs k e l f =
    let here : found (members (is_in e.queue) xs) k ≡ Some e =
    found-members (is_in e.queue) xs k l.keys ∙ grind (arith, f, in_itself e) in
    omega (
      arith,
      l.exclusives e.queue,
      count_exclusive-dropped k e (members (is_in e.queue) xs) (keys_apart-members (is_in e.queue) xs l.keys) here,
    )

-- where an element leads that is taken out
pub queue_neighbours-taken : (xs : Items) (hs : List Head) (k : ℕ) (e : Element) → QueuesLinked xs hs
    → found xs k ≡ Some e → has_neighbours (dropped k xs) k e.in_queue ≡ true
queue_neighbours-taken xs hs k e l f =
    neighbours_taken Queue (is_in e.queue) (is_in e.queue) xs k e l.keys f (in_itself e) (l.circles e.queue)
    (queues_disjoint e.queue e)

pub has_neighbours-tied : (s : Side) (a b : Link) (xs : Items) (k : ℕ) (at : Link)
    → has_neighbours (tied s a b xs) k at ≡ has_neighbours xs k at
has_neighbours-tied s a b xs k at =
    ap (λ (h : Bool). (eqb at.next k && eqb at.prev k) || (h && has_key (tied s a b xs) at.next))
    (has_key-tied s a b xs at.prev)
    ∙ ap (λ (h : Bool). (eqb at.next k && eqb at.prev k) || (has_key xs at.prev && h)) (has_key-tied s a b xs at.next)

pub task_neighbours-taken : (xs : Items) (ts : TaskRings) (k : ℕ) (e : Element) → keys_apart xs ≡ true → AllLinked xs ts
    → found xs k ≡ Some e → has_neighbours (unqueued k e xs) k e.of_task ≡ true
task_neighbours-taken xs ts k e a l f =
    has_neighbours-tied Queue e.in_queue e.in_queue (dropped k xs) k e.of_task
    ∙ neighbours_taken Task (is_of e.elem.task) (is_of e.elem.task) xs k e a f (of_itself e)
    (l.circles e.elem.task refl) (tasks_disjoint e.elem.task e)

pub unqueued-absent : (xs : Items) (k : ℕ) (e : Element) → has_key (unqueued k e xs) k ≡ false
unqueued-absent xs k e = has_key-tied Queue e.in_queue e.in_queue (dropped k xs) k ∙ has_key-dropped_itself k xs

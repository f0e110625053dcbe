-- What the calls of linked queues find and leave, by queue, task and place.
use Rattle.std.proofs.Common.{◌≡◌, ◌<◌, ◌≤◌, ◌+◌, ℕ, zero, suc, Bool, true, false, cond, ◌&&◌, List, [], ◌∷◌, length}
use Rattle.std.proofs.Common.{map, drop, Option, Some, None, is_some, refl, ap, sym, ◌∙◌, subst, arith, eqb, nat_eq}
use Rattle.std.specs.Prelude.{slice_get, IfSome}
use Rattle.std.specs.Option.{option_map_or}
use Rattle.std.proofs.Math.ListN.{drop_of_length-le}
use Rattle.std.proofs.lemmas.Bool.{eqb-true}
use Rattle.std.proofs.lemmas.Bool.Decides.{nat_tests}
use Rattle.grs_base.specs.Behind.{tasks_behind}
use Rattle.grs_base.specs.Lists.{is_shared, shared_front, place_of, has_task}
use Rattle.grs_base.specs.Same.{same_task}
use Rattle.grs_base.specs.State.{Held, list_at, without, with_exclusive, queued_by}
use Rattle.grs_base.specs.declared.resource.Ctl.{Ctl}
use Rattle.grs_base.specs.declared.resource.Ctl.TheVariants.{E}
use Rattle.grs_base.specs.declared.resource.Elem.{Elem}
use Rattle.grs_base.specs.declared.resource.TaskId.{TaskId}
use Rattle.grs_base.proofs.ListLaws.{has_task-place, place-le}
use Rattle.grs_base.proofs.SameLaws.{same_task-exact}
use Rattle.qel_store.specs.declared.elements.Element.{Element}
use Rattle.qel_store.specs.declared.elements.Side.TheVariants.{Queue, Task}
use Rattle.qel_store.specs.declared.heads.Head.{Head}
use Rattle.qel_store.specs.declared.rings.Ring.{Ring}
use Rattle.qel_store.specs.Items.{Item, Items, found, has_key, keys_apart, changed, members, is_in, is_of, key_of}
use Rattle.qel_store.specs.Items.{elems_of, count_exclusive, held_of, made_exclusive, is_shared_at}
use Rattle.qel_store.specs.Rings.{leads, first_key, IsCircle}
use Rattle.qel_store.specs.Heads.{head_at, with_exclusive as head_with_exclusive}
use Rattle.qel_store.specs.Linked.{QueuesLinked, AllLinked, is_live_in}
use Rattle.qel_store.specs.Tasks.{TaskRings, ring_of, is_known}
use Rattle.qel_store.proofs.ItemLemmas.{by_cases, passes, found-members, has_key-found, has_key-some, has_key-members}
use Rattle.qel_store.proofs.ItemLemmas.{key_of-members, key_of-passes, changed-absent}
use Rattle.qel_store.proofs.HeadLemmas.{live_there}
use Rattle.qel_store.proofs.TieLemmas.{all_pass-found, length-members}
use Rattle.qel_store.proofs.LinkedLemmas.{QueuesLinked-changed, held-exclusive}
use Rattle.qel_store.proofs.TieLemmas.{count_exclusive-le, queued_by-held, list_at-held}
use Rattle.qel_store.proofs.StandingLemmas.{has_task-key, own-there, length-elems_of}
use Rattle.qel_store.proofs.TaskLemmas.{ring_known}
use Rattle.qel_store.proofs.WalkLemmas.{found-member, leads-length, circle-length, place_in, place-item}

some_same : {A : Type 0} (a b : A) → Some a ≡ Some b → a ≡ b
some_same a b i = cc

has_some : (ms : Items) (k : ℕ) → has_key ms k ≡ true → 0 < length ms
has_some [] k h = absurd (cc)
has_some (x ∷ xs) k h = omega arith

-- a key of a part is one of the whole
pub key_lifts : (p : Element → Bool) (xs : Items) (k : ℕ) → has_key (members p xs) k ≡ true → has_key xs k ≡ true
key_lifts p xs k h =
    by_cases (has_key xs k) (λ g. g) (λ g. let wrong : false ≡ true = sym (has_key-members p xs k g) ∙ h in absurd (cc))

-- the first element of a circle
pub first_has : (p : Element → Bool) (xs : Items) (r : Ring) → leads r (members p xs) ≡ true → 0 < r.len
    → has_key xs r.first ≡ true
first_has p xs r l h = key_lifts p xs r.first (first_of (members p xs) l)
  where
    first_of : (ms : Items) → leads r ms ≡ true → has_key ms r.first ≡ true
    first_of [] g = absurd (grind (arith, nat_tests, g, h))
    first_of (x ∷ ms) g = grind (arith, nat_tests, g)

pub ring_few : (p : Element → Bool) (xs : Items) (r : Ring) → leads r (members p xs) ≡ true → r.len ≤ length xs
ring_few p xs r l = omega (arith, leads-length r (members p xs) l, length-members p xs)

pub exclusives_few : (p : Element → Bool) (xs : Items) (n : ℕ) → n ≡ count_exclusive (members p xs) → n ≤ length xs
exclusives_few p xs n is = omega (arith, is, count_exclusive-le (members p xs), length-members p xs)

-- the circles of a queue and of a task
pub queue_circle : (xs : Items) (hs : List Head) (q : ℕ) (h : Head) → QueuesLinked xs hs → h ≡ head_at hs q
    → IsCircle Queue (is_in q) xs h.ring
queue_circle xs hs q h l is = record {
  apart = l.keys;
  circle = l.circles q;
  led = ap (λ (x : Head). leads x.ring (members (is_in q) xs)) is ∙ l.led q;
}

pub task_circle : (xs : Items) (ts : TaskRings) (t : TaskId) (r : Ring) → keys_apart xs ≡ true → AllLinked xs ts
    → r ≡ ring_of ts t → IsCircle Task (is_of t) xs r
task_circle xs ts t r a l is = record {
  apart = a;
  circle = l.circles t refl;
  led = ap (λ (x : Ring). leads x (members (is_of t) xs)) is ∙ l.led t refl;
}

-- the task of an element has a circle
of_own : (e : Element) (xs : Items) (k : ℕ) → keys_apart xs ≡ true → found xs k ≡ Some e
    → same_task e.elem.task e.elem.task ≡ true → has_key (members (is_of e.elem.task) xs) k ≡ true
of_own e xs k a f s =
    has_key-some (members (is_of e.elem.task) xs) k e (found-members (is_of e.elem.task) xs k a ∙ grind (arith, f, s))

pub task_known : (xs : Items) (ts : TaskRings) (k : ℕ) (e : Element) → keys_apart xs ≡ true → AllLinked xs ts
    → found xs k ≡ Some e → same_task e.elem.task e.elem.task ≡ true → is_known ts e.elem.task ≡ true
task_known xs ts k e a l f s =
    ring_known ts e.elem.task (omega (
      arith,
      has_some (members (is_of e.elem.task) xs) k (of_own e xs k a f s),
      leads-length (ring_of ts e.elem.task) (members (is_of e.elem.task) xs) (l.led e.elem.task refl),
    ))

-- a member of a queue stands in it
in_member : (q k : ℕ) (xs : Items) (e : Element) → keys_apart xs ≡ true → has_key (members (is_in q) xs) k ≡ true
    → found xs k ≡ Some e → e.queue ≡ q
in_member q k xs e a h f = sym (eqb-true q e.queue (here (is_in q e) refl))
  where
    here : (b : Bool) → is_in q e ≡ b → b ≡ true
    here true i = refl
    here false i =
        let gone : found (members (is_in q) xs) k ≡ None = found-members (is_in q) xs k a ∙ grind (arith, f, i) in
        sym (ap is_some gone) ∙ sym (has_key-found (members (is_in q) xs) k) ∙ h

pub member_there : (q k : ℕ) (xs : Items) → keys_apart xs ≡ true → has_key (members (is_in q) xs) k ≡ true
    → is_some (found xs k) ≡ true
member_there q k xs a h = sym (has_key-found xs k) ∙ key_lifts (is_in q) xs k h

pub member_queue_there : (q k : ℕ) (xs : Items) (hs : List Head) → QueuesLinked xs hs
    → has_key (members (is_in q) xs) k ≡ true → q < length hs
member_queue_there q k xs hs l h = by_found (found xs k) refl
  where
    by_found : (o : Option Element) → found xs k ≡ o → q < length hs
    by_found None f = let wrong : false ≡ true = sym (ap is_some f) ∙ member_there q k xs l.keys h in absurd (cc)
    by_found (Some e) f =
        live_there hs q (ap (λ (n : ℕ). (head_at hs n).live) (sym (in_member q k xs e l.keys h f))
        ∙ all_pass-found (is_live_in hs) xs k e l.live f)

-- a task's element in a queue is taken out
pub taken_of : (q : ℕ) (t : TaskId) (xs : Items) (k : ℕ) (now : Held ℕ) → keys_apart xs ≡ true
    → key_of (is_of t) (members (is_in q) xs) ≡ Some k
    → ((e : Element) → found xs k ≡ Some e → now ≡ without nat_eq (held_of xs) e.queue e.elem.task)
    → now ≡ without nat_eq (held_of xs) q t
taken_of q t xs k now a h left = by_found (found xs k) refl
  where
    both : (e : Element) → found xs k ≡ Some e → (is_in q e && is_of t e) ≡ true
    both e f =
        ap (passes (λ (u : Element). is_in q u && is_of t u)) (sym f)
        ∙ key_of-passes (λ (u : Element). is_in q u && is_of t u) xs k a
        (sym (key_of-members (is_of t) (is_in q) xs) ∙ h)

    first : (b c : Bool) → (b && c) ≡ true → b ≡ true
    first true c i = refl
    first false c i = i

    second : (b c : Bool) → (b && c) ≡ true → c ≡ true
    second true c i = i
    second false c i = absurd (cc)

    by_found : (o : Option Element) → found xs k ≡ o → now ≡ without nat_eq (held_of xs) q t
    by_found None f = let wrong : false ≡ true = sym (ap is_some f) ∙ own-there q t xs k a h in absurd (cc)
    by_found (Some e) f =
        left e f
        ∙ ap (λ (n : ℕ). without nat_eq (held_of xs) n e.elem.task)
        (sym (eqb-true q e.queue (first (is_in q e) (is_of t e) (both e f))))
        ∙ ap (λ (u : TaskId). without nat_eq (held_of xs) q u)
        (sym (same_task-exact t e.elem.task (second (is_in q e) (is_of t e) (both e f))))

-- the element at a place
elem_dropped : (ms : Items) (n k : ℕ) (e : Element) (rest : Items) → drop n ms ≡ (k, e) ∷ rest
    → slice_get (elems_of ms) n ≡ Some e.elem
elem_dropped [] zero k e rest h = absurd (cc)
elem_dropped [] (suc n) k e rest h = absurd (cc)
elem_dropped (x ∷ xs) zero k e rest h = ap (λ (l : Items). slice_get (elems_of l) 0) h
elem_dropped (x ∷ xs) (suc n) k e rest h = elem_dropped xs n k e rest h

module _ (q : ℕ) (xs : Items) (r : Ring) (c : IsCircle Queue (is_in q) xs r) (n k : ℕ) (l : n < r.len)
    (at : k ≡ first_key (drop n (members (is_in q) xs)) r.first) where
  pub at_place : has_key (members (is_in q) xs) k ≡ true
  at_place = place_in Queue (is_in q) xs r c n k l at

  pub elem_at : (e : Element) → found xs k ≡ Some e → slice_get (elems_of (members (is_in q) xs)) n ≡ Some e.elem
  elem_at e f =
      elem_dropped (members (is_in q) xs) n k e (drop (n + 1) (members (is_in q) xs))
      (place-item Queue (is_in q) xs r c n k e l at f)

  by_element : {P : Type 0} → ((e : Element) → found xs k ≡ Some e → P) → P
  by_element {P} go = by_found (found xs k) refl
    where
      by_found : (o : Option Element) → found xs k ≡ o → P
      by_found None f =
          let wrong : false ≡ true = sym (ap is_some f) ∙ member_there q k xs c.apart at_place in absurd (cc)
      by_found (Some e) f = go e f

  -- which is taken out
  pub taken_elem : (x : Elem) → ((e : Element) → found xs k ≡ Some e → x ≡ e.elem)
      → slice_get (elems_of (members (is_in q) xs)) n ≡ Some x
  taken_elem x is = by_element (λ e f. elem_at e f ∙ ap (λ (y : Elem). Some y) (sym (is e f)))

  pub taken_held : (x : Elem) (now : Held ℕ) → ((e : Element) → found xs k ≡ Some e → x ≡ e.elem)
      → ((e : Element) → found xs k ≡ Some e → now ≡ without nat_eq (held_of xs) e.queue e.elem.task)
      → now ≡ without nat_eq (held_of xs) q x.task
  taken_held x now is left = by_element (λ e f.
      left e f
      ∙ ap (λ (i : ℕ). without nat_eq (held_of xs) i e.elem.task) (in_member q k xs e c.apart at_place f)
      ∙ ap (λ (y : Elem). without nat_eq (held_of xs) q y.task) (sym (is e f)))

  -- or made exclusive
  pub excluded_held : (hs : List Head) (now : Items) → QueuesLinked xs hs → now ≡ changed k made_exclusive xs
      → IfSome (slice_get (elems_of (members (is_in q) xs)) n)
      (λ e. held_of now ≡ with_exclusive nat_eq (held_of xs) q e.task)
  excluded_held hs now linked is = by_element (λ e f.
      subst (λ (o : Option Elem). IfSome o (λ x. held_of now ≡ with_exclusive nat_eq (held_of xs) q x.task))
      (sym (elem_at e f))
      (ap held_of is
      ∙ held-exclusive k e xs hs linked f
      ∙ ap (λ (i : ℕ). with_exclusive nat_eq (held_of xs) i e.elem.task) (in_member q k xs e c.apart at_place f)))

-- an exclusive element is one already
pub exclusive_already : (xs : Items) (k : ℕ) (e : Element) → keys_apart xs ≡ true → found xs k ≡ Some e → e.elem.ctl ≡ E
    → xs ≡ changed k made_exclusive xs
exclusive_already [] k e a f x = refl
exclusive_already (y ∷ xs) k e a f x = by_cases (eqb k y.0)
    (λ m.
    let same : y.1 ≡ e = some_same y.1 e (grind (arith, m, f)) in
    let kept : made_exclusive y.1 ≡ y.1 = kept_by y.1 (ap (λ (u : Element). u.elem.ctl) same ∙ x) in
    let rest : changed k made_exclusive xs ≡ xs = changed-absent k made_exclusive xs (grind (arith, nat_tests, m, a)) in
    sym (ap (λ (b : Bool). cond b (y.0, made_exclusive y.1) y ∷ changed k made_exclusive xs) m
    ∙ ap (λ (u : Element). (y.0, u) ∷ changed k made_exclusive xs) kept
    ∙ ap (λ (l : Items). y ∷ l) rest))
    (λ m.
    let rest : xs ≡ changed k made_exclusive xs = exclusive_already xs k e (grind (arith, a)) (grind (arith, m, f)) x in
    ap (λ (l : Items). y ∷ l) rest
    ∙ sym (ap (λ (b : Bool). cond b (y.0, made_exclusive y.1) y ∷ changed k made_exclusive xs) m))
  where
    kept_by : (u : Element) → u.elem.ctl ≡ E → made_exclusive u ≡ u
    kept_by u h = ap (λ (c : Ctl). record u { elem = record { task = u.elem.task; ctl = c } }) (sym h)

-- one that is shared becomes one more
exclusive_more : (ms : Items) (k : ℕ) (e : Element) → found ms k ≡ Some e → is_shared e.elem.ctl ≡ true
    → count_exclusive ms < length ms
exclusive_more [] k e f s = absurd (cc)
exclusive_more (x ∷ xs) k e f s = by_cases (eqb k x.0)
    (λ m. grind (arith, m, f, s, count_exclusive-le xs))
    (λ m. let rest = exclusive_more xs k e (grind (arith, m, f)) s in grind (arith, rest))

shared_at : (xs : Items) (k : ℕ) (o : Option Element) → found xs k ≡ o → is_shared_at xs k ≡ true
    → option_map_or (λ e. is_shared e.elem.ctl) o false ≡ true
shared_at xs k o f s = sym (ap (λ (p : Option Element). option_map_or (λ e. is_shared e.elem.ctl) p false) f) ∙ s

pub exclusive_room : (q k : ℕ) (xs : Items) (h : Head) → IsCircle Queue (is_in q) xs h.ring
    → has_key (members (is_in q) xs) k ≡ true → is_shared_at xs k ≡ true
    → h.exclusives ≡ count_exclusive (members (is_in q) xs) → h.exclusives < h.ring.len
exclusive_room q k xs h c m s is = by_found (found xs k) refl
  where
    by_found : (o : Option Element) → found xs k ≡ o → h.exclusives < h.ring.len
    by_found None f = let wrong : false ≡ true = shared_at xs k None f s in absurd (cc)
    by_found (Some e) f =
        omega (
          arith,
          is,
          circle-length Queue (is_in q) xs h.ring c,
          exclusive_more (members (is_in q) xs) k e (found-member (is_in q) xs k c.apart m ∙ f)
              (shared_at xs k (Some e) f s),
        )

pub queues-excluded : (xs : Items) (hs gs : List Head) (k q : ℕ) → QueuesLinked xs hs
    → has_key (members (is_in q) xs) k ≡ true → is_shared_at xs k ≡ true
    → ((j : ℕ) → head_at gs j ≡ cond (eqb j q) (head_with_exclusive (head_at hs q)) (head_at hs j))
    → QueuesLinked (changed k made_exclusive xs) gs
queues-excluded xs hs gs k q l m s heads = by_found (found xs k) refl
  where
    by_found : (o : Option Element) → found xs k ≡ o → QueuesLinked (changed k made_exclusive xs) gs
    by_found None f = let wrong : false ≡ true = shared_at xs k None f s in absurd (cc)
    by_found (Some e) f =
        QueuesLinked-changed xs hs gs k e l f (shared_at xs k (Some e) f s)
        (subst (λ (n : ℕ). (j : ℕ) → head_at gs j ≡ cond (eqb j n) (head_with_exclusive (head_at hs n)) (head_at hs j))
        (sym (in_member q k xs e l.keys m f)) heads)

-- nobody gets control where the task has no element
pub behind-none : (ms : Items) (t : TaskId) → key_of (is_of t) ms ≡ None
    → [] ≡ tasks_behind (elems_of ms) (place_of (elems_of ms) t)
behind-none ms t h = past (elems_of ms) (has_task-key ms t ∙ ap is_some h)
  where
    past : (es : List Elem) → has_task es t ≡ false → [] ≡ tasks_behind es (place_of es t)
    past [] n = grind (arith, nat_tests)
    past (e ∷ es) n =
        let end : place_of (e ∷ es) t ≡ length (e ∷ es) =
        grind (arith, nat_tests, n, has_task-place (e ∷ es) t, place-le (e ∷ es) t) in
        let far : drop (length (e ∷ es) + 1) (e ∷ es) ≡ [] = drop_of_length-le (e ∷ es) (omega arith) in
        let none : tasks_behind (e ∷ es) (length (e ∷ es)) ≡ [] =
        by_cases (eqb (length (e ∷ es)) (shared_front (e ∷ es))) (λ b. grind (arith, nat_tests, b, far))
        (λ b. grind (arith, nat_tests, b)) in
        sym (ap (tasks_behind (e ∷ es)) end ∙ none)

-- a task's own elements
pub first_queue : (xs : Items) (t : TaskId) (k : ℕ) (e : Element) (rest : Items) → members (is_of t) xs ≡ (k, e) ∷ rest
    → Some e.queue ≡ slice_get (queued_by (held_of xs) t) 0
first_queue xs t k e rest h =
    sym (ap (λ (l : List ℕ). slice_get l 0) (queued_by-held xs t ∙ ap (map (λ (x : Item). x.1.queue)) h))

pub no_queue : (xs : Items) (t : TaskId) → members (is_of t) xs ≡ [] → None ≡ slice_get (queued_by (held_of xs) t) 0
no_queue xs t h = sym (ap (λ (l : List ℕ). slice_get l 0) (queued_by-held xs t ∙ ap (map (λ (x : Item). x.1.queue)) h))

length-queues : (ms : Items) → length (map (λ (x : Item). x.1.queue) ms) ≡ length ms
length-queues [] = refl
length-queues (x ∷ xs) = grind (arith, length-queues xs)

pub count_of : (xs : Items) (t : TaskId) → length (queued_by (held_of xs) t) ≡ length (members (is_of t) xs)
count_of xs t = ap (λ (l : List ℕ). length l) (queued_by-held xs t) ∙ length-queues (members (is_of t) xs)

pub none_of : (ms : Items) → length ms ≡ 0 → ms ≡ []
none_of [] h = refl
none_of (x ∷ xs) h = absurd (omega arith)

-- the length of a queue
pub length_at : (xs : Items) (q : ℕ) → length (list_at nat_eq (held_of xs) q) ≡ length (members (is_in q) xs)
length_at xs q = ap (λ (l : List Elem). length l) (list_at-held xs q) ∙ length-elems_of (members (is_in q) xs)

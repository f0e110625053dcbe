-- What linked queues keep where a queue is made, let go or made room for.
use Rattle.std.proofs.Common.{◌≡◌, ◌≤◌, ℕ, Bool, true, false, not, cond, ◌&&◌, ◌||◌, List, [], ◌∷◌, length, refl, ap}
use Rattle.std.proofs.Common.{sym, ◌∙◌, arith, eqb, nat_eq}
use Rattle.std.proofs.lemmas.Bool.{eqb-true}
use Rattle.std.proofs.lemmas.Bool.Decides.{nat_tests}
use Rattle.grs_base.specs.Lists.{has_task, place_of}
use Rattle.grs_base.specs.State.{list_at}
use Rattle.grs_base.specs.declared.resource.Elem.{Elem}
use Rattle.grs_base.specs.declared.resource.TaskId.{TaskId}
use Rattle.grs_base.proofs.ListLaws.{has_task-place}
use Rattle.qel_store.specs.declared.elements.Element.{Element}
use Rattle.qel_store.specs.declared.heads.Head.{Head}
use Rattle.qel_store.specs.declared.rings.Ring.{Ring}
use Rattle.qel_store.specs.Items.{Items, members, is_in, all_pass, elems_of, held_of}
use Rattle.qel_store.specs.Rings.{leads}
use Rattle.qel_store.specs.Heads.{head_at, in_use}
use Rattle.qel_store.specs.Linked.{QueuesLinked, is_live_in}
use Rattle.qel_store.proofs.ItemLemmas.{by_cases}
use Rattle.qel_store.proofs.TieLemmas.{list_at-held}

-- where the elements' queues stay in use, and all circles and counts stay
module _ (xs : Items) (hs gs : List Head) (l : QueuesLinked xs hs)
    (rings : (q : ℕ) → (head_at gs q).ring ≡ (head_at hs q).ring)
    (counts : (q : ℕ) → (head_at gs q).exclusives ≡ (head_at hs q).exclusives)
    (lives : all_pass (is_live_in gs) xs ≡ true) where
  pub QueuesLinked-kept : QueuesLinked xs gs
  QueuesLinked-kept = record {
    keys = l.keys;
    circles = l.circles;
    led = λ q. ap (λ (r : Ring). leads r (members (is_in q) xs)) (rings q) ∙ l.led q;
    exclusives = λ q. counts q ∙ l.exclusives q;
    live = lives;
    apart = l.apart;
  }

all_pass-more : (p q : Element → Bool) → ((u : Element) → p u ≡ true → q u ≡ true) → (xs : Items) → all_pass p xs ≡ true
    → all_pass q xs ≡ true
all_pass-more p q more [] h = refl
all_pass-more p q more (x ∷ xs) h = grind (arith, h, more x.1, all_pass-more p q more xs)

-- the heads stay
pub QueuesLinked-same : (xs : Items) (hs gs : List Head) → QueuesLinked xs hs → ((q : ℕ) → head_at gs q ≡ head_at hs q)
    → QueuesLinked xs gs
QueuesLinked-same xs hs gs l same =
    QueuesLinked-kept xs hs gs l (λ q. ap (λ (h : Head). h.ring) (same q))
    (λ q. ap (λ (h : Head). h.exclusives) (same q))
    (all_pass-more (is_live_in hs) (is_live_in gs) (λ u h. ap (λ (x : Head). x.live) (same u.queue) ∙ h) xs l.live)

-- a head that is taken into use, or let go
ring_used : (hs gs : List Head) (i : ℕ) (b : Bool) (n : ℕ)
    → ((q : ℕ) → head_at gs q ≡ cond (eqb q i) (in_use (head_at hs i) b n) (head_at hs q)) → (q : ℕ)
    → (head_at gs q).ring ≡ (head_at hs q).ring
ring_used hs gs i b n heads q = ap (λ (h : Head). h.ring) (heads q) ∙ by_key (eqb q i) refl
  where
    by_key : (c : Bool) → eqb q i ≡ c → (cond c (in_use (head_at hs i) b n) (head_at hs q)).ring ≡ (head_at hs q).ring
    by_key true e = ap (λ (m : ℕ). (head_at hs m).ring) (sym (eqb-true q i e))
    by_key false e = refl

count_used : (hs gs : List Head) (i : ℕ) (b : Bool) (n : ℕ)
    → ((q : ℕ) → head_at gs q ≡ cond (eqb q i) (in_use (head_at hs i) b n) (head_at hs q)) → (q : ℕ)
    → (head_at gs q).exclusives ≡ (head_at hs q).exclusives
count_used hs gs i b n heads q = ap (λ (h : Head). h.exclusives) (heads q) ∙ by_key (eqb q i) refl
  where
    by_key : (c : Bool) → eqb q i ≡ c
        → (cond c (in_use (head_at hs i) b n) (head_at hs q)).exclusives ≡ (head_at hs q).exclusives
    by_key true e = ap (λ (m : ℕ). (head_at hs m).exclusives) (sym (eqb-true q i e))
    by_key false e = refl

live_used : (hs gs : List Head) (i : ℕ) (b : Bool) (n : ℕ)
    → ((q : ℕ) → head_at gs q ≡ cond (eqb q i) (in_use (head_at hs i) b n) (head_at hs q)) → (q : ℕ)
    → (head_at gs q).live ≡ cond (eqb q i) b (head_at hs q).live
live_used hs gs i b n heads q = ap (λ (h : Head). h.live) (heads q) ∙ by_key (eqb q i)
  where
    by_key : (c : Bool) → (cond c (in_use (head_at hs i) b n) (head_at hs q)).live ≡ cond c b (head_at hs q).live
    by_key true = refl
    by_key false = refl

pub QueuesLinked-made : (xs : Items) (hs gs : List Head) (i n : ℕ) → QueuesLinked xs hs
    → ((q : ℕ) → head_at gs q ≡ cond (eqb q i) (in_use (head_at hs i) true n) (head_at hs q)) → QueuesLinked xs gs
QueuesLinked-made xs hs gs i n l heads =
    QueuesLinked-kept xs hs gs l (ring_used hs gs i true n heads) (count_used hs gs i true n heads)
    (all_pass-more (is_live_in hs) (is_live_in gs)
    (λ u h. live_used hs gs i true n heads u.queue ∙ either (eqb u.queue i) (head_at hs u.queue).live h) xs l.live)
  where
    either : (c b : Bool) → b ≡ true → cond c true b ≡ true
    either true b h = refl
    either false b h = h

-- the queues in use then
pub made_live : (hs gs : List Head) (i n : ℕ)
    → ((q : ℕ) → head_at gs q ≡ cond (eqb q i) (in_use (head_at hs i) true n) (head_at hs q)) → (q : ℕ)
    → (head_at gs q).live ≡ (eqb q i || (head_at hs q).live)
made_live hs gs i n heads q = live_used hs gs i true n heads q ∙ by_key (eqb q i)
  where
    by_key : (c : Bool) → cond c true (head_at hs q).live ≡ (c || (head_at hs q).live)
    by_key true = refl
    by_key false = refl

pub gone_live : (hs gs : List Head) (i n : ℕ)
    → ((q : ℕ) → head_at gs q ≡ cond (eqb q i) (in_use (head_at hs i) false n) (head_at hs q)) → (q : ℕ)
    → (head_at gs q).live ≡ (not (eqb q i) && (head_at hs q).live)
gone_live hs gs i n heads q = live_used hs gs i false n heads q ∙ by_key (eqb q i)
  where
    by_key : (c : Bool) → cond c false (head_at hs q).live ≡ (not c && (head_at hs q).live)
    by_key true = refl
    by_key false = refl

-- a queue without elements
elems_none : (ms : Items) → elems_of ms ≡ [] → ms ≡ []
elems_none [] h = refl
elems_none (x ∷ ms) h = absurd (cc)

pub list_none : (xs : Items) (q : ℕ) → list_at nat_eq (held_of xs) q ≡ [] → members (is_in q) xs ≡ []
list_none xs q h = elems_none (members (is_in q) xs) (sym (list_at-held xs q) ∙ h)

pub none_list : (xs : Items) (q : ℕ) → members (is_in q) xs ≡ [] → list_at nat_eq (held_of xs) q ≡ []
none_list xs q h = list_at-held xs q ∙ ap elems_of h

pub dead_none : (xs : Items) (hs : List Head) (q : ℕ) → all_pass (is_live_in hs) xs ≡ true → (head_at hs q).live ≡ false
    → members (is_in q) xs ≡ []
dead_none [] hs q l d = refl
dead_none (x ∷ xs) hs q l d = by_cases (is_in q x.1)
    (λ m.
    let same : q ≡ x.1.queue = eqb-true q x.1.queue m in
    let live : (head_at hs x.1.queue).live ≡ true = grind (arith, l) in
    let wrong : false ≡ true = sym d ∙ ap (λ (n : ℕ). (head_at hs n).live) same ∙ live in
    absurd (cc))
    (λ m. let rest = dead_none xs hs q (grind (arith, l)) d in grind (arith, m, rest))

live_other : (gs hs : List Head) (i : ℕ) → ((q : ℕ) → (head_at gs q).live ≡ cond (eqb q i) false (head_at hs q).live)
    → (xs : Items) → members (is_in i) xs ≡ [] → all_pass (is_live_in hs) xs ≡ true → all_pass (is_live_in gs) xs ≡ true
live_other gs hs i lives [] e h = refl
live_other gs hs i lives (x ∷ xs) e h = by_cases (is_in i x.1)
    (λ m. let wrong : x ∷ members (is_in i) xs ≡ [] = grind (arith, m, e) in absurd (cc))
    (λ m.
    let away : eqb x.1.queue i ≡ false = grind (arith, nat_tests, m) in
    let rest = live_other gs hs i lives xs (grind (arith, m, e)) (grind (arith, h)) in
    grind (arith, h, lives x.1.queue, away, rest))

pub QueuesLinked-gone : (xs : Items) (hs gs : List Head) (i n : ℕ) → QueuesLinked xs hs → members (is_in i) xs ≡ []
    → ((q : ℕ) → head_at gs q ≡ cond (eqb q i) (in_use (head_at hs i) false n) (head_at hs q)) → QueuesLinked xs gs
QueuesLinked-gone xs hs gs i n l e heads =
    QueuesLinked-kept xs hs gs l (ring_used hs gs i false n heads) (count_used hs gs i false n heads)
    (live_other gs hs i (live_used hs gs i false n heads) xs e l.live)

-- where there is nothing at all
pub QueuesLinked-none : QueuesLinked [] []
QueuesLinked-none = record {
  keys = refl;
  circles = λ q. refl;
  led = λ q. refl;
  exclusives = λ q. refl;
  live = refl;
  apart = λ q. refl;
}

-- a task without an element in a queue
pub absent_at : (xs : Items) (q : ℕ) (t : TaskId)
    → place_of (list_at nat_eq (held_of xs) q) t ≡ length (list_at nat_eq (held_of xs) q)
    → has_task (elems_of (members (is_in q) xs)) t ≡ false
absent_at xs q t h =
    ap (λ (l : List Elem). has_task l t) (sym (list_at-held xs q)) ∙ none (list_at nat_eq (held_of xs) q) h
  where
    none : (es : List Elem) → place_of es t ≡ length es → has_task es t ≡ false
    none es e = grind (arith, nat_tests, e, has_task-place es t)

-- room that is a test
pub room_is : (b : Bool) → 1 ≤ cond b 1 0 → b ≡ true
room_is true h = refl
room_is false h = absurd (omega arith)

pub room_of_true : (b : Bool) → b ≡ true → 1 ≤ cond b 1 0
room_of_true true h = omega arith
room_of_true false h = absurd (cc)

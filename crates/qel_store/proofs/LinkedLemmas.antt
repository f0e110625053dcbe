-- What linked queues keep, behind each change.
use Rattle.std.proofs.Common.{◌≡◌, ◌+◌, ℕ, Bool, true, false, cond, List, [], ◌∷◌, ◌++◌}
use Rattle.std.proofs.Common.{length, Some, refl, ap, sym, ◌∙◌, subst, arith, eqb, nat_eq}
use Rattle.std.proofs.Common.{append-nil}
use Rattle.std.proofs.lemmas.Bool.Decides.{nat_tests}
use Rattle.grs_base.specs.Same.{same_task}
use Rattle.grs_base.specs.Lists.{is_shared, is_apart, has_task}
use Rattle.grs_base.specs.State.{Held, without, with_exclusive}
use Rattle.grs_base.specs.declared.resource.Elem.{Elem}
use Rattle.grs_base.specs.declared.resource.TaskId.{TaskId}
use Rattle.grs_base.proofs.SameLaws.{same_task-exact, same_task-itself}
use Rattle.grs_base.proofs.ListLaws.{is_apart-push, same_task-sym}
use Rattle.qel_store.specs.declared.elements.Element.{Element}
use Rattle.qel_store.specs.declared.elements.Link.{Link}
use Rattle.qel_store.specs.declared.elements.Side.{Side}
use Rattle.qel_store.specs.declared.elements.Side.TheVariants.{Queue, Task}
use Rattle.qel_store.specs.declared.heads.Head.{Head}
use Rattle.qel_store.specs.declared.rings.Ring.{Ring}
use Rattle.qel_store.specs.Items.{Items, found, has_key, keys_apart, changed, dropped, members, is_in, is_of}
use Rattle.qel_store.specs.Items.{all_pass, elems_of, count_exclusive, held_of, made_exclusive}
use Rattle.qel_store.specs.Rings.{ring, leads, tied, ring_with, ring_without}
use Rattle.qel_store.specs.Rings.{has_neighbours, IsLastLink}
use Rattle.qel_store.specs.Heads.{head_at, with_elem, without_elem}
use Rattle.qel_store.specs.Heads.{with_exclusive as head_with_exclusive}
use Rattle.qel_store.specs.Tasks.{TaskRings, ring_of}
use Rattle.qel_store.specs.Linked.{QueuesLinked, TasksLinked, AllLinked, is_live_in}
use Rattle.qel_store.proofs.ItemLemmas.{by_cases, found-members, has_key-none}
use Rattle.qel_store.proofs.ItemLemmas.{keys_apart-members, keys_apart-push}
use Rattle.qel_store.proofs.ItemLemmas.{keys_apart-dropped, members-dropped, members-append, members-changed}
use Rattle.qel_store.proofs.ItemLemmas.{dropped-absent, changed-absent, keys_apart-changed}
use Rattle.qel_store.proofs.TieLemmas.{elems_of-tied, held_of-tied, count_exclusive-tied, live-tied, in-tied, of-tied}
use Rattle.qel_store.proofs.TieLemmas.{has_key-tied, keys_apart-tied, leads-tied, tied-commutes, same_links}
use Rattle.qel_store.proofs.TieLemmas.{same_links-append, same_queue-tied, same_task-tied, ring-same, ring-taken}
use Rattle.qel_store.proofs.TieLemmas.{leads-taken, neighbours_pushed, ring-pushed_own, ring-pushed_other, leads-push}
use Rattle.qel_store.proofs.TieLemmas.{count_exclusive-append, elems_of-append, held_of-append, all_pass-append}
use Rattle.qel_store.proofs.TieLemmas.{all_pass-dropped, all_pass-same, count_exclusive-dropped, is_apart-dropped}
use Rattle.qel_store.proofs.TieLemmas.{queues_disjoint, tasks_disjoint, in_itself, of_itself}

-- an element is taken out of its queue
module _ (xs : Items) (hs gs : List Head) (k : ℕ) (e : Element) (l : QueuesLinked xs hs) (f : found xs k ≡ Some e)
    (heads : (q : ℕ)
    → head_at gs q
    ≡ cond (eqb q e.queue) (without_elem (head_at hs e.queue) k e.in_queue.next e.elem.ctl) (head_at hs q)) where
  in_dropped : (q : ℕ)
      → members (is_in q) (tied Queue e.in_queue e.in_queue (dropped k xs))
      ≡ tied Queue e.in_queue e.in_queue (dropped k (members (is_in q) xs))
  in_dropped q =
      in-tied q Queue e.in_queue e.in_queue (dropped k xs)
      ∙ ap (tied Queue e.in_queue e.in_queue) (members-dropped (is_in q) k xs)

  ring_head : (q : ℕ)
      → (head_at gs q).ring ≡ cond (is_in q e) (ring_without (head_at hs q).ring k e.in_queue.next) (head_at hs q).ring
  ring_head q = by_key (eqb q e.queue) refl
    where
      by_key : (b : Bool) → eqb q e.queue ≡ b
          → (head_at gs q).ring ≡ cond b (ring_without (head_at hs q).ring k e.in_queue.next) (head_at hs q).ring
      by_key true m =
          let same : q ≡ e.queue = grind (arith, nat_tests, m) in grind (arith, heads q, m, ap (head_at hs) same)
      by_key false m = grind (arith, heads q, m)

  live_head : (u : Element) → is_live_in gs u ≡ is_live_in hs u
  live_head u = by_key (eqb u.queue e.queue) refl
    where
      by_key : (b : Bool) → eqb u.queue e.queue ≡ b → is_live_in gs u ≡ is_live_in hs u
      by_key true m =
          let same : u.queue ≡ e.queue = grind (arith, nat_tests, m) in
          grind (arith, heads u.queue, m, ap (head_at hs) same)
      by_key false m = grind (arith, heads u.queue, m)

  exclusive_head : (q : ℕ) → (head_at gs q).exclusives ≡ count_exclusive (dropped k (members (is_in q) xs))
  exclusive_head q = by_key (eqb q e.queue) refl
    where
      by_key : (b : Bool) → eqb q e.queue ≡ b
          → (head_at gs q).exclusives ≡ count_exclusive (dropped k (members (is_in q) xs))
      by_key true m =
          let same : q ≡ e.queue = grind (arith, nat_tests, m) in
          let here : found (members (is_in q) xs) k ≡ Some e =
          found-members (is_in q) xs k l.keys ∙ grind (arith, f, m) in
          grind (
            arith,
            heads q,
            m,
            ap (head_at hs) same,
            l.exclusives q,
            count_exclusive-dropped k e (members (is_in q) xs) (keys_apart-members (is_in q) xs l.keys) here,
          )
      by_key false m =
          let absent : has_key (members (is_in q) xs) k ≡ false =
          has_key-none (members (is_in q) xs) k (found-members (is_in q) xs k l.keys ∙ grind (arith, f, m)) in
          grind (arith, heads q, m, l.exclusives q, dropped-absent k (members (is_in q) xs) absent)

  pub QueuesLinked-taken : QueuesLinked (tied Queue e.in_queue e.in_queue (dropped k xs)) gs
  QueuesLinked-taken = record {
    keys = keys_apart-tied Queue e.in_queue e.in_queue (dropped k xs) ∙ keys_apart-dropped k xs l.keys;
    circles = λ q.
        ap (ring Queue) (in_dropped q)
        ∙ ring-taken Queue (is_in q) (is_in e.queue) xs k e l.keys f (in_itself e) (l.circles e.queue)
        (queues_disjoint q e) (l.circles q);
    led = λ q.
        ap (leads (head_at gs q).ring) (in_dropped q)
        ∙ leads-tied (head_at gs q).ring Queue e.in_queue e.in_queue (dropped k (members (is_in q) xs))
        ∙ ap (λ (r : Ring). leads r (dropped k (members (is_in q) xs))) (ring_head q)
        ∙ leads-taken Queue (is_in q) (head_at hs q).ring xs k e l.keys f (l.circles q) (l.led q);
    exclusives = λ q.
        exclusive_head q
        ∙ sym (count_exclusive-tied Queue e.in_queue e.in_queue (dropped k (members (is_in q) xs)))
        ∙ ap count_exclusive (sym (in_dropped q));
    live =
        live-tied gs Queue e.in_queue e.in_queue (dropped k xs)
        ∙ all_pass-same (is_live_in gs) (is_live_in hs) live_head (dropped k xs)
        ∙ all_pass-dropped (is_live_in hs) k xs l.live;
    apart = λ q.
        ap (λ (m : Items). is_apart (elems_of m)) (in_dropped q)
        ∙ ap is_apart (elems_of-tied Queue e.in_queue e.in_queue (dropped k (members (is_in q) xs)))
        ∙ is_apart-dropped k (members (is_in q) xs) (l.apart q);
  }

-- a change of tasks' links leaves the queues
pub QueuesLinked-tied : (at to : Link) (xs : Items) (hs : List Head) → QueuesLinked xs hs
    → QueuesLinked (tied Task at to xs) hs
QueuesLinked-tied at to xs hs l = record {
  keys = keys_apart-tied Task at to xs ∙ l.keys;
  circles = λ q.
      ap (ring Queue) (in-tied q Task at to xs)
      ∙ ring-same Queue (tied Task at to (members (is_in q) xs)) (members (is_in q) xs)
      (same_queue-tied at to (members (is_in q) xs))
      ∙ l.circles q;
  led = λ q.
      ap (leads (head_at hs q).ring) (in-tied q Task at to xs)
      ∙ leads-tied (head_at hs q).ring Task at to (members (is_in q) xs)
      ∙ l.led q;
  exclusives = λ q.
      l.exclusives q
      ∙ sym (count_exclusive-tied Task at to (members (is_in q) xs))
      ∙ ap count_exclusive (sym (in-tied q Task at to xs));
  live = live-tied hs Task at to xs ∙ l.live;
  apart = λ q.
      ap (λ (m : Items). is_apart (elems_of m)) (in-tied q Task at to xs)
      ∙ ap is_apart (elems_of-tied Task at to (members (is_in q) xs))
      ∙ l.apart q;
}

-- and one of queues' links the tasks
pub TasksLinked-tied : (ends : TaskId → Bool) (at to : Link) (xs : Items) (ts : TaskRings) → TasksLinked ends xs ts
    → TasksLinked ends (tied Queue at to xs) ts
TasksLinked-tied ends at to xs ts l = record {
  circles = λ t h.
      ap (ring Task) (of-tied t Queue at to xs)
      ∙ ring-same Task (tied Queue at to (members (is_of t) xs)) (members (is_of t) xs)
      (same_task-tied at to (members (is_of t) xs))
      ∙ l.circles t h;
  led = λ t h.
      ap (leads (ring_of ts t)) (of-tied t Queue at to xs)
      ∙ leads-tied (ring_of ts t) Queue at to (members (is_of t) xs)
      ∙ l.led t h;
}

-- an element is taken from its task, behind the change of its queue
module _ (xs : Items) (ts us : TaskRings) (k : ℕ) (e : Element) (a : keys_apart xs ≡ true) (l : AllLinked xs ts)
    (f : found xs k ≡ Some e) (rings : (t : TaskId)
    → ring_of us t
    ≡ cond (same_task e.elem.task t) (ring_without (ring_of ts e.elem.task) k e.of_task.next) (ring_of ts t)) where
  of_dropped : (t : TaskId)
      → members (is_of t) (tied Task e.of_task e.of_task (tied Queue e.in_queue e.in_queue (dropped k xs)))
      ≡ tied Queue e.in_queue e.in_queue (tied Task e.of_task e.of_task (dropped k (members (is_of t) xs)))
  of_dropped t =
      of-tied t Task e.of_task e.of_task (tied Queue e.in_queue e.in_queue (dropped k xs))
      ∙ ap (tied Task e.of_task e.of_task) (of-tied t Queue e.in_queue e.in_queue (dropped k xs)
      ∙ ap (tied Queue e.in_queue e.in_queue) (members-dropped (is_of t) k xs))
      ∙ tied-commutes e.of_task e.of_task e.in_queue e.in_queue (dropped k (members (is_of t) xs))

  ring_slot : (t : TaskId)
      → ring_of us t ≡ cond (is_of t e) (ring_without (ring_of ts t) k e.of_task.next) (ring_of ts t)
  ring_slot t = by_task (same_task e.elem.task t) refl
    where
      by_task : (b : Bool) → same_task e.elem.task t ≡ b
          → ring_of us t ≡ cond (is_of t e) (ring_without (ring_of ts t) k e.of_task.next) (ring_of ts t)
      by_task true s =
          let same : e.elem.task ≡ t = same_task-exact e.elem.task t s in
          grind (arith, rings t, s, ap (ring_of ts) same, ap (λ (u : TaskId). same_task t u) same, same_task-itself t)
      by_task false s = grind (arith, rings t, s, other_way s)
        where
          other_way : same_task e.elem.task t ≡ false → same_task t e.elem.task ≡ false
          other_way n = by_way (same_task t e.elem.task) refl
            where
              by_way : (c : Bool) → same_task t e.elem.task ≡ c → c ≡ false
              by_way true m =
                  let same : t ≡ e.elem.task = same_task-exact t e.elem.task m in
                  sym (sym n ∙ ap (λ (u : TaskId). same_task e.elem.task u) same ∙ same_task-itself e.elem.task)
              by_way false m = refl

  pub AllLinked-taken : AllLinked (tied Task e.of_task e.of_task (tied Queue e.in_queue e.in_queue (dropped k xs))) us
  AllLinked-taken = record {
    circles = λ t h.
        ap (ring Task) (of_dropped t)
        ∙ ring-same Task
        (tied Queue e.in_queue e.in_queue (tied Task e.of_task e.of_task (dropped k (members (is_of t) xs))))
        (tied Task e.of_task e.of_task (dropped k (members (is_of t) xs)))
        (same_task-tied e.in_queue e.in_queue (tied Task e.of_task e.of_task (dropped k (members (is_of t) xs))))
        ∙ ring-taken Task (is_of t) (is_of e.elem.task) xs k e a f (of_itself e) (l.circles e.elem.task refl)
        (tasks_disjoint t e) (l.circles t refl);
    led = λ t h.
        ap (leads (ring_of us t)) (of_dropped t)
        ∙ leads-tied (ring_of us t) Queue e.in_queue e.in_queue
        (tied Task e.of_task e.of_task (dropped k (members (is_of t) xs)))
        ∙ leads-tied (ring_of us t) Task e.of_task e.of_task (dropped k (members (is_of t) xs))
        ∙ ap (λ (r : Ring). leads r (dropped k (members (is_of t) xs))) (ring_slot t)
        ∙ leads-taken Task (is_of t) (ring_of ts t) xs k e a f (l.circles t refl) (l.led t refl);
  }

-- what is held behind a take
some_same : {A : Type 0} (a b : A) → Some a ≡ Some b → a ≡ b
some_same a b i = cc

-- an element that is found stands in its queue
queued_there : (k : ℕ) (e : Element) (xs : Items) → found xs k ≡ Some e
    → has_task (elems_of (members (is_in e.queue) xs)) e.elem.task ≡ true
queued_there k e [] f = absurd (cc)
queued_there k e (x ∷ xs) f = by_cases (eqb k x.0)
    (λ m. let same : x.1 ≡ e = some_same x.1 e (grind (arith, m, f)) in
    grind (arith, nat_tests, same, same_task-itself e.elem.task))
    (λ m.
    let rest = queued_there k e xs (grind (arith, m, f)) in
    by_cases (is_in e.queue x.1)
    (λ n. grind (arith, n, rest))
    (λ n. grind (arith, n, rest)))

-- nothing is taken out where the task has nothing
pub without-none : (q : ℕ) (t : TaskId) (xs : Items) → has_task (elems_of (members (is_in q) xs)) t ≡ false
    → held_of xs ≡ without nat_eq (held_of xs) q t
without-none q t [] n = refl
without-none q t (x ∷ xs) n = by_cases (is_in q x.1)
    (λ m. grind (arith, m, n, without-none q t xs))
    (λ m. grind (arith, m, n, without-none q t xs))

exclusive-none : (q : ℕ) (t : TaskId) (xs : Items) → has_task (elems_of (members (is_in q) xs)) t ≡ false
    → held_of xs ≡ with_exclusive nat_eq (held_of xs) q t
exclusive-none q t [] n = refl
exclusive-none q t (x ∷ xs) n = by_cases (is_in q x.1)
    (λ m. grind (arith, m, n, exclusive-none q t xs))
    (λ m. grind (arith, m, n, exclusive-none q t xs))

held-dropped : (k : ℕ) (e : Element) (xs : Items) → keys_apart xs ≡ true → found xs k ≡ Some e
    → is_apart (elems_of (members (is_in e.queue) xs)) ≡ true
    → held_of (dropped k xs) ≡ without nat_eq (held_of xs) e.queue e.elem.task
held-dropped k e [] a f h = absurd (cc)
held-dropped k e (x ∷ xs) a f h = by_cases (eqb k x.0)
    (λ m.
    let same : x.1 ≡ e = some_same x.1 e (grind (arith, m, f)) in
    grind (
      arith,
      nat_tests,
      m,
      a,
      same,
      h,
      same_task-itself e.elem.task,
      dropped-absent k xs,
      without-none e.queue e.elem.task xs,
    ))
    (λ m.
    let inside : found xs k ≡ Some e = grind (arith, m, f) in
    let there = queued_there k e xs inside in
    by_cases (is_in e.queue x.1)
    (λ n.
    grind (
      arith,
      nat_tests,
      m,
      n,
      a,
      h,
      there,
      same_task-exact e.elem.task x.1.elem.task,
      held-dropped k e xs (grind (arith, a)) inside (grind (arith, n, h)),
    ))
    (λ n. grind (arith, nat_tests, m, n, held-dropped k e xs (grind (arith, a)) inside (grind (arith, n, h)))))

pub held-taken : (k : ℕ) (e : Element) (xs : Items) (hs : List Head) → QueuesLinked xs hs → found xs k ≡ Some e
    → held_of (tied Task e.of_task e.of_task (tied Queue e.in_queue e.in_queue (dropped k xs)))
    ≡ without nat_eq (held_of xs) e.queue e.elem.task
held-taken k e xs hs l f =
    held_of-tied Task e.of_task e.of_task (tied Queue e.in_queue e.in_queue (dropped k xs))
    ∙ held_of-tied Queue e.in_queue e.in_queue (dropped k xs)
    ∙ held-dropped k e xs l.keys f (l.apart e.queue)

-- an element goes last in its queue and among its task's
module _ (xs : Items) (hs gs : List Head) (ts us : TaskRings) (k : ℕ) (e : Element) (l : QueuesLinked xs hs)
    (m : AllLinked xs ts) (n : has_key xs k ≡ false)
    (in_queue : IsLastLink Queue xs (head_at hs e.queue).ring k e.in_queue)
    (of_task : IsLastLink Task xs (ring_of ts e.elem.task) k e.of_task) (lives : (head_at hs e.queue).live ≡ true)
    (new : has_task (elems_of (members (is_in e.queue) xs)) e.elem.task ≡ false)
    (heads : (q : ℕ) → head_at gs q ≡ cond (eqb q e.queue) (with_elem (head_at hs e.queue) k e.elem.ctl) (head_at hs q))
    (rings : (t : TaskId)
    → ring_of us t ≡ cond (same_task e.elem.task t) (ring_with (ring_of ts e.elem.task) k) (ring_of ts t)) where
  abbrev here : Link
  here = record { next = k; prev = k }

  -- the items behind the push
  abbrev pub pushed_items : Items
  pushed_items = tied Task e.of_task here (tied Queue e.in_queue here xs) ++ (k, e) ∷ []

  pub queue_neighbours : has_neighbours xs k e.in_queue ≡ true
  queue_neighbours =
      neighbours_pushed Queue (is_in e.queue) (is_in e.queue) xs (head_at hs e.queue).ring k e here l.keys n
      (in_itself e) (l.circles e.queue) (l.led e.queue) in_queue refl refl

  pub task_neighbours : has_neighbours xs k e.of_task ≡ true
  task_neighbours =
      neighbours_pushed Task (is_of e.elem.task) (is_of e.elem.task) xs (ring_of ts e.elem.task) k e here l.keys n
      (of_itself e) (m.circles e.elem.task refl) (m.led e.elem.task refl) of_task refl refl

  in_pushed : (q : ℕ)
      → members (is_in q) pushed_items
      ≡ tied Task e.of_task here (tied Queue e.in_queue here (members (is_in q) xs)) ++ members (is_in q) ((k, e) ∷ [])
  in_pushed q =
      members-append (is_in q) (tied Task e.of_task here (tied Queue e.in_queue here xs)) ((k, e) ∷ [])
      ∙ ap (λ (a : Items). a ++ members (is_in q) ((k, e) ∷ []))
      (in-tied q Task e.of_task here (tied Queue e.in_queue here xs)
      ∙ ap (tied Task e.of_task here) (in-tied q Queue e.in_queue here xs))

  of_pushed : (t : TaskId)
      → members (is_of t) pushed_items
      ≡ tied Queue e.in_queue here (tied Task e.of_task here (members (is_of t) xs)) ++ members (is_of t) ((k, e) ∷ [])
  of_pushed t =
      members-append (is_of t) (tied Task e.of_task here (tied Queue e.in_queue here xs)) ((k, e) ∷ [])
      ∙ ap (λ (a : Items). a ++ members (is_of t) ((k, e) ∷ []))
      (of-tied t Task e.of_task here (tied Queue e.in_queue here xs)
      ∙ ap (tied Task e.of_task here) (of-tied t Queue e.in_queue here xs)
      ∙ tied-commutes e.of_task here e.in_queue here (members (is_of t) xs))

  queue_ring : (q : ℕ) → ring Queue (members (is_in q) pushed_items) ≡ true
  queue_ring q =
      ap (ring Queue) (in_pushed q)
      ∙ ring-same Queue
      (tied Task e.of_task here (tied Queue e.in_queue here (members (is_in q) xs)) ++ members (is_in q) ((k, e) ∷ []))
      (tied Queue e.in_queue here (members (is_in q) xs) ++ members (is_in q) ((k, e) ∷ []))
      (same_links-append Queue (tied Task e.of_task here (tied Queue e.in_queue here (members (is_in q) xs)))
      (tied Queue e.in_queue here (members (is_in q) xs)) (members (is_in q) ((k, e) ∷ []))
      (same_queue-tied e.of_task here (tied Queue e.in_queue here (members (is_in q) xs))))
      ∙ by_key (eqb q e.queue) refl
    where
      by_key : (b : Bool) → eqb q e.queue ≡ b
          → ring Queue (tied Queue e.in_queue here (members (is_in q) xs) ++ cond b ((k, e) ∷ []) []) ≡ true
      by_key true i =
          let same : q ≡ e.queue = grind (arith, nat_tests, i) in
          ap (λ (c : ℕ). ring Queue (tied Queue e.in_queue here (members (is_in c) xs) ++ (k, e) ∷ [])) same
          ∙ ring-pushed_own Queue (is_in e.queue) (is_in e.queue) xs (head_at hs e.queue).ring k e here l.keys n
          (in_itself e) (l.circles e.queue) (l.led e.queue) in_queue refl refl
      by_key false i =
          ap (ring Queue) (append-nil (tied Queue e.in_queue here (members (is_in q) xs)))
          ∙ ring-pushed_other Queue (is_in q) (is_in e.queue) xs (head_at hs e.queue).ring k e here l.keys n
          (in_itself e) (l.circles e.queue) (l.led e.queue) in_queue refl refl (queues_disjoint q e i) (l.circles q)

  task_ring : (t : TaskId) → ring Task (members (is_of t) pushed_items) ≡ true
  task_ring t =
      ap (ring Task) (of_pushed t)
      ∙ ring-same Task
      (tied Queue e.in_queue here (tied Task e.of_task here (members (is_of t) xs)) ++ members (is_of t) ((k, e) ∷ []))
      (tied Task e.of_task here (members (is_of t) xs) ++ members (is_of t) ((k, e) ∷ []))
      (same_links-append Task (tied Queue e.in_queue here (tied Task e.of_task here (members (is_of t) xs)))
      (tied Task e.of_task here (members (is_of t) xs)) (members (is_of t) ((k, e) ∷ []))
      (same_task-tied e.in_queue here (tied Task e.of_task here (members (is_of t) xs))))
      ∙ by_task (is_of t e) refl
    where
      by_task : (b : Bool) → is_of t e ≡ b
          → ring Task (tied Task e.of_task here (members (is_of t) xs) ++ cond b ((k, e) ∷ []) []) ≡ true
      by_task true i =
          let same : t ≡ e.elem.task = same_task-exact t e.elem.task i in
          ap (λ (c : TaskId). ring Task (tied Task e.of_task here (members (is_of c) xs) ++ (k, e) ∷ [])) same
          ∙ ring-pushed_own Task (is_of e.elem.task) (is_of e.elem.task) xs (ring_of ts e.elem.task) k e here l.keys n
          (of_itself e) (m.circles e.elem.task refl) (m.led e.elem.task refl) of_task refl refl
      by_task false i =
          ap (ring Task) (append-nil (tied Task e.of_task here (members (is_of t) xs)))
          ∙ ring-pushed_other Task (is_of t) (is_of e.elem.task) xs (ring_of ts e.elem.task) k e here l.keys n
          (of_itself e) (m.circles e.elem.task refl) (m.led e.elem.task refl) of_task refl refl (tasks_disjoint t e i)
          (m.circles t refl)

  leads_tied_both : (s t : Side) (a b c d : Link) (q : Ring) (ms : Items)
      → leads q (tied s a b (tied t c d ms)) ≡ leads q ms
  leads_tied_both s t a b c d q ms = leads-tied q s a b (tied t c d ms) ∙ leads-tied q t c d ms

  queue_led : (q : ℕ) → leads (head_at gs q).ring (members (is_in q) pushed_items) ≡ true
  queue_led q = ap (leads (head_at gs q).ring) (in_pushed q) ∙ by_key (eqb q e.queue) refl
    where
      by_key : (b : Bool) → eqb q e.queue ≡ b
          → leads (head_at gs q).ring
          (tied Task e.of_task here (tied Queue e.in_queue here (members (is_in q) xs)) ++ cond b ((k, e) ∷ []) [])
          ≡ true
      by_key true i =
          let same : q ≡ e.queue = grind (arith, nat_tests, i) in
          let ring_now : (head_at gs q).ring ≡ ring_with (head_at hs q).ring k =
          grind (arith, heads q, i, ap (head_at hs) same) in
          ap (λ (c : Ring).
          leads c (tied Task e.of_task here (tied Queue e.in_queue here (members (is_in q) xs)) ++ (k, e) ∷ []))
          ring_now
          ∙ leads-push (head_at hs q).ring k e
          (tied Task e.of_task here (tied Queue e.in_queue here (members (is_in q) xs)))
          (leads_tied_both Task Queue e.of_task here e.in_queue here (head_at hs q).ring (members (is_in q) xs)
          ∙ l.led q)
      by_key false i =
          let ring_now : (head_at gs q).ring ≡ (head_at hs q).ring = grind (arith, heads q, i) in
          ap (λ (c : Ring).
          leads c (tied Task e.of_task here (tied Queue e.in_queue here (members (is_in q) xs)) ++ []))
          ring_now
          ∙ ap (leads (head_at hs q).ring)
          (append-nil (tied Task e.of_task here (tied Queue e.in_queue here (members (is_in q) xs))))
          ∙ leads_tied_both Task Queue e.of_task here e.in_queue here (head_at hs q).ring (members (is_in q) xs)
          ∙ l.led q

  other_way : (t : TaskId) → is_of t e ≡ same_task e.elem.task t
  other_way t = same_task-sym t e.elem.task

  task_led : (t : TaskId) → leads (ring_of us t) (members (is_of t) pushed_items) ≡ true
  task_led t = ap (leads (ring_of us t)) (of_pushed t) ∙ by_task (is_of t e) refl
    where
      by_task : (b : Bool) → is_of t e ≡ b
          → leads (ring_of us t)
          (tied Queue e.in_queue here (tied Task e.of_task here (members (is_of t) xs)) ++ cond b ((k, e) ∷ []) [])
          ≡ true
      by_task true i =
          let same : t ≡ e.elem.task = same_task-exact t e.elem.task i in
          let ring_now : ring_of us t ≡ ring_with (ring_of ts t) k =
          grind (arith, rings t, sym (other_way t), i, ap (ring_of ts) same) in
          ap (λ (c : Ring).
          leads c (tied Queue e.in_queue here (tied Task e.of_task here (members (is_of t) xs)) ++ (k, e) ∷ []))
          ring_now
          ∙ leads-push (ring_of ts t) k e (tied Queue e.in_queue here (tied Task e.of_task here (members (is_of t) xs)))
          (leads_tied_both Queue Task e.in_queue here e.of_task here (ring_of ts t) (members (is_of t) xs)
          ∙ m.led t refl)
      by_task false i =
          let ring_now : ring_of us t ≡ ring_of ts t = grind (arith, rings t, sym (other_way t), i) in
          ap (λ (c : Ring).
          leads c (tied Queue e.in_queue here (tied Task e.of_task here (members (is_of t) xs)) ++ []))
          ring_now
          ∙ ap (leads (ring_of ts t))
          (append-nil (tied Queue e.in_queue here (tied Task e.of_task here (members (is_of t) xs))))
          ∙ leads_tied_both Queue Task e.in_queue here e.of_task here (ring_of ts t) (members (is_of t) xs)
          ∙ m.led t refl

  live_pushed : (u : Element) → is_live_in gs u ≡ is_live_in hs u
  live_pushed u = by_key (eqb u.queue e.queue) refl
    where
      by_key : (b : Bool) → eqb u.queue e.queue ≡ b → is_live_in gs u ≡ is_live_in hs u
      by_key true i =
          let same : u.queue ≡ e.queue = grind (arith, nat_tests, i) in
          grind (arith, heads u.queue, i, ap (head_at hs) same)
      by_key false i = grind (arith, heads u.queue, i)

  exclusive_pushed : (q : ℕ) → (head_at gs q).exclusives ≡ count_exclusive (members (is_in q) pushed_items)
  exclusive_pushed q = by_key (eqb q e.queue) refl ∙ ap count_exclusive (sym (in_pushed q))
    where
      both : count_exclusive (tied Task e.of_task here (tied Queue e.in_queue here (members (is_in q) xs)))
          ≡ count_exclusive (members (is_in q) xs)
      both =
          count_exclusive-tied Task e.of_task here (tied Queue e.in_queue here (members (is_in q) xs))
          ∙ count_exclusive-tied Queue e.in_queue here (members (is_in q) xs)

      by_key : (b : Bool) → eqb q e.queue ≡ b
          → (head_at gs q).exclusives
          ≡ count_exclusive
          (tied Task e.of_task here (tied Queue e.in_queue here (members (is_in q) xs)) ++ cond b ((k, e) ∷ []) [])
      by_key true i =
          let same : q ≡ e.queue = grind (arith, nat_tests, i) in
          grind (
            arith,
            heads q,
            i,
            ap (head_at hs) same,
            l.exclusives q,
            both,
            count_exclusive-append (tied Task e.of_task here (tied Queue e.in_queue here (members (is_in q) xs)))
                ((k, e) ∷ []),
          )
      by_key false i =
          grind (
            arith,
            heads q,
            i,
            l.exclusives q,
            both,
            append-nil (tied Task e.of_task here (tied Queue e.in_queue here (members (is_in q) xs))),
          )

  apart_pushed : (q : ℕ) → is_apart (elems_of (members (is_in q) pushed_items)) ≡ true
  apart_pushed q =
      ap (λ (a : Items). is_apart (elems_of a)) (in_pushed q)
      ∙ ap is_apart (elems_of-append (tied Task e.of_task here (tied Queue e.in_queue here (members (is_in q) xs)))
      (members (is_in q) ((k, e) ∷ [])))
      ∙ ap (λ (a : List Elem). is_apart (a ++ elems_of (members (is_in q) ((k, e) ∷ []))))
      (elems_of-tied Task e.of_task here (tied Queue e.in_queue here (members (is_in q) xs))
      ∙ elems_of-tied Queue e.in_queue here (members (is_in q) xs))
      ∙ by_key (eqb q e.queue) refl
    where
      by_key : (b : Bool) → eqb q e.queue ≡ b
          → is_apart (elems_of (members (is_in q) xs) ++ elems_of (cond b ((k, e) ∷ []) [])) ≡ true
      by_key true i =
          let same : q ≡ e.queue = grind (arith, nat_tests, i) in
          is_apart-push (elems_of (members (is_in q) xs)) e.elem (l.apart q)
          (ap (λ (c : ℕ). has_task (elems_of (members (is_in c) xs)) e.elem.task) same ∙ new)
      by_key false i = ap is_apart (append-nil (elems_of (members (is_in q) xs))) ∙ l.apart q

  pub QueuesLinked-pushed : QueuesLinked pushed_items gs
  QueuesLinked-pushed = record {
    keys =
        keys_apart-push (tied Task e.of_task here (tied Queue e.in_queue here xs)) (k, e)
        (keys_apart-tied Task e.of_task here (tied Queue e.in_queue here xs)
        ∙ keys_apart-tied Queue e.in_queue here xs
        ∙ l.keys)
        (has_key-tied Task e.of_task here (tied Queue e.in_queue here xs) k
        ∙ has_key-tied Queue e.in_queue here xs k
        ∙ n);
    circles = queue_ring;
    led = queue_led;
    exclusives = exclusive_pushed;
    live =
        all_pass-append (is_live_in gs) (tied Task e.of_task here (tied Queue e.in_queue here xs)) ((k, e) ∷ [])
        ∙ grind (
          arith,
          live-tied gs Task e.of_task here (tied Queue e.in_queue here xs),
          live-tied gs Queue e.in_queue here xs,
          all_pass-same (is_live_in gs) (is_live_in hs) live_pushed xs,
          l.live,
          live_pushed e,
          lives,
        );
    apart = apart_pushed;
  }

  pub AllLinked-pushed : AllLinked pushed_items us
  AllLinked-pushed = record { circles = λ t i. task_ring t; led = λ t i. task_led t }

  pub held-pushed : held_of pushed_items ≡ held_of xs ++ (e.queue, e.elem) ∷ []
  held-pushed =
      held_of-append (tied Task e.of_task here (tied Queue e.in_queue here xs)) ((k, e) ∷ [])
      ∙ ap (λ (a : Held ℕ). a ++ (e.queue, e.elem) ∷ [])
      (held_of-tied Task e.of_task here (tied Queue e.in_queue here xs) ∙ held_of-tied Queue e.in_queue here xs)

  pub pushed : (now : Items) → now ≡ pushed_items
      → QueuesLinked now gs × (AllLinked now us × (held_of now ≡ held_of xs ++ (e.queue, e.elem) ∷ []))
  pushed now is =
      subst (λ (l : Items). QueuesLinked l gs × (AllLinked l us × (held_of l ≡ held_of xs ++ (e.queue, e.elem) ∷ [])))
      (sym is) (QueuesLinked-pushed, (AllLinked-pushed, held-pushed))

-- an element is made exclusive in its place
same_changed : (s : Side) (k : ℕ) (xs : Items) → same_links s (changed k made_exclusive xs) xs ≡ true
same_changed s k [] = refl
same_changed Queue k (x ∷ xs) = grind (arith, nat_tests, same_changed Queue k xs)
same_changed Task k (x ∷ xs) = grind (arith, nat_tests, same_changed Task k xs)

leads-changed : (r : Ring) (k : ℕ) (f : Element → Element) (xs : Items) → leads r (changed k f xs) ≡ leads r xs
leads-changed r k f [] = refl
leads-changed r k f (x ∷ xs) = grind (arith, length_changed xs)
  where
    length_changed : (ys : Items) → length (changed k f ys) ≡ length ys
    length_changed [] = refl
    length_changed (y ∷ ys) = grind (arith, length_changed ys)

count_exclusive-changed : (k : ℕ) (e : Element) (ms : Items) → keys_apart ms ≡ true → found ms k ≡ Some e
    → is_shared e.elem.ctl ≡ true → count_exclusive (changed k made_exclusive ms) ≡ count_exclusive ms + 1
count_exclusive-changed k e [] a f s = absurd (cc)
count_exclusive-changed k e (x ∷ xs) a f s =
    grind (arith, nat_tests, a, f, s, count_exclusive-changed k e xs, changed-absent k made_exclusive xs)

has_task-changed : (k : ℕ) (ms : Items) (t : TaskId)
    → has_task (elems_of (changed k made_exclusive ms)) t ≡ has_task (elems_of ms) t
has_task-changed k [] t = refl
has_task-changed k (x ∷ xs) t = grind (arith, has_task-changed k xs t)

is_apart-changed : (k : ℕ) (ms : Items) → is_apart (elems_of (changed k made_exclusive ms)) ≡ is_apart (elems_of ms)
is_apart-changed k [] = refl
is_apart-changed k (x ∷ xs) = grind (arith, is_apart-changed k xs, has_task-changed k xs x.1.elem.task)

live-changed : (hs : List Head) (k : ℕ) (xs : Items)
    → all_pass (is_live_in hs) (changed k made_exclusive xs) ≡ all_pass (is_live_in hs) xs
live-changed hs k [] = refl
live-changed hs k (x ∷ xs) = grind (arith, live-changed hs k xs)

in-changed : (q k : ℕ) (xs : Items)
    → members (is_in q) (changed k made_exclusive xs) ≡ changed k made_exclusive (members (is_in q) xs)
in-changed q k xs = members-changed (is_in q) k made_exclusive (λ e. refl) xs

of-changed : (t : TaskId) (k : ℕ) (xs : Items)
    → members (is_of t) (changed k made_exclusive xs) ≡ changed k made_exclusive (members (is_of t) xs)
of-changed t k xs = members-changed (is_of t) k made_exclusive (λ e. refl) xs

module _ (xs : Items) (hs gs : List Head) (k : ℕ) (e : Element) (l : QueuesLinked xs hs) (f : found xs k ≡ Some e)
    (shared : is_shared e.elem.ctl ≡ true) (heads : (q : ℕ)
    → head_at gs q ≡ cond (eqb q e.queue) (head_with_exclusive (head_at hs e.queue)) (head_at hs q)) where
  ring_kept : (q : ℕ) → (head_at gs q).ring ≡ (head_at hs q).ring
  ring_kept q = by_key (eqb q e.queue) refl
    where
      by_key : (b : Bool) → eqb q e.queue ≡ b → (head_at gs q).ring ≡ (head_at hs q).ring
      by_key true i =
          let same : q ≡ e.queue = grind (arith, nat_tests, i) in grind (arith, heads q, i, ap (head_at hs) same)
      by_key false i = grind (arith, heads q, i)

  live_kept : (u : Element) → is_live_in gs u ≡ is_live_in hs u
  live_kept u = by_key (eqb u.queue e.queue) refl
    where
      by_key : (b : Bool) → eqb u.queue e.queue ≡ b → is_live_in gs u ≡ is_live_in hs u
      by_key true i =
          let same : u.queue ≡ e.queue = grind (arith, nat_tests, i) in
          grind (arith, heads u.queue, i, ap (head_at hs) same)
      by_key false i = grind (arith, heads u.queue, i)

  exclusive_changed : (q : ℕ)
      → (head_at gs q).exclusives ≡ count_exclusive (changed k made_exclusive (members (is_in q) xs))
  exclusive_changed q = by_key (eqb q e.queue) refl
    where
      by_key : (b : Bool) → eqb q e.queue ≡ b
          → (head_at gs q).exclusives ≡ count_exclusive (changed k made_exclusive (members (is_in q) xs))
      by_key true i =
          let same : q ≡ e.queue = grind (arith, nat_tests, i) in
          let inside : found (members (is_in q) xs) k ≡ Some e =
          found-members (is_in q) xs k l.keys ∙ grind (arith, f, i) in
          grind (
            arith,
            heads q,
            i,
            ap (head_at hs) same,
            l.exclusives q,
            count_exclusive-changed k e (members (is_in q) xs) (keys_apart-members (is_in q) xs l.keys) inside shared,
          )
      by_key false i =
          let absent : has_key (members (is_in q) xs) k ≡ false =
          has_key-none (members (is_in q) xs) k (found-members (is_in q) xs k l.keys ∙ grind (arith, f, i)) in
          grind (arith, heads q, i, l.exclusives q, changed-absent k made_exclusive (members (is_in q) xs) absent)

  pub QueuesLinked-changed : QueuesLinked (changed k made_exclusive xs) gs
  QueuesLinked-changed = record {
    keys = keys_apart-changed k made_exclusive xs ∙ l.keys;
    circles = λ q.
        ap (ring Queue) (in-changed q k xs)
        ∙ ring-same Queue (changed k made_exclusive (members (is_in q) xs)) (members (is_in q) xs)
        (same_changed Queue k (members (is_in q) xs))
        ∙ l.circles q;
    led = λ q.
        ap (leads (head_at gs q).ring) (in-changed q k xs)
        ∙ leads-changed (head_at gs q).ring k made_exclusive (members (is_in q) xs)
        ∙ ap (λ (r : Ring). leads r (members (is_in q) xs)) (ring_kept q)
        ∙ l.led q;
    exclusives = λ q. exclusive_changed q ∙ ap count_exclusive (sym (in-changed q k xs));
    live = live-changed gs k xs ∙ all_pass-same (is_live_in gs) (is_live_in hs) live_kept xs ∙ l.live;
    apart = λ q.
        ap (λ (m : Items). is_apart (elems_of m)) (in-changed q k xs)
        ∙ is_apart-changed k (members (is_in q) xs)
        ∙ l.apart q;
  }

pub AllLinked-changed : (xs : Items) (ts : TaskRings) (k : ℕ) → AllLinked xs ts
    → AllLinked (changed k made_exclusive xs) ts
AllLinked-changed xs ts k m = record {
  circles = λ t i.
      ap (ring Task) (of-changed t k xs)
      ∙ ring-same Task (changed k made_exclusive (members (is_of t) xs)) (members (is_of t) xs)
      (same_changed Task k (members (is_of t) xs))
      ∙ m.circles t i;
  led = λ t i.
      ap (leads (ring_of ts t)) (of-changed t k xs)
      ∙ leads-changed (ring_of ts t) k made_exclusive (members (is_of t) xs)
      ∙ m.led t i;
}

-- what is held then
held-changed : (k : ℕ) (e : Element) (xs : Items) → keys_apart xs ≡ true → found xs k ≡ Some e
    → is_apart (elems_of (members (is_in e.queue) xs)) ≡ true
    → held_of (changed k made_exclusive xs) ≡ with_exclusive nat_eq (held_of xs) e.queue e.elem.task
held-changed k e [] a f h = absurd (cc)
held-changed k e (x ∷ xs) a f h = by_cases (eqb k x.0)
    (λ m.
    let same : x.1 ≡ e = some_same x.1 e (grind (arith, m, f)) in
    grind (
      arith,
      nat_tests,
      m,
      a,
      same,
      h,
      same_task-itself e.elem.task,
      changed-absent k made_exclusive xs,
      exclusive-none e.queue e.elem.task xs,
    ))
    (λ m.
    let inside : found xs k ≡ Some e = grind (arith, m, f) in
    let there = queued_there k e xs inside in
    by_cases (is_in e.queue x.1)
    (λ n.
    grind (
      arith,
      nat_tests,
      m,
      n,
      a,
      h,
      there,
      same_task-exact e.elem.task x.1.elem.task,
      held-changed k e xs (grind (arith, a)) inside (grind (arith, n, h)),
    ))
    (λ n. grind (arith, nat_tests, m, n, held-changed k e xs (grind (arith, a)) inside (grind (arith, n, h)))))

pub held-exclusive : (k : ℕ) (e : Element) (xs : Items) (hs : List Head) → QueuesLinked xs hs → found xs k ≡ Some e
    → held_of (changed k made_exclusive xs) ≡ with_exclusive nat_eq (held_of xs) e.queue e.elem.task
held-exclusive k e xs hs l f = held-changed k e xs l.keys f (l.apart e.queue)

-- All elements of a task leave, one after the other round its circle.
use Rattle.std.proofs.Common.{◌≡◌, ◌<◌, ◌+◌, ℕ, Bool, true, false, cond, [], ◌∷◌, length, Some, None, refl, ap, sym}
use Rattle.std.proofs.Common.{◌∙◌, arith, eqb}
use Rattle.std.proofs.lemmas.Bool.Decides.{nat_tests}
use Rattle.grs_base.specs.Same.{same_task}
use Rattle.grs_base.specs.State.{Held}
use Rattle.grs_base.specs.declared.resource.TaskId.{TaskId}
use Rattle.grs_base.proofs.SameLaws.{same_task-exact, same_task-itself}
use Rattle.qel_store.specs.declared.elements.Element.{Element}
use Rattle.qel_store.specs.declared.elements.Link.{Link}
use Rattle.qel_store.specs.declared.elements.Side.TheVariants.{Queue, Task}
use Rattle.qel_store.specs.declared.rings.Ring.{Ring}
use Rattle.qel_store.specs.Items.{Item, Items, found, has_key, keys_apart, dropped, members, is_of, held_of}
use Rattle.qel_store.specs.Items.{without_task}
use Rattle.qel_store.specs.Rings.{chain, ring, leads, first_key, tied, no_ring}
use Rattle.qel_store.specs.Tasks.{TaskRings, ring_of}
use Rattle.qel_store.specs.Linked.{TasksLinked, AllLinked, threaded, unqueued}
use Rattle.qel_store.proofs.ItemLemmas.{by_cases, found-members, has_key-none, has_key-members, keys_apart-members}
use Rattle.qel_store.proofs.ItemLemmas.{members-dropped, dropped-absent, length-dropped}
use Rattle.qel_store.proofs.RingLemmas.{key-tie}
use Rattle.qel_store.proofs.WalkLemmas.{found-member}
use Rattle.qel_store.proofs.TieLemmas.{of-tied, length-tied, leads-tied, same_task-tied, ring-same, held_of-tied}

-- a circle leads from each element to the next
threaded-chain : (a : Item) (xs : Items) (z : Item) → chain Task a xs z ≡ true → threaded (a ∷ xs) z.0 ≡ true
threaded-chain a [] z h = grind (arith, nat_tests, h)
threaded-chain a (x ∷ xs) z h = grind (arith, nat_tests, h, threaded-chain x xs z)

pub threaded-ring : (r : Ring) (ms : Items) → ring Task ms ≡ true → leads r ms ≡ true → threaded ms r.first ≡ true
threaded-ring r [] h l = refl
threaded-ring r (x ∷ xs) h l =
    let first : r.first ≡ x.0 = grind (arith, nat_tests, l) in ap (threaded (x ∷ xs)) first ∙ threaded-chain x xs x h

first_key-tied : (at to : Link) (ms : Items) (d : ℕ) → first_key (tied Queue at to ms) d ≡ first_key ms d
first_key-tied at to [] d = refl
first_key-tied at to (x ∷ xs) d = key-tie Queue at to x

threaded-tied : (at to : Link) (ms : Items) (d : ℕ) → threaded (tied Queue at to ms) d ≡ threaded ms d
threaded-tied at to [] d = refl
threaded-tied at to (x ∷ xs) d = grind (arith, first_key-tied at to xs d, threaded-tied at to xs d)

-- the first of a task's elements
first_there : (ms : Items) (k d : ℕ) → 0 < length ms → k ≡ first_key ms d → has_key ms k ≡ true
first_there [] k d h e = absurd (omega arith)
first_there (x ∷ xs) k d h e = grind (arith, nat_tests, e)

split_first : (ms : Items) (k d : ℕ) (e : Element) → keys_apart ms ≡ true → 0 < length ms → k ≡ first_key ms d
    → found ms k ≡ Some e → ms ≡ (k, e) ∷ dropped k ms
split_first [] k d e a h f g = absurd (omega arith)
split_first (x ∷ xs) k d e a h f g =
    let same : Some x.1 ≡ Some e = grind (arith, nat_tests, f, g) in
    grind (arith, nat_tests, a, f, same, dropped-absent k xs)

beside : (k : ℕ) (e : Element) (task : TaskId) → is_of task e ≡ true → (xs : Items) → keys_apart xs ≡ true
    → found xs k ≡ Some e → without_task (held_of (dropped k xs)) task ≡ without_task (held_of xs) task
beside k e task o [] a f = refl
beside k e task o (x ∷ xs) a f = by_cases (eqb k x.0)
    (λ m. let same : Some x.1 ≡ Some e = grind (arith, m, f) in
    grind (arith, nat_tests, m, a, same, o, dropped-absent k xs))
    (λ m. let rest = beside k e task o xs (grind (arith, a)) (grind (arith, m, f)) in
    by_cases (is_of task x.1) (λ b. grind (arith, m, b, rest)) (λ b. grind (arith, m, b, rest)))

pub end-there : (xs : Items) (task : TaskId) (k d : ℕ) → 0 < length (members (is_of task) xs)
    → k ≡ first_key (members (is_of task) xs) d → has_key xs k ≡ true
end-there xs task k d some first =
    by_cases (has_key xs k) (λ h. h) (λ h.
    let wrong : false ≡ true =
    sym (has_key-members (is_of task) xs k h) ∙ first_there (members (is_of task) xs) k d some first in
    absurd (cc))

module _ (xs : Items) (task : TaskId) (k d : ℕ) (e : Element) (a : keys_apart xs ≡ true)
    (some : 0 < length (members (is_of task) xs)) (first : k ≡ first_key (members (is_of task) xs) d) where
  key_in : has_key (members (is_of task) xs) k ≡ true
  key_in = first_there (members (is_of task) xs) k d some first

  module _ (f : found xs k ≡ Some e) where
    split : members (is_of task) xs ≡ (k, e) ∷ dropped k (members (is_of task) xs)
    split =
        split_first (members (is_of task) xs) k d e (keys_apart-members (is_of task) xs a) some first
        (found-member (is_of task) xs k a key_in ∙ f)

    own : is_of task e ≡ true
    own =
        by_cases (is_of task e) (λ h. h) (λ h.
        let gone : found (members (is_of task) xs) k ≡ None = found-members (is_of task) xs k a ∙ grind (arith, f, h) in
        let wrong : false ≡ true = sym (has_key-none (members (is_of task) xs) k gone) ∙ key_in in
        absurd (cc))

    of_unqueued : (t : TaskId)
        → members (is_of t) (unqueued k e xs) ≡ tied Queue e.in_queue e.in_queue (dropped k (members (is_of t) xs))
    of_unqueued t =
        of-tied t Queue e.in_queue e.in_queue (dropped k xs)
        ∙ ap (tied Queue e.in_queue e.in_queue) (members-dropped (is_of t) k xs)

    -- one less is left
    pub end-count : length (members (is_of task) (unqueued k e xs)) + 1 ≡ length (members (is_of task) xs)
    end-count =
        let less = length-dropped k (members (is_of task) xs) (keys_apart-members (is_of task) xs a) key_in in
        let same : length (members (is_of task) (unqueued k e xs)) ≡ length (dropped k (members (is_of task) xs)) =
        ap (λ (l : Items). length l) (of_unqueued task)
        ∙ length-tied Queue e.in_queue e.in_queue (dropped k (members (is_of task) xs)) in
        omega arith

    -- and is led to
    pub end-key : threaded (members (is_of task) xs) d ≡ true
        → e.of_task.next ≡ first_key (members (is_of task) (unqueued k e xs)) d
    end-key h =
        led (dropped k (members (is_of task) xs)) (ap (λ (l : Items). threaded l d) (sym split) ∙ h)
        ∙ sym (first_key-tied e.in_queue e.in_queue (dropped k (members (is_of task) xs)) d)
        ∙ ap (λ (l : Items). first_key l d) (sym (of_unqueued task))
      where
        led : (rest : Items) → threaded ((k, e) ∷ rest) d ≡ true → e.of_task.next ≡ first_key rest d
        led rest g = grind (arith, nat_tests, g)

    pub end-threaded : threaded (members (is_of task) xs) d ≡ true
        → threaded (members (is_of task) (unqueued k e xs)) d ≡ true
    end-threaded h =
        ap (λ (l : Items). threaded l d) (of_unqueued task)
        ∙ threaded-tied e.in_queue e.in_queue (dropped k (members (is_of task) xs)) d
        ∙ rest_of (dropped k (members (is_of task) xs)) (ap (λ (l : Items). threaded l d) (sym split) ∙ h)
      where
        rest_of : (rest : Items) → threaded ((k, e) ∷ rest) d ≡ true → threaded rest d ≡ true
        rest_of rest g = grind (arith, g)

    -- what is held beside the task's elements stays
    pub end-held : without_task (held_of (unqueued k e xs)) task ≡ without_task (held_of xs) task
    end-held =
        ap (λ (l : Held ℕ). without_task l task) (held_of-tied Queue e.in_queue e.in_queue (dropped k xs))
        ∙ beside k e task own xs a f

    -- and so do the other tasks' circles
    pub end-others : (ts : TaskRings) → TasksLinked (same_task task) xs ts
        → TasksLinked (same_task task) (unqueued k e xs) ts
    end-others ts l = record {
      circles = λ t h.
          ap (ring Task) (left_alone t h)
          ∙ ring-same Task (tied Queue e.in_queue e.in_queue (members (is_of t) xs)) (members (is_of t) xs)
          (same_task-tied e.in_queue e.in_queue (members (is_of t) xs))
          ∙ l.circles t h;
      led = λ t h.
          ap (leads (ring_of ts t)) (left_alone t h)
          ∙ leads-tied (ring_of ts t) Queue e.in_queue e.in_queue (members (is_of t) xs)
          ∙ l.led t h;
    }
      where
        not_of : (t : TaskId) → same_task task t ≡ false → is_of t e ≡ false
        not_of t h = by_cases (is_of t e)
            (λ g. let same : t ≡ task = same_task-exact t e.elem.task g ∙ sym (same_task-exact task e.elem.task own) in
            let wrong : true ≡ false = sym (same_task-itself task) ∙ ap (same_task task) (sym same) ∙ h in
            absurd (cc))
            (λ g. g)

        left_alone : (t : TaskId) → same_task task t ≡ false
            → members (is_of t) (unqueued k e xs) ≡ tied Queue e.in_queue e.in_queue (members (is_of t) xs)
        left_alone t h =
            of_unqueued t
            ∙ ap (tied Queue e.in_queue e.in_queue) (dropped-absent k (members (is_of t) xs)
            (has_key-none (members (is_of t) xs) k (found-members (is_of t) xs k a ∙ grind (arith, f, not_of t h))))

-- the beginning and the end
pub ends-begin : (task : TaskId) (xs : Items) (ts : TaskRings) → AllLinked xs ts → TasksLinked (same_task task) xs ts
ends-begin task xs ts l = record { circles = λ t h. l.circles t refl; led = λ t h. l.led t refl }

pub ends-none : (ms : Items) → length ms ≡ 0 → ms ≡ []
ends-none [] h = refl
ends-none (x ∷ xs) h = absurd (omega arith)

pub ends-held : (task : TaskId) (xs : Items) → members (is_of task) xs ≡ []
    → without_task (held_of xs) task ≡ held_of xs
ends-held task [] h = refl
ends-held task (x ∷ xs) h = by_cases (is_of task x.1)
    (λ b. let wrong : x ∷ members (is_of task) xs ≡ [] = grind (arith, b, h) in absurd (cc))
    (λ b. grind (arith, b, ends-held task xs (grind (arith, b, h))))

pub ends-cleared : (task : TaskId) (xs : Items) (ts us : TaskRings) → TasksLinked (same_task task) xs ts
    → members (is_of task) xs ≡ [] → ((t : TaskId) → ring_of us t ≡ cond (same_task task t) no_ring (ring_of ts t))
    → AllLinked xs us
ends-cleared task xs ts us l n rings = record {
  circles = λ t h. by_cases (same_task task t)
      (λ b. ap (ring Task) (empty t b))
      (λ b. l.circles t b);
  led = λ t h. by_cases (same_task task t)
      (λ b.
      ap (λ (r : Ring). leads r (members (is_of t) xs)) (rings t ∙ ap (λ (c : Bool). cond c no_ring (ring_of ts t)) b)
      ∙ ap (leads no_ring) (empty t b))
      (λ b.
      ap (λ (r : Ring). leads r (members (is_of t) xs)) (rings t ∙ ap (λ (c : Bool). cond c no_ring (ring_of ts t)) b)
      ∙ l.led t b);
}
  where
    empty : (t : TaskId) → same_task task t ≡ true → members (is_of t) xs ≡ []
    empty t b = ap (λ (u : TaskId). members (is_of u) xs) (sym (same_task-exact task t b)) ∙ n

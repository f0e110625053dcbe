-- What linked queues keep true.
use Rattle.std.specs.Prelude.{◌≡◌, ◌==◌, ℕ, Bool, true, false, ◌&&◌, List, [], ◌∷◌}
use Rattle.grs_base.specs.Lists.{is_apart}
use Rattle.grs_base.specs.declared.resource.TaskId.{TaskId}
use Rattle.qel_store.specs.declared.elements.Element.{Element}
use Rattle.qel_store.specs.declared.elements.Side.TheVariants.{Queue, Task}
use Rattle.qel_store.specs.declared.heads.Head.{Head}
use Rattle.qel_store.specs.Items.{Items, keys_apart, dropped, members, is_in, is_of, all_pass, elems_of}
use Rattle.qel_store.specs.Items.{count_exclusive}
use Rattle.qel_store.specs.Rings.{ring, leads, first_key, tied}
use Rattle.qel_store.specs.Heads.{head_at}
use Rattle.qel_store.specs.Tasks.{TaskRings, ring_of}

-- whether an element's queue is in use
abbrev pub is_live_in : List Head → Element → Bool
is_live_in hs e = (head_at hs e.queue).live

-- the elements of each queue are a circle to which its head leads, which counts the exclusive ones; they are in queues
-- that are in use, and no task has two in one
pub record QueuesLinked (xs : Items) (hs : List Head) : Type 0 where
  pub keys : keys_apart xs ≡ true
  pub circles : (q : ℕ) → ring Queue (members (is_in q) xs) ≡ true
  pub led : (q : ℕ) → leads (head_at hs q).ring (members (is_in q) xs) ≡ true
  pub exclusives : (q : ℕ) → (head_at hs q).exclusives ≡ count_exclusive (members (is_in q) xs)
  pub live : all_pass (is_live_in hs) xs ≡ true
  pub apart : (q : ℕ) → is_apart (elems_of (members (is_in q) xs)) ≡ true

-- the elements of each task are a circle to which its slot leads, but for the tasks that are at their end
pub record TasksLinked (ends : TaskId → Bool) (xs : Items) (ts : TaskRings) : Type 0 where
  pub circles : (t : TaskId) → ends t ≡ false → ring Task (members (is_of t) xs) ≡ true
  pub led : (t : TaskId) → ends t ≡ false → leads (ring_of ts t) (members (is_of t) xs) ≡ true

-- of every task
abbrev pub AllLinked : Items → TaskRings → Type 0
AllLinked xs ts = TasksLinked (λ t. false) xs ts

-- whether each element of a task leads to the one behind it, and the last to this key
abbrev pub threaded : Items → ℕ → Bool
threaded [] k = true
threaded (x ∷ xs) k = (x.1.of_task.next == first_key xs k) && threaded xs k

-- the items without an element that has left its queue's circle; its task's still leads to it
abbrev pub unqueued : ℕ → Element → Items → Items
unqueued k e xs = tied Queue e.in_queue e.in_queue (dropped k xs)

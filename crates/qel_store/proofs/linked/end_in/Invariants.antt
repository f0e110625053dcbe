use Rattle.std.proofs.Common.{◌≡◌, ◌≤◌, ◌+◌, ◌*◌, ℕ, length, true}
use Rattle.grs_base.specs.Same.{same_task}
use Rattle.qel_store.specs.Items.{members, is_of, held_of, without_task}
use Rattle.qel_store.specs.Rings.{first_key}
use Rattle.qel_store.specs.Heads.{head_at}
use Rattle.qel_store.specs.Tasks.{TaskRings}
use Rattle.qel_store.specs.Linked.{QueuesLinked, TasksLinked, AllLinked, threaded}
use Rattle.qel_store.proofs.linked.end_in.Given as goal

-- the task's elements that are left, the first under this key; and what stays
abbrev pub invariant-loop-i : goal.invariant-loop-i
invariant-loop-i g l =
    let xs = l.elements.items in
    record {
      queues : QueuesLinked xs l.heads.items;
      left : l.i + length (members (is_of l.fn._task) xs) ≡ l.fn.ring.len;
      key : l.key ≡ first_key (members (is_of l.fn._task) xs) l.fn.ring.first;
      leads_on : threaded (members (is_of l.fn._task) xs) l.fn.ring.first ≡ true;
      others : (ts : TaskRings) → AllLinked l.fn.elements.items ts → TasksLinked (same_task l.fn._task) xs ts;
      held : without_task (held_of xs) l.fn._task ≡ without_task (held_of l.fn.elements.items) l.fn._task;
      len : length l.heads.items ≡ length l.fn.heads.items;
      live : (q : ℕ) → (head_at l.heads.items q).live ≡ (head_at l.fn.heads.items q).live;
      steps : l.steps ≤ l.fn.steps + 3 * l.i;
    }

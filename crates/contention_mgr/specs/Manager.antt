-- What a manager keeps: of each lock entry that it manages the next rank, and the elements of the lists of its
-- resources, each with its rank and whether its task is still to be told that it owns. What a request is answered, and
-- what it leaves, is by the plain lists.
use Rattle.std.specs.Prelude.{ℕ, zero, suc, ◌+◌, Bool, true, false, not, ◌&&◌, ◌||◌, ◌==◌, nat_lt, nat_le, cond, List}
use Rattle.std.specs.Prelude.{[], ◌∷◌, ◌++◌, length, map, filter, Option, Some, None, unwrap_or, slice_get, slice_set}
use Rattle.std.specs.List.{list_any}
use Rattle.std.specs.Option.{option_map_or}
use Rattle.std.specs.Ordering.{is_lt}
use Rattle.grs_base.specs.Same.{same_res, same_task}
use Rattle.grs_base.specs.Lists.{decide_enq, is_owner, standing_of}
use Rattle.grs_base.specs.ResOrder.{res_order}
use Rattle.grs_base.specs.Slices.{entry_of}
use Rattle.grs_base.specs.State.{State, list_of}
use Rattle.grs_base.specs.declared.decision.Effect.{Effect}
use Rattle.grs_base.specs.declared.decision.Effect.TheVariants.{Nothing, Append, MakeExclusive}
use Rattle.grs_base.specs.declared.resource.Ctl.{Ctl}
use Rattle.grs_base.specs.declared.resource.Ctl.TheVariants.{E}
use Rattle.grs_base.specs.declared.resource.Elem.{Elem}
use Rattle.grs_base.specs.declared.resource.Res.{Res}
use Rattle.grs_base.specs.declared.resource.SysId.{SysId}
use Rattle.grs_base.specs.declared.resource.TaskId.{TaskId}
use Rattle.lock_structure.specs.Entries.{entry_of_res}
use Rattle.grs_wire.specs.Wants.{new_owners}
use Rattle.grs_wire.specs.declared.request.Want.{Want}
use Rattle.grs_wire.specs.declared.request.Want.TheVariants.{Enq, Deq, Release, Look}

-- an element with its resource and its rank; `untold` says that its task got control by another's request, and is still
-- to be told
pub record Ranked : Type 0 where
  pub res : Res
  pub elem : Elem
  pub rank : ℕ
  pub untold : Bool

-- a lock entry that is managed: the rank that its next element gets, and its elements, on each resource in order of
-- arrival
pub record Managed : Type 0 where
  pub next : ℕ
  pub items : List Ranked

-- a manager: its system, and of each lock entry what it keeps, where it manages it
pub record ManagerView : Type 0 where
  pub system : SysId
  pub entries : List (Option Managed)

-- ---- one entry

-- the plain lists
abbrev pub plain : List Ranked → State
plain xs = map (λ x. (x.res, x.elem)) xs

-- an entry in whose lists nothing stands yet
abbrev pub no_elements : Managed
no_elements = record { next = 1; items = [] }

-- whether an element is this task's on this resource
abbrev pub is_of : Res → TaskId → Ranked → Bool
is_of r t x = same_res r x.res && same_task t x.elem.task

-- the same element with exclusive control, and told or untold
abbrev pub exclusive : Ranked → Ranked
exclusive x = record { res = x.res; elem = record { task = x.elem.task; ctl = E }; rank = x.rank; untold = x.untold }

abbrev pub marked : Bool → Ranked → Ranked
marked untold x = record { res = x.res; elem = x.elem; rank = x.rank; untold = untold }

-- with a task's element on a resource made exclusive in its place, taken out, or told or untold
abbrev pub made_exclusive : Res → TaskId → List Ranked → List Ranked
made_exclusive r t xs = map (λ x. cond (is_of r t x) (exclusive x) x) xs

abbrev pub taken_out : Res → TaskId → List Ranked → List Ranked
taken_out r t xs = filter (λ x. not (is_of r t x)) xs

abbrev pub with_mark : Bool → Res → TaskId → List Ranked → List Ranked
with_mark untold r t xs = map (λ x. cond (is_of r t x) (marked untold x) x) xs

-- These tasks got control of a resource by another's request. Those of other systems are still to be told; one of the
-- manager's own system, s, is told by that system itself.
abbrev pub with_control : ℕ → Res → List TaskId → List Ranked → List Ranked
with_control s r [] xs = xs
with_control s r (t ∷ ts) xs = with_control s r ts (cond (not (s == t.system.0)) (with_mark true r t xs) xs)

-- the entry after what ENQ decides: a new element gets the next rank, and what its task is answered tells it
abbrev pub enqueued : Managed → Res → TaskId → Ctl → Effect → Managed
enqueued m r t c Nothing = m
enqueued m r t c Append = record {
  next = m.next + 1;
  items = m.items ++ record { res = r; elem = record { task = t; ctl = c }; rank = m.next; untold = false } ∷ [];
}
enqueued m r t c MakeExclusive = record { next = m.next; items = made_exclusive r t m.items }

-- the entry after a task's element left a list, by which these tasks got control
abbrev pub given_up : ℕ → Managed → Res → TaskId → List TaskId → Managed
given_up s m r t owners = record { next = m.next; items = with_control s r owners (taken_out r t m.items) }

-- the entry after a request, at a manager of system s
abbrev pub settled : ℕ → Managed → TaskId → Want → Managed
settled s m t (Enq r c ret full) = enqueued m r t c (decide_enq (list_of (plain m.items) r) t c ret full).effect
settled s m t (Deq r have) =
    cond (is_owner (standing_of (list_of (plain m.items) r) t))
    (given_up s m r t (new_owners (plain m.items) t (Deq r have))) m
settled s m t (Release r) = given_up s m r t (new_owners (plain m.items) t (Release r))
settled s m t (Look first count f) = m

-- whether a request puts an element into a list
abbrev pub appends : Effect → Bool
appends Nothing = false
appends Append = true
appends MakeExclusive = false

abbrev pub queues : State → TaskId → Want → Bool
queues s t (Enq r c ret full) = appends (decide_enq (list_of s r) t c ret full).effect
queues s t (Deq r have) = false
queues s t (Release r) = false
queues s t (Look first count f) = false

-- the rank that a request gives; 0 where it puts no element into a list
abbrev pub rank_given : Managed → TaskId → Want → ℕ
rank_given m t w = cond (queues (plain m.items) t w) m.next 0

-- ---- who is to be told

-- whether an element is of an owner of another system than `home` who is still to be told
abbrev pub is_untold : ℕ → Ranked → Bool
is_untold home x = x.untold && not (home == x.elem.task.system.0)

abbrev pub any_untold_in : ℕ → List Ranked → Bool
any_untold_in home xs = list_any (is_untold home) xs

-- the sooner of an element and of one that stands behind it: that whose resource is shown first
abbrev pub sooner : Ranked → Option Ranked → Ranked
sooner x None = x
sooner x (Some y) = cond (is_lt (res_order y.res x.res)) y x

-- the element of the owner who is to be told first: by the order of resources, and on one resource in the order of its
-- list
abbrev pub first_untold : ℕ → List Ranked → Option Ranked
first_untold home [] = None
first_untold home (x ∷ xs) = cond (is_untold home x) (Some (sooner x (first_untold home xs))) (first_untold home xs)

-- the task of an element, with its resource
abbrev pub owner_of : Ranked → TaskId × Res
owner_of x = (x.elem.task, x.res)

-- ---- the whole manager

-- whether so many slices from this one on are all of one entry, e
abbrev pub are_of : ℕ → ℕ → ℕ → ℕ → Bool
are_of entries e first zero = true
are_of entries e first (suc count) = (e == entry_of first entries) && are_of entries e (first + 1) count

-- the lock entry of looks: that of their slices, where they have one, and there are these slices
abbrev pub entry_of_looks : ℕ → ℕ → ℕ → Option ℕ
entry_of_looks entries first count =
    cond (nat_lt 0 count && nat_le (first + count) 64 && are_of entries (entry_of first entries) first count)
    (Some (entry_of first entries)) None

-- the lock entry of a request
abbrev pub entry_wanted : ℕ → Want → Option ℕ
entry_wanted entries (Enq r c ret full) = entry_of_res entries r
entry_wanted entries (Deq r have) = entry_of_res entries r
entry_wanted entries (Release r) = entry_of_res entries r
entry_wanted entries (Look first count f) = entry_of_looks entries first count

-- what is kept of an entry, where it is managed
abbrev pub kept_at : List (Option Managed) → ℕ → Option Managed
kept_at entries e = unwrap_or (slice_get entries e) None

abbrev pub managed_at : ManagerView → ℕ → Option Managed
managed_at v e = kept_at v.entries e

abbrev pub kept_for : List (Option Managed) → Option ℕ → Option Managed
kept_for entries None = None
kept_for entries (Some e) = kept_at entries e

-- what is kept of the entry of a resource, and of that of a request
abbrev pub managed_of : ManagerView → Res → Option Managed
managed_of v r = kept_for v.entries (entry_of_res (length v.entries) r)

abbrev pub managed_for : ManagerView → Want → Option Managed
managed_for v w = kept_for v.entries (entry_wanted (length v.entries) w)

-- the elements of an entry, none where it isn't managed
abbrev pub items_of : Option Managed → List Ranked
items_of None = []
items_of (Some m) = m.items

-- a manager that keeps something else of an entry, or gives it up
abbrev pub with_entry : ManagerView → Option ℕ → Option Managed → ManagerView
with_entry v None o = v
with_entry v (Some e) o = record { system = v.system; entries = slice_set v.entries e o }

-- the manager after a request
abbrev pub after_request : ManagerView → TaskId → Want → ManagerView
after_request v t w =
    option_map_or (λ m. with_entry v (entry_wanted (length v.entries) w) (Some (settled v.system.0 m t w)))
    (managed_for v w) v

-- the rank that a request gives at a manager
abbrev pub rank_for : Option Managed → TaskId → Want → ℕ
rank_for None t w = 0
rank_for (Some m) t w = rank_given m t w

-- an entry, and the manager, once this task was told that it owns this resource
abbrev pub told : TaskId → Res → Managed → Managed
told t r m = record { next = m.next; items = with_mark false r t m.items }

abbrev pub after_telling : ManagerView → TaskId → Res → ManagerView
after_telling v t r =
    option_map_or (λ m. with_entry v (entry_of_res (length v.entries) r) (Some (told t r m))) (managed_of v r) v

-- whether in some entry an owner of another system is still to be told
abbrev pub any_untold_at : ℕ → List (Option Managed) → Bool
any_untold_at home [] = false
any_untold_at home (o ∷ os) = any_untold_in home (items_of o) || any_untold_at home os

-- A system's part in star mode: the lock entries that it manages, the requests of others that it has still to settle,
-- and the entries in which it has interest; and what each event of star mode comes to by this part.
use Rattle.std.specs.Prelude.{ℕ, Bool, true, false, not, ◌&&◌, ◌||◌, ◌==◌, List, [], ◌∷◌, ◌++◌, length, replicate, find}
use Rattle.std.specs.Prelude.{cond, Option, Some, None, is_some, nat_lt, slice_index_or, slice_set}
use Rattle.std.specs.List.{list_any}
use Rattle.std.specs.Option.{option_map, option_map_or}
use Rattle.contention_mgr.specs.Manager.{ManagerView, no_elements, plain, first_untold, owner_of, any_untold_at}
use Rattle.contention_mgr.specs.Manager.{entry_wanted, managed_at, managed_for, items_of, with_entry, after_request}
use Rattle.contention_mgr.specs.Manager.{rank_for, after_telling}
use Rattle.lock_structure.specs.Entries.{entry_of_res, is_entry}
use Rattle.grs_base.specs.Limits.{most_systems}
use Rattle.grs_base.specs.State.{State}
use Rattle.grs_base.specs.declared.resource.Res.{Res}
use Rattle.grs_base.specs.declared.resource.SysId.{SysId}
use Rattle.grs_base.specs.declared.resource.TaskId.{TaskId}
use Rattle.grs_wire.specs.Masks.{has}
use Rattle.grs_wire.specs.Wants.{answer_to, res_wanted, new_owners}
use Rattle.grs_wire.specs.declared.deck.Choice.{Choice}
use Rattle.grs_wire.specs.declared.deck.Choice.TheVariants as choices
use Rattle.grs_wire.specs.declared.medium.Act.TheVariants as acts
use Rattle.grs_wire.specs.declared.medium.Mail.TheVariants.{Answered, Granted, Part}
use Rattle.grs_node.specs.declared.star.Need.{Need}
use Rattle.grs_node.specs.declared.star.Need.TheVariants.{Asks, Idle}
use Rattle.grs_wire.specs.declared.medium.Reply.{Reply}
use Rattle.grs_wire.specs.declared.medium.Reply.TheVariants as replies
use Rattle.grs_wire.specs.declared.request.Answer.{Answer}
use Rattle.grs_wire.specs.declared.request.Fixed.{Fixed}
use Rattle.grs_wire.specs.declared.request.Fixed.TheVariants as fixes
use Rattle.grs_wire.specs.declared.request.Req.{Req}
use Rattle.grs_wire.specs.declared.request.Want.{Want}
use Rattle.star_client.specs.Client.{tell_answer_ranked}
use Rattle.star_client.specs.Owes.{OwesView, owed, owing, any_owed}
use Rattle.system_purge.specs.Gather.{part_of}
use Rattle.system_purge.specs.Gathers.{GathersView, is_gathered}
use Rattle.task_state.specs.declared.state.Asked.{Asked}
use Rattle.task_state.specs.declared.state.Phase.TheVariants as phases
use Rattle.task_state.specs.declared.state.TaskState.{TaskState}
use Rattle.task_state.specs.Replies.{tell_new}
use Rattle.task_state.specs.View.{TasksView, is_task, state_of, with_phase}

-- `gathers` tells what the system keeps of each lock entry whose lists it gathers, and `owes` to whom it owes its part
-- of one that another system gathers; `held` are the requests that were taken from the inbox and have still to be
-- settled, in order; `interest` tells of each lock entry whether the system has interest in it.
pub record StarPart : Type 0 where
  pub manager : ManagerView
  pub gathers : GathersView
  pub owes : OwesView
  pub held : List Req
  pub interest : List Bool

-- the part of a system at the start, where there are so many lock entries: it manages none
abbrev pub first_part : SysId → ℕ → StarPart
first_part s entries = record {
  manager = record { system = s; entries = replicate entries None };
  gathers = replicate entries None;
  owes = replicate entries None;
  held = [];
  interest = replicate entries false;
}

-- ---- what it says of entries and requests

abbrev pub entry_for : StarPart → Want → Option ℕ
entry_for p w = entry_wanted (length p.manager.entries) w

abbrev pub manages : StarPart → ℕ → Bool
manages p e = is_some (managed_at p.manager e)

-- whether it gathers an entry, and to whom it owes its part of one
abbrev pub gathers : StarPart → ℕ → Bool
gathers p e = is_gathered p.gathers e

abbrev pub owed_to : StarPart → ℕ → Option SysId
owed_to p e = owed p.owes e

-- whether it is one of as many systems as there may be to whom a part is owed, if one is
abbrev pub is_owed_named : Option SysId → Bool
is_owed_named to = option_map_or (λ s. nat_lt s.0 most_systems) to true

abbrev pub has_interest : StarPart → ℕ → Bool
has_interest p e = slice_index_or p.interest e false

abbrev pub with_interest : StarPart → ℕ → Bool → StarPart
with_interest p e b = record p { interest = slice_set p.interest e b }

-- whether a request is of an entry that the system manages
abbrev pub serves : StarPart → Req → Bool
serves p q = is_some (managed_for p.manager q.want)

-- the plain lists of the entry of a request, and what they answer it
abbrev pub lists_for : StarPart → Want → State
lists_for p w = plain (items_of (managed_for p.manager w))

abbrev pub answer_for : StarPart → Req → Answer
answer_for p q = answer_to (lists_for p q.want) q.task q.want

abbrev pub rank_of : StarPart → Req → ℕ
rank_of p q = rank_for (managed_for p.manager q.want) q.task q.want

abbrev pub owners_by : StarPart → Req → List TaskId
owners_by p q = new_owners (lists_for p q.want) q.task q.want

-- the owner of another system who is to be told first that it owns a resource of an entry, with the resource
abbrev pub to_tell : StarPart → ℕ → Option (TaskId × Res)
to_tell p e = option_map owner_of (first_untold p.manager.system.0 (items_of (managed_at p.manager e)))

-- what a task asks for that isn't answered yet
abbrev pub request_of : TaskId → Asked → Req
request_of t a = record { task = t; want = a.req.want }

-- ---- which entries a system may leave

-- whether a request that isn't answered yet is of this entry
abbrev pub asks_in : StarPart → ℕ → Option Asked → Bool
asks_in p e None = false
asks_in p e (Some a) = is_entry e (entry_for p a.req.want)

-- whether a task has a request on record, or one that isn't answered yet, in an entry
abbrev pub is_busy_in : StarPart → ℕ → TaskState → Bool
is_busy_in p e x =
    list_any (λ y. is_entry e (entry_of_res (length p.manager.entries) y.res)) x.records || asks_in p e x.outstanding

-- whether nothing stands in the lists of an entry that the system manages, and no request of it is held; so of an entry
-- that it doesn't manage
abbrev pub is_done_with : StarPart → ℕ → Bool
is_done_with p e =
    (length (items_of (managed_at p.manager e)) == 0)
    && not (manages p e && list_any (λ q. is_entry e (entry_for p q.want)) p.held)

-- whether an entry is being gathered, by the system itself, or by another one to whom it owes its part
abbrev pub is_being_gathered : StarPart → ℕ → Bool
is_being_gathered p e = gathers p e || is_some (owed_to p e)

-- whether a system of these tasks may give up its interest in an entry
abbrev pub may_leave : StarPart → TasksView → ℕ → Bool
may_leave p v e =
    has_interest p e && (not (list_any (is_busy_in p e) v.tasks) && (is_done_with p e && not (is_being_gathered p e)))

-- ---- what a choice of star mode asks of the medium

-- a request is sent to the manager of its entry, who may be the system itself, unless the system gathers the entry
abbrev pub send_to : StarPart → Req → Option ℕ → Need
send_to p q None = Idle
send_to p q (Some e) = cond (gathers p e) Idle (Asks (acts.Submit e q))

abbrev pub send_of : StarPart → TaskId → Option Asked → Need
send_of p t None = Idle
send_of p t (Some a) = send_to p (request_of t a) (entry_for p a.req.want)

-- whether the system gathers this entry, if it is one
abbrev pub gathers_asked : StarPart → Option ℕ → Bool
gathers_asked p None = false
gathers_asked p (Some e) = gathers p e

-- whether a request that is held waits no longer for the lists of its entry
abbrev pub may_settle : StarPart → Req → Bool
may_settle p q = not (gathers_asked p (entry_for p q.want))

-- whether a request is of an entry that the system manages or gathers
abbrev pub is_kept : StarPart → Req → Bool
is_kept p q = serves p q || gathers_asked p (entry_for p q.want)

-- the first request that is held of an entry that isn't gathered, if there is one, and those that are held besides
abbrev pub first_held : StarPart → Option Req
first_held p = find (may_settle p) p.held

abbrev pub besides_first : (Req → Bool) → List Req → List Req
besides_first test [] = []
besides_first test (q ∷ qs) = cond (test q) qs (q ∷ besides_first test qs)

-- it is answered by the lists of its entry
abbrev pub settle_by : StarPart → Option Req → Need
settle_by p None = Idle
settle_by p (Some q) = Asks (acts.Settle q.task.system (Answered q.task (answer_for p q) (rank_of p q)))

-- the owner of another system who is to be told first is told
abbrev pub tell_by : Option (TaskId × Res) → Need
tell_by None = Idle
tell_by (Some x) = Asks (acts.Tell x.0.system (Granted x.0 x.1))

-- The part of an entry goes to the manager to whom it is owed, unless that one is known to be removed. The tasks have
-- these names.
abbrev pub part_by : List TaskId → ℕ → StarPart → TasksView → ℕ → Option SysId → Need
part_by names known p v e None = Idle
part_by names known p v e (Some to) =
    cond (has known to.0) Idle
    (Asks (acts.Tell to (Part e p.manager.system (part_of (length p.manager.entries) e names v))))

-- the interest in an entry is given up
abbrev pub leave_by : StarPart → TasksView → ℕ → Need
leave_by p v e = cond (may_leave p v e) (Asks (acts.Leave e)) Idle

-- whether something is pending: a request that is held, an owner of another system who is still to be told, an entry
-- that is gathered, or a part that is owed
abbrev pub is_part_pending : StarPart → Bool
is_part_pending p =
    not (length p.held == 0)
    || (any_untold_at p.manager.system.0 p.manager.entries || (list_any is_some p.gathers || any_owed p.owes))

-- ---- what it is afterwards

-- the lock entry of what a task asks for
abbrev pub entry_asked : StarPart → Option Asked → Option ℕ
entry_asked p None = None
entry_asked p (Some a) = entry_for p a.req.want

-- whether the system manages the entry of what a task asks for, if it asks for anything
abbrev pub manages_if_asked : StarPart → Option Asked → Bool
manages_if_asked p None = true
manages_if_asked p (Some a) = is_some (managed_for p.manager a.req.want)

-- what is so once a choice of star mode was prepared to make a call
abbrev pub was_prepared : TasksView → StarPart → Choice → Bool
was_prepared v p (choices.Send t) = is_task v t && not (gathers_asked p (entry_asked p (state_of v t).outstanding))
was_prepared v p (choices.Leave e) = may_leave p v e
was_prepared v p choice = true

-- the tasks and the part of a system after a step, and what the step fixed
pub record StarStep : Type 0 where
  pub tasks : TasksView
  pub part : StarPart
  pub fixed : List Fixed

abbrev pub starred : TasksView → StarPart → List Fixed → StarStep
starred v p fixed = record { tasks = v; part = p; fixed = fixed }

abbrev pub fixing_none : TasksView → StarPart → StarStep
fixing_none v p = starred v p []

-- A manager decides a request of its own task by the lists of its entry: the asker's answer first, then control for the
-- own tasks that became owners.
unfoldable pub decide_own : TasksView → StarPart → TaskId → Asked → StarStep
decide_own v p t a =
    let q : Req = request_of t a in
    record {
      tasks = tell_new (tell_answer_ranked v t a (answer_for p q) (rank_of p q)) (res_wanted q.want) (owners_by p q);
      part = record p { manager = after_request p.manager t q.want };
      fixed = fixes.Asked q ∷ [];
    }

-- the same of the request that a task has, if it has one
abbrev pub own_step : TasksView → StarPart → TaskId → Option Asked → StarStep
own_step v p t None = fixing_none v p
own_step v p t (Some a) = decide_own v p t a

-- A system manages an entry from now on, and has interest in it. The lists of one that it didn't manage are empty.
abbrev pub managing : ManagerView → ℕ → ManagerView
managing m e = cond (is_some (managed_at m e)) m (with_entry m (Some e) (Some no_elements))

abbrev pub begun : StarPart → ℕ → StarPart
begun p e = with_interest (record p { manager = managing p.manager e }) e true

-- a system manages the entry of a request from now on, if it didn't before, and decides it
abbrev pub begin_at : TasksView → StarPart → TaskId → Option Asked → Option ℕ → StarStep
begin_at v p t asked None = fixing_none v p
begin_at v p t asked (Some e) = own_step v (begun p e) t asked

-- a request went to the manager of its entry
abbrev pub sent_to : TasksView → StarPart → TaskId → Option ℕ → StarStep
sent_to v p t None = fixing_none v p
sent_to v p t (Some e) = fixing_none (with_phase v t phases.Sent) (with_interest p e true)

-- A request of another system is held last, where it is of this entry and the system manages or gathers it. One of a
-- system that is known to be removed is dropped.
abbrev pub is_held_for : ℕ → StarPart → ℕ → Req → Bool
is_held_for known p e q =
    is_entry e (entry_for p q.want) && ((manages p e || gathers p e) && not (has known q.task.system.0))

abbrev pub with_held : ℕ → StarPart → ℕ → Req → StarPart
with_held known p e q = cond (is_held_for known p e q) (record p { held = p.held ++ q ∷ [] }) p

-- the first request that is held of an entry that isn't gathered was settled: control for the own tasks that became
-- owners
abbrev pub settled_first : TasksView → StarPart → Req → StarStep
settled_first v p q = record {
  tasks = tell_new v (res_wanted q.want) (owners_by p q);
  part = record p {
    manager = after_request p.manager q.task q.want;
    held = besides_first (may_settle p) p.held;
  };
  fixed = fixes.Asked q ∷ [];
}

abbrev pub settled_by : TasksView → StarPart → Option Req → StarStep
settled_by v p None = fixing_none v p
settled_by v p (Some q) = settled_first v p q

-- an owner of another system was told
abbrev pub told_by : StarPart → Option (TaskId × Res) → StarPart
told_by p None = p
told_by p (Some x) = record p { manager = after_telling p.manager x.0 x.1 }

-- the interest in an entry was given up; a system that managed it does so no longer
abbrev pub not_managing : ManagerView → ℕ → ManagerView
not_managing m e = cond (is_some (managed_at m e)) (with_entry m (Some e) None) m

abbrev pub left_at : StarPart → ℕ → StarPart
left_at p e = with_interest (record p { manager = not_managing p.manager e }) e false

-- ---- replies

-- what the reply to a call of each kind comes to; one that says nothing new changes nothing
abbrev pub send_step : TasksView → StarPart → TaskId → Reply → StarStep
send_step v p t replies.Sole = begin_at v p t (state_of v t).outstanding (entry_asked p (state_of v t).outstanding)
send_step v p t replies.Sent = sent_to v p t (entry_asked p (state_of v t).outstanding)
send_step v p t reply = fixing_none v p

abbrev pub settle_step : TasksView → StarPart → Reply → StarStep
settle_step v p replies.Settled = settled_by v p (first_held p)
settle_step v p reply = fixing_none v p

abbrev pub tell_step : TasksView → StarPart → ℕ → Reply → StarStep
tell_step v p e replies.Told = fixing_none v (told_by p (to_tell p e))
tell_step v p e reply = fixing_none v p

-- a part was sent, which isn't owed any more
abbrev pub part_step : TasksView → StarPart → ℕ → Reply → StarStep
part_step v p e replies.Told = fixing_none v (record p { owes = owing p.owes e None })
part_step v p e reply = fixing_none v p

abbrev pub leave_step : TasksView → StarPart → ℕ → Reply → StarStep
leave_step v p e replies.Left = fixing_none v (left_at p e)
leave_step v p e reply = fixing_none v p

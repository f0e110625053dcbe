-- A system, event by event: what each choice comes to, and what the system is afterwards. An event is prepared,
-- makes at most one call of the medium, and is finished with the reply.
use Rattle.std.specs.Prelude.{ℕ, zero, suc, ◌+◌, Bool, true, false, not, cond, ◌&&◌, ◌||◌, ◌==◌, ◌^◌, nat_le, nat_lt}
use Rattle.std.specs.Prelude.{List, [], ◌∷◌, ◌++◌, length, map, filter, take, drop, replicate, Option, Some, None}
use Rattle.std.specs.Prelude.{slice_get, is_some, is_none}
use Rattle.std.specs.List.{list_all, list_any}
use Rattle.grs_base.specs.Limits.{most_additions}
use Rattle.std.specs.Option.{option_map}
use Rattle.grs_base.specs.Looks.{look}
use Rattle.grs_base.specs.Rows.{rows_of}
use Rattle.grs_base.specs.State.{State, remove_state}
use Rattle.grs_base.specs.declared.look.Place.TheVariants.{Local}
use Rattle.grs_base.specs.declared.resource.Res.{Res}
use Rattle.grs_base.specs.declared.resource.Row.{Row}
use Rattle.grs_base.specs.declared.resource.SysId.{SysId}
use Rattle.grs_base.specs.declared.resource.TaskId.{TaskId}
use Rattle.grs_base.specs.declared.decision.Code.TheVariants.{C00, C08}
use Rattle.grs_legal.specs.Asks.{lines_of, scripts_of}
use Rattle.grs_legal.specs.declared.meaning.Display.{Display}
use Rattle.grs_legal.specs.declared.meaning.Meaning.{Meaning}
use Rattle.grs_legal.specs.declared.meaning.Meaning.TheVariants as lines
use Rattle.grs_wire.specs.Masks.{with_also}
use Rattle.grs_wire.specs.Wants.{answer_to, after_want, res_wanted, new_owners, is_for_all}
use Rattle.grs_wire.specs.declared.deck.Choice.{Choice}
use Rattle.grs_wire.specs.declared.deck.Choice.TheVariants as choices
use Rattle.grs_wire.specs.declared.deck.Deck.{Deck}
use Rattle.grs_wire.specs.declared.deck.Desk.{Desk}
use Rattle.grs_wire.specs.declared.deck.Order.{Order}
use Rattle.grs_wire.specs.declared.deck.Order.TheVariants as orders
use Rattle.grs_wire.specs.declared.deck.SystemDef.{SystemDef}
use Rattle.grs_wire.specs.declared.gather.Moved.{Moved}
use Rattle.grs_wire.specs.declared.medium.Act.TheVariants as acts
use Rattle.grs_wire.specs.declared.medium.Mail.{Mail}
use Rattle.grs_wire.specs.declared.medium.Mail.TheVariants as mails
use Rattle.grs_wire.specs.declared.medium.Reply.{Reply}
use Rattle.grs_wire.specs.declared.medium.Reply.TheVariants as replies
use Rattle.grs_wire.specs.declared.medium.RingBody.{RingBody}
use Rattle.grs_wire.specs.declared.medium.RingBody.TheVariants as bodies
use Rattle.grs_wire.specs.declared.medium.RingEntry.{RingEntry}
use Rattle.grs_wire.specs.declared.request.Answer.{Answer}
use Rattle.grs_wire.specs.declared.request.Answer.TheVariants.{Coded, Rows}
use Rattle.grs_wire.specs.declared.request.Fixed.{Fixed}
use Rattle.grs_wire.specs.declared.request.Fixed.TheVariants as fixes
use Rattle.grs_wire.specs.declared.request.Req.{Req}
use Rattle.grs_wire.specs.declared.request.Want.{Want}
use Rattle.grs_wire.specs.declared.request.Want.TheVariants.{Enq, Deq, Release, Look}
use Rattle.grs_wire.specs.declared.told.Said.{Said}
use Rattle.grs_wire.specs.declared.told.Said.TheVariants as saids
use Rattle.grs_wire.specs.declared.told.Verb.TheVariants as verbs
use Rattle.grs_wire.specs.declared.told.ToldLine.TheVariants as told
use Rattle.mode_migrate.specs.Migrate.{table_words, ranked_by}
use Rattle.grs_node.specs.Change.{part_by_table, with_ranks, one_by_one}
use Rattle.grs_node.specs.Star.{StarPart, StarStep, first_part, to_tell, first_held, is_part_pending, send_of}
use Rattle.grs_node.specs.Star.{settle_by, tell_by, part_by, leave_by, owed_to, fixing_none, send_step, settle_step}
use Rattle.grs_node.specs.Star.{tell_step, part_step, leave_step, with_held}
use Rattle.grs_node.specs.Removal.{Standing, standing, lose_all, members, without_those, took_notice, took_part}
use Rattle.grs_node.specs.Names.{names_of}
use Rattle.grs_node.specs.declared.star.Need.{Need}
use Rattle.grs_node.specs.declared.star.Need.TheVariants.{Asks, Idle}
use Rattle.grs_node.specs.declared.prepared.Prepared.{Prepared}
use Rattle.grs_node.specs.declared.prepared.Prepared.TheVariants.{Quiet, Call, Nothing}
use Rattle.ring_mode.specs.Ring.{Side, side_of, process_entry}
use Rattle.star_client.specs.Client.{after_mail}
use Rattle.system_purge.specs.Purge.{tell_freed}
use Rattle.task_state.specs.Replies.{replied, tell_code, tell_new, tell_rows}
use Rattle.task_state.specs.declared.state.Asked.{Asked}
use Rattle.task_state.specs.declared.state.Rec.{Rec}
use Rattle.task_state.specs.declared.state.Phase.{Phase}
use Rattle.task_state.specs.declared.state.Phase.TheVariants as phases
use Rattle.task_state.specs.View.{TasksView, new_tasks, is_task, state_of, record_of, with_line, with_phase}
use Rattle.task_state.specs.View.{with_outstanding, with_rows, telling}

-- A system: its tasks; the lists of its own Step and System resources; in ring mode its table of the Systems resources,
-- and the requests that wait to be put into the message, in order; in star mode its part there; the set of the systems
-- that it knows to be removed; and how many lines of its desk are done.
pub record NodeState : Type 0 where
  pub tasks : TasksView
  pub own : State
  pub shared : State
  pub outbox : List Req
  pub star : Option StarPart
  pub known : ℕ
  pub done : ℕ

-- the part in star mode of a system that begins in it
abbrev pub part_at_first : Deck → ℕ → Option StarPart
part_at_first deck s = cond deck.star (Some (first_part (record { 0 = s }) deck.entries)) None

-- a system at the start: nothing is queued and no task has begun
unfoldable pub first_node : Deck → ℕ → NodeState
first_node deck s = record {
  tasks = record { system = s; tasks = new_tasks (length (scripts_of deck s)); told = [] };
  own = [];
  shared = [];
  outbox = [];
  star = part_at_first deck s;
  known = 0;
  done = 0;
}

-- whether these requests are of tasks of the system of this number, which has so many
abbrev pub are_of_system : ℕ → ℕ → List Req → Bool
are_of_system s tasks [] = true
are_of_system s tasks (q ∷ qs) = (s == q.task.system.0) && (nat_lt q.task.task tasks && are_of_system s tasks qs)

-- a system after an event, and what the event fixed
pub record Step : Type 0 where
  pub node : NodeState
  pub fixed : List Fixed

-- nothing fixed
abbrev pub only : NodeState → Step
only n = record { node = n; fixed = [] }

-- the same with other tasks
abbrev pub with_tasks : NodeState → TasksView → NodeState
with_tasks n v = record n { tasks = v }

-- A request decided by the lists of the system's own resources: the asker's answer first, then control for the
-- tasks that became owners.
unfoldable pub decide : NodeState → TaskId → Want → Option ℕ → Step
decide n t w unit =
    record {
      node = record n {
        tasks = tell_new (replied n.tasks t w unit (answer_to n.own t w)) (res_wanted w) (new_owners n.own t w);
        own = after_want n.own t w;
      };
      fixed = fixes.Asked (record { task = t; want = w }) ∷ [];
    }

-- the requests that wait to be put into the message, with one more; in star mode none does
abbrev pub outbox_with : NodeState → Req → List Req
outbox_with n q = cond (is_some n.star) n.outbox (n.outbox ++ q ∷ [])

-- what a task asks for waits to be put into the message, or, in star mode, to be sent
abbrev pub posted : NodeState → TaskId → Asked → NodeState
posted n t a = record n {
  tasks = with_outstanding (with_phase n.tasks t phases.ToSend) t (Some a);
  outbox = outbox_with n a.req;
}

-- the same of a request that is for a resource
unfoldable pub post : NodeState → TaskId → Want → Option ℕ → Step
post n t w unit = only (posted n t (record { req = record { task = t; want = w }; unit = unit; showing = None }))

-- a request: decided at once, or, for a resource of the whole complex, kept until it can be put in or sent
unfoldable pub ask : NodeState → TaskId → Want → Option ℕ → Step
ask n t w unit = cond (is_for_all (res_wanted w)) (post n t w unit) (decide n t w unit)

-- a WAIT line: 00 where control was told, 08 where there is no request on record, else the task is held
unfoldable pub wait : TasksView → TaskId → Res → Option Rec → TasksView
wait v t r None = tell_code v t verbs.Wait C08
wait v t r (Some x) = cond x.told (tell_code v t verbs.Wait C00) (with_phase v t (phases.HeldLine r))

-- whether a task has as many requests on record as it may
abbrev pub has_most : ℕ → TasksView → TaskId → Bool
has_most limit v t = nat_le limit (length (state_of v t).records)

-- A line that shows lists looks at its system's own at once, if it looks at those: their rows are the task's, and the
-- look is fixed.
abbrev pub look_home : NodeState → TaskId → Display → Option SysId → Step
look_home n t d None = only n
look_home n t d (Some s) = record {
  node = with_tasks n (with_rows n.tasks t (look n.own (Local t.system) d.filter));
  fixed = fixes.LocalLook t d.filter ∷ [];
}

-- the looks at these slices and one more, as a request: for all in ring mode, for the first in star mode
abbrev pub looks_asked : TaskId → Display → ℕ → Option StarPart → Asked
looks_asked t d more None = record {
  req = record { task = t; want = Look d.first (suc more) d.filter };
  unit = None;
  showing = Some (record { verb = d.verb; left = 0 });
}
looks_asked t d more (Some p) = record {
  req = record { task = t; want = Look d.first 1 d.filter };
  unit = None;
  showing = Some (record { verb = d.verb; left = more });
}

-- Then it asks for so many slices; where there are none, its task is told all rows at once.
abbrev pub look_around : NodeState → TaskId → Display → ℕ → NodeState
look_around n t d zero = with_tasks n (tell_rows n.tasks t d.verb)
look_around n t d (suc more) = posted n t (looks_asked t d more n.star)

unfoldable pub show : NodeState → TaskId → Display → Step
show n t d =
    let home = look_home n t d d.home in record { node = look_around home.node t d d.count; fixed = home.fixed }

-- a line that was taken, by what it means
unfoldable pub take_line : ℕ → NodeState → TaskId → Meaning → Step
take_line limit n t (lines.Enq r c ret unit) = ask n t (Enq r c ret (has_most limit n.tasks t)) unit
take_line limit n t (lines.Deq r have) = ask n t (Deq r have) None
take_line limit n t (lines.Wait r) = only (with_tasks n (wait n.tasks t r (record_of (state_of n.tasks t).records r)))
take_line limit n t (lines.Shows d) = show n t d
take_line limit n t lines.Nothing = only n

-- a task that is ending: it releases the first request on record, or has ended
unfoldable pub end_step : NodeState → TaskId → ℕ → List Rec → Step
end_step n t code [] = only (with_tasks n (telling (with_phase n.tasks t phases.Ended) (told.Ended t code)))
end_step n t code (x ∷ xs) = ask n t (Release x.res) None

-- a task that is Ready: it takes its next line, or begins to end
unfoldable pub ready_step : ℕ → NodeState → TaskId → Option Meaning → Step
ready_step limit n t None =
    let v = with_phase n.tasks t (phases.Ending 0) in end_step (with_tasks n v) t 0 (state_of v t).records
ready_step limit n t (Some l) = take_line limit (with_tasks n (with_line n.tasks t)) t l

-- what a task does by its phase
unfoldable pub phase_step : ℕ → NodeState → TaskId → List Meaning → Phase → Step
phase_step limit n t ls phases.Ready = ready_step limit n t (slice_get ls (state_of n.tasks t).line)
phase_step limit n t ls (phases.Ending c) = end_step n t c (state_of n.tasks t).records
phase_step limit n t ls _ = only n

-- a task of these lines goes on
abbrev pub task_step : ℕ → NodeState → TaskId → Option (List Meaning) → Step
task_step limit n t None = only n
task_step limit n t (Some ls) = phase_step limit n t ls (state_of n.tasks t).phase

-- whether a task in this phase has something to do by itself
abbrev pub goes_on : Phase → Bool
goes_on phases.Ready = true
goes_on (phases.Ending c) = true
goes_on _ = false

-- the desk lines of a system, and how many they are
abbrev pub desk_of : Option SystemDef → List Desk
desk_of None = []
desk_of (Some s) = s.desk

abbrev pub desk_count : Option SystemDef → ℕ
desk_count s = length (desk_of s)

-- what the next desk line orders, if there is one that isn't done
abbrev pub next_order : Deck → NodeState → Option Order
next_order deck n = option_map (λ c. c.order) (slice_get (desk_of (slice_get deck.systems n.tasks.system)) n.done)

-- whether a task in this phase has a request that waits to be put in or sent
abbrev pub is_to_send : Phase → Bool
is_to_send phases.ToSend = true
is_to_send _ = false

-- whether a task in this phase has a request on its way: one that waits to be put in or sent, or isn't answered yet
abbrev pub is_on_its_way : Phase → Bool
is_on_its_way phases.ToSend = true
is_on_its_way phases.Sent = true
is_on_its_way _ = false

-- whether in star mode something is pending: a request that waits to be sent, one that is held, an owner of another
-- system who is still to be told, an entry that is gathered, or a part that is owed
abbrev pub is_star_pending : TasksView → Option StarPart → Bool
is_star_pending v None = false
is_star_pending v (Some p) = list_any (λ x. is_to_send x.phase) v.tasks || is_part_pending p

-- Whether something is pending: a task that has something to do by itself, a request in the outbox, something of star
-- mode, or a line of the desk.
unfoldable pub is_pending : Deck → NodeState → Bool
is_pending deck n =
    list_any (λ x. goes_on x.phase) n.tasks.tasks
    || (not (length n.outbox == 0)
    || (is_star_pending n.tasks n.star || nat_lt n.done (desk_count (slice_get deck.systems n.tasks.system))))

-- whether a task is one of the deck
abbrev pub is_of_deck : Deck → TaskId → Bool
is_of_deck deck t = is_some (lines_of deck t)

-- a task of this system and of the deck that has something to do
unfoldable pub may_go : Deck → NodeState → TaskId → Bool
may_go deck n t = is_task n.tasks t && (is_of_deck deck t && goes_on (state_of n.tasks t).phase)

-- a task of this system and of the deck whose request waits to be sent
unfoldable pub may_send : Deck → NodeState → TaskId → Bool
may_send deck n t = is_task n.tasks t && (is_of_deck deck t && is_to_send (state_of n.tasks t).phase)

-- what a Turn asks, which is none in star mode
abbrev pub turn_call : NodeState → Option StarPart → Prepared
turn_call n None = Call (record { known = n.known; act = acts.Turn (take most_additions n.outbox) })
turn_call n (Some p) = Nothing

-- what an event of star mode comes to by what it needs
abbrev pub prepared_by : ℕ → Need → Prepared
prepared_by known (Asks act) = Call (record { known = known; act = act })
prepared_by known Idle = Nothing

-- what an event of star mode needs
abbrev pub star_need : Deck → NodeState → StarPart → Choice → Need
star_need deck n p (choices.Send t) = cond (may_send deck n t) (send_of p t (state_of n.tasks t).outstanding) Idle
star_need deck n p choices.Take = Asks acts.Take
star_need deck n p choices.Settle = settle_by p (first_held p)
star_need deck n p (choices.Tell e) = tell_by (to_tell p e)
star_need deck n p (choices.Part e) =
    part_by (names_of deck n.tasks.system) n.known p n.tasks e (owed_to p e)
star_need deck n p (choices.Leave e) = leave_by p n.tasks e
star_need deck n p _ = Idle

-- an event of star mode has nothing to do in a ring
unfoldable pub star_call : Deck → NodeState → Option StarPart → Choice → Prepared
star_call deck n None choice = Nothing
star_call deck n (Some p) choice = prepared_by n.known (star_need deck n p choice)

-- the lock words to which the system's table leads; in star mode it has none
abbrev pub words_by : ℕ → State → Option StarPart → List ℕ
words_by entries table None = table_words entries table
words_by entries table (Some p) = replicate entries 0

abbrev pub own_words : Deck → NodeState → List ℕ
own_words deck n = words_by deck.entries n.shared n.star

-- the change to star mode, where the next desk line orders it
abbrev pub switch_call : Deck → NodeState → Option Order → Prepared
switch_call deck n (Some orders.Star) = Call (record { known = n.known; act = acts.Switch (own_words deck n) })
switch_call deck n order = Nothing

-- the removal of a system, where the next desk line orders it
abbrev pub purge_call : NodeState → SysId → Option Order → Prepared
purge_call n target (Some (orders.Vary named)) =
    cond (named.0 == target.0) (Call (record { known = n.known; act = acts.Purge target })) Nothing
purge_call n target order = Nothing

-- What a choice comes to.
unfoldable pub prepare : Deck → NodeState → Choice → Prepared
prepare deck n (choices.Task t) = cond (may_go deck n t) Quiet Nothing
prepare deck n choices.Turn = turn_call n n.star
prepare deck n choices.Switch = switch_call deck n (next_order deck n)
prepare deck n (choices.Purge target) = purge_call n target (next_order deck n)
prepare deck n choices.Rest = cond (is_pending deck n) Nothing (Call (record { known = n.known; act = acts.Rest }))
prepare deck n choice = star_call deck n n.star choice

-- a system with this step of star mode
abbrev pub with_star : NodeState → StarStep → Step
with_star n s = record { node = record n { tasks = s.tasks; star = Some s.part }; fixed = s.fixed }

-- a choice that is done without a call
unfoldable pub finish_quiet : Deck → NodeState → Choice → Step
finish_quiet deck n (choices.Task t) = task_step deck.limit n t (lines_of deck t)
finish_quiet deck n _ = only n

-- a system with this part for the ring
abbrev pub with_side : NodeState → Side → NodeState
with_side n side = record n { tasks = side.tasks; shared = side.shared }

-- A system processes that another one is removed: the elements of that one's tasks leave its table, and those of its
-- own tasks that became owners by it are told control.
abbrev pub process_removal : NodeState → SysId → NodeState
process_removal n target =
    record n { tasks = tell_freed n.tasks target.0 (rows_of n.shared); shared = remove_state n.shared target.0 }

-- A system processes an entry of the message. A request of a task that isn't of the deck has no effect.
abbrev pub read_entry : Deck → NodeState → RingBody → NodeState
read_entry deck n (bodies.Request q) =
    cond (is_of_deck deck q.task) (with_side n (process_entry (side_of n.tasks n.shared) q)) n
read_entry deck n (bodies.Remove target) = process_removal n target

-- the entries of the message that the system was given, in order
unfoldable pub read_entries : Deck → NodeState → List RingEntry → NodeState
read_entries deck n [] = n
read_entries deck n (e ∷ es) = read_entries deck (read_entry deck n e.body) es

-- tasks whose requests were put in
unfoldable pub all_sent : TasksView → List Req → TasksView
all_sent v [] = v
all_sent v (q ∷ qs) = all_sent (with_phase v q.task phases.Sent) qs

-- the first requests of the outbox were put in
unfoldable pub put_in : NodeState → ℕ → Step
put_in n taken = record {
  node = record n { tasks = all_sent n.tasks (take taken n.outbox); outbox = drop taken n.outbox };
  fixed = map fixes.Asked (take taken n.outbox);
}

-- The system changes to star mode, by its table: it gets its part there, and its tasks' records get ranks. The requests
-- of the outbox stay with their tasks, which wait to send them.
unfoldable pub change_to_star : Deck → NodeState → NodeState
change_to_star deck n = record n {
  tasks = with_ranks (one_by_one n.tasks n.outbox) (ranked_by deck.entries n.shared);
  shared = [];
  outbox = [];
  star = Some (part_by_table deck.entries (record { 0 = n.tasks.system }) n.shared);
}

-- a system in star mode loses these removed systems
abbrev pub losing_in : Deck → NodeState → Option StarPart → List SysId → NodeState
losing_in deck n None ss = n
losing_in deck n (Some p) ss =
    let x = lose_all (names_of deck n.tasks.system) (standing n.tasks p) ss in
    record n { tasks = x.tasks; star = Some x.part }

unfoldable pub losing : Deck → NodeState → List SysId → NodeState
losing deck n ss = losing_in deck n n.star ss

-- The system changes to star mode, and then loses the systems that it knows to be removed.
abbrev pub changed : Deck → NodeState → NodeState
changed deck n = losing deck (change_to_star deck n) (members n.known)

-- a step, behind which the system changes to star mode where it is to, unless it has
abbrev pub changed_if : Deck → Bool → Step → Step
changed_if deck closed s =
    cond (closed && is_none s.node.star) (record { node = changed deck s.node; fixed = s.fixed }) s

-- A Turn at the message: the entries that were given are processed, and the first requests of the outbox are put in.
-- Where the message is closed the system then changes to star mode.
unfoldable pub turned : Deck → NodeState → List RingEntry → ℕ → Bool → Step
turned deck n entries taken closed = changed_if deck closed (put_in (read_entries deck n entries) taken)

-- the next desk line is done, and told like this
unfoldable pub desk_told : NodeState → Said → NodeState
desk_told n said = record n { tasks = telling n.tasks (told.Desk (n.done + 1) said); done = n.done + 1 }

-- The complex changed to star mode by the system's desk line, and the system with it. One that is in star mode did so
-- before.
unfoldable pub switched : Deck → NodeState → NodeState
switched deck n = cond (is_none n.star) (changed deck (desk_told n saids.StarDone)) n

-- The systems that a system knows to be removed, where it is told this set of them. A set with a system outside the
-- deck has no effect.
abbrev pub known_from : Deck → ℕ → ℕ → ℕ
known_from deck known set = cond (nat_lt set (2 ^ length deck.systems)) set known

-- A system is told which systems are removed. In star mode it loses those of which it didn't know.
unfoldable pub stale : Deck → NodeState → ℕ → NodeState
stale deck n set =
    let known = known_from deck n.known set in
    losing deck (record n { known = known }) (members (without_those n.known known))

-- A system was removed by the system's desk line: the removal is fixed, and the system knows of it. In star mode it
-- loses the removed one.
unfoldable pub purged : Deck → NodeState → Choice → Step
purged deck n (choices.Purge target) = record {
  node = losing deck (record (desk_told n saids.VaryDone) { known = with_also n.known target.0 }) (target ∷ []);
  fixed = fixes.Purged target ∷ [];
}
purged deck n choice = only (desk_told n saids.VaryDone)

-- whether the tasks in the lists of these rows are of the deck
abbrev pub has_deck_tasks : Deck → Row → Bool
has_deck_tasks deck row = list_all (λ x. is_of_deck deck x.task) row.elems

-- whether the tasks that an answer names are of the deck; a code names none
abbrev pub names_of_deck : Deck → Answer → Bool
names_of_deck deck (Coded code) = true
names_of_deck deck (Rows rows) = list_all (has_deck_tasks deck) rows

-- Whether the tasks and systems that a mail names are of the deck; of a notice the removed system, and of a part the
-- sender and the entry.
abbrev pub is_for_deck : Deck → Mail → Bool
is_for_deck deck (mails.Request e from q) = nat_lt from.0 (length deck.systems) && is_of_deck deck q.task
is_for_deck deck (mails.Answered t answer rank) = is_of_deck deck t && names_of_deck deck answer
is_for_deck deck (mails.Granted t r) = is_of_deck deck t
is_for_deck deck (mails.Notice target moved) = nat_lt target.0 (length deck.systems)
is_for_deck deck (mails.Part e from records) = nat_lt e deck.entries && nat_lt from.0 (length deck.systems)

-- Whether an item of a notice speaks of an entry that there is, and of systems of the deck alone.
abbrev pub is_item_of : Deck → Moved → Bool
is_item_of deck m =
    nat_lt m.entry deck.entries
    && (nat_lt m.manager.0 (length deck.systems) && nat_lt m.mask (2 ^ length deck.systems))

abbrev pub fixing_nothing : Standing → StarStep
fixing_nothing x = fixing_none x.tasks x.part

-- A mail was taken, at a system that knows this set of systems to be removed. The items of a notice, and the records of
-- a part, that name what isn't of the deck have no effect.
unfoldable pub took_mail : Deck → ℕ → TasksView → StarPart → Mail → StarStep
took_mail deck known v p (mails.Request e from q) = fixing_none v (with_held known p e q)
took_mail deck known v p (mails.Notice target moved) =
    fixing_nothing (took_notice known (names_of deck v.system) (standing v p) (filter (is_item_of deck) moved))
took_mail deck known v p (mails.Part e from records) =
    fixing_nothing
    (took_part known (names_of deck v.system) (standing v p) e from (filter (λ r. is_of_deck deck r.task) records))
took_mail deck known v p mail = fixing_none (after_mail v mail) p

-- One that names what isn't of the deck has no effect.
abbrev pub take_mail : Deck → ℕ → TasksView → StarPart → Mail → StarStep
take_mail deck known v p mail = cond (is_for_deck deck mail) (took_mail deck known v p mail) (fixing_none v p)

abbrev pub take_step : Deck → ℕ → TasksView → StarPart → Reply → StarStep
take_step deck known v p (replies.Taken mail) = take_mail deck known v p mail
take_step deck known v p reply = fixing_none v p

-- what the reply to a call of star mode comes to
abbrev pub star_step : Deck → ℕ → TasksView → StarPart → Choice → Reply → StarStep
star_step deck known v p (choices.Send t) reply = send_step v p t reply
star_step deck known v p choices.Take reply = take_step deck known v p reply
star_step deck known v p choices.Settle reply = settle_step v p reply
star_step deck known v p (choices.Tell e) reply = tell_step v p e reply
star_step deck known v p (choices.Part e) reply = part_step v p e reply
star_step deck known v p (choices.Leave e) reply = leave_step v p e reply
star_step deck known v p choice reply = fixing_none v p

unfoldable pub finish_star : Deck → NodeState → Option StarPart → Choice → Reply → Step
finish_star deck n None choice reply = only n
finish_star deck n (Some p) choice reply = with_star n (star_step deck n.known n.tasks p choice reply)

-- The reply to a call. Those that say nothing new change nothing.
unfoldable pub finish_call : Deck → NodeState → Choice → Reply → Step
finish_call deck n choice (replies.Turned entries taken closed) = turned deck n entries taken closed
finish_call deck n choice (replies.Stale set) = only (stale deck n set)
finish_call deck n choice replies.Switched = only (switched deck n)
finish_call deck n choice replies.Already = only (desk_told n saids.StarAlready)
finish_call deck n choice replies.Purged = purged deck n choice
finish_call deck n choice replies.NoSuch = only (desk_told n saids.VaryNoSuch)
finish_call deck n choice reply = finish_star deck n n.star choice reply

-- What a system is after a choice, with the reply if a call was made.
unfoldable pub finish : Deck → NodeState → Choice → Option Reply → Step
finish deck n choice None = finish_quiet deck n choice
finish deck n choice (Some reply) = finish_call deck n choice reply

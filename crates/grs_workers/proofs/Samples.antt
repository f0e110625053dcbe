-- What logs make of a system, what it may do next, where memory may be wanting, and how the round of a worker ends, on
-- examples.
use Rattle.std.proofs.Common.{◌≡◌, ℕ, ◌+◌, ◌≤◌, Bool, true, false, [], ◌∷◌, ◌++◌, Some, None, refl, ap, inl, inr}
use Rattle.std.proofs.Common.{length, length-append, sym, ◌∙◌, codes, map, arith}
use Rattle.std.proofs.lemmas.List.{append_cancel_left}
use Rattle.grs_base.specs.Rnl.{no_entries}
use Rattle.grs_base.specs.declared.rnl.Which.TheVariants as which
use Rattle.grs_base.specs.declared.resource.TaskId.{TaskId}
use Rattle.grs_bus.specs.Journal.{entry_of}
use Rattle.grs_bus.specs.Seats.{SeatValue, with_entry}
use Rattle.grs_node.specs.Log.{NodeView}
use Rattle.grs_node.specs.Node.{NodeState, may_go, finish_quiet, phase_step, ready_step, end_step, finish_call}
use Rattle.grs_node.specs.Node.{finish_star, is_pending, prepare, finish}
use Rattle.grs_node.specs.Room.{takes_no_memory}
use Rattle.grs_node.specs.declared.prepared.Prepared.{Prepared}
use Rattle.grs_node.specs.declared.prepared.Prepared.TheVariants.{Call}
use Rattle.grs_wire.specs.declared.deck.Choice.{Choice}
use Rattle.grs_wire.specs.declared.deck.Choice.TheVariants.{Task, Rest}
use Rattle.grs_wire.specs.declared.deck.Deck.{Deck}
use Rattle.grs_wire.specs.declared.log.StepDone.{StepDone}
use Rattle.grs_wire.specs.declared.medium.Act.TheVariants as acts
use Rattle.grs_wire.specs.declared.medium.Call.{Call as MediumCall}
use Rattle.grs_wire.specs.declared.medium.JEntry.{JEntry}
use Rattle.grs_wire.specs.declared.medium.Reply.{Reply}
use Rattle.grs_wire.specs.declared.medium.Reply.TheVariants as replies
use Rattle.grs_wire.specs.declared.told.ToldLine.TheVariants as lines
use Rattle.task_state.specs.View.{new_tasks, state_of, with_state, with_line, with_phase, telling}
use Rattle.task_state.specs.declared.state.Phase.TheVariants as phases
use Rattle.grs_workers.specs.Makes.{Makes}
use Rattle.grs_workers.specs.Stands.{Stand, journalled_steps, quiet_steps, is_last_of, MayDo, IsGivenUp}

-- a ring of one system, with a task that has no lines
abbrev deck : Deck
deck = record {
  star = false;
  entries = 16;
  limit = 4096;
  lists = record { incl = no_entries which.Incl; excl = no_entries which.Excl; con = no_entries which.Con };
  systems =
      map (λ name. record {
        name = name;
        desk = [];
        jobs = record { name = codes "J"; tasks = record { name = codes "T"; lines = [] } ∷ [] } ∷ [];
      })
      (codes "A" ∷ []);
  events = [];
}

abbrev task : TaskId
task = record { system = record { 0 = 0 }; job = 0; task = 0 }

-- the system before its first event, and once its task has ended
abbrev first : NodeState
first = record {
  tasks = record { system = 0; tasks = new_tasks 1; told = [] };
  own = [];
  shared = [];
  outbox = [];
  star = None;
  known = 0;
  done = 0;
}

abbrev ended : NodeState
ended =
    record first {
      tasks =
          telling (with_phase (with_phase first.tasks task (phases.Ending 0)) task phases.Ended) (lines.Ended task 0);
    }

-- the task ends, without a call; then the system rests, and is the last to
abbrev ends : StepDone
ends = record { choice = Task task; journalled = false; fixed = []; told = lines.Ended task 0 ∷ [] }

abbrev rests : StepDone
rests = record { choice = Rest; journalled = true; fixed = []; told = [] }

abbrev over : JEntry
over = entry_of (record { 0 = 0 }) (record { known = 0; act = acts.Rest }) replies.Over

both : Makes deck first (ends ∷ rests ∷ []) (over ∷ []) ended
unfolding state_of with_state with_line with_phase telling may_go finish_quiet phase_step ready_step end_step
    finish_call finish_star is_pending prepare finish
both =
    inl (
      ended,
      record { prepared = refl; step = refl; after = refl },
      inr (over, [], refl, ended, record { prepared = refl; step = refl; after = refl }, (refl, refl)),
    )

-- a step with a call that has no entry, and an entry that has no step, make nothing
without_entry : ¬ Makes deck ended (rests ∷ []) [] ended
without_entry (inl q) = let clash : true ≡ false = ap (λ (x : StepDone). x.journalled) q.1.step in absurd (cc)
without_entry (inr j) = let clash : [] ≡ j.0 ∷ j.1 = j.2 in absurd (cc)

without_step : ¬ Makes deck first (ends ∷ []) (over ∷ []) ended
without_step (inl q) = let clash : over ∷ [] ≡ [] = q.2.0 in absurd (cc)
without_step (inr j) = let clash : false ≡ true = ap (λ (x : StepDone). x.journalled) j.4.step in absurd (cc)

-- Once its task has ended the system may rest, where there is room for the step that this makes, and else it may not.
abbrev with_room : ℕ → NodeView
with_room steps = record {
  deck = deck;
  node = ended;
  log = ends ∷ [];
  room = record { steps = steps; lines = 0; told = 0; next = None };
}

abbrev rest : Choice × Prepared
rest = (Rest, Call (record { known = 0; act = acts.Rest }))

may_rest : MayDo (with_room 1) rest
unfolding state_of with_state with_line with_phase telling is_pending prepare
may_rest = record {
  prepared = refl;
  some = λ e. cc;
  addressed = refl;
  room = λ e. record { step = omega arith; lines = λ h. cc; told = λ h. cc; next = λ h. cc };
  in_time = refl;
}

may_not_rest : ¬ MayDo (with_room 0) rest
may_not_rest h = let none : 1 ≤ 0 = (h.room refl).step in omega arith

-- A worker whose seat has the entry of a call isn't given up where its system takes no memory for the reply.
not_given_up : (v : Stand) (after : SeatValue) (call : MediumCall) (e : JEntry) → after.own ≡ v.seat.own ++ e ∷ []
    → takes_no_memory v.node.node e.reply ≡ true → ¬ IsGivenUp v call after
not_given_up v after call e own little (inl refused) =
    let more : length v.seat.own ≡ length v.seat.own + 1 =
    ap length (sym refused.own ∙ own) ∙ length-append v.seat.own (e ∷ []) in
    omega arith
not_given_up v after call e own little (inr h) = by_told h.0 h.1.own h.2 h.3
  where
    by_told : (told : Reply × Bool) → after.own ≡ with_entry v.seat.own v.seat.system call told → told.1 ≡ true
        → ¬ (takes_no_memory v.node.node told.0 ≡ false)
    by_told (reply, true) answered entered much =
        let same : e ∷ [] ≡ entry_of v.seat.system call reply ∷ [] =
        append_cancel_left v.seat.own (e ∷ []) (entry_of v.seat.system call reply ∷ []) (sym own ∙ answered) in
        absurd (cc)
    by_told (reply, false) answered entered much = absurd (cc)

-- of this log one step has an entry, and one has none
one_journalled : journalled_steps (ends ∷ rests ∷ []) ≡ 1
one_journalled = refl

one_quiet : quiet_steps (ends ∷ rests ∷ []) ≡ 1
one_quiet = refl

-- what ends a worker's round: that all have come to rest, or that its system was removed, and nothing else
ends_over : is_last_of (Some (replies.Over, true)) ≡ true
ends_over = refl

ends_removed : is_last_of (Some (replies.Removed, false)) ≡ true
ends_removed = refl

goes_on_empty : is_last_of (Some (replies.Empty, false)) ≡ false
goes_on_empty = refl

goes_on_resting : is_last_of (Some (replies.Resting, true)) ≡ false
goes_on_resting = refl

goes_on_quiet : is_last_of None ≡ false
goes_on_quiet = refl

-- A worked run that changes from ring to star mode between the place at which a request is put into the message and its
-- answer, by which the definitions are checked: what is told, what is kept and each lock word are what the rules of the
-- service give by hand.
use Rattle.grs_world.proofs.Common.{[], ◌++◌, ◌∷◌, ◌≡◌, after_code, after_mail, all_sent, answer_own, any_unseen, apply}
use Rattle.grs_world.proofs.Common.{ask, Asked, C00, carry_out, change_to_star, chosen, cleared, closed_by, Coded}
use Rattle.grs_world.proofs.Common.{decide_own, Deck, Desk, desk_told, drop, E, Elem, end_step, Event, false, finish}
use Rattle.grs_world.proofs.Common.{finish_call, finish_quiet, finish_star, first_after, first_node, first_world}
use Rattle.grs_world.proofs.Common.{goes_on_looking, happens, happens_at, has, hist, is_none, kept, List, lock_word}
use Rattle.grs_world.proofs.Common.{Look, lose_each, losing, mail_row, manager, map, may_be_star, may_go, may_send}
use Rattle.grs_world.proofs.Common.{members_below, NodeState, None, Option, option_map, passes_wait, phase_step, placed}
use Rattle.grs_world.proofs.Common.{places, post, prepare, process, process_entry, put_in, read_entries, ready_step}
use Rattle.grs_world.proofs.Common.{recalled, record_enq, refl, replied, rest_after_turn, RetNone, route, row, run}
use Rattle.grs_world.proofs.Common.{show, Slice, slice_get, Some, stamped, star_call, StarDone, state_of, submit_row}
use Rattle.grs_world.proofs.Common.{submitted, switch_row, switched, SystemDef, Systems, take_line, take_row}
use Rattle.grs_world.proofs.Common.{take_up_below, TaskState, tell_all, tell_answer, tell_answer_any}
use Rattle.grs_world.proofs.Common.{tell_answer_ranked, tell_code, tell_control, tell_line, tell_new, tell_rows}
use Rattle.grs_world.proofs.Common.{tell_untold, telling, told, took_mail, true, turn_reply, turn_row, turned, unseen}
use Rattle.grs_world.proofs.Common.{Wait, wakes, with_also, with_exclusive, with_line, with_outstanding, with_phase}
use Rattle.grs_world.proofs.Common.{with_rank, with_record, with_rows, with_state, with_told, without, without_record}
use Rattle.grs_world.proofs.Common.{without_rows, ℕ}
use Rattle.grs_node.specs.Node.{turned as system_turned}
use Rattle.grs_wire.specs.declared.told.Said.TheVariants.{StarAlready}
use Rattle.grs_wire.specs.declared.history.HistEntry.TheVariants.{Enq, Deq, Look as Looked}
use Rattle.grs_world.specs.Interest.{interest_at, manages_at}
use Rattle.grs_world.proofs.samples.Samples.{system, task_of, shared, enq, deq, deck_of, goes, turn, at}
use Rattle.grs_world.proofs.samples.StarSamples.{sends, takes, settles, tells}
use Rattle.grs_base.specs.declared.line.Line.TheVariants.{Gqscan}
use Rattle.grs_base.specs.declared.look.Filter.TheVariants.{All}
use Rattle.grs_wire.specs.declared.deck.Choice.TheVariants as choices
use Rattle.grs_wire.specs.declared.deck.Order.TheVariants as orders
use Rattle.grs_wire.specs.declared.told.Verb.TheVariants as verbs

abbrev pub switches : ℕ → Event
switches s = record { system = system s; choice = choices.Switch }

-- A ring of two systems with one lock entry. Each has a task that asks for exclusive control of the same resource, and
-- a desk that orders the change.
abbrev ring : Deck
ring = deck_of (((enq 66 E Systems RetNone ∷ []) ∷ []) ∷ ((enq 66 E Systems RetNone ∷ deq 66 Systems ∷ []) ∷ []) ∷ [])

abbrev changing : Deck
changing =
    record ring {
      systems = map (λ (s : SystemDef). record s { desk = record { at = 0; order = orders.Star } ∷ [] }) ring.systems;
    }

-- The request of the second system is put in (event 3); the first isn't to change as long as it hasn't processed it
-- (4), then it does, and changes itself (6).
abbrev begun : List Event
begun = goes 1 0 ∷ turn 0 ∷ turn 1 ∷ switches 0 ∷ turn 0 ∷ switches 0 ∷ []

-- The other desk is told that this was done (7). A task of the first system sends its request to the manager, who
-- hasn't changed.
abbrev waits : List Event
waits = switches 1 ∷ goes 0 0 ∷ sends 0 0 ∷ []

-- The manager has its Turn at the closed message (10): its own request is answered, and it changes. Then it takes the
-- other's (11), which waits (12).
abbrev turns : List Event
turns = turn 1 ∷ takes 1 ∷ settles 1 ∷ takes 0 ∷ []

-- Its task gives the resource back (15), and the one who waits is told (17).
abbrev gives : List Event
gives = goes 1 0 ∷ sends 1 0 ∷ tells 1 ∷ takes 0 ∷ []

abbrev elem : ℕ → Elem
elem s = record { task = task_of s 0; ctl = E }

-- what is kept of the resource, as the first system sees it
abbrev kept_after : List Event → List Elem
kept_after es = kept changing (run changing es) (system 0) (shared 66)

pub samples :
    (may_be_star changing ≡ true)
    × (may_be_star ring ≡ false)
    × (told changing begun ≡ at 6 0 (Desk 1 StarDone) ∷ [])
    × (told changing (begun ++ waits) ≡ at 6 0 (Desk 1 StarDone) ∷ at 7 1 (Desk 1 StarAlready) ∷ [])
    × (drop 2 (told changing (begun ++ waits ++ turns)) ≡ at 10 1 (Coded (task_of 1 0) 1 0 verbs.Enq C00) ∷ [])
    × (drop 3 (told changing (begun ++ waits ++ turns ++ gives))
    ≡ at 15 1 (Coded (task_of 1 0) 2 0 verbs.Deq C00) ∷ at 17 0 (Coded (task_of 0 0) 1 0 verbs.Enq C00) ∷ [])
    × (hist changing (begun ++ waits) ≡ Enq (task_of 1 0) (shared 66) E RetNone C00 ∷ [])
    × (hist changing (begun ++ waits ++ turns ++ gives)
    ≡ Enq (task_of 1 0) (shared 66) E RetNone C00 ∷ Enq (task_of 0 0) (shared 66) E RetNone Wait
    ∷ Deq (task_of 1 0) (shared 66) false C00 ∷ [])
    -- the word names the second system, and holds the first from its request on
    × ((run changing begun).medium.words ≡ 514 ∷ [])
    × ((run changing (begun ++ waits)).medium.words ≡ 515 ∷ [])
    -- the second system is still in the ring
    × (map (λ n. is_none n.star) (run changing (begun ++ waits)).nodes ≡ false ∷ true ∷ [])
    × (interest_at changing (run changing begun) (system 1) (slice_get (run changing begun).nodes 1) 0 ≡ true)
    × (manages_at changing (run changing begun) (system 1) (slice_get (run changing begun).nodes 1) 0 ≡ true)
    × (interest_at changing (run changing begun) (system 0) (slice_get (run changing begun).nodes 0) 0 ≡ false)
    × (kept_after begun ≡ elem 1 ∷ [])
    × (places changing begun (shared 66) ≡ elem 1 ∷ [])
    × (kept_after (begun ++ waits ++ turns) ≡ elem 1 ∷ elem 0 ∷ [])
    × (places changing (begun ++ waits ++ turns) (shared 66) ≡ elem 1 ∷ elem 0 ∷ [])
    × (kept_after (begun ++ waits ++ turns ++ gives) ≡ elem 0 ∷ [])
unfolding state_of with_state with_line with_phase with_outstanding with_record without_record with_told
    with_exclusive with_rank telling tell_code record_enq after_code replied passes_wait tell_line tell_untold
    tell_control tell_all tell_new recalled tell_answer tell_answer_any tell_answer_ranked after_mail decide_own
    took_mail post ask take_line end_step ready_step phase_step may_go may_send star_call prepare finish_quiet
    finish_star finish_call finish read_entries all_sent put_in switched desk_told change_to_star system_turned
    answer_own process process_entry has without with_also manager lock_word submitted route turn_row switch_row
    submit_row take_row mail_row row apply first_after unseen any_unseen cleared stamped turn_reply wakes
    rest_after_turn closed_by turned first_node first_world carry_out chosen placed happens_at happens losing
    members_below lose_each take_up_below
samples = (
  refl,
  refl,
  refl,
  refl,
  refl,
  refl,
  refl,
  refl,
  refl,
  refl,
  refl,
  refl,
  refl,
  refl,
  refl,
  refl,
  refl,
  refl,
  refl,
)

-- ---- looks in an outbox
-- A task of the second system asks for all slices (event 1), in ring mode by one request. Before that is put in, the
-- first system changes the complex (2). The second has its Turn at the closed message (3): the task asks for the first
-- slice, with the others left behind it. Nobody manages its entry, so its system does, and decides the request (4);
-- then the task asks for the next slice.
abbrev looking : Deck
looking =
    let all : Deck = deck_of ([] ∷ ((Gqscan true All ∷ []) ∷ []) ∷ []) in
    record all {
      systems = map (λ (s : SystemDef). record s { desk = record { at = 0; order = orders.Star } ∷ [] }) all.systems;
    }

abbrev task_there : List Event → Option TaskState
task_there es =
    option_map (λ (n : NodeState). state_of n.tasks (task_of 1 0)) (slice_get (run looking es).nodes 1)

abbrev asks_for : ℕ → ℕ → ℕ → Option (Option Asked)
asks_for first count left =
    Some (Some (record {
      req = record { task = task_of 1 0; want = Look first count All };
      unit = None;
      showing = Some (record { verb = verbs.Gqscan; left = left });
    }))

abbrev outstanding : List Event → Option (Option Asked)
outstanding es = option_map (λ (x : TaskState). x.outstanding) (task_there es)

pub slice_by_slice :
    (outstanding (goes 1 0 ∷ switches 0 ∷ []) ≡ asks_for 0 64 0)
    × (outstanding (goes 1 0 ∷ switches 0 ∷ turn 1 ∷ []) ≡ asks_for 0 1 63)
    × (outstanding (goes 1 0 ∷ switches 0 ∷ turn 1 ∷ sends 1 0 ∷ []) ≡ asks_for 1 1 62)
    × (hist looking (goes 1 0 ∷ switches 0 ∷ turn 1 ∷ sends 1 0 ∷ []) ≡ Looked (task_of 1 0) (Slice 0) All [] ∷ [])
unfolding state_of with_state with_line with_phase with_outstanding with_record without_record with_told
    with_exclusive with_rank with_rows without_rows telling tell_code record_enq after_code replied passes_wait
    tell_line tell_untold tell_control tell_all tell_new recalled tell_rows goes_on_looking tell_answer
    tell_answer_any tell_answer_ranked after_mail decide_own took_mail post ask show take_line end_step ready_step
    phase_step may_go may_send star_call prepare finish_quiet finish_star finish_call finish read_entries all_sent
    put_in switched desk_told change_to_star system_turned answer_own process process_entry has without with_also
    manager lock_word submitted route turn_row switch_row submit_row take_row mail_row row apply first_after unseen
    any_unseen cleared stamped turn_reply wakes rest_after_turn closed_by turned first_node first_world carry_out
    chosen placed happens_at happens losing members_below lose_each take_up_below
slice_by_slice = (refl, refl, refl, refl)

-- Worked runs by which ranks and orders are checked: which rank an element gets, that its record has the same, who is
-- told first that it owns, and who manages an entry behind the change to star mode.
use Rattle.grs_world.proofs.Common.{[], ◌++◌, ◌∷◌, ◌≡◌, after_code, after_mail, all_sent, answer_own, any_unseen, apply}
use Rattle.grs_world.proofs.Common.{ask, carry_out, change_to_star, chosen, cleared, closed_by, Ctl, decide_own, Deck}
use Rattle.grs_world.proofs.Common.{desk_told, E, Elem, end_step, Event, false, finish, finish_call, finish_quiet}
use Rattle.grs_world.proofs.Common.{finish_star, first_after, first_node, first_world, happens, happens_at, has, inbox}
use Rattle.grs_world.proofs.Common.{List, lock_word, lose_each, losing, mail_row, Managed, managed_at, manager, map}
use Rattle.grs_world.proofs.Common.{may_go, may_send, members_below, NodeState, None, Option, passes_wait, phase_step}
use Rattle.grs_world.proofs.Common.{placed, places, post, prepare, process, process_entry, put_in, read_entries}
use Rattle.grs_world.proofs.Common.{ready_step, recalled, record_enq, refl, replied, rest_after_turn, RetNone, route}
use Rattle.grs_world.proofs.Common.{row, run, S, slice_get, Some, stamped, star_call, StarPart, state_of, submit_row}
use Rattle.grs_world.proofs.Common.{submitted, switch_row, switched, SystemDef, Systems, take_line, take_row}
use Rattle.grs_world.proofs.Common.{take_up_below, tell_all, tell_answer, tell_answer_any, tell_answer_ranked}
use Rattle.grs_world.proofs.Common.{tell_code, tell_control, tell_line, tell_new, tell_untold, telling, took_mail, true}
use Rattle.grs_world.proofs.Common.{turn_reply, turn_row, turned, unseen, Wait, wakes, with_also, with_exclusive}
use Rattle.grs_world.proofs.Common.{with_line, with_outstanding, with_phase, with_rank, with_record, with_state}
use Rattle.grs_world.proofs.Common.{with_told, without, without_record, World, ℕ}
use Rattle.grs_node.specs.Node.{turned as system_turned}
use Rattle.system_purge.specs.Gather.{ranks}
use Rattle.grs_world.specs.Interest.{manages_at}
use Rattle.grs_world.specs.Kept.{managed_ranks, shown_list, shown_records}
use Rattle.grs_world.proofs.samples.Samples.{system, task_of, shared, enq, deq, deck_of, goes, turn}
use Rattle.grs_world.proofs.samples.StarSamples.{sends, settles, star_of, takes, tells}
use Rattle.grs_world.proofs.samples.SwitchSamples.{switches}
use Rattle.grs_wire.specs.declared.deck.Order.TheVariants as orders
use Rattle.grs_wire.specs.declared.medium.Mail.TheVariants as mails
use Rattle.grs_wire.specs.declared.request.Answer.TheVariants as answers

-- the ranks of the records of each task of a system, and those of the elements of the only lock entry where it manages
-- that
abbrev on_record : NodeState → List (List ℕ)
on_record n = map (λ t. map (λ r. r.rank) t.records) n.tasks.tasks

abbrev in_entry : Option Managed → List ℕ
in_entry None = []
in_entry (Some m) = map (λ x. x.rank) m.items

abbrev in_part : Option StarPart → List ℕ
in_part None = []
in_part (Some p) = in_entry (managed_at p.manager 0)

abbrev records_of : World → List (List (List ℕ))
records_of w = map on_record w.nodes

abbrev elements_of : World → List (List ℕ)
elements_of w = map (λ n. in_part n.star) w.nodes

-- ---- star mode
-- A task of the manager has two resources, for which tasks of the other system wait: one for the second by name, and
-- then two for the first, of which the later by number asks sooner.
abbrev queues : Deck
queues =
    star_of (((enq 66 E Systems RetNone ∷ enq 65 E Systems RetNone ∷ deq 66 Systems ∷ deq 65 Systems ∷ []) ∷ [])
    ∷ ((enq 66 E Systems RetNone ∷ []) ∷ (enq 65 S Systems RetNone ∷ []) ∷ (enq 65 S Systems RetNone ∷ []) ∷ []) ∷ [])

abbrev has_both : List Event
has_both = goes 0 0 ∷ sends 0 0 ∷ goes 0 0 ∷ sends 0 0 ∷ []

-- a request of a task of the other system is settled, and its answer is taken
abbrev settled : ℕ → List Event
settled n = goes 1 n ∷ sends 1 n ∷ takes 0 ∷ settles 0 ∷ []

abbrev one_waits : List Event
one_waits = has_both ++ settled 0

abbrev all_wait : List Event
all_wait = one_waits ++ takes 1 ∷ settled 2 ++ takes 1 ∷ settled 1 ++ takes 1 ∷ []

-- both are given back
abbrev given_back : List Event
given_back = all_wait ++ goes 0 0 ∷ sends 0 0 ∷ goes 0 0 ∷ sends 0 0 ∷ []

abbrev told_all : List Event
told_all = given_back ++ tells 0 ∷ tells 0 ∷ tells 0 ∷ []

-- A new element gets the next rank of its entry, whatever its resource. The answer has it with it, and then the record;
-- it stays when control is told.
pub ranks_go_on :
    (elements_of (run queues has_both) ≡ (1 ∷ 2 ∷ []) ∷ [] ∷ [])
    × (records_of (run queues has_both) ≡ ((1 ∷ 2 ∷ []) ∷ []) ∷ ([] ∷ [] ∷ [] ∷ []) ∷ [])
    × (inbox (run queues one_waits).medium 1 ≡ mails.Answered (task_of 1 0) (answers.Coded Wait) 3 ∷ [])
    × (elements_of (run queues all_wait) ≡ (1 ∷ 2 ∷ 3 ∷ 4 ∷ 5 ∷ []) ∷ [] ∷ [])
    × (records_of (run queues all_wait)
    ≡ ((1 ∷ 2 ∷ []) ∷ []) ∷ ((3 ∷ []) ∷ (5 ∷ []) ∷ (4 ∷ []) ∷ []) ∷ [])
    × (elements_of (run queues given_back) ≡ (3 ∷ 4 ∷ 5 ∷ []) ∷ [] ∷ [])
    × (records_of (run queues (told_all ++ takes 1 ∷ takes 1 ∷ takes 1 ∷ []))
    ≡ ([] ∷ []) ∷ ((3 ∷ []) ∷ (5 ∷ []) ∷ (4 ∷ []) ∷ []) ∷ [])
unfolding state_of with_state with_line with_phase with_outstanding with_record without_record with_told with_exclusive
    with_rank telling tell_code record_enq after_code replied passes_wait tell_line tell_untold tell_control tell_all
    tell_new recalled tell_answer tell_answer_any tell_answer_ranked after_mail decide_own took_mail post ask take_line
    end_step ready_step phase_step may_go may_send star_call prepare finish_quiet finish_star finish_call finish has
    without with_also manager lock_word submitted route submit_row take_row mail_row row apply first_node first_world
    carry_out chosen placed happens_at happens
ranks_go_on = (refl, refl, refl, refl, refl, refl, refl)

-- The owners are told by the order of the resources, though the second by name was given back sooner; on one resource
-- in the order of its list.
pub told_in_order :
    (inbox (run queues given_back).medium 1 ≡ [])
    × (inbox (run queues told_all).medium 1
    ≡ mails.Granted (task_of 1 2) (shared 65) ∷ mails.Granted (task_of 1 1) (shared 65)
    ∷ mails.Granted (task_of 1 0) (shared 66) ∷ [])
unfolding state_of with_state with_line with_phase with_outstanding with_record without_record with_told with_exclusive
    with_rank telling tell_code record_enq after_code replied passes_wait tell_line tell_untold tell_control tell_all
    tell_new recalled tell_answer tell_answer_any tell_answer_ranked after_mail decide_own took_mail post ask take_line
    end_step ready_step phase_step may_go may_send star_call prepare finish_quiet finish_star finish_call finish has
    without with_also manager lock_word submitted route submit_row take_row mail_row row apply first_node first_world
    carry_out chosen placed happens_at happens
told_in_order = (refl, refl)

-- ---- what the systems show together
-- the element of a task
abbrev elem : ℕ → ℕ → Ctl → Elem
elem s n c = record { task = task_of s n; ctl = c }

-- a resource by what the systems have on record, once each has taken its mail, and by the history
abbrev shown_of : List Event → ℕ → List Elem
shown_of es name = shown_list queues (run queues es) (shared name)

abbrev placed_of : List Event → ℕ → List Elem
placed_of es name = places queues es (shared name)

-- the answer to the last request that was settled is in its system's inbox
abbrev last_answered : List Event
last_answered = one_waits ++ takes 1 ∷ settled 2 ++ takes 1 ∷ settled 1

-- What is still in an inbox counts, and elements stand by their ranks: of the second system's tasks the later asked
-- sooner.
pub shown_by_ranks :
    (inbox (run queues last_answered).medium 1 ≡ mails.Answered (task_of 1 1) (answers.Coded Wait) 5 ∷ [])
    × (map (shown_of last_answered) (65 ∷ 66 ∷ [])
    ≡ (elem 0 0 E ∷ elem 1 2 S ∷ elem 1 1 S ∷ []) ∷ (elem 0 0 E ∷ elem 1 0 E ∷ []) ∷ [])
    × (map (placed_of last_answered) (65 ∷ 66 ∷ [])
    ≡ (elem 0 0 E ∷ elem 1 2 S ∷ elem 1 1 S ∷ []) ∷ (elem 0 0 E ∷ elem 1 0 E ∷ []) ∷ [])
    × (map (shown_of given_back) (65 ∷ 66 ∷ [])
    ≡ (elem 1 2 S ∷ elem 1 1 S ∷ []) ∷ (elem 1 0 E ∷ []) ∷ [])
unfolding state_of with_state with_line with_phase with_outstanding with_record without_record with_told with_exclusive
    with_rank telling tell_code record_enq after_code replied passes_wait tell_line tell_untold tell_control tell_all
    tell_new recalled tell_answer tell_answer_any tell_answer_ranked after_mail decide_own took_mail post ask take_line
    end_step ready_step phase_step may_go may_send star_call prepare finish_quiet finish_star finish_call finish has
    without with_also manager lock_word submitted route submit_row take_row mail_row row apply first_node first_world
    carry_out chosen placed happens_at happens
shown_by_ranks = (refl, refl, refl, refl)

-- The records have the ranks of the elements, those of either resource by themselves.
abbrev ranks_by : Option StarPart → ℕ → List ℕ
ranks_by None name = []
ranks_by (Some p) name = managed_ranks p (shared name)

abbrev ranks_at : Option NodeState → ℕ → List ℕ
ranks_at None name = []
ranks_at (Some n) name = ranks_by n.star name

pub shown_ranks :
    (map (λ name. ranks (shown_records queues (run queues last_answered) (shared name))) (65 ∷ 66 ∷ [])
    ≡ (2 ∷ 4 ∷ 5 ∷ []) ∷ (1 ∷ 3 ∷ []) ∷ [])
    × (map (ranks_at (slice_get (run queues last_answered).nodes 0)) (65 ∷ 66 ∷ [])
    ≡ (2 ∷ 4 ∷ 5 ∷ []) ∷ (1 ∷ 3 ∷ []) ∷ [])
unfolding state_of with_state with_line with_phase with_outstanding with_record without_record with_told with_exclusive
    with_rank telling tell_code record_enq after_code replied passes_wait tell_line tell_untold tell_control tell_all
    tell_new recalled tell_answer tell_answer_any tell_answer_ranked after_mail decide_own took_mail post ask take_line
    end_step ready_step phase_step may_go may_send star_call prepare finish_quiet finish_star finish_call finish has
    without with_also manager lock_word submitted route submit_row take_row mail_row row apply first_node first_world
    carry_out chosen placed happens_at happens
shown_ranks = (refl, refl)

-- ---- the change
-- Each of two systems has a task that shares a resource; the desk of the second orders the change.
abbrev sharing : Deck
sharing = deck_of (((enq 66 S Systems RetNone ∷ []) ∷ []) ∷ ((enq 66 S Systems RetNone ∷ []) ∷ []) ∷ [])

abbrev changing : Deck
changing =
    record sharing {
      systems =
          map (λ (s : SystemDef). record s { desk = record { at = 0; order = orders.Star } ∷ [] }) sharing.systems;
    }

-- The first asks sooner. Each processes both requests, and then the second changes, and the first behind it.
abbrev shared_by_both : List Event
shared_by_both = goes 1 0 ∷ goes 0 0 ∷ turn 0 ∷ turn 1 ∷ turn 0 ∷ turn 1 ∷ []

-- The least system that has an element there manages the entry, whoever ordered the change: the word has it as 1, which
-- is its number and one, and holds both. The records get the ranks of the elements there.
pub least_manages :
    ((run changing (shared_by_both ++ switches 1 ∷ [])).medium.words ≡ 259 ∷ [])
    × (manages_at changing (run changing (shared_by_both ++ switches 1 ∷ [])) (system 0)
    (slice_get (run changing (shared_by_both ++ switches 1 ∷ [])).nodes 0) 0
    ≡ true)
    × (manages_at changing (run changing (shared_by_both ++ switches 1 ∷ [])) (system 1)
    (slice_get (run changing (shared_by_both ++ switches 1 ∷ [])).nodes 1) 0
    ≡ false)
    × (records_of (run changing shared_by_both) ≡ ((0 ∷ []) ∷ []) ∷ ((0 ∷ []) ∷ []) ∷ [])
    × (records_of (run changing (shared_by_both ++ switches 1 ∷ turn 0 ∷ []))
    ≡ ((1 ∷ []) ∷ []) ∷ ((2 ∷ []) ∷ []) ∷ [])
    × (elements_of (run changing (shared_by_both ++ switches 1 ∷ turn 0 ∷ [])) ≡ (1 ∷ 2 ∷ []) ∷ [] ∷ [])
unfolding state_of with_state with_line with_phase with_outstanding with_record without_record with_told
    with_exclusive with_rank telling tell_code record_enq after_code replied passes_wait tell_line tell_untold
    tell_control tell_all tell_new recalled tell_answer tell_answer_any tell_answer_ranked after_mail decide_own
    took_mail post ask take_line end_step ready_step phase_step may_go may_send star_call prepare finish_quiet
    finish_star finish_call finish read_entries all_sent put_in switched desk_told change_to_star system_turned
    answer_own process process_entry has without with_also manager lock_word submitted route turn_row switch_row
    submit_row take_row mail_row row apply first_after unseen any_unseen cleared stamped turn_reply wakes
    rest_after_turn closed_by turned first_node first_world carry_out chosen placed happens_at happens losing
    members_below lose_each take_up_below
least_manages = (refl, refl, refl, refl, refl, refl)

-- What both show together is the list, where the first has still to change too.
pub shown_in_change :
    map (λ es. shown_list changing (run changing es) (shared 66))
    ((shared_by_both ++ switches 1 ∷ []) ∷ (shared_by_both ++ switches 1 ∷ turn 0 ∷ []) ∷ [])
    ≡ (elem 0 0 S ∷ elem 1 0 S ∷ []) ∷ (elem 0 0 S ∷ elem 1 0 S ∷ []) ∷ []
unfolding state_of with_state with_line with_phase with_outstanding with_record without_record with_told
    with_exclusive with_rank telling tell_code record_enq after_code replied passes_wait tell_line tell_untold
    tell_control tell_all tell_new recalled tell_answer tell_answer_any tell_answer_ranked after_mail decide_own
    took_mail post ask take_line end_step ready_step phase_step may_go may_send star_call prepare finish_quiet
    finish_star finish_call finish read_entries all_sent put_in switched desk_told change_to_star system_turned
    answer_own process process_entry has without with_also manager lock_word submitted route turn_row switch_row
    submit_row take_row mail_row row apply first_after unseen any_unseen cleared stamped turn_reply wakes
    rest_after_turn closed_by turned first_node first_world carry_out chosen placed happens_at happens losing
    members_below lose_each take_up_below
shown_in_change = refl

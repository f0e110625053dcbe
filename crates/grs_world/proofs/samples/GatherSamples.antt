-- Worked runs in which systems of a star are removed, by which the definitions are checked: who keeps which list, each
-- history and each told line is what the rules of the service give by hand.
use Rattle.grs_world.proofs.Common.{[], ◌++◌, ◌∷◌, ◌≡◌, Act, after_code, after_mail, all_sent, answer_own, any_unseen}
use Rattle.grs_world.proofs.Common.{apply, ask, Bool, C00, C04, carry_out, change_to_star, chosen, cleared, closed_by}
use Rattle.grs_world.proofs.Common.{Coded, Ctl, decide_own, Deck, departed, desk_told, E, Elem, end_step, Event, false}
use Rattle.grs_world.proofs.Common.{finish, finish_call, finish_quiet, finish_star, first_after, first_node}
use Rattle.grs_world.proofs.Common.{first_world, happens, happens_at, has, hist, is_without, kept, leave_changes}
use Rattle.grs_world.proofs.Common.{leave_reply, leave_row, left_word, Line, List, list_all, lock_word, lose_each}
use Rattle.grs_world.proofs.Common.{losing, mail_row, manager, map, may_go, may_send, members_below, move_each}
use Rattle.grs_world.proofs.Common.{NodeState, option_map_or, passes_wait, phase_step, placed, places, post, prepare}
use Rattle.grs_world.proofs.Common.{process, process_entry, purge_row, purged, put_in, read_entries, ready_step}
use Rattle.grs_world.proofs.Common.{recalled, record_enq, refl, replied, Reply, reply_to, rest_after_turn, RetEcb}
use Rattle.grs_world.proofs.Common.{RetNone, route, row, run, S, slice_get, stale, stamped, star_call, StarDone}
use Rattle.grs_world.proofs.Common.{StarPart, state_of, submit_row, submitted, suc, switch_row, switched, SystemDef}
use Rattle.grs_world.proofs.Common.{Systems, take_line, take_row, take_up_below, tell_all, tell_answer, tell_answer_any}
use Rattle.grs_world.proofs.Common.{tell_answer_ranked, tell_code, tell_control, tell_each, tell_line, tell_new}
use Rattle.grs_world.proofs.Common.{tell_untold, telling, told, took_mail, true, turn_reply, turn_row, turned, unseen}
use Rattle.grs_world.proofs.Common.{VaryDone, Wait, wakes, with_also, with_exclusive, with_line, with_outstanding}
use Rattle.grs_world.proofs.Common.{with_phase, with_rank, with_record, with_state, with_told, without, without_record}
use Rattle.grs_world.proofs.Common.{zero, ℕ}
use Rattle.grs_node.specs.Node.{turned as system_turned}
use Rattle.grs_wire.specs.declared.told.ToldLine.TheVariants.{Desk as AtDesk}
use Rattle.grs_world.specs.Kept.{managed_list}
use Rattle.grs_base.specs.declared.resource.Ret.TheVariants.{RetTest}
use Rattle.grs_wire.specs.declared.deck.Desk.{Desk}
use Rattle.grs_wire.specs.declared.history.HistEntry.TheVariants.{Enq, Deq, Remove}
use Rattle.lock_structure.specs.Purge.{purged_word}
use Rattle.grs_world.proofs.samples.RemovalSamples.{purges}
use Rattle.grs_world.proofs.samples.Samples.{system, task_of, shared, enq, deq, deck_of, goes, turn, at}
use Rattle.grs_world.proofs.samples.StarSamples.{sends, settles, star_of, takes, tells}
use Rattle.grs_world.proofs.samples.SwitchSamples.{switches}
use Rattle.grs_wire.specs.declared.deck.Choice.TheVariants as choices
use Rattle.grs_wire.specs.declared.deck.Order.TheVariants as orders
use Rattle.grs_wire.specs.declared.medium.Act.TheVariants as acts
use Rattle.grs_wire.specs.declared.medium.Reply.TheVariants as replies
use Rattle.grs_wire.specs.declared.told.Verb.TheVariants as verbs

abbrev pub parts : ℕ → Event
parts s = record { system = system s; choice = choices.Part 0 }

abbrev pub vary : ℕ → Desk
vary target = record { at = 0; order = orders.Vary (system target) }

abbrev pub elem : ℕ → ℕ → Ctl → Elem
elem s n c = record { task = task_of s n; ctl = c }

-- these systems, of which the one of this number has these commands at its desk
abbrev pub with_desk : ℕ → List Desk → List SystemDef → List SystemDef
with_desk n desk [] = []
with_desk zero desk (s ∷ ss) = record s { desk = desk } ∷ ss
with_desk (suc n) desk (s ∷ ss) = s ∷ with_desk n desk ss

abbrev pub at_desk : ℕ → List Desk → Deck → Deck
at_desk n desk deck = record deck { systems = with_desk n desk deck.systems }

-- what is kept of the resource behind these events, as this system sees it, and what the history says of it
abbrev pub kept_by : Deck → ℕ → List Event → List Elem
kept_by deck s es = kept deck (run deck es) (system s) (shared 66)

abbrev pub placed_by : Deck → List Event → List Elem
placed_by deck es = places deck es (shared 66)

-- what a system alone has in the lists that it manages
abbrev pub alone_by : Deck → ℕ → List Event → List Elem
alone_by deck s es =
    option_map_or (λ (n : NodeState). managed_list deck (run deck es) (system s) n n.star (shared 66))
    (slice_get (run deck es).nodes s) []

-- whether it has there no element of system u
abbrev is_rid_of : Deck → ℕ → ℕ → List Event → Bool
is_rid_of deck s u es =
    option_map_or (λ (n : NodeState).
    option_map_or (λ (p : StarPart). list_all (is_without u) p.manager.entries) n.star true)
    (slice_get (run deck es).nodes s) true

abbrev pub one : Line
one = enq 66 E Systems RetNone

abbrev share : Line
share = enq 66 S Systems RetNone

-- ---- the manager is removed
-- The first system manages the entry, and its task owns. The third one's first task waits, and then the second's. The
-- request of the third one's other task is taken, and not settled (event 13).
abbrev pub manager_goes : Deck
manager_goes =
    at_desk 1 (vary 0 ∷ []) (star_of (((one ∷ []) ∷ []) ∷ ((one ∷ []) ∷ []) ∷ ((one ∷ []) ∷ (share ∷ []) ∷ []) ∷ []))

abbrev pub all_asked : List Event
all_asked =
    goes 0 0 ∷ sends 0 0 ∷ goes 2 0 ∷ sends 2 0 ∷ goes 1 0 ∷ sends 1 0 ∷ takes 0 ∷ settles 0 ∷ takes 0 ∷ settles 0
    ∷ goes 2 1 ∷ sends 2 1 ∷ takes 0 ∷ []

-- The second system removes the first (14), and has its notice (16).
abbrev pub without_manager : List Event
without_manager = all_asked ++ purges 1 0 ∷ []

abbrev pub it_gathers : List Event
it_gathers = without_manager ++ takes 1 ∷ takes 1 ∷ []

-- The third is told who is removed (17), has its answer and its notice (19), and sends its part (20).
abbrev pub part_sent : List Event
part_sent = it_gathers ++ takes 2 ∷ takes 2 ∷ takes 2 ∷ parts 2 ∷ []

-- With that the second has the lists (21). It tells the third's task, and settles the request that was sent again (26).
abbrev pub all_there : List Event
all_there = part_sent ++ takes 1 ∷ []

abbrev pub goes_on : List Event
goes_on = all_there ++ tells 1 ∷ sends 2 1 ∷ takes 2 ∷ takes 1 ∷ settles 1 ∷ takes 2 ∷ []

abbrev two_left : List Elem
two_left = elem 2 0 E ∷ elem 1 0 E ∷ []

-- what a system that knows of the removal is answered behind it
abbrev answered_behind : ℕ → Act → Reply
answered_behind s act =
    reply_to (run manager_goes without_manager).medium (system s) (record { known = 1; act = act })

pub gathering_kept :
    (kept_by manager_goes 1 all_asked ≡ elem 0 0 E ∷ two_left)
    × (kept_by manager_goes 1 without_manager ≡ two_left)
    × (kept_by manager_goes 2 without_manager ≡ two_left)
    × (kept_by manager_goes 1 it_gathers ≡ two_left)
    × (kept_by manager_goes 1 part_sent ≡ two_left)
    × (kept_by manager_goes 1 all_there ≡ two_left)
    × (kept_by manager_goes 1 goes_on ≡ elem 2 0 E ∷ elem 1 0 E ∷ elem 2 1 S ∷ [])
    × (map (placed_by manager_goes) (without_manager ∷ it_gathers ∷ part_sent ∷ all_there ∷ [])
    ≡ two_left ∷ two_left ∷ two_left ∷ two_left ∷ [])
    × (placed_by manager_goes goes_on ≡ elem 2 0 E ∷ elem 1 0 E ∷ elem 2 1 S ∷ [])
    -- by itself the new manager has none of them before
    × (map (alone_by manager_goes 1) (without_manager ∷ it_gathers ∷ part_sent ∷ all_there ∷ [])
    ≡ [] ∷ [] ∷ [] ∷ two_left ∷ [])
unfolding state_of with_state with_line with_phase with_outstanding with_record without_record with_told
    with_exclusive with_rank telling tell_code record_enq after_code replied passes_wait tell_line tell_untold
    tell_control tell_all tell_new recalled tell_answer tell_answer_any tell_answer_ranked after_mail decide_own
    took_mail post ask take_line end_step ready_step phase_step may_go may_send star_call prepare finish_quiet
    finish_star finish_call finish desk_told purged stale losing members_below lose_each take_up_below move_each
    tell_each has without with_also manager lock_word submitted leave_reply leave_changes left_word route
    purged_word submit_row take_row mail_row leave_row purge_row row apply departed first_node first_world carry_out
    chosen placed happens_at happens
gathering_kept = (refl, refl, refl, refl, refl, refl, refl, refl, refl, refl)

pub manager_gone :
    (hist manager_goes goes_on
    ≡ Enq (task_of 0 0) (shared 66) E RetNone C00 ∷ Enq (task_of 2 0) (shared 66) E RetNone Wait
    ∷ Enq (task_of 1 0) (shared 66) E RetNone Wait ∷ Remove (system 1) (system 0)
    ∷ Enq (task_of 2 1) (shared 66) S RetNone Wait ∷ [])
    × (told manager_goes goes_on
    ≡ at 2 0 (Coded (task_of 0 0) 1 0 verbs.Enq C00) ∷ at 14 1 (AtDesk 1 VaryDone)
    ∷ at 24 2 (Coded (task_of 2 0) 1 0 verbs.Enq C00) ∷ [])
    × ((run manager_goes goes_on).medium.words ≡ 4614 ∷ [])
    × (answered_behind 1 (acts.Leave 0) ≡ replies.Yours)
    × (answered_behind 2 (acts.Leave 0) ≡ replies.Old)
unfolding state_of with_state with_line with_phase with_outstanding with_record without_record with_told
    with_exclusive with_rank telling tell_code record_enq after_code replied passes_wait tell_line tell_untold
    tell_control tell_all tell_new recalled tell_answer tell_answer_any tell_answer_ranked after_mail decide_own
    took_mail post ask take_line end_step ready_step phase_step may_go may_send star_call prepare finish_quiet
    finish_star finish_call finish desk_told purged stale losing members_below lose_each take_up_below move_each
    tell_each has without with_also manager lock_word submitted leave_reply leave_changes left_word route
    purged_word submit_row take_row mail_row leave_row purge_row row apply departed first_node first_world carry_out
    chosen placed happens_at happens
manager_gone = (refl, refl, refl, refl, refl)

-- ---- who asked is removed
-- The second system's first task waits, and its answer is still in its inbox (event 12); the manager holds the request
-- of its second task too, and one of the third system, which removes the second (13). The manager learns of it in event
-- 14, and then settles the third one's request.
abbrev pub asker_goes : Deck
asker_goes =
    at_desk 2 (vary 1 ∷ [])
    (star_of (((share ∷ []) ∷ []) ∷ ((one ∷ []) ∷ (share ∷ []) ∷ []) ∷ ((share ∷ []) ∷ []) ∷ []))

abbrev pub one_answered : List Event
one_answered =
    goes 0 0 ∷ sends 0 0 ∷ goes 1 0 ∷ sends 1 0 ∷ goes 1 1 ∷ sends 1 1 ∷ goes 2 0 ∷ sends 2 0 ∷ takes 0 ∷ takes 0
    ∷ takes 0 ∷ settles 0 ∷ []

abbrev pub without_asker : List Event
without_asker = one_answered ++ purges 2 1 ∷ []

abbrev then_settled : List Event
then_settled = without_asker ++ settles 0 ∷ settles 0 ∷ takes 2 ∷ []

pub asker_gone :
    (kept_by asker_goes 0 one_answered ≡ elem 0 0 S ∷ elem 1 0 E ∷ [])
    × (kept_by asker_goes 0 without_asker ≡ elem 0 0 S ∷ [])
    × (placed_by asker_goes without_asker ≡ elem 0 0 S ∷ [])
    -- the manager's list still has the other
    × (alone_by asker_goes 0 without_asker ≡ elem 0 0 S ∷ elem 1 0 E ∷ [])
    -- until it knows of the removal
    × (is_rid_of asker_goes 0 1 without_asker ≡ false)
    × (is_rid_of asker_goes 0 1 (without_asker ++ settles 0 ∷ []) ≡ true)
    × (kept_by asker_goes 0 then_settled ≡ elem 0 0 S ∷ elem 2 0 S ∷ [])
    × (placed_by asker_goes then_settled ≡ elem 0 0 S ∷ elem 2 0 S ∷ [])
    × (hist asker_goes then_settled
    ≡ Enq (task_of 0 0) (shared 66) S RetNone C00 ∷ Enq (task_of 1 0) (shared 66) E RetNone Wait
    ∷ Remove (system 2) (system 1) ∷ Enq (task_of 2 0) (shared 66) S RetNone C00 ∷ [])
    × (told asker_goes then_settled
    ≡ at 2 0 (Coded (task_of 0 0) 1 0 verbs.Enq C00) ∷ at 13 2 (AtDesk 1 VaryDone)
    ∷ at 16 2 (Coded (task_of 2 0) 1 0 verbs.Enq C00) ∷ [])
unfolding state_of with_state with_line with_phase with_outstanding with_record without_record with_told
    with_exclusive with_rank telling tell_code record_enq after_code replied passes_wait tell_line tell_untold
    tell_control tell_all tell_new recalled tell_answer tell_answer_any tell_answer_ranked after_mail decide_own
    took_mail post ask take_line end_step ready_step phase_step may_go may_send star_call prepare finish_quiet
    finish_star finish_call finish desk_told purged stale losing members_below lose_each take_up_below move_each
    tell_each has without with_also manager lock_word submitted leave_reply leave_changes left_word route
    purged_word submit_row take_row mail_row leave_row purge_row row apply departed first_node first_world carry_out
    chosen placed happens_at happens
asker_gone = (refl, refl, refl, refl, refl, refl, refl, refl, refl, refl)

-- ---- control is under way
-- The manager's task gives the resource up (event 17), so the second system's task and the third one's first share it.
-- The second's is mailed control (18), and lies behind its answer; the third's isn't yet, when the third system removes
-- the manager (19).
abbrev pub control_comes : Deck
control_comes =
    at_desk 2 (vary 0 ∷ [])
    (star_of (((one ∷ deq 66 Systems ∷ []) ∷ []) ∷ ((share ∷ []) ∷ [])
    ∷ ((share ∷ []) ∷ (enq 66 E Systems RetEcb ∷ []) ∷ []) ∷ []))

abbrev pub one_mailed : List Event
one_mailed =
    goes 0 0 ∷ sends 0 0 ∷ goes 1 0 ∷ sends 1 0 ∷ takes 0 ∷ settles 0 ∷ goes 2 0 ∷ sends 2 0 ∷ takes 0 ∷ settles 0
    ∷ goes 2 1 ∷ sends 2 1 ∷ takes 0 ∷ settles 0 ∷ takes 2 ∷ goes 0 0 ∷ sends 0 0 ∷ tells 0 ∷ []

-- The second system is told who is removed (20); it takes the answer, control and the notice (23). The third takes its
-- ECB's answer and the notice (25), and sends its part (26).
abbrev pub second_took : List Event
second_took = one_mailed ++ purges 2 0 ∷ takes 1 ∷ takes 1 ∷ takes 1 ∷ takes 1 ∷ []

abbrev third_took : List Event
third_took = second_took ++ takes 2 ∷ takes 2 ∷ parts 2 ∷ []

-- The lists are there (27), and the third one's task is told, once (29).
abbrev other_told : List Event
other_told = third_took ++ takes 1 ∷ tells 1 ∷ takes 2 ∷ []

abbrev three_left : List Elem
three_left = elem 1 0 S ∷ elem 2 0 S ∷ elem 2 1 E ∷ []

pub control_kept :
    (map (kept_by control_comes 1)
    (one_mailed ∷ (one_mailed ++ purges 2 0 ∷ []) ∷ (one_mailed ++ purges 2 0 ∷ takes 1 ∷ takes 1 ∷ []) ∷ second_took
    ∷ third_took ∷ other_told ∷ [])
    ≡ three_left ∷ three_left ∷ three_left ∷ three_left ∷ three_left ∷ three_left ∷ [])
    × (map (placed_by control_comes) (one_mailed ∷ (one_mailed ++ purges 2 0 ∷ []) ∷ other_told ∷ [])
    ≡ three_left ∷ three_left ∷ three_left ∷ [])
    × (hist control_comes other_told
    ≡ Enq (task_of 0 0) (shared 66) E RetNone C00 ∷ Enq (task_of 1 0) (shared 66) S RetNone Wait
    ∷ Enq (task_of 2 0) (shared 66) S RetNone Wait ∷ Enq (task_of 2 1) (shared 66) E RetEcb C04
    ∷ Deq (task_of 0 0) (shared 66) false C00 ∷ Remove (system 2) (system 0) ∷ [])
    × (told control_comes other_told
    ≡ at 2 0 (Coded (task_of 0 0) 1 0 verbs.Enq C00) ∷ at 17 0 (Coded (task_of 0 0) 2 0 verbs.Deq C00)
    ∷ at 19 2 (AtDesk 1 VaryDone) ∷ at 22 1 (Coded (task_of 1 0) 1 0 verbs.Enq C00)
    ∷ at 24 2 (Coded (task_of 2 1) 1 0 verbs.Enq C04) ∷ at 29 2 (Coded (task_of 2 0) 1 0 verbs.Enq C00) ∷ [])
unfolding state_of with_state with_line with_phase with_outstanding with_record without_record with_told
    with_exclusive with_rank telling tell_code record_enq after_code replied passes_wait tell_line tell_untold
    tell_control tell_all tell_new recalled tell_answer tell_answer_any tell_answer_ranked after_mail decide_own
    took_mail post ask take_line end_step ready_step phase_step may_go may_send star_call prepare finish_quiet
    finish_star finish_call finish desk_told purged stale losing members_below lose_each take_up_below move_each
    tell_each has without with_also manager lock_word submitted leave_reply leave_changes left_word route
    purged_word submit_row take_row mail_row leave_row purge_row row apply departed first_node first_world carry_out
    chosen placed happens_at happens
control_kept = (refl, refl, refl, refl)

-- ---- two managers are removed in turn
-- The tasks of the other three systems wait, in the order of the systems (event 14). The third system removes the first
-- (17), and the second gathers. It has the third one's part (22), and not the fourth's, when the fourth removes it
-- (24).
abbrev pub two_go : Deck
two_go =
    at_desk 2 (vary 0 ∷ []) (at_desk 3 (vary 1 ∷ [])
    (star_of (((one ∷ []) ∷ []) ∷ ((one ∷ []) ∷ []) ∷ ((share ∷ []) ∷ []) ∷ ((share ∷ []) ∷ []) ∷ [])))

abbrev four_asked : List Event
four_asked =
    goes 0 0 ∷ sends 0 0 ∷ goes 1 0 ∷ sends 1 0 ∷ takes 0 ∷ settles 0 ∷ goes 2 0 ∷ sends 2 0 ∷ takes 0 ∷ settles 0
    ∷ goes 3 0 ∷ sends 3 0 ∷ takes 0 ∷ settles 0 ∷ takes 1 ∷ takes 2 ∷ []

abbrev one_gone : List Event
one_gone = four_asked ++ purges 2 0 ∷ []

abbrev pub one_part : List Event
one_part = one_gone ++ takes 1 ∷ takes 1 ∷ takes 2 ∷ parts 2 ∷ takes 1 ∷ []

abbrev pub two_gone : List Event
two_gone = one_part ++ purges 3 1 ∷ purges 3 1 ∷ []

-- The fourth takes its answer and both notices (28); to the second it can send no part any more (27), and it sends one
-- to the third (29), which is told who is removed, takes its notice, and that part (32).
abbrev pub its_part : List Event
its_part = two_gone ++ takes 3 ∷ takes 3 ∷ parts 3 ∷ takes 3 ∷ parts 3 ∷ []

abbrev pub both_share : List Event
both_share = its_part ++ takes 2 ∷ takes 2 ∷ takes 2 ∷ tells 2 ∷ takes 3 ∷ []

abbrev three_wait : List Elem
three_wait = elem 1 0 E ∷ elem 2 0 S ∷ elem 3 0 S ∷ []

abbrev two_share : List Elem
two_share = elem 2 0 S ∷ elem 3 0 S ∷ []

pub two_kept :
    (map (kept_by two_go 3) (one_gone ∷ one_part ∷ two_gone ∷ its_part ∷ both_share ∷ [])
    ≡ three_wait ∷ three_wait ∷ two_share ∷ two_share ∷ two_share ∷ [])
    × (map (placed_by two_go) (one_gone ∷ one_part ∷ two_gone ∷ its_part ∷ both_share ∷ [])
    ≡ three_wait ∷ three_wait ∷ two_share ∷ two_share ∷ two_share ∷ [])
    × (hist two_go both_share
    ≡ Enq (task_of 0 0) (shared 66) E RetNone C00 ∷ Enq (task_of 1 0) (shared 66) E RetNone Wait
    ∷ Enq (task_of 2 0) (shared 66) S RetNone Wait ∷ Enq (task_of 3 0) (shared 66) S RetNone Wait
    ∷ Remove (system 2) (system 0) ∷ Remove (system 3) (system 1) ∷ [])
    × (told two_go both_share
    ≡ at 2 0 (Coded (task_of 0 0) 1 0 verbs.Enq C00) ∷ at 17 2 (AtDesk 1 VaryDone) ∷ at 24 3 (AtDesk 1 VaryDone)
    ∷ at 32 2 (Coded (task_of 2 0) 1 0 verbs.Enq C00) ∷ at 34 3 (Coded (task_of 3 0) 1 0 verbs.Enq C00) ∷ [])
unfolding state_of with_state with_line with_phase with_outstanding with_record without_record with_told
    with_exclusive with_rank telling tell_code record_enq after_code replied passes_wait tell_line tell_untold
    tell_control tell_all tell_new recalled tell_answer tell_answer_any tell_answer_ranked after_mail decide_own
    took_mail post ask take_line end_step ready_step phase_step may_go may_send star_call prepare finish_quiet
    finish_star finish_call finish desk_told purged stale losing members_below lose_each take_up_below move_each
    tell_each has without with_also manager lock_word submitted leave_reply leave_changes left_word route
    purged_word submit_row take_row mail_row leave_row purge_row row apply departed first_node first_world carry_out
    chosen placed happens_at happens
two_kept = (refl, refl, refl, refl)

-- ---- in the midst of the change
-- The requests of three systems go with the message. The second changes the complex (event 9), before the third has
-- processed its own, and by the lists the first manages the entry; but it never changes, and the second removes it
-- (12).
-- The third is told so (14), processes its request by lists in which the first one's element still stands, and changes
-- (15).
abbrev pub never_changes : Deck
never_changes =
    at_desk 1 (record { at = 0; order = orders.Star } ∷ vary 0 ∷ [])
    (deck_of (((one ∷ []) ∷ []) ∷ ((one ∷ []) ∷ (enq 66 S Systems RetTest ∷ []) ∷ [])
    ∷ ((enq 66 S Systems RetEcb ∷ []) ∷ []) ∷ []))

abbrev one_sent : List Event
one_sent =
    goes 0 0 ∷ goes 1 0 ∷ goes 2 0 ∷ turn 0 ∷ turn 1 ∷ turn 2 ∷ turn 0 ∷ turn 1 ∷ switches 1 ∷ goes 1 1 ∷ sends 1 1
    ∷ []

abbrev never_changed : List Event
never_changed = one_sent ++ purges 1 0 ∷ []

abbrev third_changed : List Event
third_changed = never_changed ++ takes 1 ∷ turn 2 ∷ turn 2 ∷ []

abbrev third_part : List Event
third_part = third_changed ++ takes 2 ∷ parts 2 ∷ []

abbrev pub decided_there : List Event
decided_there = third_part ++ takes 1 ∷ sends 1 1 ∷ []

abbrev both_stay : List Elem
both_stay = elem 1 0 E ∷ elem 2 0 S ∷ []

pub change_kept :
    (kept_by never_changes 1 one_sent ≡ elem 0 0 E ∷ both_stay)
    × (map (kept_by never_changes 1) (never_changed ∷ third_changed ∷ third_part ∷ decided_there ∷ [])
    ≡ both_stay ∷ both_stay ∷ both_stay ∷ both_stay ∷ [])
    × (map (placed_by never_changes) (never_changed ∷ third_changed ∷ third_part ∷ decided_there ∷ [])
    ≡ both_stay ∷ both_stay ∷ both_stay ∷ both_stay ∷ [])
    × (hist never_changes decided_there
    ≡ Enq (task_of 0 0) (shared 66) E RetNone C00 ∷ Enq (task_of 1 0) (shared 66) E RetNone Wait
    ∷ Enq (task_of 2 0) (shared 66) S RetEcb C04 ∷ Remove (system 1) (system 0)
    ∷ Enq (task_of 1 1) (shared 66) S RetTest C04 ∷ [])
    × (told never_changes decided_there
    ≡ at 7 0 (Coded (task_of 0 0) 1 0 verbs.Enq C00) ∷ at 9 1 (AtDesk 1 StarDone) ∷ at 12 1 (AtDesk 2 VaryDone)
    ∷ at 15 2 (Coded (task_of 2 0) 1 0 verbs.Enq C04) ∷ at 18 1 (Coded (task_of 1 0) 1 0 verbs.Enq C00)
    ∷ at 19 1 (Coded (task_of 1 1) 1 0 verbs.Enq C04) ∷ [])
unfolding state_of with_state with_line with_phase with_outstanding with_record without_record with_told
    with_exclusive with_rank telling tell_code record_enq after_code replied passes_wait tell_line tell_untold
    tell_control tell_all tell_new recalled tell_answer tell_answer_any tell_answer_ranked after_mail decide_own
    took_mail post ask take_line end_step ready_step phase_step may_go may_send star_call prepare finish_quiet
    finish_star finish_call finish desk_told purged stale losing members_below lose_each take_up_below move_each
    tell_each has without with_also manager lock_word submitted leave_reply leave_changes left_word route
    purged_word submit_row take_row mail_row leave_row purge_row row apply departed first_node first_world carry_out
    chosen placed happens_at happens read_entries all_sent put_in switched change_to_star system_turned answer_own
    process process_entry turn_row switch_row first_after unseen any_unseen cleared stamped turn_reply wakes
    rest_after_turn closed_by turned
change_kept = (refl, refl, refl, refl, refl)

-- Which removals in star mode take a lock entry from its manager, told by hand.
use Rattle.grs_world.proofs.Common.{[], ◌++◌, ◌∷◌, ◌≡◌, after_code, after_mail, apply, ask, C00, carry_out, chosen, Coded, Deck, E, Event, hist}
use Rattle.grs_world.proofs.Common.{RetNone, Systems, told, VaryDone, Wait, map}
use Rattle.grs_world.proofs.Common.{decide_own, departed, desk_told, end_step, false, finish, finish_call, finish_quiet}
use Rattle.grs_world.proofs.Common.{finish_star, first_node, first_world, happens, happens_at, has, leave_changes}
use Rattle.grs_world.proofs.Common.{leave_reply, leave_row, left_word, List, lock_word, lose_each, losing, mail_row}
use Rattle.grs_world.proofs.Common.{manager, may_go, may_send, members_below, move_each, NodeState, None, Option}
use Rattle.grs_world.proofs.Common.{passes_wait, phase_step, placed, places, post, prepare, purge_row, purged}
use Rattle.grs_world.proofs.Common.{ready_step, recalled, record_enq, refl, removes_in_star, replied, route, row, run}
use Rattle.grs_world.proofs.Common.{S, slice_get, Some, stale, star_call, state_of, submit_row, submitted, take_line}
use Rattle.grs_world.proofs.Common.{take_row, take_up_below, tell_all, tell_answer, tell_answer_any, tell_answer_ranked}
use Rattle.grs_world.proofs.Common.{tell_code, tell_control, tell_each, tell_line, tell_new, tell_untold, telling}
use Rattle.grs_world.proofs.Common.{took_mail, true, with_also, with_exclusive, with_line, with_outstanding, with_phase}
use Rattle.grs_world.proofs.Common.{with_rank, with_record, with_state, with_told, without, without_record, ℕ}
use Rattle.lock_structure.specs.Purge.{purged_word}
use Rattle.grs_world.specs.InStar.{NoneTakesEntries, manages_any, takes_entries}
use Rattle.grs_world.proofs.samples.GatherSamples.{all_asked, alone_by, asker_goes, at_desk, elem, kept_by, manager_goes}
use Rattle.grs_world.proofs.samples.GatherSamples.{one, one_answered, placed_by, vary, without_asker}
use Rattle.grs_world.proofs.samples.RemovalSamples.{purges}
use Rattle.grs_world.proofs.samples.Samples.{at, deq, goes, shared, system, task_of}
use Rattle.grs_world.proofs.samples.StarSamples.{sends, settles, star_of, takes, tells}
use Rattle.system_purge.specs.Gather.{ranks}
use Rattle.grs_wire.specs.declared.history.HistEntry.TheVariants.{Enq, Deq, Remove}
use Rattle.grs_wire.specs.declared.told.ToldLine.TheVariants.{Desk as AtDesk}
use Rattle.grs_wire.specs.declared.told.Verb.TheVariants as verbs
use Rattle.grs_world.specs.Kept.{managed_ranks, shown_list, shown_records}
use Rattle.std.specs.Option.{option_map_or}

-- A system is removed of whose two requests one is answered, and the answer under way, and the other one held: the
-- entry keeps its manager.
pub waiter_goes :
    (removes_in_star asker_goes (run asker_goes one_answered) (purges 2 1) ≡ true)
    × (takes_entries asker_goes (run asker_goes one_answered) (purges 2 1) ≡ false)
unfolding state_of with_state with_line with_phase with_outstanding with_record without_record with_told
    with_exclusive with_rank telling tell_code record_enq after_code replied passes_wait tell_line tell_untold
    tell_control tell_all tell_new recalled tell_answer tell_answer_any tell_answer_ranked after_mail decide_own
    took_mail post ask take_line end_step ready_step phase_step may_go may_send star_call prepare finish_quiet
    finish_star finish_call finish desk_told purged stale losing members_below lose_each take_up_below move_each
    tell_each has without with_also manager lock_word submitted leave_reply leave_changes left_word route
    purged_word submit_row take_row mail_row leave_row purge_row row apply departed first_node first_world carry_out
    chosen placed happens_at happens
waiter_goes = (refl, refl)

-- What the live systems show behind that is what the history says. The manager, which doesn't know of the removal yet,
-- still has the other one's element, and so its rank.
abbrev ranks_at : Option NodeState → List ℕ
ranks_at None = []
ranks_at (Some n) = option_map_or (λ p. managed_ranks p (shared 66)) n.star []

pub shown_without :
    (shown_list asker_goes (run asker_goes without_asker) (shared 66) ≡ elem 0 0 S ∷ [])
    × (places asker_goes without_asker (shared 66) ≡ elem 0 0 S ∷ [])
    × (ranks (shown_records asker_goes (run asker_goes without_asker) (shared 66)) ≡ 1 ∷ [])
    × (ranks_at (slice_get (run asker_goes without_asker).nodes 0) ≡ 1 ∷ 2 ∷ [])
    × (ranks_at (slice_get (run asker_goes (without_asker ++ settles 0 ∷ [])).nodes 0) ≡ 1 ∷ [])
unfolding state_of with_state with_line with_phase with_outstanding with_record without_record with_told
    with_exclusive with_rank telling tell_code record_enq after_code replied passes_wait tell_line tell_untold
    tell_control tell_all tell_new recalled tell_answer tell_answer_any tell_answer_ranked after_mail decide_own
    took_mail post ask take_line end_step ready_step phase_step may_go may_send star_call prepare finish_quiet
    finish_star finish_call finish desk_told purged stale losing members_below lose_each take_up_below move_each
    tell_each has without with_also manager lock_word submitted leave_reply leave_changes left_word route
    purged_word submit_row take_row mail_row leave_row purge_row row apply departed first_node first_world carry_out
    chosen placed happens_at happens
shown_without = (refl, refl, refl, refl, refl)

-- Its manager is: that takes the entry from it.
pub manager_goes_too :
    (manages_any (run manager_goes all_asked).medium.words (system 0) ≡ true)
    × (removes_in_star manager_goes (run manager_goes all_asked) (purges 1 0) ≡ true)
    × (takes_entries manager_goes (run manager_goes all_asked) (purges 1 0) ≡ true)
unfolding state_of with_state with_line with_phase with_outstanding with_record without_record with_told
    with_exclusive with_rank telling tell_code record_enq after_code replied passes_wait tell_line tell_untold
    tell_control tell_all tell_new recalled tell_answer tell_answer_any tell_answer_ranked after_mail decide_own
    took_mail post ask take_line end_step ready_step phase_step may_go may_send star_call prepare finish_quiet
    finish_star finish_call finish desk_told purged stale losing members_below lose_each take_up_below move_each
    tell_each has without with_also manager lock_word submitted leave_reply leave_changes left_word route
    purged_word submit_row take_row mail_row leave_row purge_row row apply departed first_node first_world carry_out
    chosen placed happens_at happens
manager_goes_too = (refl, refl, refl)

-- ---- an owner is removed
-- The first system's task owns, and those of the others wait behind it (10). It gives the resource back (12), and the
-- second one's is mailed control (13). The third system removes the second (14).
abbrev owner_goes : Deck
owner_goes =
    at_desk 2 (vary 1 ∷ [])
    (star_of (((one ∷ deq 66 Systems ∷ []) ∷ []) ∷ ((one ∷ []) ∷ []) ∷ ((one ∷ []) ∷ []) ∷ []))

abbrev granted : List Event
granted =
    goes 0 0 ∷ sends 0 0 ∷ goes 1 0 ∷ sends 1 0 ∷ goes 2 0 ∷ sends 2 0 ∷ takes 0 ∷ settles 0 ∷ takes 0 ∷ settles 0
    ∷ goes 0 0 ∷ sends 0 0 ∷ tells 0 ∷ []

abbrev without_owner : List Event
without_owner = granted ++ purges 2 1 ∷ []

-- The manager has nothing to tell until it is told who is removed (15). Then it tells the third one's task control
-- (16), which takes its answer and that (18).
abbrev waiter_told : List Event
waiter_told = without_owner ++ takes 0 ∷ tells 0 ∷ takes 2 ∷ takes 2 ∷ []

-- The second is no manager, so the run is one that takes no entry from its manager.
pub owner_gone :
    (removes_in_star owner_goes (run owner_goes granted) (purges 2 1) ≡ true)
    × (NoneTakesEntries owner_goes waiter_told)
    × (map (kept_by owner_goes 0) (granted ∷ without_owner ∷ waiter_told ∷ [])
    ≡ (elem 1 0 E ∷ elem 2 0 E ∷ []) ∷ (elem 2 0 E ∷ []) ∷ (elem 2 0 E ∷ []) ∷ [])
    × (map (placed_by owner_goes) (granted ∷ without_owner ∷ waiter_told ∷ [])
    ≡ (elem 1 0 E ∷ elem 2 0 E ∷ []) ∷ (elem 2 0 E ∷ []) ∷ (elem 2 0 E ∷ []) ∷ [])
    × (alone_by owner_goes 0 without_owner ≡ elem 1 0 E ∷ elem 2 0 E ∷ [])
    × (hist owner_goes waiter_told
    ≡ Enq (task_of 0 0) (shared 66) E RetNone C00 ∷ Enq (task_of 1 0) (shared 66) E RetNone Wait
    ∷ Enq (task_of 2 0) (shared 66) E RetNone Wait ∷ Deq (task_of 0 0) (shared 66) false C00
    ∷ Remove (system 2) (system 1) ∷ [])
    × (told owner_goes waiter_told
    ≡ at 2 0 (Coded (task_of 0 0) 1 0 verbs.Enq C00) ∷ at 12 0 (Coded (task_of 0 0) 2 0 verbs.Deq C00)
    ∷ at 14 2 (AtDesk 1 VaryDone) ∷ at 18 2 (Coded (task_of 2 0) 1 0 verbs.Enq C00) ∷ [])
unfolding state_of with_state with_line with_phase with_outstanding with_record without_record with_told
    with_exclusive with_rank telling tell_code record_enq after_code replied passes_wait tell_line tell_untold
    tell_control tell_all tell_new recalled tell_answer tell_answer_any tell_answer_ranked after_mail decide_own
    took_mail post ask take_line end_step ready_step phase_step may_go may_send star_call prepare finish_quiet
    finish_star finish_call finish desk_told purged stale losing members_below lose_each take_up_below move_each
    tell_each has without with_also manager lock_word submitted leave_reply leave_changes left_word route
    purged_word submit_row take_row mail_row leave_row purge_row row apply departed first_node first_world carry_out
    chosen placed happens_at happens
owner_gone = (refl, refl, refl, refl, refl, refl, refl)

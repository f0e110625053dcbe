-- Where the requests of tasks, and what tells tasks control, are in worked runs by which a manager is removed, told by
-- hand.
use Rattle.grs_world.proofs.Common.{[], ◌++◌, ◌∷◌, ◌≡◌, after_code, after_mail, apply, ask, Bool, carry_out, chosen}
use Rattle.grs_world.proofs.Common.{decide_own, departed, desk_told, end_step, Event, false, finish, finish_call}
use Rattle.grs_world.proofs.Common.{finish_quiet, finish_star, first_node, first_world, happens, happens_at, has}
use Rattle.grs_world.proofs.Common.{leave_changes, leave_reply, leave_row, left_word, length, List, lock_word}
use Rattle.grs_world.proofs.Common.{lose_each, losing, mail_row, manager, map, may_go, may_send, members_below}
use Rattle.grs_world.proofs.Common.{move_each, None, Option, passes_wait, phase_step, placed, post, prepare, purge_row}
use Rattle.grs_world.proofs.Common.{purged, ready_step, recalled, record_enq, refl, replied, route, row, run, Some}
use Rattle.grs_world.proofs.Common.{stale, star_call, state_of, submit_row, submitted, take_line, take_row}
use Rattle.grs_world.proofs.Common.{take_up_below, tell_all, tell_answer, tell_answer_any, tell_answer_ranked}
use Rattle.grs_world.proofs.Common.{tell_code, tell_control, tell_each, tell_line, tell_new, tell_untold, telling}
use Rattle.grs_world.proofs.Common.{took_mail, true, with_also, with_exclusive, with_line, with_outstanding, with_phase}
use Rattle.grs_world.proofs.Common.{with_rank, with_record, with_state, with_told, without, without_record, ℕ}
use Rattle.lock_structure.specs.Purge.{purged_word}
use Rattle.grs_world.proofs.samples.GatherSamples.{all_asked, all_there, control_comes, manager_goes, one_mailed}
use Rattle.grs_world.proofs.samples.GatherSamples.{second_took, without_manager}
use Rattle.grs_world.proofs.samples.RemovalSamples.{purges}
use Rattle.grs_world.proofs.samples.Samples.{task_of}
use Rattle.grs_world.proofs.samples.StarSamples.{sends, settles, takes, tells}
use Rattle.grs_world.specs.InHands.{asked_by, in_hands, is_answered_once, is_control_of, is_told_late}
use Rattle.grs_base.specs.declared.resource.TaskId.{TaskId}
use Rattle.grs_medium.specs.Medium.{inbox}
use Rattle.grs_node.specs.Node.{NodeState}
use Rattle.grs_wire.specs.Notices.{noticed}
use Rattle.grs_wire.specs.declared.medium.Mail.{Mail}
use Rattle.grs_wire.specs.declared.request.Req.{Req}
use Rattle.std.specs.List.{list_any}
use Rattle.std.specs.Option.{option_map_or}
use Rattle.std.specs.Prelude.{slice_get}
use Rattle.grs_wire.specs.declared.request.Answer.TheVariants as answers

abbrev hands_at : Option NodeState → List Mail → List Req
hands_at None ms = []
hands_at (Some n) ms = option_map_or (λ p. in_hands p ms) n.star []

-- how many requests of a task are in the hands of system m; whether it is answered once, in front of notices of the
-- only entry; and whether such a notice is in its system's inbox
abbrev Place : Type 0
Place = ℕ × Bool × Bool

abbrev place_of : ℕ → TaskId → List Event → Place
place_of m t es =
    let w = run manager_goes es in (
      length (asked_by t (hands_at (slice_get w.nodes m) (inbox w.medium m))),
      is_answered_once 0 t.task (inbox w.medium t.system.0),
      noticed 0 (inbox w.medium t.system.0),
    )

abbrev again : List Event
again = all_there ++ tells 1 ∷ sends 2 1 ∷ []

-- The third system's first task is answered, and the first one holds the request of its second (event 13). When the
-- first is removed that is in nobody's hands, and a notice stands behind the answer (14). It goes again to the second
-- (23), which settles it (26).
pub one_settles :
    (map (place_of 0 (task_of 2 0)) (all_asked ∷ without_manager ∷ []) ≡ (0, true, false) ∷ (0, true, true) ∷ [])
    × (map (place_of 0 (task_of 2 1)) (all_asked ∷ []) ≡ (1, false, false) ∷ [])
    × (map (place_of 1 (task_of 2 1))
    (without_manager ∷ again ∷ (again ++ takes 2 ∷ takes 1 ∷ settles 1 ∷ []) ∷ [])
    ≡ (0, false, true) ∷ (1, false, false) ∷ (0, true, false) ∷ [])
unfolding state_of with_state with_line with_phase with_outstanding with_record without_record with_told
    with_exclusive with_rank telling tell_code record_enq after_code replied passes_wait tell_line tell_untold
    tell_control tell_all tell_new recalled tell_answer tell_answer_any tell_answer_ranked after_mail decide_own
    took_mail post ask take_line end_step ready_step phase_step may_go may_send star_call prepare finish_quiet
    finish_star finish_call finish desk_told purged stale losing members_below lose_each take_up_below move_each
    tell_each has without with_also manager lock_word submitted leave_reply leave_changes left_word route
    purged_word submit_row take_row mail_row leave_row purge_row row apply departed first_node first_world carry_out
    chosen placed happens_at happens
one_settles = (refl, refl, refl)

-- whether a mail in the inbox of system s tells a task control of a resource of the only entry; whether one does behind
-- which no notice of the entry stands; and whether there is a notice
abbrev control_at : ℕ → List Event → Bool × Bool × Bool
control_at s es =
    let ms = inbox (run control_comes es).medium s in
    (list_any (is_control_of 1 0) ms, is_told_late 1 0 ms, noticed 0 ms)

abbrev manager_left : List Event
manager_left = one_mailed ++ purges 2 0 ∷ []

-- The second system's task is mailed control (18), and then its manager is removed (19). The second takes its answer
-- (21), control and the notice (23).
pub control_in_front :
    map (control_at 1) (one_mailed ∷ manager_left ∷ (manager_left ++ takes 1 ∷ takes 1 ∷ []) ∷ second_took ∷ [])
    ≡ (true, true, false) ∷ (true, false, true) ∷ (true, false, true) ∷ (false, false, false) ∷ []
unfolding state_of with_state with_line with_phase with_outstanding with_record without_record with_told
    with_exclusive with_rank telling tell_code record_enq after_code replied passes_wait tell_line tell_untold
    tell_control tell_all tell_new recalled tell_answer tell_answer_any tell_answer_ranked after_mail decide_own
    took_mail post ask take_line end_step ready_step phase_step may_go may_send star_call prepare finish_quiet
    finish_star finish_call finish desk_told purged stale losing members_below lose_each take_up_below move_each
    tell_each has without with_also manager lock_word submitted leave_reply leave_changes left_word route
    purged_word submit_row take_row mail_row leave_row purge_row row apply departed first_node first_world carry_out
    chosen placed happens_at happens
control_in_front = refl

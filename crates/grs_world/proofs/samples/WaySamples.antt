-- Where the parts of an entry are in worked runs, told by hand.
use Rattle.grs_world.proofs.Common.{[], ◌++◌, ◌∷◌, ◌≡◌, after_code, after_mail, apply, ask, Bool, carry_out, chosen}
use Rattle.grs_world.proofs.Common.{decide_own, Deck, departed, desk_told, end_step, Event, false, finish, finish_call}
use Rattle.grs_world.proofs.Common.{finish_quiet, finish_star, first_node, first_world, happens, happens_at, has}
use Rattle.grs_world.proofs.Common.{is_some, leave_changes, leave_reply, leave_row, left_word, length, List, lock_word}
use Rattle.grs_world.proofs.Common.{lose_each, losing, mail_row, manager, map, may_go, may_send, members_below}
use Rattle.grs_world.proofs.Common.{move_each, None, Option, passes_wait, phase_step, placed, post, prepare, purge_row}
use Rattle.grs_world.proofs.Common.{purged, ready_step, recalled, record_enq, refl, replied, route, row, run, Some}
use Rattle.grs_world.proofs.Common.{stale}
use Rattle.grs_world.proofs.Common.{star_call, state_of, submit_row, submitted, SysId, take_line, take_row}
use Rattle.grs_world.proofs.Common.{take_up_below, tell_all, tell_answer, tell_answer_any, tell_answer_ranked}
use Rattle.grs_world.proofs.Common.{tell_code, tell_control, tell_each, tell_line, tell_new, tell_untold, telling}
use Rattle.grs_world.proofs.Common.{took_mail, true, with_also, with_exclusive, with_line, with_outstanding, with_phase}
use Rattle.grs_world.proofs.Common.{with_rank, with_record, with_state, with_told, without, without_record, ℕ}
use Rattle.lock_structure.specs.Purge.{purged_word}
use Rattle.grs_world.proofs.samples.GatherSamples.{all_there, it_gathers, its_part, manager_goes, one_part, part_sent}
use Rattle.grs_world.proofs.samples.GatherSamples.{two_go, two_gone, without_manager}
use Rattle.grs_world.proofs.samples.Samples.{system}
use Rattle.grs_world.proofs.samples.StarSamples.{takes}
use Rattle.grs_world.specs.OnTheWay.{Stance, awaits, kept_of, stance_at}

-- whether system u has still to take a notice of the only entry, to whom it owes its part, how many parts of it are in
-- m's inbox and how many m keeps, and whether m awaits one
abbrev Place : Type 0
Place = Bool × Option SysId × ℕ × ℕ × Bool

abbrev place_in : ℕ → ℕ → Option Stance → Option Stance → List Place
place_in m u (Some M) (Some U) =
    (is_some U.notice, U.owes, length (M.coming u), length (kept_of M.gathering u), awaits m M u) ∷ []
place_in m u M U = []

abbrev place_of : Deck → ℕ → ℕ → List Event → List Place
place_of deck m u es = place_in m u (stance_at (run deck es) 0 m) (stance_at (run deck es) 0 u)

-- The second system is to gather. The third has still to take the notice, owes its part, and has sent it; and then
-- there is none any more, since the second manages the entry.
pub one_goes :
    map (place_of manager_goes 1 2)
    (without_manager ∷ (it_gathers ++ takes 2 ∷ takes 2 ∷ takes 2 ∷ []) ∷ part_sent ∷ all_there ∷ [])
    ≡ ((true, None, 0, 0, true) ∷ []) ∷ ((false, Some (system 1), 0, 0, true) ∷ [])
    ∷ ((false, None, 1, 0, true) ∷ []) ∷ ((false, None, 0, 0, false) ∷ []) ∷ []
unfolding state_of with_state with_line with_phase with_outstanding with_record without_record with_told
    with_exclusive with_rank telling tell_code record_enq after_code replied passes_wait tell_line tell_untold
    tell_control tell_all tell_new recalled tell_answer tell_answer_any tell_answer_ranked after_mail decide_own
    took_mail post ask take_line end_step ready_step phase_step may_go may_send star_call prepare finish_quiet
    finish_star finish_call finish desk_told purged stale losing members_below lose_each take_up_below move_each
    tell_each has without with_also manager lock_word submitted leave_reply leave_changes left_word route
    purged_word submit_row take_row mail_row leave_row purge_row row apply departed first_node first_world carry_out
    chosen placed happens_at happens
one_goes = refl

-- The second keeps the third one's part, and awaits the fourth's. It is removed too, and what it kept is nothing to the
-- third, which is to gather then; to that one the fourth sends its part before it has taken its own notice.
pub two_goes :
    (map (λ u. place_of two_go 1 u one_part) (2 ∷ 3 ∷ [])
    ≡ ((false, None, 0, 1, false) ∷ []) ∷ ((true, None, 0, 0, true) ∷ []) ∷ [])
    × (map (place_of two_go 2 3) (two_gone ∷ its_part ∷ [])
    ≡ ((true, None, 0, 0, true) ∷ []) ∷ ((false, None, 1, 0, true) ∷ []) ∷ [])
    × (map (place_of two_go 1 3) (two_gone ∷ []) ≡ [] ∷ [])
unfolding state_of with_state with_line with_phase with_outstanding with_record without_record with_told
    with_exclusive with_rank telling tell_code record_enq after_code replied passes_wait tell_line tell_untold
    tell_control tell_all tell_new recalled tell_answer tell_answer_any tell_answer_ranked after_mail decide_own
    took_mail post ask take_line end_step ready_step phase_step may_go may_send star_call prepare finish_quiet
    finish_star finish_call finish desk_told purged stale losing members_below lose_each take_up_below move_each
    tell_each has without with_also manager lock_word submitted leave_reply leave_changes left_word route
    purged_word submit_row take_row mail_row leave_row purge_row row apply departed first_node first_world carry_out
    chosen placed happens_at happens
two_goes = (refl, refl, refl)

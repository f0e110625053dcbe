-- Worked runs in star mode, by which the definitions are checked: each history, each told line and each lock word is
-- what the rules of the service give by hand.
use Rattle.grs_world.proofs.Common.{[], ◌++◌, ◌∷◌, ◌≡◌, after_code, after_mail, apply, ask, at_rest, C00, C04}
use Rattle.grs_world.proofs.Common.{carry_out, chosen, Coded, Ctl, decide_own, Deck, drop, E, Elem, end_step, Ended}
use Rattle.grs_world.proofs.Common.{Event, false, Filter, finish, finish_call, finish_quiet, finish_star, first_node}
use Rattle.grs_world.proofs.Common.{first_world, goes_on_looking, happens, happens_at, has, hist, is_pending, kept}
use Rattle.grs_world.proofs.Common.{leave_changes, leave_reply, leave_row, left_word, Line, List, Local, lock_word}
use Rattle.grs_world.proofs.Common.{mail_row, manager, map, may_go, may_send, medium_at_end, passes_wait, phase_step}
use Rattle.grs_world.proofs.Common.{Place, placed, places, post, prepare, ready_step, recalled, record_enq, refl}
use Rattle.grs_world.proofs.Common.{replied, reply_to, rest_row, RetEcb, RetNone, route, Row, row, run, S, show, Slice}
use Rattle.grs_world.proofs.Common.{slice_of, Some, star_call, state_of, submit_row, submitted, Systems, take_line}
use Rattle.grs_world.proofs.Common.{take_row, tell_all, tell_answer, tell_answer_any, tell_answer_ranked, tell_code}
use Rattle.grs_world.proofs.Common.{tell_control, tell_line, tell_new, tell_rows, tell_untold, telling, told, took_mail}
use Rattle.grs_world.proofs.Common.{true, Wait, with_also, with_exclusive, with_line, with_outstanding, with_phase}
use Rattle.grs_world.proofs.Common.{with_rank, with_record, with_rows, with_state, with_told, without, without_record}
use Rattle.grs_world.proofs.Common.{without_rows, ℕ}
use Rattle.grs_wire.specs.declared.told.ToldLine.TheVariants.{Shown, Post}
use Rattle.grs_wire.specs.declared.history.HistEntry.TheVariants.{Enq, Deq, Release, Look}
use Rattle.grs_world.proofs.samples.Samples.{system, task_of, shared, enq, deq, deck_of, goes, rest, at}
use Rattle.grs_base.specs.declared.line.Line.TheVariants.{DisplayRes}
use Rattle.grs_base.specs.declared.look.Filter.TheVariants.{Named}
use Rattle.grs_wire.specs.declared.deck.Choice.TheVariants as choices
use Rattle.grs_wire.specs.declared.medium.Act.TheVariants as acts
use Rattle.grs_wire.specs.declared.medium.Reply.TheVariants as replies
use Rattle.grs_wire.specs.declared.told.Verb.TheVariants as verbs

-- events of star mode
abbrev pub sends : ℕ → ℕ → Event
sends s n = record { system = system s; choice = choices.Send (task_of s n) }

abbrev pub takes : ℕ → Event
takes s = record { system = system s; choice = choices.Take }

abbrev pub settles : ℕ → Event
settles s = record { system = system s; choice = choices.Settle }

abbrev pub tells : ℕ → Event
tells s = record { system = system s; choice = choices.Tell 0 }

abbrev pub leaves : ℕ → Event
leaves s = record { system = system s; choice = choices.Leave 0 }

abbrev pub turns : ℕ → Event
turns s = record { system = system s; choice = choices.Turn }

-- a deck in star mode with one lock entry
abbrev pub star_of : List (List (List Line)) → Deck
star_of systems = record (deck_of systems) { star = true }

-- ---- two systems that don't meet
-- The first manages the entry; the second asks it, and both leave.
abbrev apart : Deck
apart =
    star_of (((enq 49 E Systems RetNone ∷ deq 49 Systems ∷ []) ∷ [])
    ∷ ((enq 50 E Systems RetNone ∷ deq 50 Systems ∷ []) ∷ []) ∷ [])

abbrev asked : List Event
asked =
    goes 0 0 ∷ sends 0 0 ∷ goes 1 0 ∷ sends 1 0 ∷ takes 0 ∷ settles 0 ∷ takes 1 ∷ goes 0 0 ∷ sends 0 0 ∷ goes 1 0
    ∷ sends 1 0 ∷ takes 0 ∷ settles 0 ∷ takes 1 ∷ []

abbrev left : List Event
left = leaves 0 ∷ leaves 1 ∷ leaves 0 ∷ goes 0 0 ∷ goes 1 0 ∷ rest 0 ∷ []

lonely :
    (hist apart (asked ++ left)
    ≡ Enq (task_of 0 0) (shared 49) E RetNone C00 ∷ Enq (task_of 1 0) (shared 50) E RetNone C00
    ∷ Deq (task_of 0 0) (shared 49) false C00 ∷ Deq (task_of 1 0) (shared 50) false C00 ∷ [])
    × (told apart (asked ++ left)
    ≡ at 2 0 (Coded (task_of 0 0) 1 0 verbs.Enq C00) ∷ at 7 1 (Coded (task_of 1 0) 1 0 verbs.Enq C00)
    ∷ at 9 0 (Coded (task_of 0 0) 2 0 verbs.Deq C00) ∷ at 14 1 (Coded (task_of 1 0) 2 0 verbs.Deq C00)
    ∷ at 18 0 (Ended (task_of 0 0) 0) ∷ at 19 1 (Ended (task_of 1 0) 0) ∷ [])
    × ((run apart asked).medium.words ≡ 259 ∷ [])
    -- the manager doesn't leave the other behind
    × (reply_to (run apart asked).medium (system 0) (record { known = 0; act = acts.Leave 0 }) ≡ replies.Kept 3)
    × ((run apart (asked ++ leaves 0 ∷ [])).medium.words ≡ 259 ∷ [])
    × ((run apart (asked ++ leaves 0 ∷ leaves 1 ∷ [])).medium.words ≡ 257 ∷ [])
    × ((run apart (asked ++ left)).medium.words ≡ 0 ∷ [])
    × (reply_to (run apart (asked ++ left)).medium (system 1) (record { known = 0; act = acts.Rest }) ≡ replies.Over)
unfolding state_of with_state with_line with_phase with_outstanding with_record without_record with_told with_exclusive
    with_rank telling tell_code record_enq after_code replied passes_wait tell_line tell_untold tell_control tell_all
    tell_new recalled tell_answer tell_answer_any tell_answer_ranked after_mail decide_own took_mail post ask take_line
    end_step ready_step phase_step is_pending may_go may_send star_call prepare finish_quiet finish_star finish_call
    finish has without with_also manager lock_word submitted leave_reply leave_changes left_word route submit_row
    take_row mail_row leave_row medium_at_end rest_row row apply first_node first_world carry_out chosen placed
    happens_at happens
lonely = (refl, refl, refl, refl, refl, refl, refl, refl)

-- ---- a wait and two grants
-- A task of the second system waits for what one of the manager's own has, and is told control once that one gives it
-- back; another of its tasks asks by ECB behind it, and is posted once the first gives it back too.
abbrev waiting : Deck
waiting =
    star_of (((enq 66 E Systems RetNone ∷ deq 66 Systems ∷ []) ∷ [])
    ∷ ((enq 66 E Systems RetNone ∷ deq 66 Systems ∷ []) ∷ (enq 66 S Systems RetEcb ∷ []) ∷ []) ∷ [])

-- the manager's own task owns (event 2), one waits behind it (6), and one asks by ECB behind both (11)
abbrev asks_all : List Event
asks_all =
    goes 0 0 ∷ sends 0 0 ∷ goes 1 0 ∷ sends 1 0 ∷ takes 0 ∷ settles 0 ∷ takes 1 ∷ goes 1 1 ∷ sends 1 1 ∷ takes 0
    ∷ settles 0 ∷ takes 1 ∷ []

-- the manager's own task gives the resource back (event 14), and the next owner is told (16)
abbrev first_grant : List Event
first_grant = goes 0 0 ∷ sends 0 0 ∷ tells 0 ∷ takes 1 ∷ []

-- that one gives it back too (event 20); it takes the answer (22), and the last one is posted (23)
abbrev second_grant : List Event
second_grant = goes 1 0 ∷ sends 1 0 ∷ takes 0 ∷ settles 0 ∷ tells 0 ∷ takes 1 ∷ takes 1 ∷ []

-- the tasks end, the last of them once it has released what it has (event 29): the answer to that is in its system's
-- inbox
abbrev releases : List Event
releases = goes 0 0 ∷ goes 1 0 ∷ goes 1 1 ∷ sends 1 1 ∷ takes 0 ∷ settles 0 ∷ []

abbrev ends : List Event
ends = takes 1 ∷ goes 1 1 ∷ []

abbrev both_grants : List Event
both_grants = asks_all ++ first_grant ++ second_grant

abbrev elem : ℕ → ℕ → Ctl → Elem
elem s n c = record { task = task_of s n; ctl = c }

-- what the manager keeps of the resource, as the other system sees it
abbrev kept_after : List Event → List Elem
kept_after es = kept waiting (run waiting es) (system 1) (shared 66)

abbrev words_after : List Event → List ℕ
words_after es = (run waiting es).medium.words

-- Nothing is told to the task that waits. The word names the first system as the manager, and holds both from the
-- second's first request on.
waits :
    (hist waiting asks_all
    ≡ Enq (task_of 0 0) (shared 66) E RetNone C00 ∷ Enq (task_of 1 0) (shared 66) E RetNone Wait
    ∷ Enq (task_of 1 1) (shared 66) S RetEcb C04 ∷ [])
    × (told waiting asks_all
    ≡ at 2 0 (Coded (task_of 0 0) 1 0 verbs.Enq C00) ∷ at 12 1 (Coded (task_of 1 1) 1 0 verbs.Enq C04) ∷ [])
    × (words_after (goes 0 0 ∷ sends 0 0 ∷ goes 1 0 ∷ []) ≡ 257 ∷ [])
    × (words_after (goes 0 0 ∷ sends 0 0 ∷ goes 1 0 ∷ sends 1 0 ∷ []) ≡ 259 ∷ [])
    × (kept_after asks_all ≡ elem 0 0 E ∷ elem 1 0 E ∷ elem 1 1 S ∷ [])
    × (places waiting asks_all (shared 66) ≡ elem 0 0 E ∷ elem 1 0 E ∷ elem 1 1 S ∷ [])
unfolding state_of with_state with_line with_phase with_outstanding with_record without_record with_told with_exclusive
    with_rank telling tell_code record_enq after_code replied passes_wait tell_line tell_untold tell_control tell_all
    tell_new recalled tell_answer tell_answer_any tell_answer_ranked after_mail decide_own took_mail post ask take_line
    end_step ready_step phase_step is_pending may_go may_send star_call prepare finish_quiet finish_star finish_call
    finish has without with_also manager lock_word submitted leave_reply leave_changes left_word route submit_row
    take_row mail_row leave_row medium_at_end rest_row row apply first_node first_world carry_out chosen placed
    happens_at happens at_rest
waits = (refl, refl, refl, refl, refl, refl)

first_granted :
    (hist waiting (asks_all ++ first_grant)
    ≡ Enq (task_of 0 0) (shared 66) E RetNone C00 ∷ Enq (task_of 1 0) (shared 66) E RetNone Wait
    ∷ Enq (task_of 1 1) (shared 66) S RetEcb C04 ∷ Deq (task_of 0 0) (shared 66) false C00 ∷ [])
    × (told waiting (asks_all ++ first_grant)
    ≡ at 2 0 (Coded (task_of 0 0) 1 0 verbs.Enq C00) ∷ at 12 1 (Coded (task_of 1 1) 1 0 verbs.Enq C04)
    ∷ at 14 0 (Coded (task_of 0 0) 2 0 verbs.Deq C00) ∷ at 16 1 (Coded (task_of 1 0) 1 0 verbs.Enq C00) ∷ [])
    × (words_after (asks_all ++ first_grant) ≡ 259 ∷ [])
    × (kept_after (asks_all ++ first_grant) ≡ elem 1 0 E ∷ elem 1 1 S ∷ [])
    × (places waiting (asks_all ++ first_grant) (shared 66) ≡ elem 1 0 E ∷ elem 1 1 S ∷ [])
unfolding state_of with_state with_line with_phase with_outstanding with_record without_record with_told with_exclusive
    with_rank telling tell_code record_enq after_code replied passes_wait tell_line tell_untold tell_control tell_all
    tell_new recalled tell_answer tell_answer_any tell_answer_ranked after_mail decide_own took_mail post ask take_line
    end_step ready_step phase_step is_pending may_go may_send star_call prepare finish_quiet finish_star finish_call
    finish has without with_also manager lock_word submitted leave_reply leave_changes left_word route submit_row
    take_row mail_row leave_row medium_at_end rest_row row apply first_node first_world carry_out chosen placed
    happens_at happens at_rest
first_granted = (refl, refl, refl, refl, refl)

second_granted :
    (hist waiting both_grants
    ≡ Enq (task_of 0 0) (shared 66) E RetNone C00 ∷ Enq (task_of 1 0) (shared 66) E RetNone Wait
    ∷ Enq (task_of 1 1) (shared 66) S RetEcb C04 ∷ Deq (task_of 0 0) (shared 66) false C00
    ∷ Deq (task_of 1 0) (shared 66) false C00 ∷ [])
    × (told waiting both_grants
    ≡ at 2 0 (Coded (task_of 0 0) 1 0 verbs.Enq C00) ∷ at 12 1 (Coded (task_of 1 1) 1 0 verbs.Enq C04)
    ∷ at 14 0 (Coded (task_of 0 0) 2 0 verbs.Deq C00) ∷ at 16 1 (Coded (task_of 1 0) 1 0 verbs.Enq C00)
    ∷ at 22 1 (Coded (task_of 1 0) 2 0 verbs.Deq C00) ∷ at 23 1 (Post (task_of 1 1) 1) ∷ [])
    × (words_after both_grants ≡ 259 ∷ [])
    × (kept_after both_grants ≡ elem 1 1 S ∷ [])
    × (places waiting both_grants (shared 66) ≡ elem 1 1 S ∷ [])
unfolding state_of with_state with_line with_phase with_outstanding with_record without_record with_told with_exclusive
    with_rank telling tell_code record_enq after_code replied passes_wait tell_line tell_untold tell_control tell_all
    tell_new recalled tell_answer tell_answer_any tell_answer_ranked after_mail decide_own took_mail post ask take_line
    end_step ready_step phase_step is_pending may_go may_send star_call prepare finish_quiet finish_star finish_call
    finish has without with_also manager lock_word submitted leave_reply leave_changes left_word route submit_row
    take_row mail_row leave_row medium_at_end rest_row row apply first_node first_world carry_out chosen placed
    happens_at happens at_rest
second_granted = (refl, refl, refl, refl, refl)

-- Where a mail is still in an inbox the complex isn't at rest, though nothing is pending at a system. Once it is taken,
-- and its task has ended, it is; the words hold both systems until these leave, the manager last.
rests :
    (map (is_pending waiting) (run waiting (both_grants ++ releases)).nodes ≡ false ∷ false ∷ [])
    × (at_rest waiting (run waiting (both_grants ++ releases)) ≡ false)
    × (at_rest waiting (run waiting (both_grants ++ releases ++ takes 1 ∷ [])) ≡ false)
    × (at_rest waiting (run waiting (both_grants ++ releases ++ ends)) ≡ true)
    × (drop 5 (hist waiting (both_grants ++ releases ++ ends)) ≡ Release (task_of 1 1) (shared 66) ∷ [])
    × (drop 6 (told waiting (both_grants ++ releases ++ ends))
    ≡ at 24 0 (Ended (task_of 0 0) 0) ∷ at 25 1 (Ended (task_of 1 0) 0) ∷ at 31 1 (Ended (task_of 1 1) 0) ∷ [])
    × (kept_after (both_grants ++ releases ++ ends) ≡ [])
    × (places waiting (both_grants ++ releases ++ ends) (shared 66) ≡ [])
    × (words_after (both_grants ++ releases ++ ends) ≡ 259 ∷ [])
    × (words_after (both_grants ++ releases ++ ends ++ leaves 1 ∷ []) ≡ 257 ∷ [])
    × (words_after (both_grants ++ releases ++ ends ++ leaves 1 ∷ leaves 0 ∷ []) ≡ 0 ∷ [])
unfolding state_of with_state with_line with_phase with_outstanding with_record without_record with_told with_exclusive
    with_rank telling tell_code record_enq after_code replied passes_wait tell_line tell_untold tell_control tell_all
    tell_new recalled tell_answer tell_answer_any tell_answer_ranked after_mail decide_own took_mail post ask take_line
    end_step ready_step phase_step is_pending may_go may_send star_call prepare finish_quiet finish_star finish_call
    finish has without with_also manager lock_word submitted leave_reply leave_changes left_word route submit_row
    take_row mail_row leave_row medium_at_end rest_row row apply first_node first_world carry_out chosen placed
    happens_at happens at_rest
rests = (refl, refl, refl, refl, refl, refl, refl, refl, refl, refl, refl)

-- ---- a line that shows lists
-- The first system has the resource and manages the entry. A task of the second displays the name: the lists of its own
-- system have nothing of it (event 3), and the manager answers for the slice of the name (6). One of the manager's own
-- displays it too, and is told at once (9).
abbrev displays : Line
displays = DisplayRes (65 ∷ []) (66 ∷ [])

abbrev shows : Deck
shows = star_of (((enq 66 E Systems RetNone ∷ []) ∷ (displays ∷ []) ∷ []) ∷ ((displays ∷ []) ∷ []) ∷ [])

abbrev looks_there : List Event
looks_there = goes 0 0 ∷ sends 0 0 ∷ goes 1 0 ∷ sends 1 0 ∷ takes 0 ∷ settles 0 ∷ takes 1 ∷ []

abbrev looks_here : List Event
looks_here = goes 0 1 ∷ sends 0 1 ∷ []

abbrev by_name : Filter
by_name = Named (Some (65 ∷ [])) (Some (66 ∷ []))

abbrev of_name : Place
of_name = Slice (slice_of (65 ∷ []) (66 ∷ []))

abbrev rows : List Row
rows = record { res = shared 66; elems = elem 0 0 E ∷ []; owners = 1 } ∷ []

shown :
    (hist shows (looks_there ++ looks_here)
    ≡ Enq (task_of 0 0) (shared 66) E RetNone C00
    ∷ Look (task_of 1 0) (Local (system 1)) by_name [] ∷ Look (task_of 1 0) of_name by_name rows
    ∷ Look (task_of 0 1) (Local (system 0)) by_name [] ∷ Look (task_of 0 1) of_name by_name rows ∷ [])
    × (told shows (looks_there ++ looks_here)
    ≡ at 2 0 (Coded (task_of 0 0) 1 0 verbs.Enq C00) ∷ at 7 1 (Shown (task_of 1 0) 1 verbs.Display C00 rows)
    ∷ at 9 0 (Shown (task_of 0 1) 1 verbs.Display C00 rows) ∷ [])
unfolding state_of with_state with_line with_phase with_outstanding with_record without_record with_told with_exclusive
    with_rank with_rows without_rows telling tell_code record_enq after_code replied passes_wait tell_line tell_untold
    tell_control tell_all tell_new recalled tell_rows goes_on_looking tell_answer tell_answer_any tell_answer_ranked
    after_mail decide_own took_mail post ask show take_line end_step ready_step phase_step is_pending may_go may_send
    star_call prepare finish_quiet finish_star finish_call finish has without with_also manager lock_word submitted
    leave_reply leave_changes left_word route submit_row take_row mail_row leave_row medium_at_end rest_row row apply
    first_node first_world carry_out chosen placed happens_at happens
shown = (refl, refl)

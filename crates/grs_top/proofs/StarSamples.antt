-- What the report of a worked run in star mode shows, by hand from the rules of the service: lists, units, lock words
-- and how each task stands.
use Rattle.std.proofs.Common.{◌≡◌, true, List, [], ◌∷◌, ◌++◌, refl}
use Rattle.grs_base.specs.declared.line.Line.TheVariants as lines
use Rattle.grs_base.specs.declared.line.Scope.TheVariants.{Systems}
use Rattle.grs_base.specs.declared.resource.Ctl.TheVariants.{E}
use Rattle.grs_base.specs.declared.resource.Ret.TheVariants.{RetNone, RetEcb}
use Rattle.grs_medium.specs.Apply.{row, apply, submit_row, take_row, mail_row}
use Rattle.grs_node.specs.Node.{post, ask, wait, take_line, ready_step, phase_step, may_go, may_send, star_call}
use Rattle.grs_node.specs.Node.{prepare, finish_quiet, finish_star, finish_call, finish, first_node}
use Rattle.grs_node.specs.Star.{decide_own}
use Rattle.grs_node.specs.Node.{took_mail}
use Rattle.grs_wire.specs.LockWords.{manager, lock_word, submitted}
use Rattle.grs_wire.specs.Masks.{has, without, with_also}
use Rattle.grs_wire.specs.declared.deck.Deck.{Deck}
use Rattle.grs_wire.specs.declared.deck.Event.{Event}
use Rattle.grs_wire.specs.declared.seen.TaskEnd.TheVariants as ends
use Rattle.lock_structure.specs.Words.{route}
use Rattle.star_client.specs.Client.{tell_answer_ranked, after_mail}
use Rattle.task_state.specs.Replies.{tell_code, record_enq, after_code, replied, passes_wait, tell_line, tell_untold}
use Rattle.task_state.specs.Replies.{tell_control, tell_all, tell_new, recalled, tell_answer, tell_answer_any}
use Rattle.task_state.specs.View.{state_of, with_state, with_line, with_phase, with_outstanding, with_record}
use Rattle.task_state.specs.View.{without_record, with_told, with_exclusive, with_rank, telling}
use Rattle.grs_world.specs.World.{first_world, carry_out, chosen, placed, happens_at, happens}
use Rattle.grs_world.proofs.samples.Samples.{system, task_of, shared, enq, deq, goes}
use Rattle.grs_world.proofs.samples.StarSamples.{star_of, sends, takes, settles, tells}
use Rattle.grs_top.specs.Seen.{seen_of_run}

-- A task of the first system has a file. One of the second reserves the file's device and waits for its ECB.
abbrev reserving : Deck
reserving =
    star_of (((enq 66 E Systems RetNone ∷ deq 66 Systems ∷ []) ∷ [])
    ∷ ((lines.Reserve (65 ∷ []) (66 ∷ []) E 6657 RetEcb true ∷ lines.Wait (65 ∷ []) (66 ∷ []) Systems true ∷ []) ∷ [])
    ∷ [])

-- The first gives the file back, and its system, which manages it, mails control.
abbrev mailed : List Event
mailed =
    goes 0 0 ∷ sends 0 0 ∷ goes 1 0 ∷ sends 1 0 ∷ takes 0 ∷ settles 0 ∷ takes 1 ∷ goes 1 0 ∷ goes 0 0 ∷ sends 0 0
    ∷ tells 0 ∷ []

-- The second owns the file, and is still held at its WAIT line; the device is reserved once its system takes the mail.
shown :
    ((seen_of_run reserving mailed).queues
    ≡ record { res = shared 66; elems = record { task = task_of 1 0; ctl = E } ∷ []; owners = 1 } ∷ [])
    × ((seen_of_run reserving mailed).units ≡ [])
    × ((seen_of_run reserving mailed).words ≡ 259 ∷ [])
    × ((seen_of_run reserving mailed).star ≡ true)
    × ((seen_of_run reserving mailed).ended ≡ (task_of 0 0, ends.Open) ∷ (task_of 1 0, ends.Waits) ∷ [])
    × ((seen_of_run reserving (mailed ++ takes 1 ∷ [])).units ≡ (system 1, 6657, 1) ∷ [])
    × ((seen_of_run reserving (mailed ++ takes 1 ∷ [])).ended
    ≡ (task_of 0 0, ends.Open) ∷ (task_of 1 0, ends.Open) ∷ [])
unfolding state_of with_state with_line with_phase with_outstanding with_record without_record with_told with_exclusive
    with_rank telling tell_code record_enq after_code replied passes_wait tell_line tell_untold tell_control tell_all
    tell_new recalled tell_answer tell_answer_any tell_answer_ranked after_mail decide_own took_mail post ask wait
    take_line ready_step phase_step may_go may_send star_call prepare finish_quiet finish_star finish_call finish has
    without with_also manager lock_word submitted route submit_row take_row mail_row row apply first_node first_world
    carry_out chosen placed happens_at happens seen_of_run
shown = (refl, refl, refl, refl, refl, refl, refl)

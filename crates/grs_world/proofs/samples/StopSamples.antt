-- Worked runs with a system that stops, by which the definitions are checked: which events are left, the Turns of the
-- lap, and what is fixed and told is what the rules of the service give by hand.
use Rattle.grs_world.proofs.Common.{[], ◌++◌, ◌∷◌, ◌≡◌, after_code, all_sent, answer_own, any_unseen, apply, ask, C00}
use Rattle.grs_world.proofs.Common.{carry_out, chosen, cleared, Coded, cut, Deck, Desk, desk_told, dropped, E, end_step}
use Rattle.grs_world.proofs.Common.{Event, finish, finish_call, finish_quiet, finish_star, first_after, first_node}
use Rattle.grs_world.proofs.Common.{first_world, happens, happens_at, has, hist, lap, List, losing, map, may_go}
use Rattle.grs_world.proofs.Common.{passes_wait, phase_step, placed, post, prepare, process, process_entry, purge_row}
use Rattle.grs_world.proofs.Common.{purged, put_in, read_entries, ready_step, recalled, record_enq, refl, replied}
use Rattle.grs_world.proofs.Common.{reply_of, rest_after_turn, RetNone, row, run, Some, stale, stamped, state_of}
use Rattle.grs_world.proofs.Common.{SystemDef, Systems, take_line, tell_all, tell_answer, tell_answer_any, tell_code}
use Rattle.grs_world.proofs.Common.{tell_control, tell_freed, tell_line, tell_new, tell_untold, telling, told}
use Rattle.grs_world.proofs.Common.{turn_reply, turn_row, turned, unseen, VaryDone, wakes, with_also, with_exclusive}
use Rattle.grs_world.proofs.Common.{with_line, with_outstanding, with_phase, with_record, with_state, with_told}
use Rattle.grs_world.proofs.Common.{without, without_record, ℕ}
use Rattle.grs_node.specs.Node.{turned as system_turned}
use Rattle.grs_world.specs.Stopped.{stopped}
use Rattle.grs_wire.specs.declared.history.HistEntry.TheVariants.{Enq, Remove}
use Rattle.grs_world.proofs.samples.Samples.{system, task_of, shared, enq, deck_of, goes, turn, at}
use Rattle.grs_world.proofs.samples.RemovalSamples.{purges}
use Rattle.grs_wire.specs.declared.deck.Order.TheVariants as orders
use Rattle.grs_wire.specs.declared.medium.Reply.TheVariants as replies
use Rattle.grs_wire.specs.declared.told.Verb.TheVariants as verbs

-- A deck with a desk at each system that commands the removal of this one.
abbrev with_desks : ℕ → Deck → Deck
with_desks target deck =
    record deck {
      systems =
          map (λ (s : SystemDef). record s { desk = record { at = 0; order = orders.Vary (system target) } ∷ [] })
          deck.systems;
    }

-- Two systems, each with a task that asks for exclusive control of the same resource. The second's goes first.
abbrev pair : Deck
pair = with_desks 1 (deck_of (((enq 66 E Systems RetNone ∷ []) ∷ []) ∷ ((enq 66 E Systems RetNone ∷ []) ∷ []) ∷ []))

abbrev order : List Event
order = goes 1 0 ∷ turn 0 ∷ turn 1 ∷ goes 0 0 ∷ turn 0 ∷ turn 1 ∷ turn 0 ∷ purges 0 1 ∷ turn 0 ∷ []

-- The second stops behind its first event, so its request never gets into the message. The first one's Turns come to
-- nothing until it removes the second, since the message stands there; then its Turn puts its own request in, and the
-- lap brings the answer.
abbrev alone : List Event
alone = goes 1 0 ∷ turn 0 ∷ goes 0 0 ∷ turn 0 ∷ turn 0 ∷ purges 0 1 ∷ turn 0 ∷ []

-- Three systems without tasks, of which the first removes the third. The second is told so by its first Turn.
abbrev idle : Deck
idle = with_desks 2 (deck_of ([] ∷ [] ∷ [] ∷ []))

abbrev removed : List Event
removed = purges 0 2 ∷ []

pub samples :
    (cut (system 1) 1 order ≡ alone)
    × (cut (system 1) 0 order
    ≡ turn 0 ∷ goes 0 0 ∷ turn 0 ∷ turn 0 ∷ purges 0 1 ∷ turn 0 ∷ [])
    × (cut (system 1) 2 order
    ≡ goes 1 0 ∷ turn 0 ∷ turn 1 ∷ goes 0 0 ∷ turn 0 ∷ turn 0 ∷ purges 0 1 ∷ turn 0 ∷ [])
    × (cut (system 1) 3 order ≡ order)
    × (stopped pair (system 1) 1 order ≡ alone ++ turn 0 ∷ [])
    × (stopped pair (system 1) 3 order ≡ order ++ turn 0 ∷ [])
    -- without the removal there is no lap
    × (stopped pair (system 1) 1 (goes 1 0 ∷ turn 0 ∷ turn 1 ∷ goes 0 0 ∷ turn 0 ∷ [])
    ≡ goes 1 0 ∷ turn 0 ∷ goes 0 0 ∷ turn 0 ∷ [])
    × (hist pair (stopped pair (system 1) 1 order)
    ≡ Remove (system 0) (system 1) ∷ Enq (task_of 0 0) (shared 66) E RetNone C00 ∷ [])
    × (told pair (stopped pair (system 1) 1 order)
    ≡ at 6 0 (Desk 1 VaryDone) ∷ at 8 0 (Coded (task_of 0 0) 1 0 verbs.Enq C00) ∷ [])
    × (lap idle (run idle removed) ≡ turn 0 ∷ turn 1 ∷ turn 1 ∷ [])
    × (reply_of idle (run idle (removed ++ turn 0 ∷ [])) (turn 1) ≡ Some (replies.Stale 4))
    × ((run idle (removed ++ turn 0 ∷ turn 1 ∷ turn 1 ∷ [])).medium.message.entries ≡ [])
unfolding state_of with_state with_line with_phase with_outstanding with_record without_record with_told
    with_exclusive telling tell_code record_enq after_code replied passes_wait tell_line tell_untold tell_control
    tell_all tell_new recalled tell_answer tell_answer_any tell_freed post ask take_line end_step ready_step
    phase_step may_go prepare finish_quiet finish_call finish read_entries all_sent put_in desk_told purged
    system_turned answer_own process process_entry has without with_also turn_row purge_row row apply first_after
    unseen any_unseen cleared stamped turn_reply wakes rest_after_turn dropped turned first_node first_world carry_out
    chosen placed happens_at happens finish_star losing stale
samples = (refl, refl, refl, refl, refl, refl, refl, refl, refl, refl, refl, refl)

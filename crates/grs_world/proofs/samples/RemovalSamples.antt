-- A worked run in which a system of a ring is removed while it owns, has the message, and has a request in it, by which
-- the definitions are checked: what is answered, fixed, told and kept is what the rules of the service give by hand.
use Rattle.grs_world.proofs.Common.{[], ◌++◌, ◌∷◌, ◌≡◌, after_code, all_sent, answer_own, any_unseen, apply, ask}
use Rattle.grs_world.proofs.Common.{at_rest, Bool, C00, carry_out, chosen, cleared, Coded, decide, Deck, Desk}
use Rattle.grs_world.proofs.Common.{desk_told, drop, dropped, E, Elem, end_step, Event, false, finish, finish_call}
use Rattle.grs_world.proofs.Common.{finish_quiet, first_after, first_node, first_world, happens, happens_at, has, hist}
use Rattle.grs_world.proofs.Common.{is_live, is_pending, kept, line_entries, lines_of, lines_of_told, List, list_any}
use Rattle.grs_world.proofs.Common.{list_of, lists_after, losing, map, may_go, Meaning, medium_at_end, passes_wait}
use Rattle.grs_world.proofs.Common.{phase_step, placed, places, post, prepare, process, process_entry, purge_row}
use Rattle.grs_world.proofs.Common.{purged, put_in, read_entries, ready_step, recalled, record_enq, refl, replied}
use Rattle.grs_world.proofs.Common.{reply_of, Res, rest_after_turn, RetNone, row, run, Some, stale, stamped, state_of}
use Rattle.grs_world.proofs.Common.{SystemDef, Systems, take_line, TaskId, tell_all, tell_answer, tell_answer_any}
use Rattle.grs_world.proofs.Common.{tell_code, tell_control, tell_freed, tell_line, tell_new, tell_untold, telling}
use Rattle.grs_world.proofs.Common.{tells_control, told, true, turn_reply, turn_row, turned, unseen, unwrap_or}
use Rattle.grs_world.proofs.Common.{VaryDone, Wait, wakes, with_also, with_exclusive, with_line, with_outstanding}
use Rattle.grs_world.proofs.Common.{with_phase, with_record, with_state, with_told, without, without_record, ℕ}
use Rattle.grs_node.specs.Node.{turned as system_turned}
use Rattle.grs_world.specs.Running.{task_end}
use Rattle.grs_world.specs.AtRest.{goes_on_with}
use Rattle.grs_base.specs.declared.line.Scope.TheVariants.{System}
use Rattle.grs_wire.specs.declared.told.Said.TheVariants.{VaryNoSuch}
use Rattle.grs_wire.specs.declared.history.HistEntry.TheVariants.{Enq, Remove}
use Rattle.grs_world.proofs.samples.Samples.{system, task_of, shared, enq, deck_of, goes, turn, at, own}
use Rattle.grs_wire.specs.declared.deck.Choice.TheVariants as choices
use Rattle.grs_wire.specs.declared.deck.Order.TheVariants as orders
use Rattle.grs_wire.specs.declared.medium.Reply.TheVariants as replies
use Rattle.grs_wire.specs.declared.seen.TaskEnd.TheVariants as ends
use Rattle.grs_wire.specs.declared.told.Verb.TheVariants as verbs

abbrev pub purges : ℕ → ℕ → Event
purges s target = record { system = system s; choice = choices.Purge (system target) }

-- A ring of three systems, each with a task that asks for exclusive control of the same resource, and with a desk that
-- commands the removal of the third.
abbrev ring : Deck
ring =
    deck_of (((enq 66 E Systems RetNone ∷ []) ∷ []) ∷ ((enq 66 E Systems RetNone ∷ []) ∷ [])
    ∷ ((enq 66 E Systems RetNone ∷ []) ∷ []) ∷ [])

abbrev removing : Deck
removing =
    record ring {
      systems =
          map (λ (s : SystemDef). record s { desk = record { at = 0; order = orders.Vary (system 2) } ∷ [] })
          ring.systems;
    }

-- The third system's request goes in first (4), then the first one's (6). Both come past the second, and the message
-- stands at the third (7).
abbrev before : List Event
before = goes 2 0 ∷ turn 0 ∷ turn 1 ∷ turn 2 ∷ goes 0 0 ∷ turn 0 ∷ turn 1 ∷ []

-- The first system removes the third (8). The second doesn't know it (9), and then finds no such system (10); the third
-- does nothing any more (11). The first one's task is answered that it waits, and is told control in the same event
-- (12).
abbrev behind : List Event
behind = purges 1 2 ∷ purges 1 2 ∷ turn 2 ∷ turn 0 ∷ []

abbrev removed : List Event
removed = before ++ purges 0 2 ∷ []

abbrev elem : ℕ → Elem
elem s = record { task = task_of s 0; ctl = E }

pub samples :
    (reply_of removing (run removing before) (purges 0 2) ≡ Some replies.Purged)
    × (reply_of removing (run removing removed) (purges 1 2) ≡ Some (replies.Stale 4))
    × (reply_of removing (run removing (removed ++ purges 1 2 ∷ [])) (purges 1 2) ≡ Some replies.NoSuch)
    × (hist removing before
    ≡ Enq (task_of 2 0) (shared 66) E RetNone C00 ∷ Enq (task_of 0 0) (shared 66) E RetNone Wait ∷ [])
    × (hist removing (removed ++ behind)
    ≡ Enq (task_of 2 0) (shared 66) E RetNone C00 ∷ Enq (task_of 0 0) (shared 66) E RetNone Wait
    ∷ Remove (system 0) (system 2) ∷ [])
    × (told removing removed ≡ at 8 0 (Desk 1 VaryDone) ∷ [])
    × (drop 1 (told removing (removed ++ behind))
    ≡ at 10 1 (Desk 1 VaryNoSuch) ∷ at 12 0 (Coded (task_of 0 0) 1 0 verbs.Enq C00) ∷ [])
    × (places removing before (shared 66) ≡ elem 2 ∷ elem 0 ∷ [])
    × (places removing removed (shared 66) ≡ elem 0 ∷ [])
    × (kept removing (run removing removed) (system 0) (shared 66) ≡ elem 0 ∷ [])
    × (kept removing (run removing removed) (system 1) (shared 66) ≡ elem 0 ∷ [])
    × (map (λ s. is_live (run removing removed) (system s)) (0 ∷ 1 ∷ 2 ∷ 3 ∷ []) ≡ true ∷ true ∷ false ∷ false ∷ [])
    -- the message goes on at the first system, and waits for none but the two that are left
    × ((run removing before).medium.message.holder ≡ Some (system 2))
    × ((run removing removed).medium.message.holder ≡ Some (system 0))
    × (map (λ x. x.mask) (run removing before).medium.message.entries ≡ 4 ∷ 5 ∷ [])
    × (map (λ x. x.mask) (run removing removed).medium.message.entries ≡ 1 ∷ 3 ∷ [])
    × (task_end (run removing removed).medium.removed (run removing removed).nodes (task_of 2 0) ≡ ends.Removed)
    × (task_end (run removing removed).medium.removed (run removing removed).nodes (task_of 0 0) ≡ ends.Open)
unfolding state_of with_state with_line with_phase with_outstanding with_record without_record with_told
    with_exclusive telling tell_code record_enq after_code replied passes_wait tell_line tell_untold tell_control
    tell_all tell_new recalled tell_answer tell_answer_any tell_freed post ask take_line end_step ready_step
    phase_step may_go prepare finish_quiet finish_call finish read_entries all_sent put_in desk_told purged
    system_turned answer_own process process_entry has without with_also turn_row purge_row row apply first_after
    unseen any_unseen cleared stamped turn_reply wakes rest_after_turn dropped turned first_node first_world carry_out
    chosen placed happens_at happens losing stale
samples = (refl, refl, refl, refl, refl, refl, refl, refl, refl, refl, refl, refl, refl, refl, refl, refl, refl, refl)

-- ---- at rest behind a removal
-- Two tasks of the first system of a ring ask for two resources in turn, each for the other's first, of which one is
-- the whole complex's; a task of the second system asks for that one too.
abbrev crossing : Deck
crossing =
    deck_of (((enq 66 E Systems RetNone ∷ enq 67 E System RetNone ∷ [])
    ∷ (enq 67 E System RetNone ∷ enq 66 E Systems RetNone ∷ []) ∷ [])
    ∷ ((enq 66 E Systems RetNone ∷ []) ∷ []) ∷ [])

abbrev bound : Deck
bound =
    record crossing {
      systems =
          map (λ (s : SystemDef). record s { desk = record { at = 0; order = orders.Vary (system 1) } ∷ [] })
          crossing.systems;
    }

-- The second system's task owns, and the first one's are to wait behind it; then the first system removes the second.
-- By that its own task gets control, and asks for what the other has.
abbrev left : List Event
left =
    goes 1 0 ∷ turn 0 ∷ turn 1 ∷ goes 0 0 ∷ goes 0 1 ∷ goes 0 1 ∷ turn 0 ∷ turn 1 ∷ purges 0 1 ∷ turn 0 ∷ goes 0 0 ∷ []

abbrev its_lines : TaskId → List Meaning
its_lines t = unwrap_or (lines_of bound t) []

abbrev goes_on : TaskId → Res → Bool
goes_on t r = goes_on_with t (its_lines t) (hist bound left) (lines_of_told (told bound left)) r

-- Nothing is lost on the system that is left: its owner was told control, and both its tasks wait. Of the removed one's
-- task nothing is said.
pub rests_behind :
    (at_rest bound (run bound left) ≡ true)
    × (map (λ s. is_live (run bound left) (system s)) (0 ∷ 1 ∷ []) ≡ true ∷ false ∷ [])
    × (list_of (lists_after bound left) (shared 66) ≡ elem 0 ∷ record { task = task_of 0 1; ctl = E } ∷ [])
    × (list_any (tells_control (task_of 0 0) (its_lines (task_of 0 0)) (line_entries (task_of 0 0) (hist bound left))
    (shared 66))
    (lines_of_told (told bound left))
    ≡ true)
    × (goes_on (task_of 0 0) (own 67) ≡ true)
    × (goes_on (task_of 0 1) (shared 66) ≡ true)
    × (map (λ t. task_end (run bound left).medium.removed (run bound left).nodes t)
    (task_of 0 0 ∷ task_of 0 1 ∷ task_of 1 0 ∷ [])
    ≡ ends.Waits ∷ ends.Waits ∷ ends.Removed ∷ [])
unfolding decide is_pending medium_at_end at_rest state_of with_state with_line with_phase with_outstanding
    with_record without_record with_told with_exclusive telling tell_code record_enq after_code replied passes_wait
    tell_line tell_untold tell_control tell_all tell_new recalled tell_answer tell_answer_any tell_freed post ask
    take_line end_step ready_step phase_step may_go prepare finish_quiet finish_call finish read_entries all_sent
    put_in desk_told purged system_turned answer_own process process_entry has without with_also turn_row purge_row
    row apply first_after unseen any_unseen cleared stamped turn_reply wakes rest_after_turn dropped turned first_node
    first_world carry_out chosen placed happens_at happens losing stale
rests_behind = (refl, refl, refl, refl, refl, refl, refl)

-- A worked run of a display in ring mode, by which the definitions are checked: the history and each told line are what
-- the rules of the service give by hand.
use Rattle.grs_world.proofs.Common.{[], ◌++◌, ◌∷◌, ◌≡◌, after_code, all_sent, answer_own, any_unseen, apply, arith, ask}
use Rattle.grs_world.proofs.Common.{C00, carry_out, chosen, cleared, Coded, decide, Deck, E, Event, Filter, finish}
use Rattle.grs_world.proofs.Common.{finish_call, finish_quiet, first_after, first_node, first_world, goes_on_looking}
use Rattle.grs_world.proofs.Common.{happens, happens_at, has, hist, HistEntry, List, Local, may_go, Moment, passes_wait}
use Rattle.grs_world.proofs.Common.{phase_step, Place, placed, post, prepare, process, process_entry, put_in}
use Rattle.grs_world.proofs.Common.{read_entries, ready_step, recalled, record_enq, refl, replied, rest_after_turn}
use Rattle.grs_world.proofs.Common.{RetNone, Row, row, S, show, Slice, slice_of, Some, stamped, state_of, Systems}
use Rattle.grs_world.proofs.Common.{take_line, tell_all, tell_answer, tell_answer_any, tell_code, tell_control}
use Rattle.grs_world.proofs.Common.{tell_line, tell_new, tell_rows, tell_untold, telling, Told, told, turn_reply}
use Rattle.grs_world.proofs.Common.{turn_row, turned, unseen, wakes, with_also, with_exclusive, with_line}
use Rattle.grs_world.proofs.Common.{with_outstanding, with_phase, with_record, with_rows, with_state, with_told}
use Rattle.grs_world.proofs.Common.{without, without_record, without_rows}
use Rattle.grs_node.specs.Node.{turned as system_turned}
use Rattle.grs_wire.specs.declared.told.ToldLine.TheVariants.{Shown}
use Rattle.grs_world.specs.Agree.{Agrees}
use Rattle.grs_base.specs.declared.line.Scope.TheVariants.{System}
use Rattle.grs_base.specs.declared.line.Line.TheVariants.{DisplayRes}
use Rattle.grs_base.specs.declared.look.Filter.TheVariants.{Named}
use Rattle.grs_wire.specs.declared.history.HistEntry.TheVariants.{Enq, Look}
use Rattle.grs_world.proofs.samples.Samples.{at, deck_of, enq, goes, own, shared, system, task_of, turn}
use Rattle.grs_wire.specs.declared.told.Verb.TheVariants as verbs

-- A task has (A, B) of the whole complex, and another of its system (A, B) of the system; then this one displays the
-- name.
abbrev shows : Deck
shows =
    deck_of (((enq 66 E Systems RetNone ∷ [])
    ∷ (enq 66 S System RetNone ∷ DisplayRes (65 ∷ []) (66 ∷ []) ∷ []) ∷ []) ∷ [] ∷ [])

-- The display looks at the lists of its system at once (event 4), and its look at the name's slice is put in (6), when
-- that system has processed the ENQ before it; it comes back behind the other system's Turn (8), and all rows are told.
abbrev events : List Event
events = goes 0 0 ∷ turn 0 ∷ goes 0 1 ∷ goes 0 1 ∷ turn 1 ∷ turn 0 ∷ turn 1 ∷ turn 0 ∷ []

abbrev by_name : Filter
by_name = Named (Some (65 ∷ [])) (Some (66 ∷ []))

abbrev of_name : Place
of_name = Slice (slice_of (65 ∷ []) (66 ∷ []))

abbrev own_row : Row
own_row = record { res = own 66; elems = record { task = task_of 0 1; ctl = S } ∷ []; owners = 1 }

abbrev shared_row : Row
shared_row = record { res = shared 66; elems = record { task = task_of 0 0; ctl = E } ∷ []; owners = 1 }

-- what stands before the last look, that look, and what is told of it
abbrev before_look : List HistEntry
before_look =
    Enq (task_of 0 0) (shared 66) E RetNone C00 ∷ Enq (task_of 0 1) (own 66) S RetNone C00
    ∷ Look (task_of 0 1) (Local (system 0)) by_name (own_row ∷ []) ∷ []

abbrev the_look : HistEntry
the_look = Look (task_of 0 1) of_name by_name (shared_row ∷ [])

abbrev before_rows : List Told
before_rows =
    at 3 0 (Coded (task_of 0 1) 1 0 verbs.Enq C00) ∷ at 6 0 (Coded (task_of 0 0) 1 0 verbs.Enq C00) ∷ []

abbrev tells_rows : List Row → Told
tells_rows rows = at 8 0 (Shown (task_of 0 1) 2 verbs.Display C00 rows)

shown :
    (hist shows events ≡ before_look ++ the_look ∷ [])
    × (told shows events ≡ before_rows ++ tells_rows (own_row ∷ shared_row ∷ []) ∷ [])
unfolding state_of with_state with_line with_phase with_outstanding with_record without_record with_told
    with_exclusive with_rows without_rows telling tell_code record_enq after_code replied passes_wait tell_line
    tell_untold tell_control tell_all tell_new recalled tell_rows goes_on_looking tell_answer tell_answer_any
    answer_own process process_entry decide post ask show take_line ready_step phase_step may_go prepare finish_quiet
    read_entries system_turned all_sent put_in finish_call finish has without with_also first_after unseen any_unseen
    cleared stamped turn_reply wakes rest_after_turn turned turn_row row apply first_node first_world carry_out chosen
    placed happens_at happens
shown = (refl, refl)

-- ---- those rows, and no others, once all looks of the line stand
abbrev behind : List HistEntry → Moment
behind history = record { history = history; fixed = []; before = before_rows }

rows_told : Agrees shows (behind (before_look ++ the_look ∷ [])) (tells_rows (own_row ∷ shared_row ∷ []))
rows_told = (refl, (omega arith, record { kind = refl; all = refl; shown = refl; told = refl }, refl, refl))

rows_early : Agrees shows (behind before_look) (tells_rows (own_row ∷ [])) → ⊥
rows_early a = let e : 1 ≡ 2 = a.1.1.all in absurd (omega (arith, e))

rows_missing : Agrees shows (behind (before_look ++ the_look ∷ [])) (tells_rows (shared_row ∷ [])) → ⊥
rows_missing a = let e : shared_row ∷ [] ≡ own_row ∷ shared_row ∷ [] = a.1.1.shown in absurd (cc)

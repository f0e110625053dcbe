-- Worked runs that end at rest, by which the definition of nothing lost is checked.
use Rattle.grs_world.proofs.Common.{[], ◌++◌, ◌∷◌, ◌≡◌, ◌≤◌, after_code, all_sent, answer_own, any_unseen, apply, arith}
use Rattle.grs_world.proofs.Common.{ask, at_rest, C00, C04, carry_out, chosen, cleared, decide, Deck, Display, E}
use Rattle.grs_world.proofs.Common.{end_step, Ended, entry_of_line, Event, false, finish, finish_call, finish_quiet}
use Rattle.grs_world.proofs.Common.{first_after, first_node, first_world, goes_on_looking, happens, happens_at, has}
use Rattle.grs_world.proofs.Common.{hist, HistEntry, is_code_of, is_pending, length, Line, line_entries, lines_of}
use Rattle.grs_world.proofs.Common.{lines_of_told, List, list_any, list_of, lists_after, may_go, Meaning, medium_at_end}
use Rattle.grs_world.proofs.Common.{owns, passes_wait, phase_step, placed, post, prepare, process, process_entry}
use Rattle.grs_world.proofs.Common.{put_in, read_entries, ready_step, recalled, record_enq, refl, replied, Res}
use Rattle.grs_world.proofs.Common.{rest_after_turn, RetEcb, RetNone, row, run, show, slice_of, Some, stamped, state_of}
use Rattle.grs_world.proofs.Common.{subst, sym, take_line, TaskId, tell_all, tell_answer, tell_answer_any, tell_code}
use Rattle.grs_world.proofs.Common.{tell_control, tell_line, tell_new, tell_rows, tell_untold, telling, tells_control}
use Rattle.grs_world.proofs.Common.{told, true, turn_reply, turn_row, turned, units_of, unseen, unwrap_or, Wait, wait}
use Rattle.grs_world.proofs.Common.{wakes, with_also, with_exclusive, with_line, with_outstanding, with_phase}
use Rattle.grs_world.proofs.Common.{with_record, with_rows, with_state, with_told, without, without_record}
use Rattle.grs_world.proofs.Common.{without_rows, ℕ}
use Rattle.grs_node.specs.Node.{turned as system_turned}
use Rattle.grs_world.specs.Running.{task_end}
use Rattle.grs_wire.specs.declared.told.ToldLine.TheVariants.{Shown}
use Rattle.grs_known.specs.Told.{entries_of_line}
use Rattle.grs_legal.specs.Asks.{looks_in}
use Rattle.std.specs.List.{count_by}
use Rattle.grs_world.specs.AtRest.{DisplaysAreTold, first_uncoded, goes_on_with, is_coded, is_reserve, unit_count}
use Rattle.grs_base.specs.Rnl.{no_entries}
use Rattle.grs_base.specs.declared.look.Filter.TheVariants.{Named}
use Rattle.grs_base.specs.declared.line.Scope.TheVariants.{System}
use Rattle.grs_base.specs.declared.rnl.Form.TheVariants.{Specific}
use Rattle.grs_base.specs.declared.rnl.RnlEntry.{RnlEntry}
use Rattle.grs_wire.specs.declared.history.HistEntry.TheVariants.{Enq}
use Rattle.grs_wire.specs.declared.seen.TaskEnd.TheVariants.{Waits}
use Rattle.grs_world.specs.Passed.{TellLines, state_in}
use Rattle.grs_known.specs.Passed.{has_ended, lines_passed}
use Rattle.grs_world.proofs.samples.Samples.{system, task_of, own, enq, deq, wait_for, deck_of, goes, turn, at}
use Rattle.grs_base.specs.declared.line.Line.TheVariants as lines
use Rattle.grs_base.specs.declared.resource.Res.TheVariants as kinds
use Rattle.grs_base.specs.declared.rnl.Which.TheVariants as which
use Rattle.grs_wire.specs.declared.told.Verb.TheVariants as verbs

-- two tasks, each of which reserves the volume that the other has reserved; both volumes are the system's own
abbrev reserve : ℕ → ℕ → Line
reserve r unit = lines.Reserve (86 ∷ []) (r ∷ []) E unit RetNone true

abbrev volume : ℕ → Res
volume r = kinds.System (system 0) (86 ∷ []) (r ∷ [])

abbrev excluded : ℕ → RnlEntry
excluded r = record { which = which.Excl; form = Specific; q = 86 ∷ []; r = Some (r ∷ []) }

abbrev crossed : Deck
crossed =
    record (deck_of (((reserve 49 6657 ∷ reserve 50 6658 ∷ []) ∷ (reserve 50 6658 ∷ reserve 49 6657 ∷ []) ∷ []) ∷ [])) {
      lists = record {
        incl = no_entries which.Incl;
        excl = record { which = which.Excl; entries = excluded 49 ∷ excluded 50 ∷ [] };
        con = no_entries which.Con;
      };
    }

abbrev both : List Event
both = goes 0 0 ∷ goes 0 1 ∷ goes 0 0 ∷ goes 0 1 ∷ []

abbrev first : TaskId
first = task_of 0 0

abbrev script : List Meaning
script = unwrap_or (lines_of crossed first) []

abbrev asked : List HistEntry
asked = line_entries first (hist crossed both)

-- Each has one volume and waits for the other: the first is told control of its own and no code of its second line, and
-- goes on only with the other. Line 0, which there isn't, would have the entry of line 1.
pub crosses :
    (at_rest crossed (run crossed both) ≡ true)
    × (at_rest crossed (run crossed (goes 0 0 ∷ goes 0 1 ∷ [])) ≡ false)
    × (asked ≡ Enq first (volume 49) E RetNone C00 ∷ Enq first (volume 50) E RetNone Wait ∷ [])
    × (list_any (tells_control first script asked (volume 49)) (lines_of_told (told crossed both)) ≡ true)
    × (list_any (tells_control first script asked (volume 50)) (lines_of_told (told crossed both)) ≡ false)
    × (entry_of_line script asked 1 ≡ Some (Enq first (volume 49) E RetNone C00))
    × (entry_of_line script asked 0 ≡ Some (Enq first (volume 49) E RetNone C00))
    × (is_coded (Enq first (volume 49) E RetNone C00) ≡ true)
    × (is_coded (Enq first (volume 50) E RetNone Wait) ≡ false)
    × (list_any (is_code_of first 1) (lines_of_told (told crossed both)) ≡ true)
    × (list_any (is_code_of first 0) (lines_of_told (told crossed both)) ≡ false)
    × (goes_on_with first script (hist crossed both) (lines_of_told (told crossed both)) (volume 50) ≡ true)
    × (goes_on_with first script (hist crossed both) (lines_of_told (told crossed both)) (volume 49) ≡ false)
    × (owns (list_of (lists_after crossed both) (volume 50)) first ≡ false)
    × (task_end (run crossed both).medium.removed (run crossed both).nodes first ≡ Waits)
    × (unit_count (system 0) 6657 (units_of (run crossed both).nodes) ≡ 1)
    × (count_by (is_reserve crossed (hist crossed both) (system 0) 6657) (lists_after crossed both) ≡ 1)
    × (unit_count (system 0) 6659 (units_of (run crossed both).nodes) ≡ 0)
    × (count_by (is_reserve crossed (hist crossed both) (system 0) 6659) (lists_after crossed both) ≡ 0)
unfolding state_of with_state with_line with_phase with_record telling tell_code record_enq after_code replied tell_all
    tell_new decide ask take_line end_step ready_step phase_step is_pending may_go prepare finish_quiet finish has
    medium_at_end first_node first_world carry_out chosen placed happens_at happens at_rest
crosses = (
  refl,
  refl,
  refl,
  refl,
  refl,
  refl,
  refl,
  refl,
  refl,
  refl,
  refl,
  refl,
  refl,
  refl,
  refl,
  refl,
  refl,
  refl,
  refl,
)

-- a task that is to get two resources by ECB, which the other has, and waits for the one and then for the other
abbrev waits_twice : Deck
waits_twice =
    deck_of (((enq 65 E System RetNone ∷ enq 66 E System RetNone ∷ deq 65 System ∷ [])
    ∷ (enq 65 E System RetEcb ∷ enq 66 E System RetEcb ∷ wait_for 65 ∷ wait_for 66 ∷ []) ∷ [])
    ∷ [])

abbrev held_first : List Event
held_first = goes 0 0 ∷ goes 0 0 ∷ goes 0 1 ∷ goes 0 1 ∷ goes 0 1 ∷ []

-- behind the DEQ it stands at the second
abbrev held_second : List Event
held_second = held_first ++ goes 0 0 ∷ goes 0 1 ∷ []

abbrev second : TaskId
second = task_of 0 1

abbrev its_lines : List Meaning
its_lines = unwrap_or (lines_of waits_twice second) []

-- It goes on only with the resource of the first WAIT line that has no code line: the one behind it is no reason to
-- wait.
pub waits_in_order :
    (first_uncoded second its_lines (lines_of_told (told waits_twice held_first)) ≡ Some 3)
    × (goes_on_with second its_lines (hist waits_twice held_first) (lines_of_told (told waits_twice held_first))
    (own 65)
    ≡ true)
    × (goes_on_with second its_lines (hist waits_twice held_first) (lines_of_told (told waits_twice held_first))
    (own 66)
    ≡ false)
    × (first_uncoded second its_lines (lines_of_told (told waits_twice held_second)) ≡ Some 4)
    × (goes_on_with second its_lines (hist waits_twice held_second) (lines_of_told (told waits_twice held_second))
    (own 65)
    ≡ false)
    × (goes_on_with second its_lines (hist waits_twice held_second) (lines_of_told (told waits_twice held_second))
    (own 66)
    ≡ true)
    × (task_end (run waits_twice held_second).medium.removed (run waits_twice held_second).nodes second ≡ Waits)
unfolding state_of with_state with_line with_phase with_outstanding with_record without_record with_told with_exclusive
    telling tell_code record_enq after_code replied passes_wait tell_line tell_untold tell_control tell_all tell_new
    decide post ask wait take_line end_step ready_step phase_step may_go prepare finish_quiet finish has first_node
    first_world carry_out chosen placed happens_at happens
waits_in_order = (refl, refl, refl, refl, refl, refl, refl)

-- a task that displays a name: it looks at the lists of its system, and then at the slice of the name
abbrev displays : Deck
displays = deck_of (((lines.DisplayRes (65 ∷ []) (66 ∷ []) ∷ []) ∷ []) ∷ [])

abbrev shows : List Meaning
shows = unwrap_or (lines_of displays first) []

abbrev the_display : Display
the_display = record {
  verb = verbs.Display;
  home = Some (system 0);
  first = slice_of (65 ∷ []) (66 ∷ []);
  count = 1;
  filter = Named (Some (65 ∷ [])) (Some (66 ∷ []));
}

-- it is told when its system has its own request back, and then it ends
abbrev asked_one : List Event
asked_one = goes 0 0 ∷ []

abbrev asked_all : List Event
asked_all = goes 0 0 ∷ turn 0 ∷ []

abbrev displayed : List Event
displayed = goes 0 0 ∷ turn 0 ∷ turn 0 ∷ goes 0 0 ∷ []

pub shown_at_rest :
    (at_rest displays (run displays displayed) ≡ true)
    × (told displays displayed ≡ at 3 0 (Shown first 1 verbs.Display C04 []) ∷ at 4 0 (Ended first 0) ∷ [])
    × (length (entries_of_line shows (line_entries first (hist displays displayed)) 1) ≡ length (looks_in the_display))
    × (list_any (is_code_of first 1) (lines_of_told (told displays displayed)) ≡ true)
    × (length (entries_of_line shows (line_entries first (hist displays asked_one)) 1) ≡ 1)
    × (length (entries_of_line shows (line_entries first (hist displays asked_all)) 1) ≡ length (looks_in the_display))
    × (at_rest displays (run displays asked_all) ≡ false)
unfolding state_of with_state with_line with_phase with_outstanding with_record without_record with_told with_exclusive
    with_rows without_rows telling tell_code record_enq after_code replied passes_wait tell_line tell_untold
    tell_control
    tell_all tell_new recalled tell_rows goes_on_looking tell_answer tell_answer_any answer_own process process_entry
    decide post ask wait show take_line end_step ready_step phase_step may_go prepare finish_quiet read_entries
    system_turned all_sent put_in finish_call finish is_pending has without with_also first_after unseen any_unseen
    cleared stamped turn_reply wakes rest_after_turn turned turn_row row apply medium_at_end first_node first_world
    carry_out chosen placed happens_at happens at_rest
shown_at_rest = (refl, refl, refl, refl, refl, refl, refl)

-- The moment before, all its looks stand and it isn't told: that a run may not leave.
pub shown_late : DisplaysAreTold displays asked_all → ⊥
unfolding state_of with_state with_line with_phase with_outstanding with_record without_record with_told with_exclusive
    with_rows without_rows telling tell_code record_enq after_code replied passes_wait tell_line tell_untold
    tell_control
    tell_all tell_new recalled tell_rows goes_on_looking tell_answer tell_answer_any answer_own process process_entry
    decide post ask wait show take_line end_step ready_step phase_step may_go prepare finish_quiet read_entries
    system_turned all_sent put_in finish_call finish is_pending has without with_also first_after unseen any_unseen
    cleared stamped turn_reply wakes rest_after_turn turned turn_row row apply medium_at_end first_node first_world
    carry_out chosen placed happens_at happens at_rest
shown_late told_all =
    let no : false ≡ true =
    told_all first shows 1 the_display (record { lines = refl; live = refl }) (omega arith) refl refl in
    absurd (cc)

-- how many lines a task has passed: one that is held by its answer or at a WAIT line is still at that, and so is one
-- whose display isn't told
abbrev passes : Deck → List Event → TaskId → ℕ
passes deck es t = lines_passed (state_in deck es t)

pub passed_lines :
    (passes crossed (goes 0 0 ∷ []) first ≡ 1)
    × (passes crossed both first ≡ 1)
    × (passes waits_twice held_first second ≡ 2)
    × (passes waits_twice held_second second ≡ 3)
    × (passes displays asked_one first ≡ 0)
    × (passes displays asked_all first ≡ 0)
    × (passes displays displayed first ≡ 1)
    × (has_ended (state_in displays displayed first).phase ≡ true)
    × (has_ended (state_in displays (goes 0 0 ∷ turn 0 ∷ turn 0 ∷ []) first).phase ≡ false)
unfolding state_of with_state with_line with_phase with_outstanding with_record without_record with_told with_exclusive
    with_rows without_rows telling tell_code record_enq after_code replied passes_wait tell_line tell_untold
    tell_control
    tell_all tell_new recalled tell_rows goes_on_looking tell_answer tell_answer_any answer_own process process_entry
    decide post ask wait show take_line end_step ready_step phase_step may_go prepare finish_quiet read_entries
    system_turned all_sent put_in finish_call finish has without with_also first_after unseen any_unseen cleared stamped
    turn_reply wakes rest_after_turn turned turn_row row apply first_node first_world carry_out chosen placed happens_at
    happens
passed_lines = (refl, refl, refl, refl, refl, refl, refl, refl, refl)

-- a display that is passed is told: this run passes one, and may not tell the task's end alone
pub display_untold : TellLines displays displayed (Ended first 0 ∷ []) → ⊥
display_untold tells =
    let one : passes displays displayed first ≡ 1 = passed_lines.6 in
    let no : false ≡ true =
    tells first shows 1 refl (omega arith) (subst (λ (n : ℕ). 1 ≤ n) (sym one) (omega arith)) refl in
    absurd (cc)

-- Worked fronts and a worked ring, by which the definitions of tables, of what is kept, and of the event that answers
-- are checked.
use Rattle.grs_world.proofs.Common.{[], ◌==◌, ◌∷◌, ◌≡◌, after_code, all_sent, answer_own, any_unseen, apply, arith, ask}
use Rattle.grs_world.proofs.Common.{C00, carry_out, chosen, cleared, Coded, cond, decide, Deck, E, Elem, end_step, Enq}
use Rattle.grs_world.proofs.Common.{Event, false, finish, finish_call, finish_quiet, first_after, first_node}
use Rattle.grs_world.proofs.Common.{first_part, first_world, Fixed, happens, happens_at, has, kept, List, LocalLook}
use Rattle.grs_world.proofs.Common.{Look, manager, map, may_go, NodeState, None, Option, passes_wait, phase_step}
use Rattle.grs_world.proofs.Common.{placed, places, post, prepare, process, process_entry, Purged, put_in, read_entries}
use Rattle.grs_world.proofs.Common.{ready_step, recalled, record_enq, refl, replay, replied, Req, Request, Res}
use Rattle.grs_world.proofs.Common.{rest_after_turn, RetNone, RingEntry, row, run, Some, stamped, StarPart, State}
use Rattle.grs_world.proofs.Common.{state_of, SysId, Systems, take_line, TaskId, tell_all, tell_answer, tell_answer_any}
use Rattle.grs_world.proofs.Common.{tell_code, tell_control, tell_line, tell_new, tell_untold, telling, true}
use Rattle.grs_world.proofs.Common.{turn_reply, turn_row, turned, unseen, wait, wakes, with_also, with_exclusive}
use Rattle.grs_world.proofs.Common.{with_line, with_outstanding, with_phase, with_record, with_state, with_told}
use Rattle.grs_world.proofs.Common.{without, without_record, World, ℕ}
use Rattle.grs_node.specs.Node.{turned as system_turned}
use Rattle.grs_wire.specs.declared.request.Fixed.TheVariants.{Asked}
use Rattle.grs_wire.specs.History.{answered}
use Rattle.grs_base.specs.declared.look.Filter.TheVariants.{All}
use Rattle.grs_base.specs.Rnl.{no_entries}
use Rattle.grs_world.specs.Laps.{LeftHome, given, told_next}
use Rattle.grs_world.specs.Tables.{before_number, first_unseen}
use Rattle.grs_known.specs.Parts.{systems_part}
use Rattle.grs_base.specs.declared.line.Line.TheVariants as lines
use Rattle.grs_base.specs.declared.resource.Res.TheVariants as kinds
use Rattle.grs_base.specs.declared.rnl.Which.TheVariants as which
use Rattle.grs_wire.specs.declared.deck.Choice.TheVariants as choices
use Rattle.grs_wire.specs.declared.told.Verb.TheVariants as verbs

abbrev sys : ℕ → SysId
sys n = record { 0 = n }

-- Each system has one task at most, which asks for exclusive control of the resource (A, B) of the whole complex.
abbrev task_of : ℕ → TaskId
task_of s = record { system = sys s; job = 0; task = 0 }

abbrev shared : Res
shared = kinds.Systems (65 ∷ []) (66 ∷ [])

abbrev enq_by : ℕ → Req
enq_by s = record { task = task_of s; want = Enq shared E RetNone false }

abbrev element : ℕ → Elem
element s = record { task = task_of s; ctl = E }

-- ---- fronts of a bare list of what was fixed
-- Looks at three slices are entry 1 of the message, an ENQ is entry 2 and a removal entry 3; a look at own lists is no
-- entry. Were lines of the history counted, of which the looks make three, the ENQ would be entry 4; were looks passed
-- over, it would be entry 1, and stand in the table before entry 2.
abbrev looks : SysId × Fixed
looks = (sys 0, Asked (record { task = task_of 0; want = Look 0 3 All }))

abbrev local_look : SysId × Fixed
local_look = (sys 1, LocalLook (task_of 1) All)

abbrev enq : SysId × Fixed
enq = (sys 1, Asked (enq_by 1))

abbrev removal : SysId × Fixed
removal = (sys 1, Purged (sys 0))

abbrev fixed : List (SysId × Fixed)
fixed = looks ∷ local_look ∷ enq ∷ removal ∷ []

abbrev table_before : ℕ → State
table_before number = systems_part (replay 4096 (answered (before_number number fixed)))

pub fronts :
    (before_number 1 fixed ≡ [])
    × (before_number 2 fixed ≡ looks ∷ local_look ∷ [])
    × (before_number 3 fixed ≡ looks ∷ local_look ∷ enq ∷ [])
    × (before_number 4 fixed ≡ fixed)
    × (table_before 2 ≡ [])
    × (table_before 3 ≡ (shared, element 1) ∷ [])
fronts = (refl, refl, refl, refl, refl, refl)

-- ---- a ring of two systems, one of which asks
abbrev ring : Deck
ring = record {
  star = false;
  entries = 1;
  limit = 4096;
  lists = record { incl = no_entries which.Incl; excl = no_entries which.Excl; con = no_entries which.Con };
  systems = record {
    name = 83 ∷ [];
    desk = [];
    jobs =
        record {
          name = 74 ∷ [];
          tasks =
              record {
                name = 84 ∷ [];
                lines =
                    lines.Enq (record { q = 65 ∷ []; r = 66 ∷ []; ctl = E; scope = Systems } ∷ []) RetNone true ∷ [];
              }
              ∷ [];
        }
        ∷ [];
  }
      ∷ record { name = 83 ∷ []; desk = []; jobs = [] } ∷ [];
  events = [];
}

abbrev goes : Event
goes = record { system = sys 0; choice = choices.Task (task_of 0) }

abbrev turn : ℕ → Event
turn s = record { system = sys s; choice = choices.Turn }

-- The request is put in, the other system processes it, and then its own.
abbrev put : List Event
put = goes ∷ turn 0 ∷ []

abbrev half_way : List Event
half_way = goes ∷ turn 0 ∷ turn 1 ∷ []

abbrev entry : ℕ → RingEntry
entry mask = record { number = 1; from = sys 0; body = Request (enq_by 0); mask = mask }

abbrev tables : List Event → List State
tables es = map (λ n. n.shared) (run ring es).nodes

abbrev firsts : List Event → List ℕ
firsts es = map (λ s. first_unseen (sys s) (run ring es).medium.message) (0 ∷ 1 ∷ [])

abbrev all_kept : List Event → List (List Elem)
all_kept es = map (λ s. kept ring (run ring es) (sys s) shared) (0 ∷ 1 ∷ [])

-- In the history at once, in a table only once the entry is processed there, and kept by both systems from the first.
-- The asker is told in the event that gives its system the entry, which by then the other has processed.
keeps :
    (tables put ≡ [] ∷ [] ∷ [])
    × (firsts put ≡ 1 ∷ 1 ∷ [])
    × (tables half_way ≡ [] ∷ ((shared, element 0) ∷ []) ∷ [])
    × (firsts half_way ≡ 1 ∷ 2 ∷ [])
    × (places ring put shared ≡ element 0 ∷ [])
    × (all_kept put ≡ (element 0 ∷ []) ∷ (element 0 ∷ []) ∷ [])
    × (all_kept half_way ≡ (element 0 ∷ []) ∷ (element 0 ∷ []) ∷ [])
    × (given ring (run ring put) (turn 1) ≡ entry 3 ∷ [])
    × (given ring (run ring half_way) (turn 0) ≡ entry 1 ∷ [])
    × (told_next ring put (turn 1) ≡ [])
    × (told_next ring half_way (turn 0)
    ≡ record { event = 4; system = sys 0; line = Coded (task_of 0) 1 0 verbs.Enq C00 } ∷ [])
unfolding state_of with_state with_line with_phase with_outstanding with_record without_record with_told with_exclusive
    telling tell_code record_enq after_code replied passes_wait tell_line tell_untold tell_control tell_all tell_new
    recalled tell_answer tell_answer_any answer_own process process_entry decide post ask wait take_line end_step
    ready_step phase_step may_go prepare finish_quiet read_entries system_turned all_sent put_in finish_call finish has
    without with_also first_after unseen any_unseen cleared stamped turn_reply wakes rest_after_turn turned turn_row row
    apply first_node first_world carry_out chosen placed happens_at happens
keeps = (refl, refl, refl, refl, refl, refl, refl, refl, refl, refl, refl)

-- ---- a complex that changes to star mode
-- The ring half way, where the medium is in star mode already: this is the word of the only entry, and this the other
-- system's part in star mode, if that one has changed. The first system hasn't.
abbrev with_part : Option StarPart → NodeState → NodeState
with_part part n = cond (n.tasks.system == 1) (record n { star = part }) n

abbrev changing : ℕ → Option StarPart → World
changing word part = record (run ring half_way) {
  medium = record (run ring half_way).medium { star = true; words = word ∷ [] };
  nodes = map (with_part part) (run ring half_way).nodes;
}

-- a part that manages nothing, and one that has an element of its own system in the entry
abbrev manages_none : StarPart
manages_none = first_part (sys 1) 1

abbrev manages_one : StarPart
manages_one = record {
  manager = record {
    system = sys 1;
    entries =
        Some (record { next = 2; items = record { res = shared; elem = element 1; rank = 1; untold = false } ∷ [] })
        ∷ [];
  };
  gathers = None ∷ [];
  owes = None ∷ [];
  held = [];
  interest = true ∷ [];
}

-- Word 257 names the first system as the manager, and 515 the other one. A manager that hasn't changed keeps what its
-- own table has once it has processed its own unseen entries, whoever looks and whatever that system keeps; one that
-- has changed keeps its elements, whatever its table has; and where the word names none, nothing is kept.
keeps_in_change :
    (kept ring (changing 257 (Some manages_none)) (sys 1) shared ≡ element 0 ∷ [])
    × (kept ring (changing 257 (Some manages_one)) (sys 1) shared ≡ element 0 ∷ [])
    × (kept ring (changing 515 None) (sys 0) shared ≡ element 0 ∷ [])
    × (kept ring (changing 515 (Some manages_one)) (sys 0) shared ≡ element 1 ∷ [])
    × (kept ring (changing 515 (Some manages_none)) (sys 0) shared ≡ [])
    × (kept ring (changing 0 (Some manages_one)) (sys 1) shared ≡ [])
unfolding state_of with_state with_line with_phase with_outstanding with_record without_record with_told with_exclusive
    telling tell_code record_enq after_code replied passes_wait tell_line tell_untold tell_control tell_all tell_new
    recalled tell_answer tell_answer_any answer_own process process_entry decide post ask wait take_line end_step
    ready_step phase_step may_go prepare finish_quiet read_entries system_turned all_sent put_in finish_call finish has
    without with_also first_after unseen any_unseen cleared stamped turn_reply wakes rest_after_turn turned turn_row row
    apply first_node first_world carry_out chosen placed happens_at happens manager
keeps_in_change = (refl, refl, refl, refl, refl, refl)

-- Were the asker told by the Turn that puts its request in, it would be told too early: the message was empty before,
-- but behind that Turn the other system has still to process the request.
told_at_once :
    ((run ring (goes ∷ [])).medium.message.entries ≡ [])
    × (LeftHome (task_of 0) (run ring put).medium.message.entries → ⊥)
unfolding state_of with_state with_line with_phase with_outstanding with_record without_record with_told with_exclusive
    telling tell_code record_enq after_code replied passes_wait tell_line tell_untold tell_control tell_all tell_new
    recalled tell_answer tell_answer_any answer_own process process_entry decide post ask wait take_line end_step
    ready_step phase_step may_go prepare finish_quiet read_entries system_turned all_sent put_in finish_call finish has
    without with_also first_after unseen any_unseen cleared stamped turn_reply wakes rest_after_turn turned turn_row row
    apply first_node first_world carry_out chosen placed happens_at happens
told_at_once = (
  refl,
  λ law. let unseen_by_1 : true ≡ false = law [] [] (entry 3) (enq_by 0) refl refl refl 1 (λ e. omega arith) in
      absurd cc,
)

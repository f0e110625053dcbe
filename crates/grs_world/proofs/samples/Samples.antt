-- Worked runs, by which the definitions are checked: each history and each told line is what the rules of the
-- service give by hand.
use Rattle.grs_world.proofs.Common.{[], ◌++◌, ◌∷◌, ◌≡◌, after_code, all_sent, answer_own, any_unseen, apply, ask, Bool}
use Rattle.grs_world.proofs.Common.{C00, C04, C08, C14, carry_out, chosen, cleared, Coded, Ctl, decide, Deck, E, End}
use Rattle.grs_world.proofs.Common.{end_step, Ended, Event, false, finish, finish_call, finish_quiet, finish_star}
use Rattle.grs_world.proofs.Common.{first_after, first_node, first_world, happens, happens_at, has, hist, is_pending}
use Rattle.grs_world.proofs.Common.{Line, List, map, may_go, medium_at_end, None, passes_wait, phase_step, placed, post}
use Rattle.grs_world.proofs.Common.{prepare, process, process_entry, put_in, read_entries, ready_step, Rec, recalled}
use Rattle.grs_world.proofs.Common.{record_enq, refl, replied, Reply, reply_to, Res, rest_after_turn, rest_row, Ret}
use Rattle.grs_world.proofs.Common.{RetEcb, RetNone, row, run, S, Some, stamped, state_of, SysId, Systems, take_line}
use Rattle.grs_world.proofs.Common.{TaskId, tell_all, tell_answer, tell_answer_any, tell_code, tell_control, tell_line}
use Rattle.grs_world.proofs.Common.{tell_new, tell_untold, telling, Told, told, ToldLine, true, turn_reply, turn_row}
use Rattle.grs_world.proofs.Common.{turned, unseen, Wait, wait, wakes, with_also, with_exclusive, with_line}
use Rattle.grs_world.proofs.Common.{with_outstanding, with_phase, with_record, with_state, with_told, without}
use Rattle.grs_world.proofs.Common.{without_record, World, ℕ}
use Rattle.grs_node.specs.Node.{turned as system_turned}
use Rattle.grs_wire.specs.declared.told.ToldLine.TheVariants.{Post}
use Rattle.grs_base.specs.declared.resource.Ret.TheVariants.{RetUse, RetHave}
use Rattle.grs_base.specs.declared.line.Scope.TheVariants.{System}
use Rattle.grs_base.specs.declared.line.Scope.{Scope}
use Rattle.grs_base.specs.declared.rnl.Which.{Which}
use Rattle.grs_base.specs.declared.rnl.Form.TheVariants.{Specific}
use Rattle.grs_base.specs.declared.rnl.RnlEntry.{RnlEntry}
use Rattle.grs_base.specs.Rnl.{no_entries}
use Rattle.grs_wire.specs.declared.history.HistEntry.TheVariants.{Enq, Deq, Release}
use Rattle.grs_wire.specs.declared.medium.Reply.TheVariants.{Resting, Over}
use Rattle.grs_base.specs.declared.resource.Res.TheVariants as kinds
use Rattle.grs_base.specs.declared.line.Line.TheVariants as lines
use Rattle.grs_base.specs.declared.rnl.Which.TheVariants as which
use Rattle.grs_wire.specs.declared.deck.Choice.TheVariants as choices
use Rattle.grs_wire.specs.declared.medium.Act.TheVariants as acts
use Rattle.grs_wire.specs.declared.told.Verb.TheVariants as verbs

abbrev pub system : ℕ → SysId
system s = record { 0 = s }

-- a task of this system's only job
abbrev pub task_of : ℕ → ℕ → TaskId
task_of s n = record { system = system s; job = 0; task = n }

-- the resource (A, r) of a system, and of the whole complex
abbrev pub own : ℕ → Res
own r = kinds.System (system 0) (65 ∷ []) (r ∷ [])

abbrev pub shared : ℕ → Res
shared r = kinds.Systems (65 ∷ []) (r ∷ [])

abbrev pub enq : ℕ → Ctl → Scope → Ret → Line
enq r c scope ret = lines.Enq (record { q = 65 ∷ []; r = r ∷ []; ctl = c; scope = scope } ∷ []) ret true

abbrev pub deq : ℕ → Scope → Line
deq r scope = lines.Deq (65 ∷ []) (r ∷ []) scope false None true

abbrev pub wait_for : ℕ → Line
wait_for r = lines.Wait (65 ∷ []) (r ∷ []) System true

-- a deck of one job a system, with tasks of these lines
abbrev pub deck_of : List (List (List Line)) → Deck
deck_of systems = record {
  star = false;
  entries = 1;
  limit = 4096;
  lists = record { incl = no_entries which.Incl; excl = no_entries which.Excl; con = no_entries which.Con };
  systems =
      map (λ tasks. record {
        name = 83 ∷ [];
        desk = [];
        jobs = record { name = 74 ∷ []; tasks = map (λ ls. record { name = 84 ∷ []; lines = ls }) tasks } ∷ [];
      })
      systems;
  events = [];
}

-- events: a task goes on, or a system takes its turn of the message, or comes to rest
abbrev pub goes : ℕ → ℕ → Event
goes s n = record { system = system s; choice = choices.Task (task_of s n) }

abbrev pub turn : ℕ → Event
turn s = record { system = system s; choice = choices.Turn }

abbrev pub rest : ℕ → Event
rest s = record { system = system s; choice = choices.Rest }

-- a line that is told in this event by this system
abbrev pub at : ℕ → ℕ → ToldLine → Told
at e s l = record { event = e; system = system s; line = l }

-- the requests that are on record, for each task of each system
abbrev records : World → List (List (List Rec))
records w = map (λ n. map (λ t. t.records) n.tasks.tasks) w.nodes

-- ---- one system with resources of its own
-- a waiting exclusive ECB holds a later shared request; the end of its task lets that one in
abbrev behind_ecb : Deck
behind_ecb =
    deck_of (((enq 66 S System RetNone ∷ []) ∷ (enq 66 E System RetEcb ∷ []) ∷ (enq 66 S System RetNone ∷ []) ∷ [])
    ∷ [])

-- codes 08 and 14, and an end with 138
abbrev two_codes : Deck
two_codes =
    deck_of (((enq 66 E System RetNone ∷ enq 66 E System RetHave ∷ [])
    ∷ (enq 66 E System RetEcb ∷ enq 66 E System RetHave ∷ enq 66 E System RetNone ∷ []) ∷ [])
    ∷ [])

-- a task that is held at a WAIT line for its ECB; its first WAIT is for nothing that it asked for
abbrev waits_for_ecb : Deck
waits_for_ecb =
    deck_of (((enq 66 E System RetNone ∷ deq 66 System ∷ []) ∷ (wait_for 66 ∷ enq 66 E System RetEcb ∷ wait_for 66 ∷ [])
    ∷ [])
    ∷ [])

-- two tasks, each of which asks for what the other has
abbrev deadlock : Deck
deadlock =
    deck_of (((enq 88 E System RetNone ∷ enq 89 E System RetNone ∷ [])
    ∷ (enq 89 E System RetNone ∷ enq 88 E System RetNone ∷ []) ∷ [])
    ∷ [])

pub samples :
    (hist behind_ecb (goes 0 0 ∷ goes 0 1 ∷ goes 0 2 ∷ goes 0 1 ∷ goes 0 1 ∷ [])
    ≡ Enq (task_of 0 0) (own 66) S RetNone C00 ∷ Enq (task_of 0 1) (own 66) E RetEcb C04
    ∷ Enq (task_of 0 2) (own 66) S RetNone Wait ∷ Release (task_of 0 1) (own 66) ∷ [])
    × (told behind_ecb (goes 0 0 ∷ goes 0 1 ∷ goes 0 2 ∷ goes 0 1 ∷ goes 0 1 ∷ [])
    ≡ at 1 0 (Coded (task_of 0 0) 1 0 verbs.Enq C00) ∷ at 2 0 (Coded (task_of 0 1) 1 0 verbs.Enq C04)
    ∷ at 4 0 (Coded (task_of 0 2) 1 0 verbs.Enq C00) ∷ at 5 0 (Ended (task_of 0 1) 0) ∷ [])
    × (told two_codes (goes 0 0 ∷ goes 0 0 ∷ goes 0 1 ∷ goes 0 1 ∷ goes 0 1 ∷ goes 0 1 ∷ goes 0 1 ∷ [])
    ≡ at 1 0 (Coded (task_of 0 0) 1 0 verbs.Enq C00) ∷ at 2 0 (Coded (task_of 0 0) 2 0 verbs.Enq C08)
    ∷ at 3 0 (Coded (task_of 0 1) 1 0 verbs.Enq C04)
    ∷ at 4 0 (Coded (task_of 0 1) 2 0 verbs.Enq C14) ∷ at 5 0 (Coded (task_of 0 1) 3 0 verbs.Enq (End 138))
    ∷ at 7 0 (Ended (task_of 0 1) 138) ∷ [])
    -- the post comes first, then the 00 of the WAIT line
    × (told waits_for_ecb (goes 0 0 ∷ goes 0 1 ∷ goes 0 1 ∷ goes 0 1 ∷ goes 0 1 ∷ goes 0 0 ∷ [])
    ≡ at 1 0 (Coded (task_of 0 0) 1 0 verbs.Enq C00) ∷ at 2 0 (Coded (task_of 0 1) 1 0 verbs.Wait C08)
    ∷ at 3 0 (Coded (task_of 0 1) 2 0 verbs.Enq C04)
    ∷ at 6 0 (Coded (task_of 0 0) 2 0 verbs.Deq C00) ∷ at 6 0 (Post (task_of 0 1) 2)
    ∷ at 6 0 (Coded (task_of 0 1) 3 0 verbs.Wait C00) ∷ [])
    × (told deadlock (goes 0 0 ∷ goes 0 1 ∷ goes 0 0 ∷ goes 0 1 ∷ goes 0 0 ∷ [])
    ≡ at 1 0 (Coded (task_of 0 0) 1 0 verbs.Enq C00) ∷ at 2 0 (Coded (task_of 0 1) 1 0 verbs.Enq C00) ∷ [])
unfolding state_of with_state with_line with_phase with_outstanding with_record without_record with_told with_exclusive
    telling tell_code record_enq after_code replied passes_wait tell_line tell_untold tell_control tell_all tell_new
    decide post ask wait take_line end_step ready_step phase_step may_go prepare finish_quiet finish has first_node
    first_world carry_out chosen placed happens_at happens
samples = (refl, refl, refl, refl, refl)

-- ---- RESERVE of volumes
-- the resource (V, r), of the system or of the whole complex
abbrev own_volume : ℕ → Res
own_volume r = kinds.System (system 0) (86 ∷ []) (r ∷ [])

abbrev shared_volume : ℕ → Res
shared_volume r = kinds.Systems (86 ∷ []) (r ∷ [])

-- a RESERVE of (V, r) with this unit
abbrev reserve : ℕ → ℕ → Line
reserve r unit = lines.Reserve (86 ∷ []) (r ∷ []) E unit RetNone true

-- an entry of a name list for (V, r)
abbrev specific : Which → ℕ → RnlEntry
specific w r = record { which = w; form = Specific; q = 86 ∷ []; r = Some (r ∷ []) }

-- a task that reserves three volumes, of which the first is excluded and the second converted
abbrev volumes : Deck
volumes = record (deck_of (((reserve 49 6657 ∷ reserve 50 6658 ∷ reserve 51 6659 ∷ []) ∷ []) ∷ [])) {
  lists = record {
    incl = no_entries which.Incl;
    excl = record { which = which.Excl; entries = specific which.Excl 49 ∷ [] };
    con = record { which = which.Con; entries = specific which.Con 50 ∷ [] };
  };
}

-- The excluded volume is the system's own, and its unit is reserved. The converted one goes through the message,
-- without its unit: it has its place in the history at event 3, and is told at event 4.
reserves :
    (hist volumes (goes 0 0 ∷ goes 0 0 ∷ turn 0 ∷ turn 0 ∷ [])
    ≡ Enq (task_of 0 0) (own_volume 49) E RetNone C00 ∷ Enq (task_of 0 0) (shared_volume 50) E RetNone C00 ∷ [])
    × (told volumes (goes 0 0 ∷ goes 0 0 ∷ turn 0 ∷ turn 0 ∷ [])
    ≡ at 1 0 (Coded (task_of 0 0) 1 0 verbs.Enq C00) ∷ at 4 0 (Coded (task_of 0 0) 2 0 verbs.Enq C00) ∷ [])
    × (records (run volumes (goes 0 0 ∷ goes 0 0 ∷ turn 0 ∷ turn 0 ∷ []))
    ≡ ((record { res = own_volume 49; ctl = E; rank = 0; told = true; unit = Some 6657; line = 1 }
    ∷ record { res = shared_volume 50; ctl = E; rank = 0; told = true; unit = None; line = 2 } ∷ [])
    ∷ [])
    ∷ [])
unfolding state_of with_state with_line with_phase with_outstanding with_record without_record with_told with_exclusive
    telling tell_code record_enq after_code replied passes_wait tell_line tell_untold tell_control tell_all tell_new
    recalled tell_answer tell_answer_any answer_own process process_entry decide post ask wait take_line end_step
    ready_step phase_step may_go prepare finish_quiet read_entries system_turned all_sent put_in finish_call finish has
    without with_also first_after unseen any_unseen cleared stamped turn_reply wakes rest_after_turn turned turn_row row
    apply first_node first_world carry_out chosen placed happens_at happens
reserves = (refl, refl, refl)

-- ---- a ring
-- Two tasks that want one resource at once or not at all. The first to be put into the message has it; each is
-- told a lap after that.
abbrev at_once : Deck
at_once = deck_of (((enq 66 E Systems RetUse ∷ []) ∷ []) ∷ ((enq 66 E Systems RetUse ∷ []) ∷ []) ∷ [] ∷ [])

abbrev at_once_events : List Event
at_once_events = goes 1 0 ∷ goes 0 0 ∷ turn 0 ∷ turn 1 ∷ turn 2 ∷ turn 0 ∷ turn 1 ∷ []

-- One task asks for a resource and gives it back, and a task of the next system waits for it meanwhile.
abbrev ring_of_three : Deck
ring_of_three =
    deck_of (((enq 66 E Systems RetNone ∷ deq 66 Systems ∷ []) ∷ []) ∷ ((enq 66 E Systems RetNone ∷ []) ∷ []) ∷ [] ∷ [])

abbrev ring_events : List Event
ring_events =
    goes 1 0 ∷ goes 0 0 ∷ turn 0 ∷ turn 1 ∷ turn 2 ∷ turn 0 ∷ turn 1 ∷ goes 0 0 ∷ turn 2 ∷ turn 0
    ∷ turn 1 ∷ turn 2 ∷ turn 0 ∷ goes 0 0 ∷ goes 1 0 ∷ turn 1 ∷ turn 2 ∷ turn 0 ∷ turn 1 ∷ goes 1 0 ∷ []

-- The first task gives the resource back while the second, which has an ECB, is about to.
abbrev about_to_leave : Deck
about_to_leave =
    deck_of (((enq 66 E Systems RetNone ∷ deq 66 Systems ∷ []) ∷ [])
    ∷ ((enq 66 E Systems RetEcb ∷ deq 66 Systems ∷ []) ∷ []) ∷ [])

-- up to where both have asked for their DEQ and the first of these is in the message; then the message goes on
abbrev both_leave : List Event
both_leave = goes 0 0 ∷ goes 1 0 ∷ turn 0 ∷ turn 1 ∷ turn 0 ∷ turn 1 ∷ goes 0 0 ∷ goes 1 0 ∷ turn 0 ∷ []

abbrev message_goes_on : List Event
message_goes_on = turn 1 ∷ turn 0 ∷ turn 1 ∷ []

-- the record of the line 1 of each task
abbrev asked_first : Bool → Rec
asked_first is_told = record { res = shared 66; ctl = E; rank = 0; told = is_told; unit = None; line = 1 }

rings :
    (hist at_once at_once_events
    ≡ Enq (task_of 0 0) (shared 66) E RetUse C00 ∷ Enq (task_of 1 0) (shared 66) E RetUse C04 ∷ [])
    × (told at_once at_once_events
    ≡ at 6 0 (Coded (task_of 0 0) 1 0 verbs.Enq C00) ∷ at 7 1 (Coded (task_of 1 0) 1 0 verbs.Enq C04) ∷ [])
    × (hist ring_of_three ring_events
    ≡ Enq (task_of 0 0) (shared 66) E RetNone C00 ∷ Enq (task_of 1 0) (shared 66) E RetNone Wait
    ∷ Deq (task_of 0 0) (shared 66) false C00 ∷ Release (task_of 1 0) (shared 66) ∷ [])
    × (told ring_of_three ring_events
    ≡ at 6 0 (Coded (task_of 0 0) 1 0 verbs.Enq C00) ∷ at 11 1 (Coded (task_of 1 0) 1 0 verbs.Enq C00)
    ∷ at 13 0 (Coded (task_of 0 0) 2 0 verbs.Deq C00)
    ∷ at 14 0 (Ended (task_of 0 0) 0) ∷ at 20 1 (Ended (task_of 1 0) 0) ∷ [])
    × (hist about_to_leave (both_leave ++ message_goes_on)
    ≡ Enq (task_of 0 0) (shared 66) E RetNone C00 ∷ Enq (task_of 1 0) (shared 66) E RetEcb C04
    ∷ Deq (task_of 0 0) (shared 66) false C00 ∷ Deq (task_of 1 0) (shared 66) false C00 ∷ [])
    -- the ECB isn't posted, but the record says that its task is told
    × (told about_to_leave (both_leave ++ message_goes_on)
    ≡ at 5 0 (Coded (task_of 0 0) 1 0 verbs.Enq C00) ∷ at 6 1 (Coded (task_of 1 0) 1 0 verbs.Enq C04)
    ∷ at 11 0 (Coded (task_of 0 0) 2 0 verbs.Deq C00) ∷ at 12 1 (Coded (task_of 1 0) 2 0 verbs.Deq C00) ∷ [])
    × (records (run about_to_leave both_leave) ≡ ((asked_first true ∷ []) ∷ []) ∷ ((asked_first false ∷ []) ∷ []) ∷ [])
    × (records (run about_to_leave (both_leave ++ turn 1 ∷ []))
    ≡ ((asked_first true ∷ []) ∷ []) ∷ ((asked_first true ∷ []) ∷ []) ∷ [])
unfolding state_of with_state with_line with_phase with_outstanding with_record without_record with_told with_exclusive
    telling tell_code record_enq after_code replied passes_wait tell_line tell_untold tell_control tell_all tell_new
    recalled tell_answer tell_answer_any answer_own process process_entry decide post ask wait take_line end_step
    ready_step phase_step may_go prepare finish_quiet read_entries system_turned all_sent put_in finish_call finish has
    without with_also first_after unseen any_unseen cleared stamped turn_reply wakes rest_after_turn turned turn_row row
    apply first_node first_world carry_out chosen placed happens_at happens
rings = (refl, refl, refl, refl, refl, refl, refl, refl)

-- ---- rest
-- two systems without tasks
abbrev idle_systems : Deck
idle_systems = deck_of ([] ∷ [] ∷ [])

-- what a system is replied that comes to rest in this world
abbrev rest_reply : World → ℕ → Reply
rest_reply w s = reply_to w.medium (system s) (record { known = 0; act = acts.Rest })

-- The first system that comes to rest has to wait for the other; with that one all is over. Nothing is told, and
-- a system at which something is pending doesn't come to rest.
rests :
    (rest_reply (run idle_systems []) 0 ≡ Resting)
    × ((run idle_systems (rest 0 ∷ [])).medium.rest ≡ 1)
    × (rest_reply (run idle_systems (rest 0 ∷ [])) 1 ≡ Over)
    × ((run idle_systems (rest 0 ∷ rest 1 ∷ [])).medium.rest ≡ 3)
    × (told idle_systems (rest 0 ∷ rest 1 ∷ []) ≡ [])
    × (hist idle_systems (rest 0 ∷ rest 1 ∷ []) ≡ [])
    × ((run at_once (rest 0 ∷ rest 2 ∷ [])).medium.rest ≡ 4)
unfolding has with_also medium_at_end rest_row row apply is_pending prepare finish_star finish_call finish first_node
    first_world carry_out chosen placed happens_at happens
rests = (refl, refl, refl, refl, refl, refl, refl)

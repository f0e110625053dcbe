-- Worked lines, by which the definition of agreement is checked: what it accepts, and what it refuses.
use Rattle.grs_world.proofs.Common.{[], ◌++◌, ◌==◌, ◌∷◌, ◌≡◌, after_code, ap, arith, ask, C00, C04, C08, carry_out}
use Rattle.grs_world.proofs.Common.{chosen, Coded, decide, Deck, Desk, E, end_step, Ended, Event, false, finish}
use Rattle.grs_world.proofs.Common.{finish_quiet, first_node, first_world, Fixed, happens, happens_at, has, hist}
use Rattle.grs_world.proofs.Common.{HistEntry, List, map, may_go, Moment, Order, passes_wait, phase_step, placed, post}
use Rattle.grs_world.proofs.Common.{prepare, Purged, ready_step, record_enq, refl, replied, RetEcb, RetNone, StarDone}
use Rattle.grs_world.proofs.Common.{state_of, SysId, SystemDef, take_line, tell_all, tell_code, tell_control, tell_line}
use Rattle.grs_world.proofs.Common.{tell_new, tell_untold, telling, Told, told, ToldLine, true, VaryDone, Wait, wait}
use Rattle.grs_world.proofs.Common.{with_exclusive, with_line, with_outstanding, with_phase, with_record, with_state}
use Rattle.grs_world.proofs.Common.{with_told, without_record, ℕ}
use Rattle.grs_wire.specs.declared.told.ToldLine.TheVariants.{Post}
use Rattle.grs_world.specs.Agree.{Agrees, RemovalsTold, is_of_event}
use Rattle.grs_wire.specs.declared.told.Said.TheVariants.{StarAlready, VaryNoSuch}
use Rattle.grs_base.specs.declared.line.Scope.TheVariants.{System}
use Rattle.grs_wire.specs.declared.deck.Order.TheVariants.{Star, Vary}
use Rattle.grs_wire.specs.declared.history.HistEntry.TheVariants.{Enq, Deq, Remove}
use Rattle.grs_world.proofs.samples.Samples.{system, task_of, own, enq, deq, wait_for, deck_of, goes, at}
use Rattle.grs_wire.specs.declared.told.Verb.TheVariants as verbs

-- ---- a WAIT for an element that was queued anew
-- The first task has a resource, gives it up, and asks for it once more, by ECB, while the second has it.
abbrev asks_again : Deck
asks_again =
    deck_of (((enq 66 E System RetNone ∷ deq 66 System ∷ enq 66 E System RetEcb ∷ wait_for 66 ∷ [])
    ∷ (enq 66 E System RetNone ∷ deq 66 System ∷ []) ∷ [])
    ∷ [])

abbrev again_events : List Event
again_events = goes 0 0 ∷ goes 0 0 ∷ goes 0 1 ∷ goes 0 0 ∷ goes 0 1 ∷ goes 0 0 ∷ []

abbrev again_history : List HistEntry
again_history =
    Enq (task_of 0 0) (own 66) E RetNone C00 ∷ Deq (task_of 0 0) (own 66) false C00
    ∷ Enq (task_of 0 1) (own 66) E RetNone C00
    ∷ Enq (task_of 0 0) (own 66) E RetEcb C04 ∷ Deq (task_of 0 1) (own 66) false C00 ∷ []

-- what is told before the post, the post, and the WAIT line
abbrev before_post : List Told
before_post =
    at 1 0 (Coded (task_of 0 0) 1 0 verbs.Enq C00) ∷ at 2 0 (Coded (task_of 0 0) 2 0 verbs.Deq C00)
    ∷ at 3 0 (Coded (task_of 0 1) 1 0 verbs.Enq C00)
    ∷ at 4 0 (Coded (task_of 0 0) 3 0 verbs.Enq C04) ∷ at 5 0 (Coded (task_of 0 1) 2 0 verbs.Deq C00) ∷ []

abbrev the_post : Told
the_post = at 5 0 (Post (task_of 0 0) 3)

abbrev the_wait : Told
the_wait = at 6 0 (Coded (task_of 0 0) 4 0 verbs.Wait C00)

-- the moment of a line of a task, at which this history stands
abbrev behind : List HistEntry → List Told → Moment
behind history before = record { history = history; fixed = []; before = before }

runs_again :
    (hist asks_again again_events ≡ again_history)
    × (told asks_again again_events ≡ before_post ++ the_post ∷ the_wait ∷ [])
unfolding state_of with_state with_line with_phase with_outstanding with_record without_record with_told with_exclusive
    telling tell_code record_enq after_code replied passes_wait tell_line tell_untold tell_control tell_all tell_new
    decide post ask wait take_line end_step ready_step phase_step may_go prepare finish_quiet finish has first_node
    first_world carry_out chosen placed happens_at happens
runs_again = (refl, refl)

-- behind the post the WAIT may be told 00
waits_told : Agrees asks_again (behind again_history (before_post ++ the_post ∷ [])) the_wait
waits_told = (refl, (refl, (omega arith, (refl, refl), refl, refl)))

-- without it not: the control told in line 1 is that of an element that was given up
waits_untold : Agrees asks_again (behind again_history before_post) the_wait → ⊥
waits_untold a = let e : false ≡ true = a.1.1.1.1 in absurd (cc)

-- an element that was never given up needs no more than the code of its line
abbrev asks_once : Deck
asks_once = deck_of (((enq 66 E System RetNone ∷ wait_for 66 ∷ []) ∷ []) ∷ [])

waits_at_once :
    Agrees asks_once
    (behind (Enq (task_of 0 0) (own 66) E RetNone C00 ∷ []) (at 1 0 (Coded (task_of 0 0) 1 0 verbs.Enq C00) ∷ []))
    (at 2 0 (Coded (task_of 0 0) 2 0 verbs.Wait C00))
waits_at_once = (refl, (refl, (omega arith, (refl, refl), refl, refl)))

-- ---- a task's lines that are wrong, or told out of their order
-- the first task is told this, in this event
abbrev told_first : ℕ → ToldLine → Told
told_first e line = at e 0 line

abbrev first_code : ToldLine
first_code = Coded (task_of 0 0) 1 0 verbs.Enq C00

enq_wrong : Agrees asks_again (behind again_history []) (told_first 1 (Coded (task_of 0 0) 1 0 verbs.Enq C04)) → ⊥
enq_wrong a = let e : C00 ≡ C04 = a.1.1.1.0 in absurd (cc)

deq_wrong : Agrees asks_again (behind again_history []) (told_first 2 (Coded (task_of 0 0) 2 0 verbs.Deq C08)) → ⊥
deq_wrong a = let e : C00 ≡ C08 = a.1.1.1 in absurd (cc)

part_wrong : Agrees asks_again (behind again_history []) (told_first 1 (Coded (task_of 0 0) 1 1 verbs.Enq C00)) → ⊥
part_wrong a = absurd (omega (arith, a.0))

-- no control where another task has it
control_early :
    Agrees asks_again
    (behind (Enq (task_of 0 1) (own 66) E RetNone C00 ∷ Enq (task_of 0 0) (own 66) E RetNone Wait ∷ []) [])
    (told_first 2 first_code)
    → ⊥
control_early a = let e : false ≡ true = a.1.1.1.1 refl in absurd (cc)

post_early : Agrees asks_again (behind again_history []) the_post → ⊥
post_early a = let e : false ≡ true = a.1.2 in absurd (cc)

post_twice : Agrees asks_again (behind again_history (before_post ++ the_post ∷ [])) the_post → ⊥
post_twice a = let e : true ≡ false = a.1.3 in absurd (cc)

codes_backwards :
    Agrees asks_again (behind again_history (told_first 2 (Coded (task_of 0 0) 2 0 verbs.Deq C00) ∷ []))
    (told_first 3 first_code)
    → ⊥
codes_backwards a = let e : false ≡ true = a.1.1.2 in absurd (cc)

behind_end :
    Agrees asks_again (behind again_history (told_first 1 (Ended (task_of 0 0) 0) ∷ [])) (told_first 2 first_code)
    → ⊥
behind_end a = let e : true ≡ false = a.1.1.3 in absurd (cc)

ends_early :
    Agrees asks_again (behind (Enq (task_of 0 0) (own 66) E RetNone C00 ∷ []) []) (told_first 2 (Ended (task_of 0 0) 0))
    → ⊥
ends_early a = let e : own 66 ∷ [] ≡ [] = a.1.0 in absurd (cc)

-- nor is a WAIT told 08 where an element is
waits_for_none :
    Agrees asks_again (behind again_history (before_post ++ the_post ∷ []))
    (told_first 6 (Coded (task_of 0 0) 4 0 verbs.Wait C08))
    → ⊥
waits_for_none a = let e : true ≡ false = a.1.1.1 in absurd (cc)

-- ---- who tells
-- a line is told by its event, and by the system of that event
of_event :
    (is_of_event again_events the_wait ≡ true)
    × (is_of_event again_events (record the_wait { system = system 1 }) ≡ false)
    × (is_of_event again_events (record the_wait { event = 7 }) ≡ false)
    × (is_of_event again_events (record the_wait { event = 0 }) ≡ false)
of_event = (refl, refl, refl, refl)

other_system : system 1 ≡ system 0 → ⊥
other_system e = let f : false ≡ true = ap (λ (s : SysId). s.0 == 0) e in absurd (cc)

-- no system tells the tasks of another
told_elsewhere :
    Agrees asks_again (behind again_history (before_post ++ the_post ∷ [])) (record the_wait { system = system 1 })
    → ⊥
told_elsewhere a = other_system a.1.0

-- ---- desks
-- a system without tasks, at whose desk these commands stand
abbrev commanded : List Order → SystemDef
commanded orders = record { name = 83 ∷ []; desk = map (λ o. record { at = 0; order = o }) orders; jobs = [] }

-- the first system changes the complex to star mode and then removes the third; the second does the same
abbrev desks : Deck
desks = record (deck_of []) {
  systems = commanded (Star ∷ Vary (system 2) ∷ []) ∷ commanded (Star ∷ Vary (system 2) ∷ []) ∷ commanded [] ∷ [];
}

-- the moment of a line of a desk: the event fixed this
abbrev fixing : List (SysId × Fixed) → List Told → Moment
fixing fixed before = record { history = []; fixed = fixed; before = before }

abbrev star_done : Told
star_done = at 1 0 (Desk 1 StarDone)

-- the first to command it changes the complex, and the next is told that it has changed
pub star_once : Agrees desks (fixing [] []) star_done
    × Agrees desks (fixing [] (star_done ∷ [])) (at 2 1 (Desk 1 StarAlready))
star_once = ((omega arith, refl, refl), (omega arith, refl, refl))

star_twice : Agrees desks (fixing [] (star_done ∷ [])) (at 2 1 (Desk 1 StarDone)) → ⊥
star_twice a = let e : true ≡ false = a.2 in absurd (cc)

-- nobody is told so before, nor in the very event
star_unchanged : Agrees desks (fixing [] []) (at 2 1 (Desk 1 StarAlready)) → ⊥
star_unchanged a = let e : false ≡ true = a.2 in absurd (cc)

star_at_once : Agrees desks (fixing [] (star_done ∷ [])) (at 1 1 (Desk 1 StarAlready)) → ⊥
star_at_once a = let e : false ≡ true = a.2 in absurd (cc)

-- a removal is told by the event that makes it, and of its own system
removed : Agrees desks (fixing ((system 0, Purged (system 2)) ∷ []) []) (at 3 0 (Desk 2 VaryDone))
removed = (omega arith, refl, refl)

-- an event that makes one tells it
removal_untold : RemovalsTold desks 3 ((system 0, Purged (system 2)) ∷ []) [] → ⊥
removal_untold told = let e : false ≡ true = told (system 0) (system 2) refl in absurd (cc)

removed_by_none : Agrees desks (fixing [] []) (at 3 0 (Desk 2 VaryDone)) → ⊥
removed_by_none a = let e : false ≡ true = a.2 in absurd (cc)

removed_by_other : Agrees desks (fixing ((system 1, Purged (system 2)) ∷ []) []) (at 3 0 (Desk 2 VaryDone)) → ⊥
removed_by_other a = let e : false ≡ true = a.2 in absurd (cc)

removed_another : Agrees desks (fixing ((system 0, Purged (system 1)) ∷ []) []) (at 3 0 (Desk 2 VaryDone)) → ⊥
removed_another a = let e : false ≡ true = a.2 in absurd (cc)

-- who finds a system removed already is told so, where the history removes it
removed_before :
    Agrees desks (behind (Remove (system 0) (system 2) ∷ []) []) (at 4 1 (Desk 2 VaryNoSuch))
    × (Agrees desks (behind [] []) (at 4 1 (Desk 2 VaryNoSuch)) → ⊥)
removed_before = ((omega arith, refl, refl), λ a. let e : false ≡ true = a.2 in absurd (cc))

-- the lines of a desk are told in order, each once, and by its command
desk_backwards : Agrees desks (fixing [] (at 2 0 (Desk 2 VaryNoSuch) ∷ [])) (at 3 0 (Desk 1 StarDone)) → ⊥
desk_backwards a = let e : false ≡ true = a.1 in absurd (cc)

desk_twice : Agrees desks (fixing [] (star_done ∷ [])) (at 2 0 (Desk 1 StarAlready)) → ⊥
desk_twice a = let e : false ≡ true = a.1 in absurd (cc)

other_command : Agrees desks (fixing [] []) (at 2 0 (Desk 2 StarDone)) → ⊥
other_command a = absurd (a.2)

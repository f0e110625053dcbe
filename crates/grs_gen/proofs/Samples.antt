-- The deck of 1 and its first rounds, and parts of other decks, by hand from what the generator is said to make.
use Rattle.std.proofs.Common.{◌≡◌, ℕ, true, false, List, [], ◌∷◌, ◌++◌, length, refl, None}
use Rattle.std.specs.Prelude.{codes}
use Rattle.std.specs.Fmt.{digits}
use Rattle.grs_base.specs.Rnl.{no_entries}
use Rattle.grs_base.specs.declared.line.Line.{Line}
use Rattle.grs_base.specs.declared.line.Line.TheVariants.{Enq, Deq}
use Rattle.grs_base.specs.declared.line.Scope.TheVariants.{Systems}
use Rattle.grs_base.specs.declared.resource.Ctl.{Ctl}
use Rattle.grs_base.specs.declared.resource.Ctl.TheVariants.{E, S}
use Rattle.grs_base.specs.declared.resource.Ret.TheVariants.{RetNone}
use Rattle.grs_base.specs.declared.resource.SysId.{SysId}
use Rattle.grs_base.specs.declared.resource.TaskId.{TaskId}
use Rattle.grs_base.specs.declared.rnl.Which.TheVariants.{Incl, Excl, Con}
use Rattle.grs_wire.specs.declared.deck.Choice.TheVariants.{Task, Turn, Send, Take, Settle, Tell, Switch}
use Rattle.grs_wire.specs.declared.deck.Deck.{Deck}
use Rattle.grs_wire.specs.declared.deck.Event.{Event}
use Rattle.grs_wire.specs.declared.deck.Order.TheVariants.{Star}
use Rattle.grs_gen.specs.Generated.{system_count, asked_count, system_name, control_of, lines_of, deck_of}
use Rattle.grs_gen.specs.Rounds.{by, round_of}

abbrev enq : List ℕ → Ctl → Line
enq r c = Enq (record { q = codes "GEN"; r = r; ctl = c; scope = Systems } ∷ []) RetNone true

abbrev deq : List ℕ → Line
deq r = Deq (codes "GEN") r Systems false None true

-- Two systems. Task 1 asks for resource 1 + 1 = 2: at system 0 with 0 + 1 + 1 = 2, so shared, and at system 1 with 3,
-- so exclusively.
deck_of_1 : deck_of 1 ≡ record {
  star = false;
  entries = 4;
  limit = 4096;
  lists = record { incl = no_entries Incl; excl = no_entries Excl; con = no_entries Con };
  systems =
      record {
        name = codes "SYA";
        desk = record { at = 0; order = Star } ∷ [];
        jobs =
            record {
              name = codes "J1";
              tasks = record { name = codes "T1"; lines = enq (codes "R2") S ∷ deq (codes "R2") ∷ [] } ∷ [];
            }
            ∷ [];
      }
      ∷ record {
        name = codes "SYB";
        desk = [];
        jobs =
            record {
              name = codes "J1";
              tasks = record { name = codes "T1"; lines = enq (codes "R2") E ∷ deq (codes "R2") ∷ [] } ∷ [];
            }
            ∷ [];
      }
      ∷ [];
  events = [];
}
unfolding deck_of digits
deck_of_1 = refl

abbrev task : ℕ → TaskId
task s = record { system = record { 0 = s }; job = 0; task = 0 }

-- nine events a system
abbrev events_of : ℕ → List Event
events_of s =
    by (record { 0 = s }) (Task (task s)) ∷ by (record { 0 = s }) Turn ∷ by (record { 0 = s }) (Send (task s))
    ∷ by (record { 0 = s }) Take ∷ by (record { 0 = s }) Settle
    ∷ by (record { 0 = s }) (Tell 0) ∷ by (record { 0 = s }) (Tell 1) ∷ by (record { 0 = s }) (Tell 2)
    ∷ by (record { 0 = s }) (Tell 3) ∷ []

rounds_of_1 :
    (round_of (deck_of 1) 1 ≡ events_of 0 ++ events_of 1)
    × (round_of (deck_of 1) 2 ≡ events_of 0 ++ events_of 1)
    × (round_of (deck_of 1) 3 ≡ by (record { 0 = 0 }) Switch ∷ events_of 0 ++ events_of 1)
unfolding deck_of round_of digits
rounds_of_1 = (refl, refl, refl)

-- how many systems, and for how many resources a task asks
counts : (system_count 7 ≡ 8) × (system_count 8 ≡ 1) × (system_count 63 ≡ 8) × (system_count 64 ≡ 1)
    × (asked_count 7 ≡ 7) × (asked_count 64 ≡ 8) × (system_name 7 ≡ codes "SYH")
counts = (refl, refl, refl, refl, refl, refl, refl)

-- The eighth system's task 12 of a deck of 64 asks for resources 13 to 15 and 0 to 4, with 7 + 12 + 1 = 20 and so on:
-- the second of three is exclusive.
last_lines : lines_of 64 7 12 ≡
    enq (codes "R13") S ∷ deq (codes "R13") ∷ enq (codes "R14") E ∷ deq (codes "R14") ∷ enq (codes "R15") S
    ∷ deq (codes "R15")
    ∷ enq (codes "R0") S ∷ deq (codes "R0") ∷ enq (codes "R1") E ∷ deq (codes "R1") ∷ enq (codes "R2") S
    ∷ deq (codes "R2")
    ∷ enq (codes "R3") S ∷ deq (codes "R3") ∷ enq (codes "R4") E ∷ deq (codes "R4") ∷ []
unfolding digits
last_lines = refl

-- a round of the deck of 7: eight systems of 7 tasks, each with 14 events by tasks and 7 others
long_round : length (round_of (deck_of 7) 3) ≡ 169
unfolding deck_of round_of digits
long_round = refl

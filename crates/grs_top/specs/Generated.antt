-- The run of a deck that is made from a number, the line that is written of it, and how it ends.
use Rattle.std.specs.Prelude.{◌≡◌, ℕ, zero, suc, Bool, true, false, ◌+◌, ◌<◌, ◌⊎◌, ◌==◌, cond, List, [], ◌∷◌, ◌++◌}
use Rattle.std.specs.Prelude.{length, filter, Option, codes, if◌then◌else◌}
use Rattle.std.specs.Fmt.{decimal}
use Rattle.std.specs.Io.KnownBytes.{Appends}
use Rattle.deck_tasks.specs.Tasks.{tasks_of}
use Rattle.grs_gen.specs.Generated.{IsSize, deck_of}
use Rattle.grs_gen.specs.Rounds.{round_of}
use Rattle.grs_io.specs.Faults.{last_count, HasRisen}
use Rattle.grs_io.specs.Moved.{AppendsPart}
use Rattle.grs_display.specs.Lines.{line}
use Rattle.grs_wire.specs.History.{answered}
use Rattle.grs_wire.specs.declared.deck.Deck.{Deck as DeckValue}
use Rattle.grs_wire.specs.declared.deck.Event.{Event}
use Rattle.grs_wire.specs.declared.seen.TaskEnd.{TaskEnd}
use Rattle.grs_wire.specs.declared.seen.TaskEnd.TheVariants.{Ended, Removed, Waits as WaitsEnd, Open}
use Rattle.grs_world.specs.Agree.{Sound}
use Rattle.grs_world.specs.Running.{at_rest, task_end}
use Rattle.grs_world.specs.World.{World, first_world, run_from, run}
use Rattle.grs_top.specs.declared.generate.Figures.{Figures}
use Rattle.grs_top.specs.declared.status.Status.{Status}
use Rattle.grs_top.specs.declared.status.Status.TheVariants.{Done, Waits, Deck, Words, ReadFault, WriteFault}
use Rattle.grs_top.specs.declared.status.Status.TheVariants.{NoMemory, Bad}

-- rounds of events, at most
abbrev pub most_rounds : ℕ
most_rounds = 20000

-- a world, and how many rounds with how many events led to it
pub record Rounds : Type 0 where
  pub world : World
  pub made : ℕ
  pub events : ℕ

-- before the first round
abbrev pub no_rounds : DeckValue → Rounds
no_rounds deck = record { world = first_world deck; made = 0; events = 0 }

-- a round more, of which each event happens
unfoldable pub next_round : DeckValue → Rounds → Rounds
next_round deck r =
    let es = round_of deck (r.made + 1) in
    record { world = run_from deck r.world es; made = r.made + 1; events = r.events + length es }

-- Round after round, so many more at most. Before each the world is looked at, and none is made where it is at rest.
unfoldable pub rounds_from : DeckValue → ℕ → Rounds → Rounds
rounds_from deck zero r = r
rounds_from deck (suc left) r = cond (at_rest deck r.world) r (rounds_from deck left (next_round deck r))

-- the rounds of a deck
unfoldable pub rounds_of : DeckValue → Rounds
rounds_of deck = rounds_from deck most_rounds (no_rounds deck)

abbrev pub is_ended : TaskEnd → Bool
is_ended Ended = true
is_ended Removed = false
is_ended WaitsEnd = false
is_ended Open = false

-- how many tasks of a deck have ended in a world
abbrev pub ended_in : DeckValue → World → ℕ
ended_in deck w = length (filter (λ t. is_ended (task_end w.medium.removed w.nodes t)) (tasks_of deck))

-- what rounds of a deck come to: how many systems and tasks it has, how many rounds and events were made, how many
-- entries the history has, how many tasks have ended, and the mode
abbrev pub figures_after : DeckValue → Rounds → Figures
figures_after deck r = record {
  systems = length deck.systems;
  tasks = length (tasks_of deck);
  rounds = r.made;
  events = r.events;
  history = length (answered r.world.fixed);
  ended = ended_in deck r.world;
  star = r.world.medium.star;
}

unfoldable pub figures_of : DeckValue → Figures
figures_of deck = figures_after deck (rounds_of deck)

-- GEN n SYSTEMS s TASKS t ROUNDS r EVENTS e HISTORY h ENDED d MODE m
unfoldable pub gen_line : ℕ → Figures → List ℕ
gen_line n f = line (
    codes "GEN" ∷ decimal n
    ∷ codes "SYSTEMS" ∷ decimal f.systems
    ∷ codes "TASKS" ∷ decimal f.tasks
    ∷ codes "ROUNDS" ∷ decimal f.rounds
    ∷ codes "EVENTS" ∷ decimal f.events
    ∷ codes "HISTORY" ∷ decimal f.history
    ∷ codes "ENDED" ∷ decimal f.ended
    ∷ codes "MODE" ∷ (if f.star then codes "STAR" else codes "RING") ∷ [])

-- the line that is written of a number
unfoldable pub gen_text : ℕ → List ℕ
gen_text n = gen_line n (figures_of (deck_of n))

-- Done where all tasks have ended
abbrev pub status_of : Figures → Status
status_of f = if f.ended == f.tasks then Done else Waits

-- how the run of a number ends
unfoldable pub gen_ending : ℕ → Status
gen_ending n = status_of (figures_of (deck_of n))

-- The line is written whole, no write failed, and the status says how the run ends.
pub record WritesLine (n : ℕ) (old new : Option (List ℕ)) (failed_writes failed_writes' : ℕ) (status : Status) :
    Type 0 where
  pub written : Appends old new (gen_text n)
  pub failed : failed_writes' ≡ failed_writes
  pub ends : status ≡ gen_ending n

-- A write failed, and a part of the line is written, but not all of it.
pub record FailsLine (n : ℕ) (old new : Option (List ℕ)) (failed_writes failed_writes' : ℕ) : Type 0 where
  pub written : AppendsPart old new (gen_text n)
  pub failed : HasRisen failed_writes failed_writes'

-- No write failed, and nothing is written.
pub record WritesNothing (old new : Option (List ℕ)) (failed_writes failed_writes' : ℕ) : Type 0 where
  pub written : new ≡ old
  pub failed : failed_writes' ≡ failed_writes

-- What stands at a sink after the run of a number, by the status. No other status comes.
abbrev pub AnswersGen : ℕ → Option (List ℕ) → Option (List ℕ) → ℕ → ℕ → Status → Type 0
AnswersGen n old new failed_writes failed_writes' Done = WritesLine n old new failed_writes failed_writes' Done
AnswersGen n old new failed_writes failed_writes' Waits = WritesLine n old new failed_writes failed_writes' Waits
AnswersGen n old new failed_writes failed_writes' Deck = ⊥
AnswersGen n old new failed_writes failed_writes' Words = ⊥
AnswersGen n old new failed_writes failed_writes' ReadFault = ⊥
AnswersGen n old new failed_writes failed_writes' WriteFault = FailsLine n old new failed_writes failed_writes'
AnswersGen n old new failed_writes failed_writes' NoMemory = WritesNothing old new failed_writes failed_writes'
AnswersGen n old new failed_writes failed_writes' Bad = ⊥

-- No write fails, and the count of those that did isn't at its last value, where it can't rise: then the whole line is
-- written, and the status says how the run ends, unless memory is wanted.
abbrev pub LineUnlessMemory : Type 0
LineUnlessMemory = (n : ℕ) (old new : Option (List ℕ)) (failed_writes failed_writes' : ℕ) (status : Status)
    → AnswersGen n old new failed_writes failed_writes' status → failed_writes' ≡ failed_writes
    → failed_writes < last_count
    → (Appends old new (gen_text n) × (status ≡ gen_ending n)) ⊎ (status ≡ NoMemory)

-- the events of so many rounds, one round behind the other
abbrev pub events_of : DeckValue → ℕ → List Event
events_of deck zero = []
events_of deck (suc made) = events_of deck made ++ round_of deck (made + 1)

-- These events are those of the rounds of a deck, as many as are told, and the world is that of their run. The run is
-- sound, and the world is at rest, or no more rounds may be made.
pub record AreRounds (deck : DeckValue) (es : List Event) : Type 0 where
  pub rounds : es ≡ events_of deck (rounds_of deck).made
  pub events : (rounds_of deck).events ≡ length es
  pub world : (rounds_of deck).world ≡ run deck es
  pub sound : Sound deck es
  pub ends : (at_rest deck (rounds_of deck).world ≡ true) ⊎ ((rounds_of deck).made ≡ most_rounds)

-- The rounds of the deck of a number are a run of it.
abbrev pub GeneratedRuns : Type 0
GeneratedRuns = (n : ℕ) → IsSize n → (es : List Event) × AreRounds (deck_of n) es

-- What the report of a deck shows, and whether it waits.
use Rattle.std.specs.Prelude.{ℕ, List, if◌then◌else◌}
use Rattle.grs_base.specs.Rows.{rows_of}
use Rattle.grs_wire.specs.declared.deck.Event.{Event}
use Rattle.grs_wire.specs.declared.deck.Deck.{Deck as DeckValue}
use Rattle.grs_wire.specs.declared.seen.Seen.{Seen}
use Rattle.grs_wire.specs.History.{replay}
use Rattle.grs_world.specs.World.{run, hist, told}
use Rattle.grs_world.specs.Running.{units_of}
use Rattle.grs_report.specs.Report.{report}
use Rattle.grs_report.specs.Ends.{all_ended}
use Rattle.grs_top.specs.declared.status.Status.{Status}
use Rattle.grs_top.specs.declared.status.Status.TheVariants.{Done, Waits}
use Rattle.deck_tasks.specs.Tasks.{tasks_of}
use Rattle.grs_top.specs.Tasks.{ends_at}

-- What a run of a deck shows: its events and history, what was told, the lists that the history leaves,
-- the units that are reserved in hardware, the lock words and the mode of the medium, and the end of each task.
unfoldable pub seen_of_run : DeckValue → List Event → Seen
seen_of_run deck es = record {
  events = es;
  hist = hist deck es;
  told = told deck es;
  queues = rows_of (replay deck.limit (hist deck es));
  units = units_of (run deck es).nodes;
  words = (run deck es).medium.words;
  star = (run deck es).medium.star;
  ended = ends_at (run deck es).medium.removed (run deck es).nodes (tasks_of deck);
}

-- the report of the run of these events
unfoldable pub report_of : DeckValue → List Event → List ℕ
report_of deck es = report deck (seen_of_run deck es)

-- how the run of these events ends: Done where each task has ended, or was removed with its system
unfoldable pub ending : DeckValue → List Event → Status
ending deck es = if all_ended (seen_of_run deck es).ended then Done else Waits

-- Which runs the commands report that remove no system in star mode that manages a lock entry, and none there before
-- all live ones have changed.
use Rattle.std.specs.Prelude.{ℕ, List}
use Rattle.grs_world.specs.InStar.{NoneTakesEntries}
use Rattle.grs_world.specs.Stopped.{stopped}
use Rattle.grs_top.specs.Due.{IsAnswered}
use Rattle.grs_top.specs.Schedules.{unscheduled}
use Rattle.grs_top.specs.declared.status.Status.{Status}
use Rattle.grs_top.specs.declared.words.Command.{Command}
use Rattle.grs_top.specs.declared.words.Command.TheVariants.{Replay, Run, Stop}

-- So it is by the events of which a command reports the run: by the deck's; by those that were made; or by those of the
-- run in which a system stops.
abbrev pub IsSpared : (c : Command) (text out : List ℕ) (status : Status) → IsAnswered c text out status → Type 0
IsSpared Replay text out status a = NoneTakesEntries (unscheduled a.input) a.input.events
IsSpared Run text out status a = NoneTakesEntries (unscheduled a.input) a.is_text.events
IsSpared (Stop x) text out status a =
    NoneTakesEntries (unscheduled a.input) (stopped (unscheduled a.input) a.is_text.system x.events a.input.events)
IsSpared _ text out status a = Unit {0}

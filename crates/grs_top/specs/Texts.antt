-- What is written of a deck, of calls of latches, or of the report behind a deck, and the status where all of it is.
use Rattle.std.specs.Prelude.{◌≡◌, ℕ, true, List}
use Rattle.grs_base.specs.Rows.{rows_of}
use Rattle.grs_wire.specs.History.{replay}
use Rattle.grs_wire.specs.declared.deck.Deck.{Deck as DeckValue}
use Rattle.grs_wire.specs.declared.deck.Event.{Event}
use Rattle.grs_world.specs.Agree.{Sound, RemovedTellNothing}
use Rattle.grs_world.specs.AtRest.{NothingIsLost}
use Rattle.grs_world.specs.InStar.{NoneTakesEntries}
use Rattle.grs_world.specs.Passed.{PassedIsTold}
use Rattle.grs_world.specs.Running.{at_rest}
use Rattle.grs_world.specs.World.{first_world, run, hist}
use Rattle.grs_analyze.specs.Text.{analysis_text}
use Rattle.grs_enf.specs.Notices.{notices, told_notices}
use Rattle.grs_enf.specs.Text.{notices_text}
use Rattle.grs_audit.specs.Halves.{Audited}
use Rattle.grs_audit.specs.Text.{verdict_text}
use Rattle.grs_audit.specs.Verdicts.{IsVerdict}
use Rattle.grs_audit.specs.declared.verdict.Verdict.{Verdict}
use Rattle.grs_audit.specs.declared.verdict.Verdict.TheVariants.{Yes, No}
use Rattle.grs_latch.specs.declared.call.LatchCall.{LatchCall}
use Rattle.latch_text.specs.Text.{latch_text}
use Rattle.grs_top.specs.declared.status.Status.{Status}
use Rattle.grs_top.specs.declared.status.Status.TheVariants.{Done, Bad}
use Rattle.grs_top.specs.Beside.{AllDo}
use Rattle.grs_top.specs.Lists.{lists_text}
use Rattle.grs_top.specs.Seen.{report_of, ending}

-- The report of the run of these events is written, and the status says how the run ends. Removed systems tell nothing.
-- And where no system is removed in star mode that manages a lock entry, and none before all live ones have changed
-- (`NoneTakesEntries`), the run is sound, and what is passed in it is told.
pub record IsReported (deck : DeckValue) (es : List Event) (out : List ℕ) (status : Status) : Type 0 where
  pub whole : out ≡ report_of deck es
  pub ends : status ≡ ending deck es
  pub sound : NoneTakesEntries deck es → Sound deck es
  pub passed : NoneTakesEntries deck es → PassedIsTold deck es
  pub silent : RemovedTellNothing deck es

-- The same of events that systems made beside each other: each has something to do where it stands, and in the end the
-- world is at rest, and nothing is lost where the run is one of `NoneTakesEntries`.
pub record IsRunToRest (deck : DeckValue) (out : List ℕ) (status : Status) : Type 0 where
  pub events : List Event
  pub all_do : AllDo deck (first_world deck) events
  pub reported : IsReported deck events out status
  pub rest : at_rest deck (run deck events) ≡ true
  pub nothing_lost : NoneTakesEntries deck events → NothingIsLost deck events

-- Written is who waits for whom by the lists that the run's history leaves, and the status says how the run ends. One of
-- `NoneTakesEntries` is sound.
pub record IsAnalyzed (deck : DeckValue) (es : List Event) (out : List ℕ) (status : Status) : Type 0 where
  pub whole : out ≡ analysis_text deck (rows_of (replay deck.limit (hist deck es)))
  pub ends : status ≡ ending deck es
  pub sound : NoneTakesEntries deck es → Sound deck es

-- Written is what is noticed of contention along the run's history by its codes, and the status says how the run
-- ends. One of `NoneTakesEntries` is sound, and so these are the notices of its history.
pub record AreNoticed (deck : DeckValue) (es : List Event) (out : List ℕ) (status : Status) : Type 0 where
  pub whole : out ≡ notices_text deck (told_notices (hist deck es))
  pub legal : NoneTakesEntries deck es → told_notices (hist deck es) ≡ notices deck.limit (hist deck es)
  pub ends : status ≡ ending deck es
  pub sound : NoneTakesEntries deck es → Sound deck es

-- What the calls are answered is written, and what is left of the latches; there is nothing to wait for.
abbrev pub AreAnswered : List LatchCall → List ℕ → Status → Type 0
AreAnswered calls out status = (out ≡ latch_text calls) × (status ≡ Done)

-- The deck's name lists are written, and there is nothing to wait for.
abbrev pub IsListed : DeckValue → List ℕ → Status → Type 0
IsListed deck out status = (out ≡ lists_text deck) × (status ≡ Done)

-- how a verdict ends
abbrev pub verdict_status : Verdict → Status
verdict_status Yes = Done
verdict_status (No l) = Bad

-- The verdict on a report is written, and the status says which it is.
pub record IsJudged (x : Audited) (out : List ℕ) (status : Status) : Type 0 where
  pub verdict : Verdict
  pub is : IsVerdict x.deck x.report x.first verdict
  pub whole : out ≡ verdict_text verdict
  pub ends : status ≡ verdict_status verdict

-- The commands, each by its case: how long its text may be, what that spells and which faults it has, what is written
-- for what it spells, and by which statuses it ends.
use Rattle.std.specs.Prelude.{ℕ, List}
use Rattle.grs_base.specs.declared.fault.DeckFault.{DeckFault}
use Rattle.grs_wire.specs.declared.deck.Deck.{Deck as DeckValue}
use Rattle.deck_scan.specs.Reading.{most_text_bytes}
use Rattle.grs_deck.specs.Faults.{IsFault}
use Rattle.grs_deck.specs.Spells.{SpellsDeck}
use Rattle.grs_audit.specs.Halves.{most_audited_bytes, Audited, SpellsAudited, IsFaultOfAudited}
use Rattle.grs_latch.specs.declared.call.LatchCall.{LatchCall}
use Rattle.latch_form.specs.Faults.{IsFault as IsFaultOfCalls}
use Rattle.latch_form.specs.Spelled.{SpellsCalls}
use Rattle.grs_top.specs.declared.status.Status.{Status}
use Rattle.grs_top.specs.declared.status.Status.TheVariants.{Done, Waits, Deck, Words, ReadFault, WriteFault}
use Rattle.grs_top.specs.declared.status.Status.TheVariants.{NoMemory, Bad}
use Rattle.grs_top.specs.declared.words.Command.{Command}
use Rattle.grs_top.specs.declared.words.Command.TheVariants.{Replay, Run, Lists, Analyze, Notices, Latch, Stop, Audit}
use Rattle.grs_top.specs.Schedules.{unscheduled}
use Rattle.grs_top.specs.Stops.{SpellsDeckOf, IsFaultFor, IsStopped}
use Rattle.grs_top.specs.Texts.{IsReported, IsRunToRest, IsAnalyzed, AreNoticed, AreAnswered, IsListed, IsJudged}

-- how many bytes the text of a command may have
abbrev pub limit_of : Command → ℕ
limit_of Replay = most_text_bytes
limit_of Run = most_text_bytes
limit_of Lists = most_text_bytes
limit_of Analyze = most_text_bytes
limit_of Notices = most_text_bytes
limit_of Latch = most_text_bytes
limit_of (Stop x) = most_text_bytes
limit_of Audit = most_audited_bytes

-- what the text of a command spells
abbrev pub InputOf : Command → Type 0
InputOf Replay = DeckValue
InputOf Run = DeckValue
InputOf Lists = DeckValue
InputOf Analyze = DeckValue
InputOf Notices = DeckValue
InputOf Latch = List LatchCall
InputOf (Stop x) = DeckValue
InputOf Audit = Audited

-- This is what a text spells.
abbrev pub SpellsInput : (c : Command) → List ℕ → InputOf c → Type 0
SpellsInput Replay = SpellsDeck
SpellsInput Run = SpellsDeck
SpellsInput Lists = SpellsDeck
SpellsInput Analyze = SpellsDeck
SpellsInput Notices = SpellsDeck
SpellsInput Latch = SpellsCalls
SpellsInput (Stop x) = SpellsDeckOf x
SpellsInput Audit = SpellsAudited

-- This is the first fault of a text, which then spells nothing.
abbrev pub IsFaultOf : Command → List ℕ → DeckFault → Type 0
IsFaultOf Replay = IsFault
IsFaultOf Run = IsFault
IsFaultOf Lists = IsFault
IsFaultOf Analyze = IsFault
IsFaultOf Notices = IsFault
IsFaultOf Latch = IsFaultOfCalls
IsFaultOf (Stop x) = IsFaultFor x
IsFaultOf Audit = IsFaultOfAudited

-- What a command writes for what its text spells, and how it ends that has written all of it. `replay` reports the run
-- of the deck's events, and `run` that of events that it makes, whatever the deck's own are, until all systems have come
-- to rest. `lists` writes the deck's name lists. `analyze` tells who waits for whom by the lists that the run of the
-- deck's events leaves, and `notices` what is noticed of contention along its history. `latch` carries out calls of latches.
-- `stop` reports the run of the deck's events with a system that stops.
-- `audit` judges the report behind a deck, whoever wrote it.
abbrev pub IsTextOf : (c : Command) → InputOf c → List ℕ → Status → Type 0
IsTextOf Replay deck out status = IsReported (unscheduled deck) deck.events out status
IsTextOf Run deck out status = IsRunToRest (unscheduled deck) out status
IsTextOf Lists deck out status = IsListed deck out status
IsTextOf Analyze deck out status = IsAnalyzed (unscheduled deck) deck.events out status
IsTextOf Notices deck out status = AreNoticed (unscheduled deck) deck.events out status
IsTextOf Latch calls out status = AreAnswered calls out status
IsTextOf (Stop x) deck out status = IsStopped x deck out status
IsTextOf Audit audited out status = IsJudged audited out status

-- A run ends with each task ended or removed with its system, or with somebody who waits.
abbrev pub EndsRun : Status → Type 0
EndsRun Done = Unit {0}
EndsRun Waits = Unit {0}
EndsRun _ = ⊥

-- There is nothing to wait for.
abbrev pub EndsDone : Status → Type 0
EndsDone Done = Unit {0}
EndsDone _ = ⊥

-- A report can stand or it can't.
abbrev pub EndsJudged : Status → Type 0
EndsJudged Done = Unit {0}
EndsJudged Bad = Unit {0}
EndsJudged _ = ⊥

-- how a command ends that has written all of its text
abbrev pub EndsBy : Command → Status → Type 0
EndsBy Replay = EndsRun
EndsBy Run = EndsRun
EndsBy Lists = EndsDone
EndsBy Analyze = EndsRun
EndsBy Notices = EndsRun
EndsBy Latch = EndsDone
EndsBy (Stop x) = EndsRun
EndsBy Audit = EndsJudged

-- The statuses that are named for a command, which has its words already: how it ends that has written all, that its
-- text has a fault, and that a call failed or memory was wanting.
abbrev pub NamesStatus : Command → Status → Type 0
NamesStatus c Done = EndsBy c Done
NamesStatus c Waits = EndsBy c Waits
NamesStatus c Deck = Unit {0}
NamesStatus c Words = ⊥
NamesStatus c ReadFault = Unit {0}
NamesStatus c WriteFault = Unit {0}
NamesStatus c NoMemory = Unit {0}
NamesStatus c Bad = EndsBy c Bad

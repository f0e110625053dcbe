-- What a text must be to spell a deck, by cases on its statements.
use Rattle.std.specs.Prelude.{◌≡◌, ◌≢◌, ℕ, true, false, ◌<◌, ◌≤◌, List, [], ◌∷◌, length, Contains, Option, Some, None}
use Rattle.grs_base.specs.Names.{is_qname, is_rname}
use Rattle.grs_wire.specs.declared.deck.Event.{Event}
use Rattle.grs_wire.specs.declared.deck.Deck.{Deck}
use Rattle.grs_wire.specs.Decks.{task_count}
use Rattle.deck_scan.specs.declared.token.TokenLine.{TokenLine}
use Rattle.deck_scan.specs.Lengths.{is_bad_qname, is_bad_rname}
use Rattle.deck_scan.specs.Pieces.{SpellsLines}
use Rattle.deck_scan.specs.Reading.{most_text_bytes}
use Rattle.job_syntax.specs.declared.display.Shown.{Shown}
use Rattle.job_syntax.specs.declared.display.Shown.TheVariants as shown
use Rattle.job_syntax.specs.declared.line_ask.LineAsk.{LineAsk}
use Rattle.job_syntax.specs.declared.line_ask.LineAsk.TheVariants as asks
use Rattle.deck_form.specs.declared.command.GivenOrder.{GivenOrder}
use Rattle.deck_form.specs.declared.command.GivenOrder.TheVariants as orders
use Rattle.deck_form.specs.declared.event.EventAct.{EventAct}
use Rattle.deck_form.specs.declared.event.EventAct.TheVariants as acts
use Rattle.deck_form.specs.declared.form.Stmt.{Stmt}
use Rattle.deck_form.specs.declared.form.Stmt.TheVariants as stmts
use Rattle.deck_form.specs.Spelled.{Spells}
use Rattle.deck_form.specs.Statements.{statements}
use Rattle.grs_deck.specs.declared.judge.Draft.{Draft}
use Rattle.grs_base.specs.Limits.{most_systems, most_entries, most_name_bytes, most_commands, most_jobs, most_tasks}
use Rattle.grs_deck.specs.Places.{name_now, desk_now, jobs_now, tasks_now, system_place, job_place, task_place}
use Rattle.grs_deck.specs.Places.{event_of}
use Rattle.grs_deck.specs.Judge.{list_of}
use Rattle.grs_deck.specs.Grow.{shows, grow}
use Rattle.grs_deck.specs.Reading.{first_draft}

-- A name of a system, job or task is not too long.
abbrev pub IsShort : List ℕ → Type 0
IsShort n = length n ≤ most_name_bytes

abbrev pub IsShortAct : EventAct → Type 0
IsShortAct (acts.Task j t) = IsShort j × IsShort t
IsShortAct (acts.Send j t) = IsShort j × IsShort t
IsShortAct (acts.Purge n) = IsShort n
IsShortAct _ = Unit {0}

abbrev pub IsShortOrder : GivenOrder → Type 0
IsShortOrder orders.Star = Unit {0}
IsShortOrder (orders.Vary n) = IsShort n

-- The bytes make a qname, as they are written, and an rname.
abbrev pub MakeNames : List ℕ → List ℕ → Type 0
MakeNames q r = (is_qname q ≡ true) × (is_rname r ≡ true)

-- Those that are given do.
abbrev pub MakeGivenNames : Option (List ℕ) → Option (List ℕ) → Type 0
MakeGivenNames q r = (is_bad_qname q ≡ false) × (is_bad_rname r ≡ false)

abbrev pub HasShownNames : Shown → Type 0
HasShownNames shown.Contended = Unit {0}
HasShownNames (shown.Resource q r) = MakeNames q r

-- The names of a task line are right.
abbrev pub HasNames : LineAsk → Type 0
HasNames (asks.Enq e) = MakeNames e.ask.q e.ask.r
HasNames (asks.Reserve e) = MakeNames e.ask.q e.ask.r
HasNames (asks.Deq a) = MakeNames a.q a.r
HasNames (asks.Wait a) = MakeNames a.q a.r
HasNames (asks.Gqscan s) = MakeGivenNames s.names.q s.names.r
HasNames (asks.Display s) = HasShownNames s

-- ---- what a statement must be behind those that made this deck: one fact for each kind of fault

-- Its names have lengths that they may have.
abbrev pub IsSized : Stmt → Type 0
IsSized (stmts.Rnldef r) = (is_qname r.q ≡ true) × (is_bad_rname r.r ≡ false)
IsSized (stmts.System n) = IsShort n
IsSized (stmts.Job n) = IsShort n
IsSized (stmts.Task n) = IsShort n
IsSized (stmts.Line s) = HasNames s
IsSized (stmts.Command c) = IsShortOrder c.order
IsSized (stmts.Event s a) = IsShort s × IsShortAct a
IsSized _ = Unit {0}

-- The system that it names is the first of this name, the job the first of its system, the task the first of its job.
abbrev pub IsNew : Draft → Stmt → Type 0
IsNew d (stmts.System n) = system_place d.deck.systems n ≡ None
IsNew d (stmts.Job n) = job_place (jobs_now d.deck.systems) n ≡ None
IsNew d (stmts.Task n) = task_place (tasks_now (jobs_now d.deck.systems)) n ≡ None
IsNew d _ = Unit {0}

-- It stands at its place: COMPLEX is first, and an RNLDEF stands before each system; a command stands behind a system
-- and before its first job, a job behind a system, a task behind a job, a task line behind a task, SCHEDULE behind a
-- system.
abbrev pub IsPlaced : Draft → Stmt → Type 0
IsPlaced d (stmts.Complex c) = d.begun ≡ false
IsPlaced d (stmts.Rnldef r) = d.deck.systems ≡ []
IsPlaced d (stmts.Job n) = 0 < length d.deck.systems
IsPlaced d (stmts.Task n) = 0 < length (jobs_now d.deck.systems)
IsPlaced d (stmts.Line s) = 0 < length (tasks_now (jobs_now d.deck.systems))
IsPlaced d (stmts.Command c) = (0 < length d.deck.systems) × (jobs_now d.deck.systems ≡ [])
IsPlaced d stmts.Schedule = 0 < length d.deck.systems
IsPlaced d _ = Unit {0}

-- There is room for it: in its name list, among the systems, the commands, the jobs and the tasks of its system, the
-- task lines, and those of them that show something.
abbrev pub HasRoom : Draft → Stmt → Type 0
HasRoom d (stmts.Rnldef r) = length (list_of r.which d.deck.lists).entries < most_entries
HasRoom d (stmts.System n) = length d.deck.systems < most_systems
HasRoom d (stmts.Job n) = length (jobs_now d.deck.systems) < most_jobs
HasRoom d (stmts.Task n) = task_count (jobs_now d.deck.systems) < most_tasks
HasRoom d (stmts.Line s) = (0 < d.room) × (shows s ≡ true → 0 < d.displays)
HasRoom d (stmts.Command c) = length (desk_now d.deck.systems) < most_commands
HasRoom d _ = Unit {0}

-- A removal is of another system of the deck, whose SYSTEM statement may stand further on.
abbrev pub IsKnownOrder : Draft → GivenOrder → Type 0
IsKnownOrder d orders.Star = Unit {0}
IsKnownOrder d (orders.Vary n) = Contains d.names n × (n ≢ name_now d.deck.systems)

-- The names of an event line were given, and that of a removal is.
abbrev pub IsKnown : Draft → Stmt → Type 0
IsKnown d (stmts.Command c) = IsKnownOrder d c.order
IsKnown d (stmts.Event s a) = (e : Event) × (event_of d.deck.systems s a ≡ Some e)
IsKnown d _ = Unit {0}

-- A statement may stand behind those that made this deck.
pub record MayStand (d : Draft) (st : Stmt) : Type 0 where
  pub sized : IsSized st
  pub new : IsNew d st
  pub placed : IsPlaced d st
  pub room : HasRoom d st
  pub known : IsKnown d st

-- Each statement's line is a statement that may stand where it stands, and the deck is what they add.
abbrev pub Says : Draft → List TokenLine → Draft → Type 0
Says d [] e = d ≡ e
Says d (l ∷ ls) e = (st : Stmt) × Spells d.scheduled d.deck.entries l st × MayStand d st × Says (grow d st) ls e

-- A text spells a deck: it is short enough, the statements of its lines say the deck, and the deck has a
-- system.
pub record SpellsDeck (text : List ℕ) (deck : Deck) : Type 0 where
  pub short : length text ≤ most_text_bytes
  pub lines : List TokenLine
  pub spelled : SpellsLines text lines
  pub draft : Draft
  pub says : Says (first_draft lines) (statements lines) draft
  pub is : draft.deck ≡ deck
  pub system : 0 < length deck.systems

-- What is wrong with a statement, where a deck has been read so far.
use Rattle.std.specs.Prelude.{ℕ, Bool, false, not, ◌&&◌, ◌||◌, ◌==◌, nat_lt, nat_le, List, length, Option, Some, None}
use Rattle.std.specs.Prelude.{is_some, is_none, if◌then◌else◌}
use Rattle.std.specs.Str.{bytes_eq}
use Rattle.grs_base.specs.Rnl.{RnlView}
use Rattle.grs_base.specs.declared.rnl.Which.{Which}
use Rattle.grs_base.specs.declared.rnl.Which.TheVariants.{Incl, Excl, Con}
use Rattle.grs_base.specs.declared.rnl.Lists.{Lists}
use Rattle.grs_base.specs.declared.fault.Kind.{Kind}
use Rattle.grs_base.specs.declared.fault.Kind.TheVariants.{NameLength, Repeated, OutOfPlace, TooMany, UnknownName}
use Rattle.grs_wire.specs.declared.deck.SystemDef.{SystemDef}
use Rattle.grs_wire.specs.declared.deck.Deck.{Deck}
use Rattle.grs_wire.specs.Decks.{task_count}
use Rattle.job_syntax.specs.Lines.{has_bad_name as line_has_bad_name}
use Rattle.rnl_syntax.specs.Operands.{has_bad_name as rnldef_has_bad_name}
use Rattle.deck_form.specs.declared.command.GivenOrder.{GivenOrder}
use Rattle.deck_form.specs.declared.command.GivenOrder.TheVariants as orders
use Rattle.deck_form.specs.declared.event.EventAct.{EventAct}
use Rattle.deck_form.specs.declared.event.EventAct.TheVariants as acts
use Rattle.deck_form.specs.declared.form.Stmt.{Stmt}
use Rattle.deck_form.specs.declared.form.Stmt.TheVariants as stmts
use Rattle.deck_form.specs.SystemNames.{name_place}
use Rattle.grs_deck.specs.declared.judge.Draft.{Draft}
use Rattle.grs_deck.specs.Grow.{shows}
use Rattle.grs_base.specs.Limits.{most_systems, most_entries, most_name_bytes, most_commands, most_jobs, most_tasks}
use Rattle.grs_deck.specs.Places.{name_now, desk_now, jobs_now, tasks_now, system_place, job_place, task_place}
use Rattle.grs_deck.specs.Places.{event_of}

-- A name of a system, job or task is too long.
abbrev pub is_too_long : List ℕ → Bool
is_too_long name = nat_lt most_name_bytes (length name)

abbrev pub has_long_name : EventAct → Bool
has_long_name (acts.Task j t) = is_too_long j || is_too_long t
has_long_name (acts.Send j t) = is_too_long j || is_too_long t
has_long_name (acts.Purge n) = is_too_long n
has_long_name _ = false

abbrev pub has_long_order : GivenOrder → Bool
has_long_order orders.Star = false
has_long_order (orders.Vary n) = is_too_long n

-- A name that is too short or too long.
abbrev pub has_bad_name : Stmt → Bool
has_bad_name (stmts.Complex c) = false
has_bad_name (stmts.Rnldef r) = rnldef_has_bad_name r
has_bad_name (stmts.System n) = is_too_long n
has_bad_name (stmts.Job n) = is_too_long n
has_bad_name (stmts.Task n) = is_too_long n
has_bad_name (stmts.Line s) = line_has_bad_name s
has_bad_name (stmts.Command c) = has_long_order c.order
has_bad_name stmts.Schedule = false
has_bad_name (stmts.Event s a) = is_too_long s || has_long_name a

-- A name that was given before.
abbrev pub is_repeated : Draft → Stmt → Bool
is_repeated d (stmts.System n) = is_some (system_place d.deck.systems n)
is_repeated d (stmts.Job n) = is_some (job_place (jobs_now d.deck.systems) n)
is_repeated d (stmts.Task n) = is_some (task_place (tasks_now (jobs_now d.deck.systems)) n)
is_repeated d _ = false

-- No task stands that a line could belong to.
abbrev pub is_idle : List SystemDef → Bool
is_idle systems = length (tasks_now (jobs_now systems)) == 0

-- No system stands whose desk a command could belong to, or a job of it stands already.
abbrev pub is_away : List SystemDef → Bool
is_away systems = (length systems == 0) || not (length (jobs_now systems) == 0)

-- A statement at another place than its own.
abbrev pub is_misplaced : Draft → Stmt → Bool
is_misplaced d (stmts.Complex c) = d.begun
is_misplaced d (stmts.Rnldef r) = not (length d.deck.systems == 0)
is_misplaced d (stmts.System n) = false
is_misplaced d (stmts.Job n) = length d.deck.systems == 0
is_misplaced d (stmts.Task n) = length (jobs_now d.deck.systems) == 0
is_misplaced d (stmts.Line s) = is_idle d.deck.systems
is_misplaced d (stmts.Command c) = is_away d.deck.systems
is_misplaced d stmts.Schedule = length d.deck.systems == 0
is_misplaced d (stmts.Event s a) = false

-- The name list of this kind.
abbrev pub list_of : Which → Lists → RnlView
list_of Incl lists = lists.incl
list_of Excl lists = lists.excl
list_of Con lists = lists.con

-- A name list has as many entries as it may have.
abbrev pub is_list_full : Lists → Which → Bool
is_list_full lists which = nat_le most_entries (length (list_of which lists).entries)

-- One statement more than the limits allow.
abbrev pub is_full : Draft → Stmt → Bool
is_full d (stmts.Rnldef r) = is_list_full d.deck.lists r.which
is_full d (stmts.System n) = nat_le most_systems (length d.deck.systems)
is_full d (stmts.Job n) = nat_le most_jobs (length (jobs_now d.deck.systems))
is_full d (stmts.Task n) = nat_le most_tasks (task_count (jobs_now d.deck.systems))
is_full d (stmts.Line s) = (d.room == 0) || (shows s && (d.displays == 0))
is_full d (stmts.Command c) = nat_le most_commands (length (desk_now d.deck.systems))
is_full d _ = false

-- The list of an RNLDEF is full.
abbrev pub is_crowded : Deck → Stmt → Bool
is_crowded deck (stmts.Rnldef r) = is_list_full deck.lists r.which
is_crowded deck _ = false

-- The removal is commanded of the system at whose desk that is, or of one that the deck doesn't have.
abbrev pub removes_unknown : Draft → GivenOrder → Bool
removes_unknown d orders.Star = false
removes_unknown d (orders.Vary n) = bytes_eq (name_now d.deck.systems) n || is_none (name_place d.names n)

-- A name that no statement gives, or that may not stand there.
abbrev pub is_unknown : Draft → Stmt → Bool
is_unknown d (stmts.Event s a) = is_none (event_of d.deck.systems s a)
is_unknown d (stmts.Command c) = removes_unknown d c.order
is_unknown d _ = false

-- The least kind that applies to a statement of the right form.
abbrev pub verdict : Draft → Stmt → Option Kind
verdict d st =
    if has_bad_name st then Some NameLength
    else if is_repeated d st then Some Repeated
    else if is_misplaced d st then Some OutOfPlace
    else if is_full d st then Some TooMany
    else if is_unknown d st then Some UnknownName
    else None

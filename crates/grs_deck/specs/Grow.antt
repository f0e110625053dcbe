-- What each statement adds to a deck.
use Rattle.std.specs.Prelude.{ℕ, Bool, true, false, ◌||◌, ◌-◌, nat_lt, List, [], ◌∷◌, ◌++◌, Option, Some, None}
use Rattle.std.specs.Prelude.{unwrap_or, cond}
use Rattle.grs_base.specs.Limits.{most_systems}
use Rattle.grs_base.specs.Rnl.{RnlView}
use Rattle.grs_base.specs.declared.line.Line.{Line}
use Rattle.grs_base.specs.declared.rnl.Which.{Which}
use Rattle.grs_base.specs.declared.rnl.Which.TheVariants.{Incl, Excl, Con}
use Rattle.grs_base.specs.declared.rnl.RnlEntry.{RnlEntry}
use Rattle.grs_base.specs.declared.rnl.Lists.{Lists}
use Rattle.grs_wire.specs.declared.deck.Order.{Order}
use Rattle.grs_wire.specs.declared.deck.Order.TheVariants.{Star, Vary}
use Rattle.grs_wire.specs.declared.deck.Desk.{Desk}
use Rattle.grs_wire.specs.declared.deck.TaskDef.{TaskDef}
use Rattle.grs_wire.specs.declared.deck.JobDef.{JobDef}
use Rattle.grs_wire.specs.declared.deck.SystemDef.{SystemDef}
use Rattle.grs_wire.specs.declared.deck.Event.{Event}
use Rattle.grs_wire.specs.declared.deck.Deck.{Deck}
use Rattle.job_syntax.specs.Lines.{line_of}
use Rattle.job_syntax.specs.declared.line_ask.LineAsk.{LineAsk}
use Rattle.job_syntax.specs.declared.line_ask.LineAsk.TheVariants as asks
use Rattle.rnl_syntax.specs.Operands.{entry_of}
use Rattle.deck_form.specs.declared.command.GivenOrder.{GivenOrder}
use Rattle.deck_form.specs.declared.command.GivenOrder.TheVariants as orders
use Rattle.deck_form.specs.declared.complex.Setup.{Setup}
use Rattle.deck_form.specs.declared.form.Stmt.{Stmt}
use Rattle.deck_form.specs.declared.form.Stmt.TheVariants as stmts
use Rattle.grs_deck.specs.declared.judge.Draft.{Draft}
use Rattle.grs_deck.specs.Places.{event_of, place_in, system_id}
use Rattle.grs_deck.specs.Defaults.{default_entries, default_limit}

-- With the last item changed.
abbrev pub on_last : {A : Type 0} → (A → A) → List A → List A
on_last f [] = []
on_last f (x ∷ []) = f x ∷ []
on_last f (x ∷ y ∷ ys) = x ∷ on_last f (y ∷ ys)

-- A command more at the desk of the last system.
abbrev pub add_command : Desk → List SystemDef → List SystemDef
add_command c systems = on_last (λ s. record s { desk = s.desk ++ c ∷ [] }) systems

-- The removal of the system whose name has this place among those that SYSTEM statements give. Behind as many as a deck
-- may have no name gives a system.
abbrev pub removal_of : Option ℕ → Option Order
removal_of None = None
removal_of (Some p) = cond (nat_lt p most_systems) (Some (Vary (system_id p))) None

-- What is commanded, where the name that it says has this place.
abbrev pub order_by : Option ℕ → GivenOrder → Option Order
order_by place orders.Star = Some Star
order_by place (orders.Vary n) = removal_of place

-- What is commanded at the desk of the last system, about when.
abbrev pub add_order : ℕ → Option Order → List SystemDef → List SystemDef
add_order at None systems = systems
add_order at (Some o) systems = add_command (record { at = at; order = o }) systems

-- A job more in the last system.
abbrev pub add_job : List ℕ → List SystemDef → List SystemDef
add_job name systems = on_last (λ s. record s { jobs = s.jobs ++ record { name = name; tasks = [] } ∷ [] }) systems

-- A task more in the last job.
abbrev pub add_task : List ℕ → List JobDef → List JobDef
add_task name jobs =
    on_last (λ j. record { name = j.name; tasks = j.tasks ++ record { name = name; lines = [] } ∷ [] }) jobs

-- A line more in the last task.
abbrev pub add_line : Line → List TaskDef → List TaskDef
add_line line tasks = on_last (λ t. record { name = t.name; lines = t.lines ++ line ∷ [] }) tasks

-- The jobs of the last system changed.
abbrev pub in_jobs : (List JobDef → List JobDef) → List SystemDef → List SystemDef
in_jobs f systems = on_last (λ s. record s { jobs = f s.jobs }) systems

-- The tasks of the last job changed.
abbrev pub in_tasks : (List TaskDef → List TaskDef) → List JobDef → List JobDef
in_tasks f jobs = on_last (λ j. record { name = j.name; tasks = f j.tasks }) jobs

-- A line more in the last task of the last job of the last system.
abbrev pub with_line : Line → Deck → Deck
with_line line deck = record deck { systems = in_jobs (in_tasks (add_line line)) deck.systems }

-- The operands of COMPLEX, and the values without them.
abbrev pub with_setup : Setup → Deck → Deck
with_setup c deck =
    record deck {
      star = unwrap_or c.star false;
      entries = unwrap_or c.entries default_entries;
      limit = unwrap_or c.limit default_limit;
    }

abbrev pub with_event : Option Event → Deck → Deck
with_event None deck = deck
with_event (Some e) deck = record deck { events = deck.events ++ e ∷ [] }

-- An entry more in a name list.
abbrev pub add_entry : RnlEntry → RnlView → RnlView
add_entry e list = record list { entries = list.entries ++ e ∷ [] }

abbrev pub in_list : Which → RnlEntry → Lists → Lists
in_list Incl e lists = record lists { incl = add_entry e lists.incl }
in_list Excl e lists = record lists { excl = add_entry e lists.excl }
in_list Con e lists = record lists { con = add_entry e lists.con }

-- An entry more in its list.
abbrev pub with_entry : RnlEntry → Lists → Lists
with_entry e lists = in_list e.which e lists

-- What a statement adds to a deck, where a name that its command says has this place among those of the systems.
abbrev pub grow_deck : Option ℕ → Deck → Stmt → Deck
grow_deck place deck (stmts.Complex c) = with_setup c deck
grow_deck place deck (stmts.Rnldef r) = record deck { lists = with_entry (entry_of r) deck.lists }
grow_deck place deck (stmts.System n) =
    record deck { systems = deck.systems ++ record { name = n; desk = []; jobs = [] } ∷ [] }
grow_deck place deck (stmts.Job n) = record deck { systems = add_job n deck.systems }
grow_deck place deck (stmts.Task n) = record deck { systems = in_jobs (add_task n) deck.systems }
grow_deck place deck (stmts.Line s) = with_line (line_of s) deck
grow_deck place deck (stmts.Command c) = record deck { systems = add_order c.at (order_by place c.order) deck.systems }
grow_deck place deck stmts.Schedule = deck
grow_deck place deck (stmts.Event s a) = with_event (event_of deck.systems s a) deck

abbrev pub is_schedule : Stmt → Bool
is_schedule stmts.Schedule = true
is_schedule _ = false

-- How many task lines a statement is.
abbrev pub line_count : Stmt → ℕ
line_count (stmts.Line s) = 1
line_count _ = 0

-- Whether a task line shows something, and how many such lines a statement is.
abbrev pub shows : LineAsk → Bool
shows (asks.Enq e) = false
shows (asks.Reserve e) = false
shows (asks.Deq a) = false
shows (asks.Wait a) = false
shows (asks.Gqscan s) = true
shows (asks.Display s) = true

abbrev pub display_count : Stmt → ℕ
display_count (stmts.Line s) = cond (shows s) 1 0
display_count _ = 0

-- A deck so far with a statement more.
abbrev pub grow : Draft → Stmt → Draft
grow d st =
    record d {
      deck = grow_deck (place_in d.names st) d.deck st;
      begun = true;
      scheduled = d.scheduled || is_schedule st;
      room = d.room - line_count st;
      displays = d.displays - display_count st;
    }

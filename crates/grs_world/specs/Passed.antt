-- What a system tells of what is done: each line that a task has passed, each end, and each line of its desk. It tells
-- all of it, in whatever spared run (`NoneTakesEntries`), and whatever the other systems and the medium do.
use Rattle.std.specs.Prelude.{◌≡◌, ◌<◌, ◌≤◌, ◌-◌, ◌&&◌, ◌==◌, ℕ, Bool, true, false, List, Some}
use Rattle.std.specs.Prelude.{slice_get}
use Rattle.std.specs.List.{list_any}
use Rattle.grs_base.specs.declared.resource.SysId.{SysId}
use Rattle.grs_base.specs.declared.resource.TaskId.{TaskId}
use Rattle.grs_known.specs.Passed.{has_code, has_ended, lines_passed}
use Rattle.grs_known.specs.Told.{is_code_of, is_end_of}
use Rattle.grs_legal.specs.Asks.{lines_of}
use Rattle.grs_legal.specs.declared.meaning.Meaning.{Meaning}
use Rattle.grs_wire.specs.declared.deck.Deck.{Deck}
use Rattle.grs_wire.specs.declared.deck.Event.{Event}
use Rattle.grs_wire.specs.declared.told.Told.{Told}
use Rattle.grs_wire.specs.declared.told.ToldLine.{ToldLine}
use Rattle.grs_wire.specs.declared.told.ToldLine.TheVariants.{Desk}
use Rattle.task_state.specs.View.{state_of}
use Rattle.task_state.specs.declared.state.TaskState.{TaskState}
use Rattle.grs_world.specs.Agree.{lines_of_told}
use Rattle.grs_world.specs.Running.{node_at}
use Rattle.grs_world.specs.World.{run, told}

-- ---- lines of tasks
-- how a task stands after these events
abbrev pub state_in : Deck → List Event → TaskId → TaskState
state_in deck es t = state_of (node_at deck (run deck es).nodes t.system).tasks t

-- Each line that a task has passed by these events, and that has a code line, has it among these.
abbrev pub TellLines : Deck → List Event → List ToldLine → Type 0
TellLines deck es T =
    (t : TaskId) (ls : List Meaning) (k : ℕ) → lines_of deck t ≡ Some ls → 0 < k → k ≤ lines_passed (state_in deck es t)
    → has_code (slice_get ls (k - 1)) ≡ true → list_any (is_code_of t k) T ≡ true

-- so it is among what is told
abbrev pub LinesAreTold : Deck → List Event → Type 0
LinesAreTold deck es = TellLines deck es (lines_of_told (told deck es))

-- Who has ended was told so.
abbrev pub EndsAreTold : Deck → List Event → Type 0
EndsAreTold deck es =
    (t : TaskId) (ls : List Meaning) → lines_of deck t ≡ Some ls → has_ended (state_in deck es t).phase ≡ true
    → list_any (is_end_of t) (lines_of_told (told deck es)) ≡ true

-- ---- lines of desks

-- whether this is told at a system's desk, of the line of this number
abbrev pub is_desk_line : ℕ → ToldLine → Bool
is_desk_line k (Desk j said) = j == k
is_desk_line k _ = false

abbrev pub is_desk_of : SysId → ℕ → Told → Bool
is_desk_of s k x = (x.system.0 == s.0) && is_desk_line k x.line

-- Each line of its desk that a system has done is told there.
abbrev pub DesksAreTold : Deck → List Event → Type 0
DesksAreTold deck es =
    (s : SysId) (k : ℕ) → 0 < k → k ≤ (node_at deck (run deck es).nodes s).done
    → list_any (is_desk_of s k) (told deck es) ≡ true

-- What is passed is told.
pub record PassedIsTold (deck : Deck) (es : List Event) : Type 0 where
  pub lines : LinesAreTold deck es
  pub ends : EndsAreTold deck es
  pub desks : DesksAreTold deck es

-- A round of events: each system has each kind of event once that a run needs, with each of its tasks and each lock
-- entry.
use Rattle.std.specs.Prelude.{ℕ, ◌+◌, nat_le, cond, List, [], ◌∷◌, ◌++◌, map}
use Rattle.std.specs.List.{range_with_len}
use Rattle.grs_base.specs.declared.resource.SysId.{SysId}
use Rattle.grs_base.specs.declared.resource.TaskId.{TaskId}
use Rattle.grs_wire.specs.declared.deck.Choice.{Choice}
use Rattle.grs_wire.specs.declared.deck.Choice.TheVariants.{Task, Turn, Send, Take, Settle, Tell, Switch}
use Rattle.grs_wire.specs.declared.deck.Deck.{Deck}
use Rattle.grs_wire.specs.declared.deck.Event.{Event}
use Rattle.grs_wire.specs.declared.deck.SystemDef.{SystemDef}
use Rattle.deck_tasks.specs.Tasks.{tasks_from}

-- the round from which on the complex is to change to star mode
abbrev pub switch_round : ℕ
switch_round = 3

abbrev pub by : SysId → Choice → Event
by s choice = record { system = s; choice = choice }

-- TASK of each of its tasks, TURN, SEND of each, TAKE, SETTLE, TELL of each lock entry
abbrev pub system_round : SysId → List TaskId → ℕ → List Event
system_round s tasks entries =
    map (λ t. by s (Task t)) tasks
    ++ by s Turn
    ∷ map (λ t. by s (Send t)) tasks
    ++ by s Take
    ∷ by s Settle
    ∷ map (λ e. by s (Tell e)) (range_with_len 0 entries)

-- the same of these systems, of which the first has this number
abbrev pub systems_round : ℕ → List SystemDef → ℕ → List Event
systems_round i [] entries = []
systems_round i (s ∷ ss) entries =
    system_round (record { 0 = i }) (tasks_from (record { 0 = i }) 0 0 s.jobs) entries
    ++ systems_round (i + 1) ss entries

-- SWITCH of the first system from the third round on
abbrev pub switch_in : ℕ → List Event
switch_in r = cond (nat_le switch_round r) (by (record { 0 = 0 }) Switch ∷ []) []

-- the events of a round, which are numbered from 1
unfoldable pub round_of : Deck → ℕ → List Event
round_of deck r = switch_in r ++ systems_round 0 deck.systems deck.entries

-- The events of several systems in one order: those that a journal has in its order, and behind each the quiet ones
-- that its system made before its next one of the journal. Before all stand the quiet ones that came before any of the
-- journal, system by system.
use Rattle.std.specs.Prelude.{ℕ, suc, ◌+◌, cond, List, [], ◌∷◌, ◌++◌, map, take, drop, get_or, set}
use Rattle.std.specs.List.{flat_map}
use Rattle.grs_base.specs.declared.resource.SysId.{SysId}
use Rattle.grs_wire.specs.History.{answered}
use Rattle.grs_wire.specs.declared.deck.Event.{Event}
use Rattle.grs_wire.specs.declared.log.NodeLog.{NodeLog}
use Rattle.grs_wire.specs.declared.log.StepDone.{StepDone}
use Rattle.grs_wire.specs.declared.medium.JEntry.{JEntry}
use Rattle.grs_wire.specs.declared.request.Fixed.{Fixed}
use Rattle.grs_wire.specs.declared.told.Told.{Told}
use Rattle.grs_history.specs.declared.order.Merged.{Merged}

-- a step of a log, with the system whose it is
abbrev pub Step : Type 0
Step = SysId × StepDone

abbrev pub steps_by : SysId → List StepDone → List Step
steps_by s xs = map (λ x. (s, x)) xs

-- how many steps of a log come before its first journalled one
abbrev pub quiet_count : List StepDone → ℕ
quiet_count [] = 0
quiet_count (x ∷ xs) = cond x.journalled 0 (suc (quiet_count xs))

-- how many the first step of a log makes with the quiet ones behind it
abbrev pub run_count : List StepDone → ℕ
run_count [] = 0
run_count (x ∷ xs) = suc (quiet_count xs)

-- the quiet steps of each log before its first journalled one, where the first log is that of this system
abbrev pub quiet_fronts : ℕ → List (List StepDone) → List Step
quiet_fronts s [] = []
quiet_fronts s (xs ∷ logs) = steps_by (record { 0 = s }) (take (quiet_count xs) xs) ++ quiet_fronts (s + 1) logs

abbrev pub without_front : List StepDone → List StepDone
without_front xs = drop (quiet_count xs) xs

-- what a system's log still has
abbrev pub rest_of : List (List StepDone) → SysId → List StepDone
rest_of logs s = get_or logs s.0 []

-- for each entry of a journal the next step of its system, which is its own, with the quiet ones behind it
abbrev pub by_journal : List (List StepDone) → List JEntry → List Step
by_journal logs [] = []
by_journal logs (e ∷ es) =
    let rest = rest_of logs e.system in
    let count = run_count rest in
    steps_by e.system (take count rest) ++ by_journal (set logs e.system.0 (drop count rest)) es

-- the steps of all logs, which stand in the order of their systems
abbrev pub in_order : List JEntry → List (List StepDone) → List Step
in_order journal logs = quiet_fronts 0 logs ++ by_journal (map without_front logs) journal

-- ---- what steps in one order show

abbrev pub event_of : Step → Event
event_of x = record { system = x.0; choice = x.1.choice }

abbrev pub fixed_in : Step → List (SysId × Fixed)
fixed_in x = map (λ f. (x.0, f)) x.1.fixed

-- the lines that a step told as the event of this number
abbrev pub told_in : ℕ → Step → List Told
told_in event x = map (λ l. record { event = event; system = x.0; line = l }) x.1.told

-- the lines that steps told, where so many events came before
abbrev pub told_behind : ℕ → List Step → List Told
told_behind n [] = []
told_behind n (x ∷ xs) = told_in (n + 1) x ++ told_behind (n + 1) xs

-- The events, the history of what was fixed, with the replies of the plain lists, and the told lines, each with the
-- number of its event.
abbrev pub shown : List Step → Merged
shown xs = record { events = map event_of xs; hist = answered (flat_map fixed_in xs); told = told_behind 0 xs }

-- what the steps of all systems show in the order of a journal
abbrev pub merged_steps : List JEntry → List (List StepDone) → Merged
merged_steps journal logs = shown (in_order journal logs)

-- and logs by their steps
abbrev pub merged : List JEntry → List NodeLog → Merged
merged journal logs = merged_steps journal (map (λ l. l.steps) logs)

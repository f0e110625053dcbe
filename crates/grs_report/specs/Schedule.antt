-- The events of a run as lines.
use Rattle.std.specs.Prelude.{ℕ, List, [], ◌∷◌, ◌++◌, length, codes}
use Rattle.std.specs.Fmt.{decimal}
use Rattle.std.specs.List.{flat_map}
use Rattle.grs_wire.specs.declared.seen.Names.{Names}
use Rattle.grs_wire.specs.declared.deck.Choice.{Choice}
use Rattle.grs_wire.specs.declared.deck.Choice.TheVariants.{Task, Turn, Send, Take, Settle, Tell, Part, Leave}
use Rattle.grs_wire.specs.declared.deck.Choice.TheVariants.{Switch, Purge, Rest}
use Rattle.grs_wire.specs.declared.deck.Event.{Event}
use Rattle.grs_display.specs.Lines.{line}
use Rattle.grs_display.specs.Names.{name_at, task_in_job}

-- what an event does
unfoldable pub choice_words : Names → Choice → List (List ℕ)
choice_words names (Task t) = codes "TASK" ∷ task_in_job names t ∷ []
choice_words names Turn = codes "TURN" ∷ []
choice_words names (Send t) = codes "SEND" ∷ task_in_job names t ∷ []
choice_words names Take = codes "TAKE" ∷ []
choice_words names Settle = codes "SETTLE" ∷ []
choice_words names (Tell e) = codes "TELL" ∷ decimal e ∷ []
choice_words names (Part e) = codes "PART" ∷ decimal e ∷ []
choice_words names (Leave e) = codes "LEAVE" ∷ decimal e ∷ []
choice_words names Switch = codes "SWITCH" ∷ []
choice_words names (Purge s) = codes "PURGE" ∷ name_at names.systems s.0 ∷ []
choice_words names Rest = codes "REST" ∷ []

-- the system of an event, and what it does
unfoldable pub event_line : Names → Event → List ℕ
event_line names e = line (name_at names.systems e.system.0 ∷ choice_words names e.choice)

unfoldable pub schedule_text : Names → List Event → List ℕ
schedule_text names es = line (codes "SCHEDULE" ∷ decimal (length es) ∷ []) ++ flat_map (event_line names) es

-- What an event of a system fixed and told, as the code hands it on.
use Rattle.std.specs.Prelude.{◌≡◌, Bool, true, List, [], ◌∷◌, Option, Some, None}
use Rattle.grs_base.specs.declared.resource.SysId.{SysId}
use Rattle.grs_medium.specs.Medium.{MediumState}
use Rattle.grs_node.specs.Log.{NodeView, told_in}
use Rattle.grs_node.specs.Node.{NodeState, Step, finish}
use Rattle.grs_wire.specs.declared.deck.Choice.{Choice}
use Rattle.grs_wire.specs.declared.log.StepDone.{StepDone}
use Rattle.grs_wire.specs.declared.medium.Reply.{Reply}
use Rattle.grs_world.specs.World.{Turnout, chosen}
use Rattle.grs_world.specs.declared.chosen.Done.{Done}

-- what an event that a system kept fixed and told
abbrev pub done_of : StepDone → Done
done_of s = record { fixed = s.fixed; told = s.told }

-- what the last event of a log fixed and told
abbrev pub last_done : List StepDone → Done
last_done [] = record { fixed = []; told = [] }
last_done (s ∷ []) = done_of s
last_done (s ∷ t ∷ ts) = last_done (t ∷ ts)

-- what a system's step fixed and told
abbrev pub done_by : NodeState → Step → Done
done_by n s = record { fixed = s.fixed; told = told_in n s }

-- a reply to a call, which has an entry in the journal
abbrev pub journalled : Option Reply → Option (Reply × Bool)
journalled None = None
journalled (Some reply) = Some (reply, true)

-- how a system finishes a choice, with the reply if a call was made
abbrev pub finish_of : NodeView → Choice → Option Reply → Step
finish_of v choice reply = finish v.deck v.node choice reply

-- what a choice of a system at this medium comes to
abbrev pub chosen_by : NodeView → MediumState → SysId → Choice → Turnout
chosen_by v m s choice = chosen v.deck m s v.node choice

-- A step of a system has been made: the system stands as behind it, and what it fixed and told is handed on.
abbrev pub Ends : NodeView → Step → NodeView → Done → Type 0
Ends old step new done = (new.node ≡ step.node) × (done ≡ done_by old.node step)

-- Events that come to nothing at their system, and what worlds have in common that such events lead from and to.
use Rattle.std.specs.Prelude.{◌≡◌, Bool, true, false, not, ◌||◌, [], slice_get, Option, Some, None}
use Rattle.std.specs.List.{list_any}
use Rattle.grs_base.specs.declared.resource.SysId.{SysId}
use Rattle.grs_node.specs.Node.{NodeState, goes_on, is_star_pending, prepare}
use Rattle.grs_node.specs.declared.prepared.Prepared.TheVariants.{Nothing}
use Rattle.grs_wire.specs.declared.deck.Choice.{Choice}
use Rattle.grs_wire.specs.declared.deck.Deck.{Deck}
use Rattle.grs_wire.specs.declared.seen.TaskEnd.{TaskEnd}
use Rattle.grs_wire.specs.declared.seen.TaskEnd.TheVariants as ends
use Rattle.grs_world.specs.World.{World}
use Rattle.grs_top.specs.Generated.{Rounds}

-- A choice comes to nothing at a system, whatever the deck.
abbrev pub ComesToNothing : NodeState → Choice → Type 0
ComesToNothing n choice = (deck : Deck) → prepare deck n choice ≡ Nothing

-- So it does at a system, if that is there.
abbrev pub IsNothingAt : Option NodeState → Choice → Type 0
IsNothingAt None choice = Unit {0}
IsNothingAt (Some n) choice = ComesToNothing n choice

-- whether no task of a system has something to do by itself, and nothing of star mode is pending there
abbrev pub is_idle : NodeState → Bool
is_idle n = not (list_any (λ x. goes_on x.phase) n.tasks.tasks || is_star_pending n.tasks n.star)

abbrev pub is_idle_if : Option NodeState → Bool
is_idle_if None = true
is_idle_if (Some n) = is_idle n

-- the same of the system of this number, if it is there
abbrev pub is_idle_at : World → SysId → Bool
is_idle_at w s = is_idle_if (slice_get w.nodes s.0)

-- whether a task of this end has ended or waits for control
abbrev pub is_over : TaskEnd → Bool
is_over ends.Open = false
is_over _ = true

-- what of a world later events go by, and what they fixed: all but how many events there were and what was told
abbrev pub lasting : World → World
lasting w = record { medium = w.medium; nodes = w.nodes; events = 0; fixed = w.fixed; told = [] }

abbrev pub lasting_of : Rounds → Rounds
lasting_of r = record { world = lasting r.world; made = r.made; events = r.events }

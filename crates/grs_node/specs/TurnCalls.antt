-- What a Turn and a Take ask, as prepared calls.
use Rattle.std.specs.Prelude.{ℕ, take}
use Rattle.grs_wire.specs.declared.medium.Act.TheVariants as acts
use Rattle.grs_wire.specs.declared.medium.Call.{Call}
use Rattle.grs_node.specs.Node.{NodeState}
use Rattle.grs_base.specs.Limits.{most_additions}

-- the Turn of a system that knows this set of systems to be removed
abbrev pub turn_of : NodeState → ℕ → Call
turn_of n known = record { known = known; act = acts.Turn (take most_additions n.outbox) }

-- the Take of such a system
abbrev pub take_of : ℕ → Call
take_of known = record { known = known; act = acts.Take }

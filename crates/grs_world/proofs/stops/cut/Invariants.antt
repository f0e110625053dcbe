use Rattle.grs_world.proofs.Common.{◌++◌, ◌≡◌, cut, drop}
use Rattle.grs_world.proofs.stops.cut.Given as goal

abbrev pub invariant-loop-event : goal.invariant-loop-event
invariant-loop-event l =
    l.kept ++ cut l.system l.left (drop l.event-index l.events) ≡ cut l.system l.events_made l.events

use Rattle.std.proofs.Common.{◌≡◌, ◌++◌, drop}
use Rattle.std.specs.List.{flat_map}
use Rattle.grs_report.specs.Schedule.{event_line}
use Rattle.grs_report.proofs.schedule.put_events.Given as goal

abbrev pub invariant-loop-event : goal.invariant-loop-event
invariant-loop-event l =
    l.out ++ flat_map (event_line l.names) (drop l.event-index l.events)
    ≡ l.initial.out ++ flat_map (event_line l.names) l.events

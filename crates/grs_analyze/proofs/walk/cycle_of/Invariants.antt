use Rattle.std.proofs.Common.{◌≡◌, ◌+◌, ◌-◌, length}
use Rattle.grs_analyze.specs.Greatest.{greatest}
use Rattle.grs_analyze.specs.Walk.{walk, reported_cycle}
use Rattle.grs_analyze.proofs.walk.cycle_of.Given as goal

abbrev pub invariant-loop-step : goal.invariant-loop-step
invariant-loop-step l =
    walk l._rows (greatest l._rows) ((length l.numbered.tasks + 1) - l._step) l.past l.at ≡ reported_cycle l._rows

use Rattle.std.proofs.Common.{◌≡◌, ◌<◌}
use Rattle.grs_medium.specs.Medium.{systems_of}
use Rattle.thread_tests.proofs.waking.look_often.Given as goal

abbrev pub invariant-loop-calls : goal.invariant-loop-calls
invariant-loop-calls g l = record {
  bus : l.seat.bus ≡ l.bus;
  system : l.seat.system.0 < systems_of l.bus.first;
}

use Rattle.std.proofs.Common.{◌≡◌}
use Rattle.grs_bus.specs.Places.{IsSamePlace}
use Rattle.grs_bus.proofs.bus.Bus.take.Given as goal

abbrev pub invariant-loop : goal.invariant-loop
invariant-loop g l = IsSamePlace l.initial.place l.place × (l.place.me ≡ l.initial.place.me)

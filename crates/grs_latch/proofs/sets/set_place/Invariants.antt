use Rattle.std.proofs.Common.{◌≡◌, ◌+◌, drop}
use Rattle.grs_latch.specs.Places.{set_place}
use Rattle.grs_latch.proofs.sets.set_place.Given as goal

abbrev pub invariant-loop-place : goal.invariant-loop-place
invariant-loop-place l = l.place + set_place l.name (drop l.place l.sets) ≡ set_place l.name l.sets

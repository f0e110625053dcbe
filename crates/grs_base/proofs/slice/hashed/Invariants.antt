use Rattle.std.proofs.Common.{◌≡◌, ◌<◌, length}
use Rattle.grs_base.specs.Slices.{hash_from}
use Rattle.grs_base.proofs.slice.hashed.Given as goal

abbrev pub invariant-loop-b : goal.invariant-loop-b
invariant-loop-b l = record {
  below : l.hash < 65521;
  so_far : hash_from l.hash l.rest ≡ hash_from l.fn.start l.fn.bytes;
}

abbrev pub decreases-loop-b : goal.decreases-loop-b
decreases-loop-b l = length l.rest

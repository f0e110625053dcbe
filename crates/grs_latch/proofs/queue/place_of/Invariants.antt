use Rattle.std.proofs.Common.{◌≡◌, ◌+◌, drop}
use Rattle.grs_base.specs.Lists.{place_of}
use Rattle.grs_latch.proofs.queue.place_of.Given as goal

abbrev pub invariant-loop-place : goal.invariant-loop-place
invariant-loop-place l = l.place + place_of (drop l.place l.elems) l.task ≡ place_of l.elems l.task

use Rattle.std.proofs.Common.{◌≡◌, ◌+◌, drop}
use Rattle.grs_base.specs.Lists.{shared_front}
use Rattle.grs_latch.proofs.queue.front_of.Given as goal

abbrev pub invariant-loop-place : goal.invariant-loop-place
invariant-loop-place l = l.place + shared_front (drop l.place l.elems) ≡ shared_front l.elems

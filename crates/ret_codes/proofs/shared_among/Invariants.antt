use Rattle.std.proofs.Common.{◌≡◌, ◌+◌, drop}
use Rattle.grs_base.specs.Lists.{shared_front}
use Rattle.ret_codes.proofs.shared_among.Given as goal

abbrev pub invariant-loop-place : goal.invariant-loop-place
invariant-loop-place l = l.place + shared_front (drop l.place l.elems) ≡ shared_front l.elems

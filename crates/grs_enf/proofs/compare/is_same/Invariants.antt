use Rattle.std.proofs.Common.{◌≡◌, drop}
use Rattle.grs_enf.specs.Same.{same_elems}
use Rattle.grs_enf.proofs.compare.is_same.Given as goal

abbrev pub invariant-loop-place : goal.invariant-loop-place
invariant-loop-place l = same_elems (drop l.place l.a) (drop l.place l.b) ≡ same_elems l.a l.b

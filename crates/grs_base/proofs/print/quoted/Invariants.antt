use Rattle.std.proofs.Common.{◌≡◌, ◌∷◌, ◌++◌, drop}
use Rattle.grs_base.specs.Printed.{quotes_doubled}
use Rattle.grs_base.proofs.print.quoted.Given as goal

abbrev pub invariant-loop-b : goal.invariant-loop-b
invariant-loop-b l = l.text ++ quotes_doubled (drop l.b-index l.bytes) ≡ 39 ∷ quotes_doubled l.bytes

use Rattle.std.proofs.Common.{◌≡◌, ◌∷◌, ◌++◌, drop}
use Rattle.grs_base.specs.Printed.{hex_digits}
use Rattle.grs_base.proofs.print.hexed.Given as goal

abbrev pub invariant-loop-b : goal.invariant-loop-b
invariant-loop-b l = l.text ++ hex_digits (drop l.b-index l.bytes) ≡ 88 ∷ 39 ∷ hex_digits l.bytes

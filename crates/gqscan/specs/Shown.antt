-- The code of a display.
use Rattle.std.specs.Prelude.{ℕ, zero, suc}
use Rattle.grs_base.specs.declared.decision.Code.{Code}
use Rattle.grs_base.specs.declared.decision.Code.TheVariants.{C00, C04}

-- by how many resources it shows: 04 for none, 00 for any
abbrev pub code_for : ℕ → Code
code_for zero = C04
code_for (suc n) = C00

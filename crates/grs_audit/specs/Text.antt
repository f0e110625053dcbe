-- How a verdict is written.
use Rattle.std.specs.Prelude.{ℕ, List, [], ◌∷◌, ◌++◌, codes}
use Rattle.std.specs.Fmt.{decimal}
use Rattle.grs_audit.specs.declared.verdict.Verdict.{Verdict}
use Rattle.grs_audit.specs.declared.verdict.Verdict.TheVariants.{Yes, No}

-- AUDIT YES, or AUDIT NO LINE l, and a line end
abbrev pub verdict_text : Verdict → List ℕ
verdict_text Yes = codes "AUDIT YES" ++ 10 ∷ []
verdict_text (No l) = (codes "AUDIT NO LINE " ++ decimal l) ++ 10 ∷ []

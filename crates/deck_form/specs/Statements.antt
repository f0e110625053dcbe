-- The statements of lines: each line is one, but that an RNLDEF before SCHEDULE may go over several.
use Rattle.std.specs.Prelude.{Bool, true, false, List, [], ◌∷◌, codes, if◌then◌else◌}
use Rattle.std.specs.Str.{bytes_eq}
use Rattle.deck_scan.specs.declared.token.Token.{Token}
use Rattle.deck_scan.specs.declared.token.Token.TheVariants.{Word}
use Rattle.deck_scan.specs.declared.token.TokenLine.{TokenLine}
use Rattle.rnl_syntax.specs.Lines.{goes_on, with_line}

-- The line is SCHEDULE.
abbrev pub is_schedule : List Token → Bool
is_schedule (Word w ∷ []) = bytes_eq w (codes "SCHEDULE")
is_schedule _ = false

-- The statements of lines, where the first of them is so far this one. Behind SCHEDULE each line is one.
unfoldable pub statements_from : TokenLine → List TokenLine → List TokenLine
statements_from s [] = s ∷ []
statements_from s (l ∷ ls) =
    if is_schedule s.tokens then s ∷ l ∷ ls
    else if goes_on s l then statements_from (with_line s l) ls
    else s ∷ statements_from l ls

-- The statements of the lines of a text, each as one line with the number of its first.
unfoldable pub statements : List TokenLine → List TokenLine
statements [] = []
statements (l ∷ ls) = statements_from l ls

-- ---- as they are read one by one

-- The statements to come of lines, behind SCHEDULE or not.
unfoldable pub still : Bool → List TokenLine → List TokenLine
still true ls = ls
still false ls = statements ls

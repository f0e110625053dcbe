-- The history of a run as lines.
use Rattle.std.specs.Prelude.{ℕ, ◌+◌, List, [], ◌∷◌, ◌++◌, length, codes}
use Rattle.std.specs.Fmt.{decimal}
use Rattle.std.specs.List.{flat_map}
use Rattle.grs_wire.specs.declared.seen.Names.{Names}
use Rattle.grs_wire.specs.declared.history.HistEntry.{HistEntry}
use Rattle.grs_wire.specs.declared.history.HistEntry.TheVariants.{Enq, Deq, Release, Look, Remove}
use Rattle.grs_display.specs.Lines.{line}
use Rattle.grs_display.specs.Names.{name_at, task_word}
use Rattle.grs_display.specs.Rows.{res_word, row_line, place_word, filter_word}
use Rattle.grs_base.specs.Printed.{ctl_word}
use Rattle.grs_report.specs.Spelled.{ret_word, have_word, code_word}

-- the entry of this number; that of a look goes on with the rows that it showed
unfoldable pub history_line : Names → ℕ → HistEntry → List ℕ
history_line names n (Enq t r c ret code) = line (
    codes "H" ∷ decimal n ∷ task_word names t ∷ codes "ENQ" ∷ res_word names r ∷ ctl_word c ∷ ret_word ret
    ∷ code_word code ∷ [])
history_line names n (Deq t r have code) = line (
    codes "H" ∷ decimal n ∷ task_word names t ∷ codes "DEQ" ∷ res_word names r ∷ have_word have ∷ code_word code ∷ [])
history_line names n (Release t r) = line (
    codes "H" ∷ decimal n ∷ task_word names t ∷ codes "RELEASE" ∷ res_word names r ∷ [])
history_line names n (Look t place filter rows) =
    line (codes "H" ∷ decimal n ∷ task_word names t ∷ codes "LOOK" ∷ place_word place ∷ filter_word filter
    ∷ decimal (length rows) ∷ [])
    ++ flat_map (row_line names 82) rows
history_line names n (Remove by target) = line (
    codes "H" ∷ decimal n ∷ name_at names.systems by.0 ∷ codes "REMOVE" ∷ name_at names.systems target.0 ∷ [])

-- entries, the first of which has this number
abbrev pub history_lines : Names → ℕ → List HistEntry → List ℕ
history_lines names n [] = []
history_lines names n (h ∷ hs) = history_line names n h ++ history_lines names (n + 1) hs

unfoldable pub history_text : Names → List HistEntry → List ℕ
history_text names hs = line (codes "HISTORY" ∷ decimal (length hs) ∷ []) ++ history_lines names 1 hs

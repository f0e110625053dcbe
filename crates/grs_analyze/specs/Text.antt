-- The text of an analysis.
use Rattle.std.specs.Prelude.{ℕ, List, [], ◌∷◌, ◌++◌, length, map, codes}
use Rattle.std.specs.Fmt.{decimal}
use Rattle.std.specs.List.{flat_map}
use Rattle.grs_base.specs.declared.resource.Elem.{Elem}
use Rattle.grs_base.specs.declared.resource.Row.{Row}
use Rattle.grs_base.specs.declared.resource.TaskId.{TaskId}
use Rattle.grs_wire.specs.declared.deck.Deck.{Deck}
use Rattle.grs_wire.specs.declared.seen.Names.{Names}
use Rattle.grs_display.specs.Lines.{line}
use Rattle.grs_display.specs.Names.{names_of, task_word}
use Rattle.grs_display.specs.Rows.{row_line}
use Rattle.grs_analyze.specs.declared.analysis.Blocked.{Blocked}
use Rattle.grs_analyze.specs.Walk.{reported_cycle}
use Rattle.grs_analyze.specs.Waits.{waiters, blocked_in}

-- W task BLOCKED BY task
unfoldable pub wait_line : Names → Blocked → List ℕ
wait_line names b = line (codes "W" ∷ task_word names b.task ∷ codes "BLOCKED" ∷ codes "BY" ∷ task_word names b.by ∷ [])

-- a list where somebody waits: its line, and a line for each that waits
abbrev pub contended_lines : Names → Row → List Elem → List ℕ
contended_lines names row [] = []
contended_lines names row (e ∷ es) = row_line names 65 row ++ flat_map (wait_line names) (blocked_in row)

abbrev pub row_lines : Names → Row → List ℕ
row_lines names row = contended_lines names row (waiters row.elems)

-- CYCLE and the tasks of a cycle, or NONE
abbrev pub cycle_words : Names → List TaskId → List (List ℕ)
cycle_words names [] = codes "NONE" ∷ []
cycle_words names (t ∷ ts) = map (task_word names) (t ∷ ts)

unfoldable pub cycle_line : Names → List TaskId → List ℕ
cycle_line names ts = line (codes "CYCLE" ∷ cycle_words names ts)

-- how many elements wait; for each list where somebody waits, its line and who is kept away by whom; and a cycle
unfoldable pub analysis_text : Deck → List Row → List ℕ
analysis_text deck rows =
    line (codes "ANALYZE" ∷ decimal (length (flat_map blocked_in rows)) ∷ [])
    ++ flat_map (row_lines (names_of deck)) rows
    ++ cycle_line (names_of deck) (reported_cycle rows)

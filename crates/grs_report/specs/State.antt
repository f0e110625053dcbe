-- How the lists, the units and the lock words stand at the end of a run.
use Rattle.std.specs.Prelude.{ℕ, ◌+◌, ◌==◌, Bool, List, [], ◌∷◌, ◌++◌, codes, Option, Some, None, if◌then◌else◌}
use Rattle.std.specs.Fmt.{decimal}
use Rattle.std.specs.List.{flat_map}
use Rattle.grs_base.specs.Printed.{unit_digits}
use Rattle.grs_base.specs.declared.resource.SysId.{SysId}
use Rattle.grs_base.specs.declared.resource.Row.{Row}
use Rattle.grs_wire.specs.LockWords.{interest, manager, epoch}
use Rattle.grs_wire.specs.declared.seen.Names.{Names}
use Rattle.grs_display.specs.Lines.{line}
use Rattle.grs_display.specs.Names.{name_at}
use Rattle.grs_display.specs.Rows.{row_line}

unfoldable pub queues_text : Names → List Row → List ℕ
queues_text names rows = line (codes "QUEUES" ∷ []) ++ flat_map (row_line names 81) rows

-- a system, a unit, and the count of its hardware reserves
unfoldable pub unit_line : Names → SysId × ℕ × ℕ → List ℕ
unit_line names u = line (codes "U" ∷ name_at names.systems (u.0).0 ∷ unit_digits u.1 ∷ decimal u.2 ∷ [])

unfoldable pub units_text : Names → List (SysId × ℕ × ℕ) → List ℕ
units_text names units = line (codes "UNITS" ∷ []) ++ flat_map (unit_line names) units

-- the name of a lock word's manager
abbrev pub manager_word : Names → Option SysId → List ℕ
manager_word names None = codes "NONE"
manager_word names (Some s) = name_at names.systems s.0

-- the lock word of an entry
unfoldable pub word_line : Names → ℕ → ℕ → List ℕ
word_line names e w = line (
    codes "W" ∷ decimal e ∷ codes "MASK" ∷ decimal (interest w) ∷ codes "MANAGER" ∷ manager_word names (manager w)
    ∷ codes "EPOCH" ∷ decimal (epoch w) ∷ [])

-- the words that aren't 0, of which the first is of this entry
abbrev pub word_lines : Names → ℕ → List ℕ → List ℕ
word_lines names e [] = []
word_lines names e (w ∷ ws) = (if w == 0 then [] else word_line names e w) ++ word_lines names (e + 1) ws

unfoldable pub words_text : Names → List ℕ → List ℕ
words_text names ws = line (codes "WORDS" ∷ []) ++ word_lines names 0 ws

unfoldable pub mode_line : Bool → List ℕ
mode_line star = line (codes "MODE" ∷ (if star then codes "STAR" else codes "RING") ∷ [])

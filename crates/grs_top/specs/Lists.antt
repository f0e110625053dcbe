-- The name lists of a deck as text.
use Rattle.std.specs.Prelude.{ℕ, List, [], ◌∷◌, ◌++◌}
use Rattle.std.specs.List.{flat_map}
use Rattle.grs_base.specs.declared.rnl.RnlEntry.{RnlEntry}
use Rattle.grs_wire.specs.declared.deck.Deck.{Deck}
use Rattle.rnl_syntax.specs.Printed.{printed_rnldef}

-- an entry as a printed statement, with the end of its line
unfoldable pub entry_text : RnlEntry → List ℕ
entry_text e = printed_rnldef e ++ 10 ∷ []

-- these entries, one printed statement a line
abbrev pub entries_text : List RnlEntry → List ℕ
entries_text es = flat_map entry_text es

-- the entries of the inclusion list, then of the exclusion list, then of the conversion list, each in order
unfoldable pub lists_text : Deck → List ℕ
lists_text deck =
    (entries_text deck.lists.incl.entries ++ entries_text deck.lists.excl.entries)
    ++ entries_text deck.lists.con.entries

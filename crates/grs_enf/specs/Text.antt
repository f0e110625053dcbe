-- The text of the notices of a history.
use Rattle.std.specs.Prelude.{ℕ, List, [], ◌∷◌, ◌++◌, length, codes}
use Rattle.std.specs.Fmt.{decimal}
use Rattle.std.specs.List.{flat_map}
use Rattle.grs_wire.specs.declared.deck.Deck.{Deck}
use Rattle.grs_wire.specs.declared.seen.Names.{Names}
use Rattle.grs_display.specs.Lines.{line}
use Rattle.grs_display.specs.Names.{names_of}
use Rattle.grs_display.specs.Rows.{res_word}
use Rattle.grs_enf.specs.declared.notice.Noted.{Noted}
use Rattle.grs_enf.specs.declared.notice.What.{What}
use Rattle.grs_enf.specs.declared.notice.What.TheVariants.{Begin, Change, End}

abbrev pub what_word : What → List ℕ
what_word Begin = codes "BEGIN"
what_word Change = codes "CHANGE"
what_word End = codes "END"

-- N, the number of the entry, what is noticed, the resource, and how many own and wait
unfoldable pub notice_line : Names → Noted → List ℕ
notice_line names n =
    line (
    codes "N" ∷ decimal n.entry ∷ what_word n.notice.what ∷ res_word names n.notice.res ∷ decimal n.notice.owners
    ∷ decimal n.notice.waiters ∷ [])

-- how many notices there are, and each on a line
unfoldable pub notices_text : Deck → List Noted → List ℕ
notices_text deck ns =
    line (codes "NOTICES" ∷ decimal (length ns) ∷ []) ++ flat_map (notice_line (names_of deck)) ns

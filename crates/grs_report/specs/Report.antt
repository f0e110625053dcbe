-- The report of a run.
use Rattle.std.specs.Prelude.{ℕ, Bool, List, [], ◌∷◌, ◌++◌, codes, if◌then◌else◌}
use Rattle.grs_wire.specs.declared.deck.Deck.{Deck}
use Rattle.grs_wire.specs.declared.seen.Seen.{Seen}
use Rattle.grs_display.specs.Lines.{line}
use Rattle.grs_display.specs.Names.{names_of}
use Rattle.grs_report.specs.Schedule.{schedule_text}
use Rattle.grs_report.specs.History.{history_text}
use Rattle.grs_report.specs.Told.{told_text}
use Rattle.grs_report.specs.State.{queues_text, units_text, words_text, mode_line}
use Rattle.grs_report.specs.Ends.{all_ended}

unfoldable pub head_line : List ℕ
head_line = line (codes "GRS" ∷ codes "REPORT" ∷ codes "1" ∷ [])

-- the last line: whether every task is done
unfoldable pub end_line : Bool → List ℕ
end_line done = line (codes "END" ∷ (if done then codes "DONE" else codes "WAITS") ∷ [])

-- the report of what a run of a deck shows
unfoldable pub report : Deck → Seen → List ℕ
report deck seen =
    let names = names_of deck in
    head_line
    ++ schedule_text names seen.events
    ++ history_text names seen.hist
    ++ told_text names seen.told seen.ended deck.systems
    ++ queues_text names seen.queues
    ++ units_text names seen.units
    ++ words_text names seen.words
    ++ mode_line seen.star
    ++ end_line (all_ended seen.ended)

-- What `run` did, `replay` does again by the schedule that was printed.
use Rattle.std.specs.Prelude.{◌≡◌, ◌≤◌, ℕ, List, [], ◌∷◌, ◌++◌, length, codes}
use Rattle.std.specs.Fmt.{decimal}
use Rattle.deck_scan.specs.Reading.{most_text_bytes}
use Rattle.grs_display.specs.Lines.{line}
use Rattle.grs_report.specs.Report.{head_line}
use Rattle.grs_wire.specs.declared.deck.Deck.{Deck}
use Rattle.grs_wire.specs.declared.deck.Event.{Event}
use Rattle.grs_top.specs.declared.status.Status.{Status}
use Rattle.grs_top.specs.declared.words.Command.TheVariants.{Replay, Run}
use Rattle.grs_top.specs.Due.{IsAnswered}
use Rattle.grs_top.specs.Schedules.{IsFront, printed}

-- These events stand in a report as its schedule: right behind its first line the line that counts them, and behind
-- that their printed lines.
abbrev pub HasSchedule : Deck → List Event → List ℕ → Type 0
HasSchedule deck es text =
    (behind : List ℕ)
    × (text ≡ head_line ++ (line (codes "SCHEDULE" ∷ decimal (length es) ∷ []) ++ (printed deck es ++ behind)))

-- What `run` wrote for a deck has the schedule of its run; and the deck with the schedule's lines in place of its own,
-- where its text isn't too long, `replay` answers by the same bytes and the same status.
abbrev pub RunsAreReplayed : Type 0
RunsAreReplayed =
    (text out : List ℕ) (status : Status) (a : IsAnswered Run text out status)
    → HasSchedule a.input a.is_text.events out
    × ((front : List ℕ) → IsFront front a.input → length (front ++ printed a.input a.is_text.events) ≤ most_text_bytes
    → IsAnswered Replay (front ++ printed a.input a.is_text.events) out status)

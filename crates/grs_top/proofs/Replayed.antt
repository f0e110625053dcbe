-- What `run` did, `replay` does again by the schedule that was printed.
use Rattle.std.proofs.Common.{◌≡◌, ◌≤◌, ℕ, List, [], ◌∷◌, ◌++◌, length, ap, sym, ◌∙◌, append_assoc, append-nil}
use Rattle.std.specs.Prelude.{All, codes}
use Rattle.std.specs.Fmt.{decimal}
use Rattle.deck_scan.specs.Reading.{most_text_bytes}
use Rattle.grs_wire.specs.Decks.{IsDeck, IsEventOf}
use Rattle.grs_wire.specs.declared.deck.Deck.{Deck}
use Rattle.grs_wire.specs.declared.deck.Event.{Event}
use Rattle.grs_wire.specs.declared.seen.Names.{Names}
use Rattle.grs_wire.specs.declared.seen.Seen.{Seen}
use Rattle.grs_deck.specs.Spells.{SpellsDeck}
use Rattle.grs_display.specs.Lines.{line}
use Rattle.grs_display.specs.Names.{names_of}
use Rattle.grs_report.specs.Ends.{all_ended}
use Rattle.grs_report.specs.History.{history_text}
use Rattle.grs_report.specs.Report.{head_line, end_line, report}
use Rattle.grs_report.specs.Schedule.{schedule_text}
use Rattle.grs_report.specs.State.{queues_text, units_text, words_text, mode_line}
use Rattle.grs_report.specs.Told.{told_text}
use Rattle.grs_top.specs.declared.words.Command.TheVariants.{Replay}
use Rattle.grs_top.specs.Due.{IsAnswered}
use Rattle.grs_top.specs.Replayed.{HasSchedule, RunsAreReplayed}
use Rattle.grs_top.specs.Schedules.{IsFront, DoersAreOfDeck, SchedulesReadBack, printed, unscheduled}
use Rattle.grs_top.specs.Seen.{report_of, seen_of_run}

-- parts put behind a text, one behind the other
abbrev joined : List ℕ → List (List ℕ) → List ℕ
joined text [] = text
joined text (part ∷ parts) = joined (text ++ part) parts

in_longer : (text before behind more : List ℕ) → text ≡ before ++ behind → text ++ more ≡ before ++ (behind ++ more)
in_longer text before behind more h = ap (λ xs. xs ++ more) h ∙ append_assoc before behind more

-- what stands at the front of a text stands there whatever is put behind it
in_joined : (parts : List (List ℕ)) (text before behind : List ℕ) → text ≡ before ++ behind
    → (rest : List ℕ) × (joined text parts ≡ before ++ rest)
in_joined [] text before behind h = (behind, h)
in_joined (more ∷ parts) text before behind h =
    in_joined parts (text ++ more) before (behind ++ more) (in_longer text before behind more h)

-- the parts of a front, each behind the others
split_front : (head first part rest : List ℕ)
    → (head ++ (first ++ part)) ++ rest ≡ head ++ (first ++ (part ++ rest))
split_front head first part rest =
    append_assoc head (first ++ part) rest ∙ ap (λ xs. head ++ xs) (append_assoc first part rest)

-- a report has the schedule of its events
stands : (deck : Deck) (es : List Event) → HasSchedule deck es (report_of (unscheduled deck) es)
unfolding report_of seen_of_run report schedule_text names_of
stands deck es =
    let bare : Deck = unscheduled deck in
    let names : Names = names_of bare in
    let seen : Seen = seen_of_run bare es in
    let first : List ℕ = line (codes "SCHEDULE" ∷ decimal (length es) ∷ []) in
    let front : List ℕ = head_line ++ (first ++ printed deck es) in
    let whole =
    in_joined
    (
    history_text names seen.hist
    ∷ told_text names seen.told seen.ended bare.systems
    ∷ queues_text names seen.queues
    ∷ units_text names seen.units
    ∷ words_text names seen.words
    ∷ mode_line seen.star
    ∷ end_line (all_ended seen.ended)
    ∷ [])
    front front [] (sym (append-nil front)) in
    (whole.0, whole.1 ∙ split_front head_line first (printed deck es) whole.0)

pub runs_are_replayed :
    ((text : List ℕ) (d : Deck) → SpellsDeck text d → IsDeck d) → DoersAreOfDeck → SchedulesReadBack → RunsAreReplayed
runs_are_replayed whole doers back text out status a =
    let shown = stands a.input a.is_text.events in ((shown.0, a.is_text.reported.whole ∙ shown.1), again)
  where
    again : (front : List ℕ) → IsFront front a.input
        → length (front ++ printed a.input a.is_text.events) ≤ most_text_bytes
        → IsAnswered Replay (front ++ printed a.input a.is_text.events) out status
    again front at short =
        let bare : IsDeck (unscheduled a.input) = whole front (unscheduled a.input) at.spelled in
        let own : All (IsEventOf a.input.systems a.input.entries) a.is_text.events =
        doers (unscheduled a.input) a.is_text.events bare a.is_text.all_do in
        record {
          input = record a.input { events = a.is_text.events };
          spelled = back front a.input a.is_text.events at own short;
          is_text = a.is_text.reported;
        }

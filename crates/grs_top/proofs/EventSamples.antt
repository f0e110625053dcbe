-- Each event, printed, and read back behind a deck's SCHEDULE.
use Rattle.std.proofs.Common.{◌≡◌, ℕ, List, [], ◌∷◌, ◌++◌, Ok, refl}
use Rattle.std.specs.Prelude.{codes}
use Rattle.std.specs.Fmt.{digits}
use Rattle.std.specs.List.{flat_map}
use Rattle.grs_base.specs.ShortNames.{is_name_byte, all_name, is_name}
use Rattle.grs_base.specs.declared.resource.SysId.{SysId}
use Rattle.grs_wire.specs.declared.deck.Choice.{Choice}
use Rattle.grs_wire.specs.declared.deck.Choice.TheVariants as choices
use Rattle.grs_wire.specs.declared.deck.Event.{Event}
use Rattle.grs_wire.specs.declared.deck.Deck.{Deck}
use Rattle.deck_scan.specs.Bytes.{is_word, is_hex, digit, is_allowed, bad_line}
use Rattle.deck_scan.specs.Scan.{put, put_word, put_open, end_line, break_off, begin_word, begin, step_in, step}
use Rattle.deck_scan.specs.Scan.{scan_from, finish_in, lines_of}
use Rattle.deck_scan.specs.Reading.{lines_or_fault}
use Rattle.deck_form.specs.Statements.{statements_from, statements}
use Rattle.deck_form.specs.SystemNames.{name_given, begins_schedule, names_to_schedule, system_names}
use Rattle.deck_form.specs.Words.{short_at, dotted_at, digits as digits_read, written_number, named_at}
use Rattle.deck_form.specs.Event.{event_word, pair_at, entry_at, act_at, event_at}
use Rattle.deck_form.specs.Form.{key, plain_form, first_form, event_form, form}
use Rattle.grs_deck.specs.Places.{system_place, job_place, task_place}
use Rattle.grs_deck.specs.Reading.{no_deck, judge, judge_all, reading}
use Rattle.grs_display.specs.Lines.{line}
use Rattle.grs_display.specs.Names.{names_of, name_at, name_in, task_in_job}
use Rattle.grs_report.specs.Schedule.{choice_words, event_line}

-- lines, each with its end
abbrev text : List (List ℕ) → List ℕ
text [] = []
text (l ∷ ls) = l ++ 10 ∷ text ls

abbrev system : ℕ → SysId
system n = record { 0 = n }

-- an event of the second system
abbrev does : Choice → Event
does c = record { system = system 1; choice = c }

-- the second task of the second job, and the first of the first
abbrev deck : Deck
deck = record no_deck {
  systems = record { name = codes "SYA"; desk = []; jobs = [] }
      ∷ record {
        name = codes "SYB";
        desk = [];
        jobs = record { name = codes "J1"; tasks = record { name = codes "T1"; lines = [] } ∷ [] }
            ∷ record {
              name = codes "J2";
              tasks = record { name = codes "T1"; lines = [] } ∷ record { name = codes "T2"; lines = [] } ∷ [];
            } ∷ [];
      } ∷ [];
  events = does (choices.Task (record { system = system 1; job = 1; task = 2 }))
      ∷ does choices.Turn
      ∷ does (choices.Send (record { system = system 1; job = 0; task = 0 }))
      ∷ does choices.Take
      ∷ does choices.Settle
      ∷ does (choices.Tell 63)
      ∷ does (choices.Part 17)
      ∷ does (choices.Leave 5)
      ∷ does choices.Switch
      ∷ does (choices.Purge (system 0))
      ∷ does choices.Rest ∷ [];
}

abbrev schedule : List ℕ
schedule =
    text (codes "SYB TASK J2.T2" ∷ codes "SYB TURN" ∷ codes "SYB SEND J1.T1" ∷ codes "SYB TAKE" ∷ codes "SYB SETTLE"
    ∷ codes "SYB TELL 63" ∷ codes "SYB PART 17" ∷ codes "SYB LEAVE 5" ∷ codes "SYB SWITCH" ∷ codes "SYB PURGE SYA"
    ∷ codes "SYB REST" ∷ [])

-- each event is printed so
printed : flat_map (event_line (names_of deck)) deck.events ≡ schedule
unfolding digits line names_of name_at name_in task_in_job choice_words event_line
printed = refl

-- and read so
read_back :
    reading
    (text (codes "SYSTEM SYA" ∷ codes "SYSTEM SYB" ∷ codes "JOB J1" ∷ codes "TASK T1" ∷ codes "JOB J2" ∷ codes "TASK T1"
    ∷ codes "TASK T2" ∷ codes "SCHEDULE" ∷ [])
    ++ schedule)
    ≡ Ok deck
unfolding is_word is_hex digit is_allowed bad_line put put_word put_open end_line break_off begin_word begin step_in
    step scan_from finish_in lines_of lines_or_fault is_name_byte all_name is_name short_at dotted_at digits_read
    written_number event_word pair_at entry_at act_at event_at named_at key plain_form first_form event_form form
    statements_from statements name_given begins_schedule names_to_schedule system_names system_place job_place
    task_place
    judge judge_all reading
read_back = refl

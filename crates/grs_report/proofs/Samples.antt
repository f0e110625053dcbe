-- Worked reports, computed from the definitions.
use Rattle.std.proofs.Common.{◌≡◌, ℕ, true, false, List, [], ◌∷◌, ◌++◌, Some, None, refl}
use Rattle.std.specs.Prelude.{codes}
use Rattle.std.specs.Fmt.{digits}
use Rattle.grs_base.specs.declared.resource.TaskId.{TaskId}
use Rattle.grs_base.specs.declared.resource.SysId.{SysId}
use Rattle.grs_base.specs.declared.resource.Res.{Res}
use Rattle.grs_base.specs.declared.resource.Res.TheVariants as kinds
use Rattle.grs_base.specs.declared.resource.Elem.{Elem}
use Rattle.grs_base.specs.declared.resource.Row.{Row}
use Rattle.grs_base.specs.declared.look.Place.{Place}
use Rattle.grs_base.specs.declared.look.Place.TheVariants as places
use Rattle.grs_base.specs.declared.look.Filter.{Filter}
use Rattle.grs_base.specs.declared.look.Filter.TheVariants as filters
use Rattle.grs_base.specs.declared.rnl.Which.TheVariants as lists
use Rattle.grs_base.specs.Rnl.{no_entries}
use Rattle.grs_base.specs.declared.resource.Ctl.TheVariants.{E}
use Rattle.grs_base.specs.declared.resource.Ret.TheVariants as rets
use Rattle.grs_base.specs.declared.decision.Code.{Code}
use Rattle.grs_base.specs.declared.decision.Code.TheVariants as replies
use Rattle.grs_wire.specs.declared.deck.Deck.{Deck}
use Rattle.grs_wire.specs.declared.deck.SystemDef.{SystemDef}
use Rattle.grs_wire.specs.declared.deck.JobDef.{JobDef}
use Rattle.grs_wire.specs.declared.deck.TaskDef.{TaskDef}
use Rattle.grs_wire.specs.declared.deck.Event.{Event}
use Rattle.grs_wire.specs.declared.deck.Choice.TheVariants as choices
use Rattle.grs_wire.specs.declared.history.HistEntry.{HistEntry}
use Rattle.grs_wire.specs.declared.history.HistEntry.TheVariants as entries
use Rattle.grs_wire.specs.declared.told.Told.{Told}
use Rattle.grs_wire.specs.declared.told.ToldLine.TheVariants as lines
use Rattle.grs_wire.specs.declared.told.Said.TheVariants as said
use Rattle.grs_wire.specs.declared.told.Verb.{Verb}
use Rattle.grs_wire.specs.declared.told.Verb.TheVariants as verbs
use Rattle.grs_wire.specs.declared.seen.Seen.{Seen}
use Rattle.grs_wire.specs.declared.seen.Names.{Names}
use Rattle.grs_wire.specs.declared.seen.TaskEnd.TheVariants as ends
use Rattle.grs_display.specs.Lines.{line}
use Rattle.grs_display.specs.Names.{names_of, name_at, name_in, task_in_job, task_word}
use Rattle.grs_display.specs.Rows.{names_word, res_word, elem_word, row_line, place_word, filter_word}
use Rattle.grs_report.specs.Schedule.{choice_words, event_line, schedule_text}
use Rattle.grs_report.specs.History.{history_line, history_text}
use Rattle.grs_report.specs.Told.{told_line, task_text, system_text, told_text}
use Rattle.grs_wire.specs.LockWords.{manager}
use Rattle.grs_report.specs.State.{queues_text, unit_line, units_text, word_line, words_text, mode_line}
use Rattle.grs_report.specs.Report.{head_line, end_line, report}

-- a line with its end
abbrev ended : List ℕ → List ℕ
ended text = text ++ 10 ∷ []

abbrev system : ℕ → SysId
system n = record { 0 = n }

-- a task of the first job of a system
abbrev task_of : ℕ → ℕ → TaskId
task_of s t = record { system = system s; job = 0; task = t }

abbrev job_with : List TaskDef → JobDef
job_with tasks = record { name = codes "J1"; tasks = tasks }

abbrev task_named : List ℕ → TaskDef
task_named name = record { name = name; lines = [] }

abbrev deck_with : List SystemDef → Deck
deck_with systems = record {
  star = false;
  entries = 64;
  limit = 4096;
  lists = record { incl = no_entries lists.Incl; excl = no_entries lists.Excl; con = no_entries lists.Con };
  systems = systems;
  events = [];
}

abbrev goes_on : TaskId → Event
goes_on t = record { system = t.system; choice = choices.Task t }

abbrev told_code : ℕ → TaskId → ℕ → Verb → Code → Told
told_code e t k verb code = record { event = e; system = t.system; line = lines.Coded t k 0 verb code }

-- one task takes a resource, gives it back and ends
abbrev one_task : Deck
one_task =
    deck_with (record { name = codes "SYA"; desk = []; jobs = job_with (task_named (codes "T1") ∷ []) ∷ [] } ∷ [])

abbrev payroll : Res
payroll = kinds.System (system 0) (codes "PAYROLL") (codes "MASTER")

abbrev seen_of_one : Seen
seen_of_one = record {
  events = goes_on (task_of 0 0) ∷ goes_on (task_of 0 0) ∷ goes_on (task_of 0 0) ∷ [];
  hist =
      entries.Enq (task_of 0 0) payroll E rets.RetNone replies.C00 ∷ entries.Deq (task_of 0 0) payroll false replies.C00
      ∷ [];
  told =
      told_code 1 (task_of 0 0) 1 verbs.Enq replies.C00
      ∷ told_code 2 (task_of 0 0) 2 verbs.Deq replies.C00
      ∷ (record { event = 3; system = system 0; line = lines.Ended (task_of 0 0) 0 })
      ∷ [];
  queues = [];
  units = [];
  words = [];
  star = false;
  ended = (task_of 0 0, ends.Ended) ∷ [];
}

reported_one :
    report one_task seen_of_one
    ≡ ended (codes "GRS REPORT 1")
    ++ ended (codes "SCHEDULE 3")
    ++ ended (codes "SYA TASK J1.T1")
    ++ ended (codes "SYA TASK J1.T1")
    ++ ended (codes "SYA TASK J1.T1")
    ++ ended (codes "HISTORY 2")
    ++ ended (codes "H 1 SYA.J1.T1 ENQ SYSTEM(SYA,PAYROLL,MASTER) E NONE 00")
    ++ ended (codes "H 2 SYA.J1.T1 DEQ SYSTEM(SYA,PAYROLL,MASTER) NONE 00")
    ++ ended (codes "TOLD")
    ++ ended (codes "SYSTEM SYA")
    ++ ended (codes "TASK J1.T1")
    ++ ended (codes "T 1 ENQ 00 @1")
    ++ ended (codes "T 2 DEQ 00 @2")
    ++ ended (codes "T END 000 @3")
    ++ ended (codes "S ENDED")
    ++ ended (codes "QUEUES")
    ++ ended (codes "UNITS")
    ++ ended (codes "WORDS")
    ++ ended (codes "MODE RING")
    ++ ended (codes "END DONE")
unfolding digits line names_of name_at name_in task_in_job task_word names_word res_word elem_word row_line choice_words
    event_line schedule_text history_line history_text told_line task_text system_text told_text queues_text unit_line
    units_text manager word_line words_text mode_line head_line end_line report
reported_one = refl

-- two tasks hold what the other one asks for
abbrev two_tasks : Deck
two_tasks =
    deck_with (record {
      name = codes "SYA";
      desk = [];
      jobs = job_with (task_named (codes "T1") ∷ task_named (codes "T2") ∷ []) ∷ [];
    }
    ∷ [])

abbrev local_res : List ℕ → Res
local_res r = kinds.System (system 0) (codes "A") r

abbrev exclusive : TaskId → Elem
exclusive t = record { task = t; ctl = E }

abbrev asks : TaskId → List ℕ → Code → HistEntry
asks t r code = entries.Enq t (local_res r) E rets.RetNone code

abbrev seen_of_two : Seen
seen_of_two = record {
  events = goes_on (task_of 0 0) ∷ goes_on (task_of 0 1) ∷ goes_on (task_of 0 0) ∷ goes_on (task_of 0 1) ∷ [];
  hist =
      asks (task_of 0 0) (codes "X") replies.C00
      ∷ asks (task_of 0 1) (codes "Y") replies.C00
      ∷ asks (task_of 0 0) (codes "Y") replies.Wait
      ∷ asks (task_of 0 1) (codes "X") replies.Wait
      ∷ [];
  told = told_code 1 (task_of 0 0) 1 verbs.Enq replies.C00 ∷ told_code 2 (task_of 0 1) 1 verbs.Enq replies.C00 ∷ [];
  queues =
      (record {
        res = local_res (codes "X");
        elems = exclusive (task_of 0 0) ∷ exclusive (task_of 0 1) ∷ [];
        owners = 1;
      })
      ∷ (record {
        res = local_res (codes "Y");
        elems = exclusive (task_of 0 1) ∷ exclusive (task_of 0 0) ∷ [];
        owners = 1;
      })
      ∷ [];
  units = [];
  words = [];
  star = false;
  ended = (task_of 0 0, ends.Waits) ∷ (task_of 0 1, ends.Waits) ∷ [];
}

reported_two :
    report two_tasks seen_of_two
    ≡ ended (codes "GRS REPORT 1")
    ++ ended (codes "SCHEDULE 4")
    ++ ended (codes "SYA TASK J1.T1")
    ++ ended (codes "SYA TASK J1.T2")
    ++ ended (codes "SYA TASK J1.T1")
    ++ ended (codes "SYA TASK J1.T2")
    ++ ended (codes "HISTORY 4")
    ++ ended (codes "H 1 SYA.J1.T1 ENQ SYSTEM(SYA,A,X) E NONE 00")
    ++ ended (codes "H 2 SYA.J1.T2 ENQ SYSTEM(SYA,A,Y) E NONE 00")
    ++ ended (codes "H 3 SYA.J1.T1 ENQ SYSTEM(SYA,A,Y) E NONE WAIT")
    ++ ended (codes "H 4 SYA.J1.T2 ENQ SYSTEM(SYA,A,X) E NONE WAIT")
    ++ ended (codes "TOLD")
    ++ ended (codes "SYSTEM SYA")
    ++ ended (codes "TASK J1.T1")
    ++ ended (codes "T 1 ENQ 00 @1")
    ++ ended (codes "S WAITS")
    ++ ended (codes "TASK J1.T2")
    ++ ended (codes "T 1 ENQ 00 @2")
    ++ ended (codes "S WAITS")
    ++ ended (codes "QUEUES")
    ++ ended (codes "Q SYSTEM(SYA,A,X) SYA.J1.T1:E* SYA.J1.T2:E")
    ++ ended (codes "Q SYSTEM(SYA,A,Y) SYA.J1.T2:E* SYA.J1.T1:E")
    ++ ended (codes "UNITS")
    ++ ended (codes "WORDS")
    ++ ended (codes "MODE RING")
    ++ ended (codes "END WAITS")
unfolding digits line names_of name_at name_in task_in_job task_word names_word res_word elem_word row_line choice_words
    event_line schedule_text history_line history_text told_line task_text system_text told_text queues_text unit_line
    units_text manager word_line words_text mode_line head_line end_line report
reported_two = refl

-- the names of three systems with a job of two tasks each
abbrev three : Names
three = record {
  systems = codes "SYA" ∷ codes "SYB" ∷ codes "SYC" ∷ [];
  jobs = (codes "J1" ∷ []) ∷ (codes "J1" ∷ []) ∷ (codes "J1" ∷ []) ∷ [];
  tasks = (codes "T1" ∷ codes "T2" ∷ []) ∷ (codes "T1" ∷ codes "T2" ∷ []) ∷ (codes "T1" ∷ codes "T2" ∷ []) ∷ [];
}

-- lines of forms that the two reports do not show
parts :
    (units_text three ((system 0, 6657, 1) ∷ (system 0, 6659, 1) ∷ [])
    ≡ ended (codes "UNITS") ++ ended (codes "U SYA 1A01 1") ++ ended (codes "U SYA 1A03 1"))
    × (words_text three (0 ∷ 263 ∷ 4096 ∷ [])
    ≡ ended (codes "WORDS") ++ ended (codes "W 1 MASK 7 MANAGER SYA EPOCH 0")
    ++ ended (codes "W 2 MASK 0 MANAGER NONE EPOCH 1"))
    × (event_line three (record { system = system 1; choice = choices.Purge (system 2) })
    ≡ ended (codes "SYB PURGE SYC"))
    × (event_line three (record { system = system 0; choice = choices.Tell 15 }) ≡ ended (codes "SYA TELL 15"))
    × (event_line three (record { system = system 1; choice = choices.Send (task_of 1 1) })
    ≡ ended (codes "SYB SEND J1.T2"))
    × (event_line three (record { system = system 2; choice = choices.Settle }) ≡ ended (codes "SYC SETTLE"))
    × (mode_line true ≡ ended (codes "MODE STAR"))
    × (told_line three 18 (lines.Post (task_of 2 0) 1) ≡ ended (codes "T 1 POST @18"))
    × (told_line three 7 (lines.Ended (task_of 0 1) 138) ≡ ended (codes "T END 138 @7"))
    × (history_line three 5 (entries.Deq (task_of 0 1) (local_res (codes "C")) true replies.C08)
    ≡ ended (codes "H 5 SYA.J1.T2 DEQ SYSTEM(SYA,A,C) HAVE 08"))
    × (history_line three 6 (entries.Enq (task_of 0 1) (local_res (codes "B")) E rets.RetChng (replies.End 138))
    ≡ ended (codes "H 6 SYA.J1.T2 ENQ SYSTEM(SYA,A,B) E CHNG 138"))
    × (history_line three 12 (entries.Release (task_of 0 1) (local_res (codes "B")))
    ≡ ended (codes "H 12 SYA.J1.T2 RELEASE SYSTEM(SYA,A,B)"))
unfolding digits line name_at name_in task_in_job task_word names_word res_word elem_word row_line choice_words
    event_line history_line told_line unit_line units_text manager word_line words_text mode_line
parts = (refl, refl, refl, refl, refl, refl, refl, refl, refl, refl, refl, refl)

-- (A,B) held exclusively by the first task
abbrev held_row : Row
held_row = record { res = kinds.Systems (codes "A") (codes "B"); elems = exclusive (task_of 0 0) ∷ []; owners = 1 }

abbrev looked : Place → Filter → List Row → HistEntry
looked place f rows = entries.Look (task_of 0 0) place f rows

-- lines of looks, displays, desks and removals
looks_and_desks :
    (history_line three 66 (looked (places.Local (system 0)) (filters.Named (Some (codes "A")) (Some (codes "B"))) [])
    ≡ ended (codes "H 66 SYA.J1.T1 LOOK LOCAL (A,B) 0"))
    × (history_line three 54 (looked (places.Slice 52) (filters.Named (Some (codes "A")) None) (held_row ∷ []))
    ≡ ended (codes "H 54 SYA.J1.T1 LOOK 52 (A) 1") ++ ended (codes "R SYSTEMS(A,B) SYA.J1.T1:E*"))
    × (history_line three 2 (looked (places.Slice 0) (filters.Named None (Some (codes "B C"))) [])
    ≡ ended (codes "H 2 SYA.J1.T1 LOOK 0 (,'B C') 0"))
    × (history_line three 3 (looked (places.Slice 63) filters.All []) ≡ ended (codes "H 3 SYA.J1.T1 LOOK 63 ALL 0"))
    × (history_line three 4 (looked (places.Slice 1) filters.Contended []) ≡ ended (codes "H 4 SYA.J1.T1 LOOK 1 C 0"))
    × (history_line three 3 (entries.Remove (system 0) (system 1)) ≡ ended (codes "H 3 SYA REMOVE SYB"))
    × (told_line three 6 (lines.Shown (task_of 0 0) 2 verbs.Gqscan replies.C00 (held_row ∷ []))
    ≡ ended (codes "T 2 GQSCAN 00 1 @6") ++ ended (codes "R SYSTEMS(A,B) SYA.J1.T1:E*"))
    × (told_line three 9 (lines.Shown (task_of 0 0) 3 verbs.Display replies.C04 [])
    ≡ ended (codes "T 3 DISPLAY 04 0 @9"))
    × (told_line three 12 (lines.Desk 1 said.StarDone) ≡ ended (codes "D 1 SETGRS DONE @12"))
    × (told_line three 2 (lines.Desk 2 said.StarAlready) ≡ ended (codes "D 2 SETGRS ALREADY @2"))
    × (told_line three 8 (lines.Desk 1 said.VaryDone) ≡ ended (codes "D 1 VARY DONE @8"))
    × (told_line three 3 (lines.Desk 1 said.VaryNoSuch) ≡ ended (codes "D 1 VARY NOSUCH @3"))
unfolding digits line name_at name_in task_in_job task_word names_word res_word elem_word row_line place_word
    filter_word history_line told_line
looks_and_desks = (refl, refl, refl, refl, refl, refl, refl, refl, refl, refl, refl, refl)

-- a line at a desk stands behind its system's name, before its tasks
desk_first :
    system_text three
    ((record { event = 1; system = system 1; line = lines.Desk 1 said.StarAlready })
    ∷ (told_code 2 (task_of 0 0) 1 verbs.Enq replies.C00)
    ∷ (record { event = 3; system = system 0; line = lines.Desk 1 said.StarAlready }) ∷ [])
    [] 0 (record { name = codes "SYA"; desk = []; jobs = job_with (task_named (codes "T1") ∷ []) ∷ [] })
    ≡ ended (codes "SYSTEM SYA") ++ ended (codes "D 1 SETGRS ALREADY @3") ++ ended (codes "TASK J1.T1")
    ++ ended (codes "T 1 ENQ 00 @2") ++ ended (codes "S OPEN")
unfolding digits line name_at name_in task_in_job task_word told_line task_text system_text
desk_first = refl

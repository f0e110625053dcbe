-- Worked texts, by which the definitions are checked.
use Rattle.std.proofs.Common.{◌≡◌, ◌≤◌, ℕ, true, false, List, [], ◌∷◌, ◌++◌, length, Some, None, refl, arith}
use Rattle.std.proofs.Common.{◌∙◌, ◌*◌, subst, append_assoc, inl, inr}
use Rattle.std.specs.Prelude.{codes}
use Rattle.std.specs.Fmt.{digits}
use Rattle.deck_form.specs.Words as words
use Rattle.grs_base.specs.declared.fault.DeckFault.{DeckFault}
use Rattle.grs_base.specs.declared.fault.Kind.TheVariants.{TooLong}
use Rattle.grs_base.specs.declared.decision.Code.TheVariants.{C00}
use Rattle.grs_base.specs.declared.line.Line.TheVariants as texts
use Rattle.grs_base.specs.declared.line.Scope.TheVariants as scopes
use Rattle.grs_base.specs.declared.resource.Ctl.TheVariants.{E}
use Rattle.grs_base.specs.declared.resource.Res.{Res}
use Rattle.grs_base.specs.declared.resource.Res.TheVariants as kinds
use Rattle.grs_base.specs.declared.resource.Ret.TheVariants.{RetNone}
use Rattle.grs_base.specs.declared.resource.TaskId.{TaskId}
use Rattle.grs_base.specs.declared.rnl.Which.TheVariants as which
use Rattle.grs_base.specs.Rnl.{no_entries}
use Rattle.grs_wire.specs.declared.deck.Deck.{Deck}
use Rattle.grs_wire.specs.declared.history.HistEntry.{HistEntry}
use Rattle.grs_wire.specs.declared.history.HistEntry.TheVariants.{Enq, Deq}
use Rattle.grs_legal.specs.Legal.{Legal}
use Rattle.grs_deck.specs.Faults.{IsFault}
use Rattle.grs_display.specs.Lines.{line}
use Rattle.grs_display.specs.Names.{names_of, name_at, name_in, task_in_job, task_word}
use Rattle.grs_display.specs.Rows.{names_word, res_word}
use Rattle.grs_report.specs.History.{history_line}
use Rattle.grs_audit.specs.Halves.{deck_part, report_part, first_line, most_audited_bytes, IsFaultOfAudited}
use Rattle.grs_audit.specs.Lines.{lines_in}
use Rattle.grs_audit.specs.Text.{verdict_text}
use Rattle.grs_audit.specs.Verdicts.{count_in, IsVerdict}
use Rattle.grs_audit.specs.Way.{told_word, told_behind, printed, way}
use Rattle.grs_audit.specs.Words.{asker_word, behind_asker}
use Rattle.grs_audit.specs.declared.verdict.Verdict.TheVariants.{Yes, No}
use Rattle.grs_audit.proofs.OneVerdict.{one_verdict}

-- ---- lines: the last may lack its end, and behind a last end there is none; a return is a byte of its line
no_line : lines_in [] ≡ []
no_line = refl

open_line : lines_in (65 ∷ 10 ∷ 66 ∷ []) ≡ (65 ∷ []) ∷ (66 ∷ []) ∷ []
open_line = refl

ended_line : lines_in (65 ∷ 10 ∷ 66 ∷ 10 ∷ []) ≡ (65 ∷ []) ∷ (66 ∷ []) ∷ []
ended_line = refl

blank_lines : lines_in (10 ∷ 65 ∷ 13 ∷ 10 ∷ 10 ∷ []) ≡ [] ∷ (65 ∷ 13 ∷ []) ∷ [] ∷ []
blank_lines = refl

-- ---- the first line of a history
count : count_in (codes "HISTORY 20") ≡ Some 20
unfolding words.digits
count = refl

no_entries_said : count_in (codes "HISTORY 0") ≡ Some 0
unfolding words.digits
no_entries_said = refl

-- a number of 64 bits and more counts as any other
large : count_in (codes "HISTORY 18446744073709551617") ≡ Some 18446744073709551617
unfolding words.digits
large = refl

leading_zero : count_in (codes "HISTORY 02") ≡ None
unfolding words.digits
leading_zero = refl

no_number : count_in (codes "HISTORY ") ≡ None
no_number = refl

more_behind : count_in (codes "HISTORY 2 ") ≡ None
unfolding words.digits
more_behind = refl

other_word : count_in (codes " HISTORY 2") ≡ None
other_word = refl

-- ---- who asks by a line
asker : asker_word (codes "H 12 SYA.J1.T1 LOOK 3 ALL 0") ≡ codes "SYA.J1.T1"
asker = refl

remover : behind_asker (codes "H 3 SYB REMOVE SYA") ≡ codes "REMOVE SYA"
remover = refl

-- ---- a deck of one task that takes a resource and gives it back, and its report
abbrev task : TaskId
task = record { system = record { 0 = 0 }; job = 0; task = 0 }

abbrev payroll : Res
payroll = kinds.System (record { 0 = 0 }) (codes "PAYROLL") (codes "MASTER")

abbrev deck : Deck
deck = record {
  star = false;
  entries = 64;
  limit = 4096;
  lists = record { incl = no_entries which.Incl; excl = no_entries which.Excl; con = no_entries which.Con };
  systems = record {
    name = codes "SYA";
    desk = [];
    jobs = record {
      name = codes "J1";
      tasks = record {
        name = codes "T1";
        lines =
            texts.Enq
            (record { ctl = E; scope = scopes.System; q = codes "PAYROLL"; r = codes "MASTER" } ∷ []) RetNone true
            ∷ texts.Deq (codes "PAYROLL") (codes "MASTER") scopes.System false None true
            ∷ [];
      } ∷ [];
    } ∷ [];
  } ∷ [];
  events = [];
}

abbrev ended : List ℕ → List ℕ
ended text = text ++ 10 ∷ []

abbrev entries : List ℕ
entries =
    ended (codes "H 1 SYA.J1.T1 ENQ SYSTEM(SYA,PAYROLL,MASTER) E NONE 00")
    ++ ended (codes "H 2 SYA.J1.T1 DEQ SYSTEM(SYA,PAYROLL,MASTER) NONE 00")

abbrev up_to_entries : List ℕ
up_to_entries =
    ended (codes "GRS REPORT 1")
    ++ ended (codes "SCHEDULE 3")
    ++ ended (codes "SYA TASK J1.T1")
    ++ ended (codes "SYA TASK J1.T1")
    ++ ended (codes "SYA TASK J1.T1")
    ++ ended (codes "HISTORY 2")
    ++ entries

abbrev report : List ℕ
report = up_to_entries ++ ended (codes "TOLD") ++ ended (codes "SYSTEM SYA")

-- its deck has nine lines
abbrev both : List HistEntry
both = Enq task payroll E RetNone C00 ∷ Deq task payroll false C00 ∷ []

they_are_legal : Legal deck both
they_are_legal = (
  record { reply = refl; live = refl; next = refl; waited = tt; passed = refl },
  (record { reply = refl; live = refl; next = refl; waited = λ e. absurd (cc); passed = refl }, tt),
)

pub whole_report : IsVerdict deck report 10 Yes
unfolding words.digits digits line names_of name_at name_in task_in_job task_word names_word res_word history_line
whole_report = record {
  hist = both;
  legal = they_are_legal;
  count = refl;
  rest = codes "SYSTEM SYA" ∷ [];
  begins = refl;
}

-- and no line of it is said to be wrong
no_line_wrong : IsVerdict deck report 10 (No 17) → ⊥
no_line_wrong v = let e = one_verdict deck report 10 Yes (No 17) whole_report v in absurd (cc)

-- where there is no report, it is missing behind the deck
no_report : IsVerdict deck [] 10 (No 10)
no_report = refl

-- as it is where no line begins a history, behind the last line
pub no_history : IsVerdict deck (ended (codes "GRS REPORT 1") ++ ended (codes "HISTORY 02")) 10 (No 12)
unfolding words.digits
no_history = refl

-- behind no entry TOLD is wanted, so a line in its place is the first that can't stand
abbrev untold : List ℕ
untold =
    ended (codes "GRS REPORT 1")
    ++ ended (codes "SCHEDULE 0")
    ++ ended (codes "HISTORY 0")
    ++ ended (codes "SYSTEM SYA")

other_than_told : (rest : List (List ℕ)) → codes "SYSTEM SYA" ∷ [] ≡ told_word ∷ rest → ⊥
other_than_told rest e = absurd (cc)

no_way : (hist : List HistEntry) (rest : List (List ℕ)) → length hist ≤ 0
    → way deck 0 hist ≡ codes "SYSTEM SYA" ∷ rest → ⊥
no_way [] rest few e = absurd (cc)
no_way (h ∷ hist) rest few e = absurd (omega (arith, few))

no_whole : (hist : List HistEntry) (rest : List (List ℕ)) → length hist ≡ 0
    → codes "SYSTEM SYA" ∷ [] ≡ way deck 0 hist ++ rest → ⊥
no_whole [] rest count e = other_than_told rest e
no_whole (h ∷ hist) rest count e = absurd (omega (arith, count))

pub told_wanted : IsVerdict deck untold 10 (No 13)
unfolding words.digits
told_wanted = (
  0,
  refl,
  record {
    whole = λ w. no_whole w.hist w.rest w.count w.begins;
    within = omega arith;
    on = record { hist = []; legal = tt; few = omega arith; rest = told_word ∷ []; front = refl };
    off = λ some on. no_way on.hist on.rest on.few on.front;
  },
)

-- behind both entries TOLD is wanted, and a text that ends there lacks it: the line behind its last one is told
told_of_two : (x y : List ℕ) (printed rest : List (List ℕ)) → (x ≡ told_word → ⊥) → (y ≡ told_word → ⊥)
    → x ∷ y ∷ [] ≡ printed ++ told_word ∷ rest → ⊥
told_of_two x y [] rest a b e = a (cc (e))
told_of_two x y (p ∷ []) rest a b e = b (cc (e))
told_of_two x y (p ∷ q ∷ []) rest a b e = absurd (cc (e))
told_of_two x y (p ∷ q ∷ r ∷ ps) rest a b e = absurd (cc (e))

no_told_behind : (x y : List ℕ) (hist : List HistEntry) (rest : List (List ℕ)) → (x ≡ told_word → ⊥)
    → (y ≡ told_word → ⊥) → length hist ≡ 2 → x ∷ y ∷ [] ≡ way deck 2 hist ++ rest → ⊥
no_told_behind x y hist rest a b count e =
    told_of_two x y (printed deck 1 hist) rest a b
    (subst (λ n. x ∷ y ∷ [] ≡ (printed deck 1 hist ++ told_behind 2 n) ++ rest) count e
    ∙ append_assoc (printed deck 1 hist) (told_word ∷ []) rest)

pub told_missing : IsVerdict deck up_to_entries 10 (No 18)
unfolding words.digits digits line names_of name_at name_in task_in_job task_word names_word res_word history_line
told_missing = (
  2,
  refl,
  record {
    whole = λ w.
        no_told_behind (codes "H 1 SYA.J1.T1 ENQ SYSTEM(SYA,PAYROLL,MASTER) E NONE 00")
        (codes "H 2 SYA.J1.T1 DEQ SYSTEM(SYA,PAYROLL,MASTER) NONE 00") w.hist w.rest (λ e. absurd (cc)) (λ e. absurd (cc))
        w.count w.begins;
    within = omega arith;
    on = record { hist = both; legal = they_are_legal; few = omega arith; rest = told_word ∷ []; front = refl };
    off = λ some. absurd (omega (arith, some));
  },
)

-- ---- a deck and a report in one text: the report begins at the first line that is its word, whole
abbrev two_lines : List ℕ
two_lines = ended (codes "SYSTEM SYA") ++ ended (codes "* GRS REPORT 1")

deck_before : deck_part (two_lines ++ up_to_entries) ≡ two_lines
deck_before = refl

report_behind : report_part (two_lines ++ up_to_entries) ≡ up_to_entries
report_behind = refl

it_begins_behind_both : first_line (two_lines ++ up_to_entries) ≡ 3
it_begins_behind_both = refl

other_report : report_part (ended (codes "GRS REPORT 10") ++ ended (codes "GRS REPORT 1 ")) ≡ []
other_report = refl

-- one whose last line end is missing has a first line too
nothing_behind : first_line (codes "SYSTEM SYA") ≡ 2
nothing_behind = refl

-- ---- the limit is 256 times 1,048,576 bytes: a text of as many has its deck's faults, and one more byte is a fault of line 0
limit : most_audited_bytes ≡ 256 * 1048576
limit = refl

one_more : (text : List ℕ) → length text ≡ 268435457
    → IsFaultOfAudited text (record { line = 0; kind = TooLong })
one_more text n = inl (omega (arith, n), refl)

as_many : (text : List ℕ) (f : DeckFault) → length text ≡ 268435456 → IsFault (deck_part text) f → IsFaultOfAudited text f
as_many text f n fault = inr (omega (arith, n), fault)

-- ---- verdicts
yes_text : verdict_text Yes ≡ codes "AUDIT YES" ++ 10 ∷ []
yes_text = refl

no_text : verdict_text (No 18) ≡ codes "AUDIT NO LINE 18" ++ 10 ∷ []
unfolding digits
no_text = refl

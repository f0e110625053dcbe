-- What the definitions say of some small texts.
use Rattle.std.proofs.Common.{◌≡◌, ◌≤◌, ◌<◌, arith, ℕ, List, [], ◌∷◌, ◌++◌, Option, Some, None, Ok, true, false, refl}
use Rattle.std.specs.Prelude.{codes, replicate}
use Rattle.std.proofs.lemmas.List.Elements.{All-nil, All-push}
use Rattle.grs_base.specs.declared.fault.DeckFault.{DeckFault}
use Rattle.grs_base.specs.declared.fault.Kind.{Kind}
use Rattle.grs_base.specs.declared.fault.Kind.TheVariants.{BadByte, UnknownStatement, BadOperand, NameLength, Repeated}
use Rattle.grs_base.specs.declared.fault.Kind.TheVariants.{OutOfPlace, TooMany, UnknownName, NoSystem}
use Rattle.grs_base.specs.declared.resource.Ctl.TheVariants.{E, S}
use Rattle.grs_base.specs.declared.resource.Ret.TheVariants.{RetNone, RetUse}
use Rattle.grs_base.specs.declared.rnl.Which.TheVariants.{Excl}
use Rattle.grs_base.specs.declared.rnl.Form.TheVariants.{Pattern}
use Rattle.grs_base.specs.declared.look.Filter.TheVariants as filters
use Rattle.grs_base.specs.declared.line.Scope.TheVariants as scopes
use Rattle.grs_base.specs.declared.line.Line.{Line}
use Rattle.grs_base.specs.declared.line.Line.TheVariants as lines
use Rattle.grs_base.specs.declared.line.Item.{Item}
use Rattle.grs_base.specs.ShortNames.{is_name_byte, all_name, is_name}
use Rattle.grs_wire.specs.declared.deck.Deck.{Deck}
use Rattle.grs_wire.specs.declared.deck.Desk.{Desk}
use Rattle.grs_wire.specs.declared.deck.Choice.TheVariants as choices
use Rattle.grs_wire.specs.Decks.{IsOrderOf, AreOrders, IsDeck}
use Rattle.grs_wire.specs.declared.deck.Order.TheVariants.{Star, Vary}
use Rattle.deck_scan.specs.Bytes.{is_word, is_hex, digit, is_allowed, bad_line}
use Rattle.deck_scan.specs.Scan.{put, put_word, put_open, end_line, break_off, begin_word, begin, step_in, step}
use Rattle.deck_scan.specs.Scan.{scan_from, finish_in, lines_of}
use Rattle.deck_scan.specs.Reading.{lines_or_fault}
use Rattle.job_syntax.specs.Unit.{unit_of}
use Rattle.job_syntax.specs.Options.{ret_of, rnl_of, chosen, option_at, options_at}
use Rattle.job_syntax.specs.Ask.{ctl_at, scope_at, names_at, place_at, controlled_at, uncontrolled_at, enq_at}
use Rattle.job_syntax.specs.Ask.{reserve_at, deq_at, wait_at}
use Rattle.job_syntax.specs.Display.{reach_of, want_of, want_at, scan_at, resource_at, shown_at, display_at}
use Rattle.job_syntax.specs.LineAsk.{line_word, line_ask_at}
use Rattle.rnl_syntax.specs.Operands.{which_of, form_of, value_of, operand_at as rnl_operand_at, whole as whole_rnl}
use Rattle.rnl_syntax.specs.Operands.{rnldef_at}
use Rattle.deck_form.specs.Statements.{statements_from, statements}
use Rattle.deck_form.specs.SystemNames.{name_given, begins_schedule, names_to_schedule, system_names}
use Rattle.deck_form.specs.SystemNames.{name_place}
use Rattle.deck_form.specs.Words.{short_at, dotted_at, digits, written_number, named_at}
use Rattle.deck_form.specs.Complex.{mode_of, entries_of, limit_of, with_operand, operand_at, complex_at}
use Rattle.deck_form.specs.Command.{setgrs_at, vary_at, order_at, command_at}
use Rattle.deck_form.specs.Event.{event_word, pair_at, entry_at, act_at, event_at}
use Rattle.deck_form.specs.Form.{key, plain_form, first_form, event_form, form}
use Rattle.grs_deck.specs.Places.{system_place, job_place, task_place}
use Rattle.grs_deck.specs.Faults.{IsFault}
use Rattle.grs_deck.proofs.First.{is_fault}
use Rattle.grs_deck.specs.Reading.{no_lists, no_deck, judge, judge_all, reading, fault}

abbrev at : ℕ → Kind → Option DeckFault
at n k = Some (record { line = n; kind = k })

-- lines, each with an LF
abbrev text : List (List ℕ) → List ℕ
text [] = []
text (l ∷ ls) = l ++ 10 ∷ text ls

abbrev FaultOf : List ℕ → Option DeckFault → Type 0
FaultOf t f = fault t ≡ f

-- lines of a task behind SYSTEM, JOB and TASK
abbrev in_task : List (List ℕ) → List ℕ
in_task ls = text (codes "SYSTEM SYA" ∷ codes "JOB J1" ∷ codes "TASK T1" ∷ ls)

-- lines behind the removal of SYB at the desk of SYA
abbrev behind : List (List ℕ) → List ℕ
behind ls = text (codes "SYSTEM SYA" ∷ codes "AT 0 VARY GRS(SYB),PURGE" ∷ ls)

-- bytes and comments: a tab; a tab behind a fault; CR before LF; CR alone; an unclosed comment; one behind a statement;
-- a comment over lines; no statement
bytes :
    FaultOf (codes "SYSTEM SYA" ++ 9 ∷ []) (at 1 BadByte)
    × FaultOf (text (codes "FOO" ∷ []) ++ 9 ∷ []) (at 2 BadByte)
    × FaultOf (codes "SYSTEM SYA" ++ 13 ∷ 10 ∷ codes "JOB J1") None
    × FaultOf (codes "SYSTEM SYA" ++ 13 ∷ codes "JOB J1") (at 1 BadByte)
    × FaultOf (codes "SYSTEM SYA /* open") (at 1 BadOperand)
    × FaultOf (text (codes "JOB J1 /* open" ∷ [])) (at 1 OutOfPlace)
    × FaultOf (text (codes "SYSTEM SYA /* a" ∷ codes "b */ FOO" ∷ [])) (at 2 UnknownStatement)
    × FaultOf (text (codes "/* only */" ∷ [])) (at 0 NoSystem)
unfolding is_word is_hex digit is_allowed bad_line put put_word put_open end_line break_off begin_word begin step_in
    step scan_from finish_in lines_of lines_or_fault is_name_byte all_name is_name short_at dotted_at digits
    written_number unit_of ret_of rnl_of chosen option_at options_at ctl_at scope_at names_at place_at controlled_at
    uncontrolled_at enq_at reserve_at deq_at wait_at line_ask_at line_word which_of form_of value_of rnl_operand_at
    whole_rnl rnldef_at mode_of entries_of limit_of with_operand operand_at complex_at event_word pair_at entry_at
    act_at event_at setgrs_at vary_at order_at command_at named_at key plain_form first_form event_form form
    statements_from statements name_given begins_schedule names_to_schedule system_names name_place system_place
    job_place task_place judge judge_all reading fault
bytes = (refl, refl, refl, refl, refl, refl, refl, refl)

-- words and forms before SCHEDULE: no word; a joined word; a quoted word; a digit first; a long name; the limit 0;
-- COMPLEX not first; a number of entries that may not be; twice an operand; the operands; SCHEDULE first; a name twice;
-- a line without a task; a task's line behind another JOB
words_and_forms :
    FaultOf (text (codes "SYSTEM SYA" ∷ codes "FOO" ∷ [])) (at 2 UnknownStatement)
    × FaultOf (text (codes "SYSTEM,SYA" ∷ [])) (at 1 UnknownStatement)
    × FaultOf (text (codes "ENQ'A'" ∷ [])) (at 1 UnknownStatement)
    × FaultOf (text (codes "SYSTEM 1AB" ∷ [])) (at 1 BadOperand)
    × FaultOf (text (codes "SYSTEM ABCDEFGHI" ∷ [])) (at 1 NameLength)
    × FaultOf (text (codes "COMPLEX LIMIT(0)" ∷ codes "SYSTEM SYA" ∷ [])) (at 1 BadOperand)
    × FaultOf (text (codes "SYSTEM SYA" ∷ codes "COMPLEX" ∷ [])) (at 2 OutOfPlace)
    × FaultOf (text (codes "COMPLEX ENTRIES(3)" ∷ [])) (at 1 BadOperand)
    × FaultOf (text (codes "COMPLEX LIMIT(1) LIMIT(1)" ∷ [])) (at 1 BadOperand)
    × FaultOf (text (codes "COMPLEX LIMIT(0004096)MODE(RING) ENTRIES ( 64 )" ∷ codes "SYSTEM SYA" ∷ [])) None
    × FaultOf (text (codes "SCHEDULE" ∷ codes "SYSTEM SYA" ∷ [])) (at 1 OutOfPlace)
    × FaultOf (text (codes "SYSTEM SYA" ∷ codes "SYSTEM SYA" ∷ [])) (at 2 Repeated)
    × FaultOf (text (codes "SYSTEM SYA" ∷ codes "JOB J1" ∷ codes "ENQ (A,B,E,SYSTEM)" ∷ [])) (at 3 OutOfPlace)
    × FaultOf (in_task (codes "JOB J2" ∷ codes "ENQ (A,B,E,SYSTEM)" ∷ [])) (at 5 OutOfPlace)
unfolding is_word is_hex digit is_allowed bad_line put put_word put_open end_line break_off begin_word begin step_in
    step scan_from finish_in lines_of lines_or_fault is_name_byte all_name is_name short_at dotted_at digits
    written_number unit_of ret_of rnl_of chosen option_at options_at ctl_at scope_at names_at place_at controlled_at
    uncontrolled_at enq_at reserve_at deq_at wait_at line_ask_at line_word which_of form_of value_of rnl_operand_at
    whole_rnl rnldef_at mode_of entries_of limit_of with_operand operand_at complex_at event_word pair_at entry_at
    act_at event_at setgrs_at vary_at order_at command_at named_at key plain_form first_form event_form form
    statements_from statements name_given begins_schedule names_to_schedule system_names name_place system_place
    job_place task_place judge judge_all reading fault
words_and_forms = (refl, refl, refl, refl, refl, refl, refl, refl, refl, refl, refl, refl, refl, refl)

-- task lines: an empty qname; a blank one; nine bytes of which eight are blanks; RET and ECB; RET twice; each option of
-- DEQ; a unit of five digits; RET=USE of DEQ; UCB of ENQ; RET of WAIT; a quote that is not closed; an odd hexadecimal
-- digit; a scope that is none
task_lines :
    FaultOf (in_task (codes "ENQ ('',B,E,SYSTEM)" ∷ [])) (at 4 NameLength)
    × FaultOf (in_task (codes "ENQ ('  ',B,E,SYSTEM)" ∷ [])) (at 4 NameLength)
    × FaultOf (in_task (codes "ENQ ('A        ',B,E,SYSTEM)" ∷ [])) (at 4 NameLength)
    × FaultOf (in_task (codes "ENQ (A,B,E,SYSTEM),RET=USE,ECB" ∷ [])) (at 4 BadOperand)
    × FaultOf (in_task (codes "ENQ (A,B,E,SYSTEM),RET=USE,RET=USE" ∷ [])) (at 4 BadOperand)
    × FaultOf (in_task (codes "DEQ (A,B,SYSTEM),RNL=NO,UCB=1a0F,RET=HAVE" ∷ [])) None
    × FaultOf (in_task (codes "DEQ (A,B,SYSTEM),UCB=1A012" ∷ [])) (at 4 BadOperand)
    × FaultOf (in_task (codes "DEQ (A,B,SYSTEM),RET=USE" ∷ [])) (at 4 BadOperand)
    × FaultOf (in_task (codes "ENQ (A,B,E,SYSTEM),UCB=1A01" ∷ [])) (at 4 BadOperand)
    × FaultOf (in_task (codes "WAIT (A,B,SYSTEM),RET=NONE" ∷ [])) (at 4 BadOperand)
    × FaultOf (in_task (codes "ENQ ('A,B,E,SYSTEM)" ∷ [])) (at 4 BadOperand)
    × FaultOf (in_task (codes "ENQ (X'123',B,E,SYSTEM)" ∷ [])) (at 4 BadOperand)
    × FaultOf (in_task (codes "ENQ (A,B,E,GLOBAL)" ∷ [])) (at 4 BadOperand)
unfolding is_word is_hex digit is_allowed bad_line put put_word put_open end_line break_off begin_word begin step_in
    step scan_from finish_in lines_of lines_or_fault is_name_byte all_name is_name short_at dotted_at digits
    written_number unit_of ret_of rnl_of chosen option_at options_at ctl_at scope_at names_at place_at controlled_at
    uncontrolled_at enq_at reserve_at deq_at wait_at line_ask_at line_word which_of form_of value_of rnl_operand_at
    whole_rnl rnldef_at mode_of entries_of limit_of with_operand operand_at complex_at event_word pair_at entry_at
    act_at event_at setgrs_at vary_at order_at command_at named_at key plain_form first_form event_form form
    statements_from statements name_given begins_schedule names_to_schedule system_names name_place system_place
    job_place task_place judge judge_all reading fault
task_lines = (refl, refl, refl, refl, refl, refl, refl, refl, refl, refl, refl, refl, refl)

-- RESERVE: UCB among its options; without UCB; another scope; RNL twice
reserves :
    FaultOf (in_task (codes "RESERVE (A,B,S,SYSTEMS),ECB,UCB=1a0b,RNL=NO" ∷ [])) None
    × FaultOf (in_task (codes "RESERVE (A,B,S,SYSTEMS),ECB" ∷ [])) (at 4 BadOperand)
    × FaultOf (in_task (codes "RESERVE (A,B,S,SYSTEM),UCB=1A0B" ∷ [])) (at 4 BadOperand)
    × FaultOf (in_task (codes "RESERVE (A,B,S,SYSTEMS),UCB=1A0B,RNL=NO,RNL=NO" ∷ [])) (at 4 BadOperand)
unfolding is_word is_hex digit is_allowed bad_line put put_word put_open end_line break_off begin_word begin step_in
    step scan_from finish_in lines_of lines_or_fault is_name_byte all_name is_name short_at dotted_at digits
    written_number unit_of ret_of rnl_of chosen option_at options_at ctl_at scope_at names_at place_at controlled_at
    uncontrolled_at enq_at reserve_at deq_at wait_at line_ask_at line_word which_of form_of value_of rnl_operand_at
    whole_rnl rnldef_at mode_of entries_of limit_of with_operand operand_at complex_at event_word pair_at entry_at
    act_at event_at setgrs_at vary_at order_at command_at named_at key plain_form first_form event_form form
    statements_from statements name_given begins_schedule names_to_schedule system_names name_place system_place
    job_place task_place judge judge_all reading fault
reserves = (refl, refl, refl, refl)

-- RNLDEF: broken off; over lines, with a line end in a comment and between any tokens; an operand twice, on a further
-- line; no RNAME; a name too long; behind a system; before COMPLEX; something behind its last operand; a fault behind
-- it, on the line where it stands; a system called RNLDEF
name_lists :
    FaultOf (codes "RNLDEF RNL(INCL) TYPE(GENE") (at 1 BadOperand)
    × FaultOf (text (codes "RNLDEF RNAME('SYS1.PARMLIB') /* one" ∷ codes "*/ TYPE(" ∷ codes "SPECIFIC) QNAME(SYSDSN"
    ∷ codes ")RNL(EXCL)" ∷ codes "SYSTEM SYA" ∷ []))
    None
    × FaultOf (text (codes "RNLDEF RNL(INCL) TYPE(GENERIC) QNAME(A)" ∷ codes "QNAME(A)" ∷ [])) (at 1 BadOperand)
    × FaultOf (text (codes "RNLDEF RNL(INCL) TYPE(SPECIFIC) QNAME(A)" ∷ codes "SYSTEM SYA" ∷ [])) (at 1 BadOperand)
    × FaultOf (text (codes "RNLDEF RNL(CON) TYPE(PATTERN)" ∷ codes "QNAME(ABCDEFGHI)" ∷ codes "SYSTEM SYA" ∷ []))
    (at 1 NameLength)
    × FaultOf (text (codes "SYSTEM SYA" ∷ codes "RNLDEF RNL(CON) TYPE(PATTERN) QNAME(A)" ∷ [])) (at 2 OutOfPlace)
    × FaultOf (text (codes "RNLDEF RNL(CON) TYPE(PATTERN) QNAME(A)" ∷ codes "COMPLEX" ∷ [])) (at 2 OutOfPlace)
    × FaultOf (text (codes "RNLDEF RNL(CON) TYPE(PATTERN) QNAME(A) SYSTEM SYA" ∷ [])) (at 1 BadOperand)
    × FaultOf (text (codes "RNLDEF RNL(CON) TYPE(PATTERN)" ∷ codes "QNAME(A)" ∷ codes "FOO" ∷ []))
    (at 3 UnknownStatement)
    × FaultOf (text (codes "SYSTEM RNLDEF" ∷ codes "JOB J1" ∷ codes "TASK T1" ∷ codes "SCHEDULE"
    ∷ codes "RNLDEF TASK J1.T1" ∷ codes "RNLDEF TASK J1.T2" ∷ []))
    (at 6 UnknownName)
unfolding is_word is_hex digit is_allowed bad_line put put_word put_open end_line break_off begin_word begin step_in
    step scan_from finish_in lines_of lines_or_fault is_name_byte all_name is_name short_at dotted_at digits
    written_number unit_of ret_of rnl_of chosen option_at options_at ctl_at scope_at names_at place_at controlled_at
    uncontrolled_at enq_at reserve_at deq_at wait_at line_ask_at line_word which_of form_of value_of rnl_operand_at
    whole_rnl rnldef_at mode_of entries_of limit_of with_operand operand_at complex_at event_word pair_at entry_at
    act_at event_at setgrs_at vary_at order_at command_at named_at key plain_form first_form event_form form
    statements_from statements name_given begins_schedule names_to_schedule system_names name_place system_place
    job_place task_place judge judge_all reading fault
name_lists = (refl, refl, refl, refl, refl, refl, refl, refl, refl, refl)

-- lines that show lists: D alone; a GQSCAN without a task; one; without SCOPE; with names in either order; with an
-- empty name; DISPLAY in both forms. And MODE(STAR)
displays :
    FaultOf (text (codes "D" ∷ [])) (at 1 BadOperand)
    × FaultOf (text (codes "SYSTEM SYA" ∷ codes "GQSCAN SCOPE=GLOBAL" ∷ [])) (at 2 OutOfPlace)
    × FaultOf (in_task (codes "GQSCAN SCOPE=GLOBAL" ∷ [])) None
    × FaultOf (in_task (codes "GQSCAN QNAME=A" ∷ [])) (at 4 BadOperand)
    × FaultOf (in_task (codes "GQSCAN SCOPE=LOCAL,RNAME=B,QNAME=A" ∷ [])) None
    × FaultOf (in_task (codes "GQSCAN SCOPE=LOCAL,RNAME=''" ∷ [])) (at 4 NameLength)
    × FaultOf (in_task (codes "D GRS,C" ∷ codes "DISPLAY GRS,RES=(A,B)" ∷ [])) None
    × FaultOf (in_task (codes "DISPLAY GRS,RES=(A)" ∷ [])) (at 4 BadOperand)
    × FaultOf (text (codes "COMPLEX MODE(STAR)" ∷ [])) (at 0 NoSystem)
    × FaultOf (text (codes "COMPLEX MODE(STAR) MODE(STAR)" ∷ [])) (at 1 BadOperand)
    × FaultOf (in_task (codes "ENQ (A,B,E,SYSTEMS)" ∷ [])) None
    × FaultOf (in_task (codes "ENQ (A,B,E,SYSTEM),RNL=YES" ∷ [])) None
    × FaultOf (in_task (codes "ENQ ('',B,E,SYSTEMS)" ∷ [])) (at 4 NameLength)
unfolding is_word is_hex digit is_allowed bad_line put put_word put_open end_line break_off begin_word begin step_in
    step scan_from finish_in lines_of lines_or_fault is_name_byte all_name is_name short_at dotted_at digits
    written_number unit_of ret_of rnl_of chosen option_at options_at ctl_at scope_at names_at place_at controlled_at
    uncontrolled_at enq_at reserve_at deq_at wait_at reach_of want_of want_at scan_at resource_at shown_at display_at
    line_ask_at line_word which_of form_of value_of rnl_operand_at whole_rnl rnldef_at mode_of entries_of limit_of
    with_operand operand_at complex_at event_word pair_at entry_at act_at event_at setgrs_at vary_at order_at command_at
    named_at key plain_form first_form event_form form statements_from statements name_given begins_schedule
    names_to_schedule system_names name_place system_place job_place task_place judge judge_all reading fault
displays = (refl, refl, refl, refl, refl, refl, refl, refl, refl, refl, refl, refl, refl)

-- commands: the change to star mode, at the last place where it may stand; its number with zeros in front; ten digits;
-- no number; a number that another word ends; another mode; a word too many; the word alone; joined; before a system;
-- behind a job
commands :
    FaultOf (text (codes "SYSTEM SYA" ∷ codes "AT 0 SETGRS MODE=STAR" ∷ codes "JOB J1" ∷ [])) None
    × FaultOf (text (codes "SYSTEM SYA" ∷ codes "AT 000000007 SETGRS MODE = STAR /* soon */" ∷ [])) None
    × FaultOf (text (codes "SYSTEM SYA" ∷ codes "AT 0000000007 SETGRS MODE=STAR" ∷ [])) (at 2 BadOperand)
    × FaultOf (text (codes "SYSTEM SYA" ∷ codes "AT SETGRS MODE=STAR" ∷ [])) (at 2 BadOperand)
    × FaultOf (text (codes "SYSTEM SYA" ∷ codes "AT 5SETGRS MODE=STAR" ∷ [])) (at 2 BadOperand)
    × FaultOf (text (codes "SYSTEM SYA" ∷ codes "AT 5 SETGRS MODE=RING" ∷ [])) (at 2 BadOperand)
    × FaultOf (text (codes "SYSTEM SYA" ∷ codes "AT 5 SETGRS MODE=STAR NOW" ∷ [])) (at 2 BadOperand)
    × FaultOf (text (codes "SYSTEM SYA" ∷ codes "AT" ∷ [])) (at 2 BadOperand)
    × FaultOf (text (codes "SYSTEM SYA" ∷ codes "AT,5 SETGRS MODE=STAR" ∷ [])) (at 2 UnknownStatement)
    × FaultOf (text (codes "AT 5 SETGRS MODE=STAR" ∷ codes "SYSTEM SYA" ∷ [])) (at 1 OutOfPlace)
    × FaultOf (text (codes "SYSTEM SYA" ∷ codes "JOB J1" ∷ codes "AT 5 SETGRS MODE=STAR" ∷ [])) (at 3 OutOfPlace)
unfolding is_word is_hex digit is_allowed bad_line put put_word put_open end_line break_off begin_word begin step_in
    step scan_from finish_in lines_of lines_or_fault is_name_byte all_name is_name short_at dotted_at digits
    written_number unit_of ret_of rnl_of chosen option_at options_at ctl_at scope_at names_at place_at controlled_at
    uncontrolled_at enq_at reserve_at deq_at wait_at line_ask_at line_word which_of form_of value_of rnl_operand_at
    whole_rnl rnldef_at mode_of entries_of limit_of with_operand operand_at complex_at event_word pair_at entry_at
    act_at event_at setgrs_at vary_at order_at command_at named_at key plain_form first_form event_form form
    statements_from statements name_given begins_schedule names_to_schedule system_names name_place system_place
    job_place task_place judge judge_all reading fault
commands = (refl, refl, refl, refl, refl, refl, refl, refl, refl, refl, refl)

-- removals: of a system further on; of one whose statement is wrong for another reason, behind another fault; of
-- itself; of none; of one whose statement has another form, or a name too long, or stands behind SCHEDULE; a name too
-- long; another word; behind a job
removals :
    FaultOf (text (codes "SYSTEM SYA" ∷ codes "AT 0 VARY GRS(SYB),PURGE" ∷ codes "JOB J1" ∷ codes "SYSTEM SYB" ∷ []))
    None
    × FaultOf (text (codes "SYSTEM SYA" ∷ codes "AT 0 VARY GRS ( SYB ) , PURGE" ∷ codes "FOO" ∷ codes "SYSTEM SYB"
    ∷ codes "SYSTEM SYB" ∷ []))
    (at 3 UnknownStatement)
    × FaultOf (text (codes "SYSTEM SYA" ∷ codes "AT 0 VARY GRS(SYA),PURGE" ∷ [])) (at 2 UnknownName)
    × FaultOf (text (codes "SYSTEM SYB" ∷ codes "SYSTEM SYA" ∷ codes "AT 0 VARY GRS(SYC),PURGE" ∷ []))
    (at 3 UnknownName)
    × FaultOf (text (codes "SYSTEM SYA" ∷ codes "AT 0 VARY GRS(SYB),PURGE" ∷ codes "SYSTEM SYB X" ∷ []))
    (at 2 UnknownName)
    × FaultOf (text
    (codes "SYSTEM SYA" ∷ codes "AT 0 VARY GRS(SYB),PURGE" ∷ codes "SCHEDULE" ∷ codes "SYSTEM SYB" ∷ []))
    (at 2 UnknownName)
    × FaultOf (text (codes "SYSTEM SYA" ∷ codes "AT 0 VARY GRS(ABCDEFGHI),PURGE" ∷ codes "SYSTEM ABCDEFGHI" ∷ []))
    (at 2 NameLength)
    × FaultOf (text (codes "SYSTEM SYA" ∷ codes "AT 0 VARY GRS(SYB),QUIESCE" ∷ codes "SYSTEM SYB" ∷ []))
    (at 2 BadOperand)
    × FaultOf (text (codes "SYSTEM SYA" ∷ codes "JOB J1" ∷ codes "AT 0 VARY GRS(SYC),PURGE" ∷ codes "SYSTEM SYB" ∷ []))
    (at 3 OutOfPlace)
unfolding is_word is_hex digit is_allowed bad_line put put_word put_open end_line break_off begin_word begin step_in
    step scan_from finish_in lines_of lines_or_fault is_name_byte all_name is_name short_at dotted_at digits
    written_number unit_of ret_of rnl_of chosen option_at options_at ctl_at scope_at names_at place_at controlled_at
    uncontrolled_at enq_at reserve_at deq_at wait_at line_ask_at line_word which_of form_of value_of rnl_operand_at
    whole_rnl rnldef_at mode_of entries_of limit_of with_operand operand_at complex_at event_word pair_at entry_at
    act_at event_at setgrs_at vary_at order_at command_at named_at key plain_form first_form event_form form
    statements_from statements name_given begins_schedule names_to_schedule system_names name_place system_place
    job_place task_place judge judge_all reading fault
removals = (refl, refl, refl, refl, refl, refl, refl, refl, refl)

-- the names that a removal may give, of lines behind it: an RNLDEF keeps none from it, and is told on its own line, be
-- its form wrong, or right, or its word joined; a line whose first word is SCHEDULE keeps those behind it, whatever
-- else stands there; a joined one doesn't, nor does one in front of the first system
named_behind :
    FaultOf (behind (codes "RNLDEF X" ∷ codes "SYSTEM SYB" ∷ [])) (at 3 BadOperand)
    × FaultOf (behind (codes "RNLDEF RNL(" ∷ codes "SYSTEM SYB" ∷ [])) (at 3 BadOperand)
    × FaultOf (behind (codes "RNLDEF RNL(INCL) TYPE(GENERIC) QNAME(A)" ∷ codes "SYSTEM SYB" ∷ [])) (at 3 OutOfPlace)
    × FaultOf (behind (codes "RNLDEF,X" ∷ codes "SYSTEM SYB" ∷ [])) (at 3 UnknownStatement)
    × FaultOf (behind (codes "RNLDEF'" ∷ codes "SYSTEM SYB" ∷ [])) (at 3 UnknownStatement)
    × FaultOf (behind (codes "RNLDEF X" ∷ codes "SCHEDULE" ∷ codes "Q Q" ∷ codes "SYSTEM SYB" ∷ [])) (at 2 UnknownName)
    × FaultOf (behind (codes "SCHEDULE X" ∷ codes "SYSTEM SYB" ∷ [])) (at 2 UnknownName)
    × FaultOf (behind (codes "SCHEDULE,X" ∷ codes "SYSTEM SYB" ∷ [])) (at 3 UnknownStatement)
    × FaultOf (text (codes "RNLDEF RNL(INCL) TYPE(GENERIC) QNAME(" ∷ codes "SCHEDULE" ∷ codes ")" ∷ codes "SYSTEM SYA"
    ∷ codes "AT 0 VARY GRS(SYB),PURGE" ∷ codes "SYSTEM SYB" ∷ []))
    None
unfolding is_word is_hex digit is_allowed bad_line put put_word put_open end_line break_off begin_word begin step_in
    step scan_from finish_in lines_of lines_or_fault is_name_byte all_name is_name short_at dotted_at digits
    written_number unit_of ret_of rnl_of chosen option_at options_at ctl_at scope_at names_at place_at controlled_at
    uncontrolled_at enq_at reserve_at deq_at wait_at line_ask_at line_word which_of form_of value_of rnl_operand_at
    whole_rnl rnldef_at mode_of entries_of limit_of with_operand operand_at complex_at event_word pair_at entry_at
    act_at event_at setgrs_at vary_at order_at command_at named_at key plain_form first_form event_form form
    statements_from statements name_given begins_schedule names_to_schedule system_names name_place system_place
    job_place task_place judge judge_all reading fault
named_behind = (refl, refl, refl, refl, refl, refl, refl, refl, refl)

-- event lines: SCHEDULE again; no system; no task; no form; an entry out of range; one in range; a system that is
-- itself; SCHEDULE behind a turn; a switch behind a rest; a removal of another; no task to send; a word too many
events :
    FaultOf (text (codes "SYSTEM SYA" ∷ codes "SCHEDULE" ∷ codes "SCHEDULE" ∷ [])) (at 3 BadOperand)
    × FaultOf (text (codes "SYSTEM SYA" ∷ codes "SCHEDULE" ∷ codes "SYB TURN" ∷ [])) (at 3 UnknownName)
    × FaultOf (in_task (codes "SCHEDULE" ∷ codes "SYA TASK J1.T2" ∷ [])) (at 5 UnknownName)
    × FaultOf (in_task (codes "SCHEDULE" ∷ codes "SYA TASK J1 .T1" ∷ [])) (at 5 BadOperand)
    × FaultOf (text (codes "COMPLEX ENTRIES(4)" ∷ codes "SYSTEM SYA" ∷ codes "SCHEDULE" ∷ codes "SYA TELL 4" ∷ []))
    (at 4 BadOperand)
    × FaultOf (text (codes "COMPLEX ENTRIES(4)" ∷ codes "SYSTEM SYA" ∷ codes "SCHEDULE" ∷ codes "SYA LEAVE 03" ∷ []))
    None
    × FaultOf (text (codes "SYSTEM SYA" ∷ codes "SCHEDULE" ∷ codes "SYA PURGE SYA" ∷ [])) (at 3 UnknownName)
    × FaultOf (text (codes "SYSTEM SYA" ∷ codes "SCHEDULE" ∷ codes "SYA TURN" ∷ codes "SCHEDULE" ∷ []))
    (at 4 BadOperand)
    × FaultOf (text (codes "SYSTEM SYA" ∷ codes "SCHEDULE" ∷ codes "SYA REST" ∷ codes "SYA SWITCH" ∷ [])) None
    × FaultOf (text (codes "SYSTEM SYA" ∷ codes "SYSTEM SYB" ∷ codes "SCHEDULE" ∷ codes "SYA PURGE SYB" ∷ [])) None
    × FaultOf (in_task (codes "SCHEDULE" ∷ codes "SYA SEND J1.T2" ∷ [])) (at 5 UnknownName)
    × FaultOf (in_task (codes "SCHEDULE" ∷ codes "SYA TAKE 1" ∷ [])) (at 5 BadOperand)
unfolding is_word is_hex digit is_allowed bad_line put put_word put_open end_line break_off begin_word begin step_in
    step scan_from finish_in lines_of lines_or_fault is_name_byte all_name is_name short_at dotted_at digits
    written_number unit_of ret_of rnl_of chosen option_at options_at ctl_at scope_at names_at place_at controlled_at
    uncontrolled_at enq_at reserve_at deq_at wait_at line_ask_at line_word which_of form_of value_of rnl_operand_at
    whole_rnl rnldef_at mode_of entries_of limit_of with_operand operand_at complex_at event_word pair_at entry_at
    act_at event_at setgrs_at vary_at order_at command_at named_at key plain_form first_form event_form form
    statements_from statements name_given begins_schedule names_to_schedule system_names name_place system_place
    job_place task_place judge judge_all reading fault
events = (refl, refl, refl, refl, refl, refl, refl, refl, refl, refl, refl, refl)

-- a removal is of the system that the name is given to, by its number among all: of one further on, and of one before
abbrev removing : List ℕ
removing =
    text (codes "SYSTEM SYA" ∷ codes "AT 3 VARY GRS(SYC),PURGE" ∷ codes "SYSTEM SYB" ∷ codes "SYSTEM SYC"
    ∷ codes "AT 0 VARY GRS(SYB),PURGE" ∷ codes "SCHEDULE" ∷ codes "SYC PURGE SYB" ∷ [])

abbrev removed : Deck
removed = record no_deck {
  systems = record { name = codes "SYA"; desk = record { at = 3; order = Vary (record { 0 = 2 }) } ∷ []; jobs = [] }
      ∷ record { name = codes "SYB"; desk = []; jobs = [] }
      ∷ record { name = codes "SYC"; desk = record { at = 0; order = Vary (record { 0 = 1 }) } ∷ []; jobs = [] } ∷ [];
  events = record { system = record { 0 = 2 }; choice = choices.Purge (record { 0 = 1 }) } ∷ [];
}

removes : reading removing ≡ Ok removed
unfolding is_word is_hex digit is_allowed bad_line put put_word put_open end_line break_off begin_word begin step_in
    step scan_from finish_in lines_of lines_or_fault is_name_byte all_name is_name short_at dotted_at digits
    written_number unit_of ret_of rnl_of chosen option_at options_at ctl_at scope_at names_at place_at controlled_at
    uncontrolled_at enq_at reserve_at deq_at wait_at line_ask_at line_word which_of form_of value_of rnl_operand_at
    whole_rnl rnldef_at mode_of entries_of limit_of with_operand operand_at complex_at event_word pair_at entry_at
    act_at event_at setgrs_at vary_at order_at command_at named_at key plain_form first_form event_form form
    statements_from statements name_given begins_schedule names_to_schedule system_names name_place system_place
    job_place task_place judge judge_all reading fault
removes = refl

-- several systems: a name twice, behind another; a job of the other's name; a job twice in one; a task of the other
-- system; a system that there isn't; a task behind another system; nine
systems :
    FaultOf (text (codes "SYSTEM S1" ∷ codes "SYSTEM S2" ∷ codes "JOB J" ∷ codes "SYSTEM S1" ∷ [])) (at 4 Repeated)
    × FaultOf (text (codes "SYSTEM S1" ∷ codes "JOB J" ∷ codes "SYSTEM S2" ∷ codes "JOB J" ∷ [])) None
    × FaultOf (text (codes "SYSTEM S1" ∷ codes "SYSTEM S2" ∷ codes "JOB J" ∷ codes "JOB J" ∷ [])) (at 4 Repeated)
    × FaultOf (text (codes "SYSTEM S1" ∷ codes "JOB J" ∷ codes "TASK T" ∷ codes "SYSTEM S2" ∷ codes "SCHEDULE"
    ∷ codes "S1 TASK J.T" ∷ codes "S2 TASK J.T" ∷ []))
    (at 7 UnknownName)
    × FaultOf (text (codes "SYSTEM S1" ∷ codes "SYSTEM S2" ∷ codes "SCHEDULE" ∷ codes "S2 REST" ∷ codes "S3 REST" ∷ []))
    (at 5 UnknownName)
    × FaultOf (text (codes "SYSTEM S1" ∷ codes "JOB J" ∷ codes "TASK T" ∷ codes "SYSTEM S2" ∷ codes "TASK T" ∷ []))
    (at 5 OutOfPlace)
    × FaultOf (text (codes "SYSTEM A" ∷ codes "SYSTEM B" ∷ codes "SYSTEM C" ∷ codes "SYSTEM D" ∷ codes "SYSTEM E"
    ∷ codes "SYSTEM F" ∷ codes "SYSTEM G" ∷ codes "SYSTEM H" ∷ codes "SYSTEM I" ∷ []))
    (at 9 TooMany)
unfolding is_word is_hex digit is_allowed bad_line put put_word put_open end_line break_off begin_word begin step_in
    step scan_from finish_in lines_of lines_or_fault is_name_byte all_name is_name short_at dotted_at digits
    written_number unit_of ret_of rnl_of chosen option_at options_at ctl_at scope_at names_at place_at controlled_at
    uncontrolled_at enq_at reserve_at deq_at wait_at line_ask_at line_word which_of form_of value_of rnl_operand_at
    whole_rnl rnldef_at mode_of entries_of limit_of with_operand operand_at complex_at event_word pair_at entry_at
    act_at event_at setgrs_at vary_at order_at command_at named_at key plain_form first_form event_form form
    statements_from statements name_given begins_schedule names_to_schedule system_names name_place system_place
    job_place task_place judge judge_all reading fault
systems = (refl, refl, refl, refl, refl, refl, refl)

abbrev whole : List ℕ
whole =
    text (codes "COMPLEX ENTRIES(8)" ∷ codes "RNLDEF RNL(EXCL) TYPE(PATTERN) QNAME('AP* ')" ∷ codes " RNAME(X'4100')"
    ∷ codes "SYSTEM SYA" ∷ codes "JOB J1" ∷ codes "TASK T1" ∷ codes "ENQ ('A ','it''s',S,STEP),RET=USE" ∷ codes "JOB J2"
    ∷ codes "TASK T1" ∷ codes "DEQ (X'4a',B.C,SYSTEM),RET=HAVE" ∷ codes "WAIT (A,B,STEP)" ∷ codes "SCHEDULE"
    ∷ codes "SYA TASK J2.T1" ∷ [])

abbrev deck : Deck
deck = record {
  star = false;
  entries = 8;
  limit = 4096;
  lists =
      record no_lists {
        excl = record {
          which = Excl;
          entries = record { which = Excl; form = Pattern; q = codes "AP*"; r = Some (65 ∷ 0 ∷ []) } ∷ [];
        };
      };
  systems = record {
    name = codes "SYA";
    desk = [];
    jobs = record {
      name = codes "J1";
      tasks =
          record {
            name = codes "T1";
            lines =
                lines.Enq (record { q = codes "A"; r = codes "it's"; ctl = S; scope = scopes.Step } ∷ []) RetUse true
                ∷ [];
          }
          ∷ [];
    } ∷ record {
      name = codes "J2";
      tasks =
          record {
            name = codes "T1";
            lines =
                lines.Deq (codes "J") (codes "B.C") scopes.System true None true
                ∷ lines.Wait (codes "A") (codes "B") scopes.Step true ∷ [];
          }
          ∷ [];
    } ∷ [];
  } ∷ [];
  events =
      record {
        system = record { 0 = 0 };
        choice = choices.Task (record { system = record { 0 = 0 }; job = 1; task = 1 });
      }
      ∷ [];
}

-- a whole deck
read : reading whole ≡ Ok deck
unfolding is_word is_hex digit is_allowed bad_line put put_word put_open end_line break_off begin_word begin step_in
    step scan_from finish_in lines_of lines_or_fault is_name_byte all_name is_name short_at dotted_at digits
    written_number unit_of ret_of rnl_of chosen option_at options_at ctl_at scope_at names_at place_at controlled_at
    uncontrolled_at enq_at reserve_at deq_at wait_at line_ask_at line_word which_of form_of value_of rnl_operand_at
    whole_rnl rnldef_at mode_of entries_of limit_of with_operand operand_at complex_at event_word pair_at entry_at
    act_at event_at setgrs_at vary_at order_at command_at named_at key plain_form first_form event_form form
    statements_from statements name_given begins_schedule names_to_schedule system_names name_place system_place
    job_place task_place judge judge_all reading fault
read = refl

-- two systems with their events
abbrev ring : List ℕ
ring =
    text (codes "SYSTEM SYA" ∷ codes "JOB J1" ∷ codes "TASK T1" ∷ codes "ENQ (A,B,E,SYSTEMS)" ∷ codes "SYSTEM SYB"
    ∷ codes "JOB J1" ∷ codes "TASK T1" ∷ codes "TASK T2" ∷ codes "SCHEDULE" ∷ codes "SYB TASK J1.T2" ∷ codes "SYA TURN"
    ∷ codes "SYB REST" ∷ [])

ring_deck : reading ring ≡ Ok (record no_deck {
  systems = record {
    name = codes "SYA";
    desk = [];
    jobs = record {
      name = codes "J1";
      tasks =
          record {
            name = codes "T1";
            lines =
                lines.Enq (record { q = codes "A"; r = codes "B"; ctl = E; scope = scopes.Systems } ∷ []) RetNone true
                ∷ [];
          }
          ∷ [];
    } ∷ [];
  } ∷ record {
    name = codes "SYB";
    desk = [];
    jobs = record {
      name = codes "J1";
      tasks = record { name = codes "T1"; lines = [] } ∷ record { name = codes "T2"; lines = [] } ∷ [];
    } ∷ [];
  } ∷ [];
  events = record {
    system = record { 0 = 1 };
    choice = choices.Task (record { system = record { 0 = 1 }; job = 0; task = 1 });
  }
      ∷ record { system = record { 0 = 0 }; choice = choices.Turn }
      ∷ record { system = record { 0 = 1 }; choice = choices.Rest }
      ∷ [];
})
unfolding is_word is_hex digit is_allowed bad_line put put_word put_open end_line break_off begin_word begin step_in
    step scan_from finish_in lines_of lines_or_fault is_name_byte all_name is_name short_at dotted_at digits
    written_number unit_of ret_of rnl_of chosen option_at options_at ctl_at scope_at names_at place_at controlled_at
    uncontrolled_at enq_at reserve_at deq_at wait_at line_ask_at line_word which_of form_of value_of rnl_operand_at
    whole_rnl rnldef_at mode_of entries_of limit_of with_operand operand_at complex_at event_word pair_at entry_at
    act_at event_at setgrs_at vary_at order_at command_at named_at key plain_form first_form event_form form
    statements_from statements name_given begins_schedule names_to_schedule system_names name_place system_place
    job_place task_place judge judge_all reading fault
ring_deck = refl

-- two systems in star mode, with each event of that mode
abbrev star : List ℕ
star =
    text (codes "COMPLEX MODE(STAR) ENTRIES(2)" ∷ codes "SYSTEM SYA" ∷ codes "JOB J1" ∷ codes "TASK T1"
    ∷ codes "SYSTEM SYB" ∷ codes "SCHEDULE" ∷ codes "SYA SEND J1.T1" ∷ codes "SYB TAKE" ∷ codes "SYA SETTLE"
    ∷ codes "SYA TELL 1" ∷ codes "SYB PART 1" ∷ codes "SYB LEAVE 0" ∷ [])

star_deck : reading star ≡ Ok (record no_deck {
  star = true;
  entries = 2;
  systems = record {
    name = codes "SYA";
    desk = [];
    jobs = record { name = codes "J1"; tasks = record { name = codes "T1"; lines = [] } ∷ [] } ∷ [];
  } ∷ record { name = codes "SYB"; desk = []; jobs = [] } ∷ [];
  events = record {
    system = record { 0 = 0 };
    choice = choices.Send (record { system = record { 0 = 0 }; job = 0; task = 0 });
  }
      ∷ record { system = record { 0 = 1 }; choice = choices.Take }
      ∷ record { system = record { 0 = 0 }; choice = choices.Settle }
      ∷ record { system = record { 0 = 0 }; choice = choices.Tell 1 }
      ∷ record { system = record { 0 = 1 }; choice = choices.Part 1 }
      ∷ record { system = record { 0 = 1 }; choice = choices.Leave 0 }
      ∷ [];
})
unfolding is_word is_hex digit is_allowed bad_line put put_word put_open end_line break_off begin_word begin step_in
    step scan_from finish_in lines_of lines_or_fault is_name_byte all_name is_name short_at dotted_at digits
    written_number unit_of ret_of rnl_of chosen option_at options_at ctl_at scope_at names_at place_at controlled_at
    uncontrolled_at enq_at reserve_at deq_at wait_at line_ask_at line_word which_of form_of value_of rnl_operand_at
    whole_rnl rnldef_at mode_of entries_of limit_of with_operand operand_at complex_at event_word pair_at entry_at
    act_at event_at setgrs_at vary_at order_at command_at named_at key plain_form first_form event_form form
    statements_from statements name_given begins_schedule names_to_schedule system_names name_place system_place
    job_place task_place judge judge_all reading fault
star_deck = refl

-- two systems at whose desks the change to star mode is commanded, and one of them making it
abbrev move : List ℕ
move =
    text (codes "SYSTEM SYA" ∷ codes "AT 20 SETGRS MODE=STAR" ∷ codes "AT 0 SETGRS MODE=STAR" ∷ codes "JOB J1"
    ∷ codes "SYSTEM SYB" ∷ codes "AT 3 SETGRS MODE=STAR" ∷ codes "SCHEDULE" ∷ codes "SYB SWITCH" ∷ [])

move_deck : reading move ≡ Ok (record no_deck {
  systems = record {
    name = codes "SYA";
    desk = record { at = 20; order = Star } ∷ record { at = 0; order = Star } ∷ [];
    jobs = record { name = codes "J1"; tasks = [] } ∷ [];
  } ∷ record { name = codes "SYB"; desk = record { at = 3; order = Star } ∷ []; jobs = [] } ∷ [];
  events = record { system = record { 0 = 1 }; choice = choices.Switch } ∷ [];
})
unfolding is_word is_hex digit is_allowed bad_line put put_word put_open end_line break_off begin_word begin step_in
    step scan_from finish_in lines_of lines_or_fault is_name_byte all_name is_name short_at dotted_at digits
    written_number unit_of ret_of rnl_of chosen option_at options_at ctl_at scope_at names_at place_at controlled_at
    uncontrolled_at enq_at reserve_at deq_at wait_at line_ask_at line_word which_of form_of value_of rnl_operand_at
    whole_rnl rnldef_at mode_of entries_of limit_of with_operand operand_at complex_at event_word pair_at entry_at
    act_at event_at setgrs_at vary_at order_at command_at named_at key plain_form first_form event_form form
    statements_from statements name_given begins_schedule names_to_schedule system_names name_place system_place
    job_place task_place judge judge_all reading fault
move_deck = refl

-- the declared fault of a text: a system that is named again; a removal of no other system
twice : IsFault (text (codes "SYSTEM SYA" ∷ codes "SYSTEM SYA" ∷ [])) (record { line = 2; kind = Repeated })
twice =
    is_fault (text (codes "SYSTEM SYA" ∷ codes "SYSTEM SYA" ∷ [])) (record { line = 2; kind = Repeated })
    words_and_forms.11

itself :
    IsFault (text (codes "SYSTEM SYA" ∷ codes "AT 0 VARY GRS(SYA),PURGE" ∷ []))
    (record { line = 2; kind = UnknownName })
itself =
    is_fault (text (codes "SYSTEM SYA" ∷ codes "AT 0 VARY GRS(SYA),PURGE" ∷ []))
    (record { line = 2; kind = UnknownName }) removals.2

-- one system with one task of these lines
abbrev of_lines : List ℕ → List Line → Deck
of_lines name ls =
    record no_deck {
      systems =
          record {
            name = name;
            desk = [];
            jobs = record { name = codes "J"; tasks = record { name = codes "T"; lines = ls } ∷ [] } ∷ [];
          }
          ∷ [];
    }

abbrev item : List ℕ → Item
item q = record { q = q; r = codes "B"; ctl = E; scope = scopes.Systems }

-- no deck has an ENQ of two items
two_items : IsDeck (of_lines (codes "SYA") (lines.Enq (item (codes "A") ∷ item (codes "C") ∷ []) RetNone true ∷ [])) → ⊥
two_items h = let k = (h.lines.each 0 lines.DisplayC (omega arith)).1 in cc

-- nor a system with a name of nine bytes, or of a digit first
long_name : IsDeck (of_lines (codes "ABCDEFGHI") []) → ⊥
long_name h = let k : 9 ≤ 8 = (h.names 0 [] (omega arith)).1 in omega (arith, k)

digit_name : IsDeck (of_lines (codes "1A") []) → ⊥
unfolding is_name_byte all_name is_name
digit_name h = let k : false ≡ true = (h.names 0 [] (omega arith)).0 in cc

-- nor a qname that a blank ends
blank_name : IsDeck (of_lines (codes "SYA") (lines.Wait (codes "A ") (codes "B") scopes.Systems true ∷ [])) → ⊥
blank_name h = let k : codes "A" ≡ codes "A " = (h.lines.each 0 lines.DisplayC (omega arith)).qname.trimmed in cc

-- nor one with a number that is no byte
no_byte : IsDeck (of_lines (codes "SYA") (lines.Wait (256 ∷ []) (codes "B") scopes.Systems true ∷ [])) → ⊥
no_byte h = let k : false ≡ true = (h.lines.each 0 lines.DisplayC (omega arith)).q_bytes in cc

-- nor a unit of more than 16 bits
wide_unit : IsDeck (of_lines (codes "SYA") (lines.Reserve (codes "A") (codes "B") E 65536 RetNone true ∷ [])) → ⊥
wide_unit h = let k : 65536 < 65536 = (h.lines.each 0 lines.DisplayC (omega arith)).1 in omega (arith, k)

-- nor a GQSCAN of a qname of nine bytes, or of neither name
long_filter : IsDeck (of_lines (codes "SYA") (lines.Gqscan true (filters.Named (Some (codes "ABCDEFGHI")) None) ∷ []))
    → ⊥
long_filter h = let k : false ≡ true = (h.lines.each 0 lines.DisplayC (omega arith)).0.0.made in cc

empty_filter : IsDeck (of_lines (codes "SYA") (lines.Gqscan true (filters.Named None None) ∷ [])) → ⊥
empty_filter h = let k : true ≡ false = (h.lines.each 0 lines.DisplayC (omega arith)).2 in cc

-- nor a system at whose desk its own removal is commanded, or that of a system that isn't there; another's may be
abbrev commanded : ℕ → Deck
commanded target =
    record no_deck {
      systems =
          record { name = codes "SYA"; desk = record { at = 0; order = Vary (record { 0 = target }) } ∷ []; jobs = [] }
          ∷ record { name = codes "SYB"; desk = []; jobs = [] } ∷ [];
    }

removes_itself : IsDeck (commanded 0) → ⊥
removes_itself h = (h.orders.0 0 (record { at = 0; order = Star }) (omega arith)).1 refl

removes_none : IsDeck (commanded 2) → ⊥
removes_none h =
    let few : 2 < 2 = (h.orders.0 0 (record { at = 0; order = Star }) (omega arith)).0 in omega (arith, few)

abbrev of_first : Desk → Type 0
of_first c = IsOrderOf 2 0 c.order

removes_another : AreOrders 2 0 (commanded 1).systems
removes_another = (
  All-push of_first [] (record { at = 0; order = Vary (record { 0 = 1 }) }) (All-nil of_first)
      (omega arith, λ e. absurd (omega (arith, e))),
  (All-nil (λ (c : Desk). IsOrderOf 2 1 c.order), tt),
)

-- nor two systems of one name
one_name :
    IsDeck (record no_deck {
      systems =
          record { name = codes "SYA"; desk = []; jobs = [] } ∷ record { name = codes "SYA"; desk = []; jobs = [] }
          ∷ [];
    })
    → ⊥
one_name h = h.once.names 0 1 [] (omega arith) (omega arith) refl

-- nor a system with 65 commands at its desk
many_commands :
    IsDeck (record no_deck
    { systems = record { name = codes "SYA"; desk = replicate 65 (record { at = 0; order = Star }); jobs = [] } ∷ [] })
    → ⊥
many_commands h =
    let k : 65 ≤ 64 = (h.fits.each 0 (record { name = []; desk = []; jobs = [] }) (omega arith)).desk in
    omega (arith, k)

-- nor 257 task lines that show something
many_displays : IsDeck (of_lines (codes "SYA") (replicate 257 lines.DisplayC)) → ⊥
many_displays h = let k : 257 ≤ 256 = h.lines.displays in omega (arith, k)

-- nor 16,385 task lines
many_lines : IsDeck (of_lines (codes "SYA") (replicate 16385 (lines.Wait (codes "A") (codes "B") scopes.Systems true)))
    → ⊥
many_lines h = let k : 16385 ≤ 16384 = h.lines.few in omega (arith, k)

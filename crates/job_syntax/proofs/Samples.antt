-- What the definitions say of some small texts of one task line.
use Rattle.std.proofs.Common.{◌≡◌, ℕ, List, [], ◌∷◌, ◌++◌, Result, Ok, Err, refl}
use Rattle.std.specs.Prelude.{codes}
use Rattle.grs_base.specs.declared.fault.DeckFault.{DeckFault}
use Rattle.grs_base.specs.declared.fault.Kind.{Kind}
use Rattle.grs_base.specs.declared.fault.Kind.TheVariants.{UnknownStatement, BadOperand, NameLength}
use Rattle.grs_base.specs.declared.line.Line.{Line}
use Rattle.deck_scan.specs.Bytes.{is_word, is_hex, digit, is_allowed, bad_line}
use Rattle.deck_scan.specs.Scan.{put, put_word, put_open, end_line, break_off, begin_word, begin, step_in, step}
use Rattle.deck_scan.specs.Scan.{scan_from, finish_in, lines_of}
use Rattle.deck_scan.specs.AnyBytes.{readable}
use Rattle.job_syntax.specs.Unit.{unit_of}
use Rattle.job_syntax.specs.Options.{ret_of, rnl_of, chosen, option_at, options_at}
use Rattle.job_syntax.specs.Ask.{ctl_at, scope_at, names_at, place_at, controlled_at, uncontrolled_at, enq_at}
use Rattle.job_syntax.specs.Ask.{reserve_at, deq_at, wait_at}
use Rattle.job_syntax.specs.Display.{reach_of, want_of, want_at, scan_at, resource_at, shown_at, display_at}
use Rattle.job_syntax.specs.LineAsk.{line_word, line_ask_at}
use Rattle.job_syntax.specs.Printed.{printed_line}
use Rattle.job_syntax.specs.Reading.{line_ask_on, one_line}

-- what is read of a text
abbrev reading : List ℕ → Result Line DeckFault
reading text = one_line (lines_of (readable text))

abbrev printed_of : Result Line DeckFault → List ℕ
printed_of (Ok l) = printed_line l
printed_of (Err f) = []

-- the line that a text spells is printed so, and the printed line is read as a line that is printed so again
abbrev Prints : List ℕ → List ℕ → Type 0
Prints text line = (printed_of (reading text) ≡ line) × (reading line ≡ reading text)

abbrev fault_at : ℕ → Kind → Result Line DeckFault
fault_at n k = Err (record { line = n; kind = k })

-- options in another order; options that say what holds without them; ECB; a unit; a DEQ; names in other forms;
-- DISPLAY; GQSCAN
printed_lines :
    Prints (codes "ENQ ( A , B,E,SYSTEM ),RNL=NO,RET=USE") (codes "ENQ (A,B,E,SYSTEM),RET=USE,RNL=NO")
    × Prints (codes "ENQ (A,B,E,SYSTEM),RET=NONE,RNL=YES") (codes "ENQ (A,B,E,SYSTEM)")
    × Prints (codes "ENQ (A,B,S,STEP),RNL=NO,ECB") (codes "ENQ (A,B,S,STEP),ECB,RNL=NO")
    × Prints (codes "RESERVE (A,B,S,SYSTEMS),ECB,UCB=1a0b") (codes "RESERVE (A,B,S,SYSTEMS),UCB=1A0B,ECB")
    × Prints (codes "DEQ (A,B,STEP),RNL=NO,RET=HAVE,UCB=00ff") (codes "DEQ (A,B,STEP),UCB=00FF,RET=HAVE,RNL=NO")
    × Prints (codes "WAIT (X'41',' ',SYSTEM),RNL=YES") (codes "WAIT (A,' ',SYSTEM)")
    × Prints (codes "D GRS,C") (codes "DISPLAY GRS,C")
    × Prints (codes "D GRS,RES=(A,'b c')") (codes "DISPLAY GRS,RES=(A,'b c')")
    × Prints (codes "GQSCAN SCOPE=GLOBAL,RNAME=B,QNAME=A") (codes "GQSCAN SCOPE=GLOBAL,QNAME=A,RNAME=B")
    × Prints (codes "GQSCAN SCOPE=LOCAL") (codes "GQSCAN SCOPE=LOCAL")
unfolding is_word is_hex digit is_allowed bad_line put put_word put_open end_line break_off begin_word begin step_in
    step scan_from finish_in lines_of readable unit_of ret_of rnl_of chosen option_at options_at ctl_at scope_at
    names_at place_at controlled_at uncontrolled_at enq_at reserve_at deq_at wait_at reach_of want_of want_at scan_at
    resource_at shown_at display_at line_word line_ask_at line_ask_on one_line
printed_lines = (
  (refl, refl),
  (refl, refl),
  (refl, refl),
  (refl, refl),
  (refl, refl),
  (refl, refl),
  (refl, refl),
  (refl, refl),
  (refl, refl),
  (refl, refl),
)

-- nothing; a comment alone; no word; a word of other statements; a further statement; an error on the third line; a
-- long name; an empty one
faults :
    (reading [] ≡ fault_at 1 UnknownStatement)
    × (reading (codes "/* x */") ≡ fault_at 1 UnknownStatement)
    × (reading (codes "FOO") ≡ fault_at 1 UnknownStatement)
    × (reading (codes "SYSTEM SYA") ≡ fault_at 1 UnknownStatement)
    × (reading (codes "ENQ (A,B,E,SYSTEM)" ++ 10 ∷ codes "DEQ (A,B,SYSTEM)") ≡ fault_at 2 BadOperand)
    × (reading (10 ∷ 10 ∷ codes "ENQ (A,B,X,SYSTEM)") ≡ fault_at 3 BadOperand)
    × (reading (codes "DEQ (ABCDEFGHI,B,SYSTEM)") ≡ fault_at 1 NameLength)
    × (reading (codes "GQSCAN SCOPE=LOCAL,QNAME=''") ≡ fault_at 1 NameLength)
unfolding is_word is_hex digit is_allowed bad_line put put_word put_open end_line break_off begin_word begin step_in
    step scan_from finish_in lines_of readable unit_of ret_of rnl_of chosen option_at options_at ctl_at scope_at
    names_at place_at controlled_at uncontrolled_at enq_at reserve_at deq_at wait_at reach_of want_of want_at scan_at
    resource_at shown_at display_at line_word line_ask_at line_ask_on one_line
faults = (refl, refl, refl, refl, refl, refl, refl, refl)

-- bytes that no deck may have: a tab in the first word; before it; behind it; in a name between quotes; in a comment
-- before the first word; in one behind it; behind a name that is too long; on a further line; CR alone
bad_bytes :
    (reading (codes "EN" ++ 9 ∷ codes "Q (A,B,E,SYSTEM)") ≡ fault_at 1 UnknownStatement)
    × (reading (9 ∷ codes "ENQ (A,B,E,SYSTEM)") ≡ fault_at 1 UnknownStatement)
    × (reading (codes "ENQ (A,B,E,SYSTEM)" ++ 9 ∷ []) ≡ fault_at 1 BadOperand)
    × (reading (codes "ENQ ('A" ++ 9 ∷ codes "',B,E,SYSTEM)") ≡ fault_at 1 BadOperand)
    × (reading (10 ∷ codes "/*" ++ 9 ∷ codes "*/ ENQ (A,B,E,SYSTEM)") ≡ fault_at 2 UnknownStatement)
    × (reading (codes "ENQ (A,B, /*" ++ 200 ∷ codes "*/ E,SYSTEM)") ≡ fault_at 1 BadOperand)
    × (reading (codes "ENQ (ABCDEFGHI,B,E,SYSTEM)" ++ 0 ∷ []) ≡ fault_at 1 BadOperand)
    × (reading (codes "ENQ (A,B,E,SYSTEM)" ++ 10 ∷ 9 ∷ []) ≡ fault_at 2 BadOperand)
    × (reading (codes "ENQ (A,B,E,SYSTEM)" ++ 13 ∷ []) ≡ fault_at 1 BadOperand)
    × (printed_of (reading (codes "ENQ (A,B,E,SYSTEM)" ++ 13 ∷ 10 ∷ [])) ≡ codes "ENQ (A,B,E,SYSTEM)")
unfolding is_word is_hex digit is_allowed bad_line put put_word put_open end_line break_off begin_word begin step_in
    step scan_from finish_in lines_of readable unit_of ret_of rnl_of chosen option_at options_at ctl_at scope_at
    names_at place_at controlled_at uncontrolled_at enq_at reserve_at deq_at wait_at reach_of want_of want_at scan_at
    resource_at shown_at display_at line_word line_ask_at line_ask_on one_line
bad_bytes = (refl, refl, refl, refl, refl, refl, refl, refl, refl, refl)

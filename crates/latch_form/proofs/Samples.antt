-- What the definitions say of some small texts of calls.
use Rattle.std.proofs.Common.{◌≡◌, ℕ, List, [], ◌∷◌, ◌++◌, length, true, false, Result, Ok, Err, refl}
use Rattle.std.specs.Prelude.{codes, replicate}
use Rattle.grs_base.specs.declared.fault.DeckFault.{DeckFault}
use Rattle.grs_base.specs.declared.fault.Kind.{Kind}
use Rattle.grs_base.specs.declared.fault.Kind.TheVariants.{BadByte, UnknownStatement, BadOperand, NameLength, TooMany}
use Rattle.grs_base.specs.declared.resource.Ctl.TheVariants.{E, S}
use Rattle.grs_base.specs.ShortNames.{is_name_byte, all_name, is_name}
use Rattle.deck_scan.specs.Bytes.{is_word, is_hex, digit, is_allowed, bad_line}
use Rattle.deck_scan.specs.Scan.{put, put_word, put_open, end_line, break_off, begin_word, begin, step_in, step}
use Rattle.deck_scan.specs.Scan.{scan_from, finish_in, lines_of}
use Rattle.deck_scan.specs.Reading.{lines_or_fault}
use Rattle.deck_form.specs.Words.{short_at, digits, written_number}
use Rattle.grs_latch.specs.declared.call.LatchCall.{LatchCall}
use Rattle.grs_latch.specs.declared.call.LatchCall.TheVariants.{Crt, Obt, Rel, Prg}
use Rattle.latch_form.specs.declared.form.GivenCall.{GivenCall}
use Rattle.latch_form.specs.declared.form.Ask.TheVariants.{Purge}
use Rattle.latch_form.specs.declared.judge.Draft.{Draft}
use Rattle.latch_form.specs.Form.{number_at, requestor_at, ctl_at, sync_at, make_at, obtain_at, release_at, purge_at}
use Rattle.latch_form.specs.Form.{call_at, form}
use Rattle.latch_form.specs.Drafts.{grow}
use Rattle.latch_form.specs.Reading.{judge_call, judge, judge_all, reading}
use Rattle.latch_form.specs.Faults.{IsFault}
use Rattle.latch_form.specs.Spelled.{SpellsCalls}
use Rattle.latch_form.proofs.First.{reading_spells, is_fault}

-- lines, each with an LF
abbrev text : List (List ℕ) → List ℕ
text [] = []
text (l ∷ ls) = l ++ 10 ∷ text ls

abbrev Reads : List ℕ → List LatchCall → Type 0
Reads t calls = reading t ≡ Ok calls

abbrev FaultOf : List ℕ → ℕ → Kind → Type 0
FaultOf t n k = reading t ≡ Err (record { line = n; kind = k })

abbrev seta : List ℕ
seta = codes "SETA"

-- a set of two latches: one requestor owns both, one waits, one doesn't, and all requests of the first are taken out
abbrev example : List ℕ
example =
    text (codes "CRT SETA 2" ∷ codes "OBT SETA 0 1 E SYNC" ∷ codes "OBT SETA 0 2 S SYNC" ∷ codes "OBT SETA 0 3 S COND"
    ∷ codes "OBT SETA 1 1 S SYNC" ∷ codes "PRG SETA 1" ∷ [])

abbrev calls : List LatchCall
calls =
    Crt seta 2
    ∷ Obt seta 0 1 E true
    ∷ Obt seta 0 2 S true
    ∷ Obt seta 0 3 S false
    ∷ Obt seta 1 1 S true
    ∷ Prg seta 1
    ∷ []

read : Reads example calls
unfolding is_word is_hex digit is_allowed bad_line put put_word put_open end_line break_off begin_word begin step_in
    step scan_from finish_in lines_of lines_or_fault is_name_byte all_name is_name short_at digits written_number
    number_at requestor_at ctl_at sync_at make_at obtain_at release_at purge_at call_at form judge judge_all reading
read = refl

-- so the text spells them
spelled : SpellsCalls example calls
spelled = reading_spells example calls read

-- each call with each of its options; a set's name of each kind of byte
each_call :
    Reads (codes "CRT B7 3") (Crt (codes "B7") 3 ∷ [])
    × Reads (codes "OBT B7 5 6 E COND") (Obt (codes "B7") 5 6 E false ∷ [])
    × Reads (codes "OBT B7 5 6 E SYNC") (Obt (codes "B7") 5 6 E true ∷ [])
    × Reads (codes "OBT B7 5 6 S COND") (Obt (codes "B7") 5 6 S false ∷ [])
    × Reads (codes "OBT B7 5 6 S SYNC") (Obt (codes "B7") 5 6 S true ∷ [])
    × Reads (codes "REL B7 5 6") (Rel (codes "B7") 5 6 ∷ [])
    × Reads (codes "PRG B7 6") (Prg (codes "B7") 6 ∷ [])
    × Reads (codes "PRG $Z#@09 6") (Prg (codes "$Z#@09") 6 ∷ [])
unfolding is_word is_hex digit is_allowed bad_line put put_word put_open end_line break_off begin_word begin step_in
    step scan_from finish_in lines_of lines_or_fault is_name_byte all_name is_name short_at digits written_number
    number_at requestor_at ctl_at sync_at make_at obtain_at release_at purge_at call_at form judge judge_all reading
each_call = (refl, refl, refl, refl, refl, refl, refl, refl)

-- no byte; blank lines; a comment alone; comments and blanks between words, one over lines; CR before LF
blanks :
    Reads [] []
    × Reads (10 ∷ 32 ∷ 10 ∷ []) []
    × Reads (codes "/* A */") []
    × Reads (text (codes "  PRG/* A */B  4" ∷ codes "  /* C" ∷ codes "PRG */  PRG   B   1 /* */" ∷ codes ""
    ∷ codes "REL B 2 3 " ∷ []))
    (Prg (codes "B") 4 ∷ Prg (codes "B") 1 ∷ Rel (codes "B") 2 3 ∷ [])
    × Reads (codes "PRG B 4" ++ 13 ∷ 10 ∷ codes "PRG B 5") (Prg (codes "B") 4 ∷ Prg (codes "B") 5 ∷ [])
unfolding is_word is_hex digit is_allowed bad_line put put_word put_open end_line break_off begin_word begin step_in
    step scan_from finish_in lines_of lines_or_fault is_name_byte all_name is_name short_at digits written_number
    number_at requestor_at ctl_at sync_at make_at obtain_at release_at purge_at call_at form judge judge_all reading
blanks = (refl, refl, refl, refl, refl)

-- how many latches a set may have; zeros in front, and ten digits
latches :
    Reads (codes "CRT A 1") (Crt (codes "A") 1 ∷ [])
    × Reads (codes "CRT A 1024") (Crt (codes "A") 1024 ∷ [])
    × Reads (codes "CRT A 000001024") (Crt (codes "A") 1024 ∷ [])
    × FaultOf (codes "CRT A 0") 1 BadOperand
    × FaultOf (codes "CRT A 1025") 1 BadOperand
    × FaultOf (codes "CRT A 0000001024") 1 BadOperand
unfolding is_word is_hex digit is_allowed bad_line put put_word put_open end_line break_off begin_word begin step_in
    step scan_from finish_in lines_of lines_or_fault is_name_byte all_name is_name short_at digits written_number
    number_at requestor_at ctl_at sync_at make_at obtain_at release_at purge_at call_at form judge judge_all reading
latches = (refl, refl, refl, refl, refl, refl)

-- the greatest number of a requestor, and one more, in each call that has one
requestors :
    Reads (codes "OBT A 0 65535 E SYNC") (Obt (codes "A") 0 65535 E true ∷ [])
    × Reads (codes "REL A 0 65535") (Rel (codes "A") 0 65535 ∷ [])
    × Reads (codes "PRG A 65535") (Prg (codes "A") 65535 ∷ [])
    × Reads (codes "PRG A 0") (Prg (codes "A") 0 ∷ [])
    × FaultOf (codes "OBT A 0 65536 E SYNC") 1 BadOperand
    × FaultOf (codes "REL A 0 65536") 1 BadOperand
    × FaultOf (codes "PRG A 65536") 1 BadOperand
unfolding is_word is_hex digit is_allowed bad_line put put_word put_open end_line break_off begin_word begin step_in
    step scan_from finish_in lines_of lines_or_fault is_name_byte all_name is_name short_at digits written_number
    number_at requestor_at ctl_at sync_at make_at obtain_at release_at purge_at call_at form judge judge_all reading
requestors = (refl, refl, refl, refl, refl, refl, refl)

-- a latch's number of nine digits, and of ten
numbers :
    Reads (codes "OBT A 999999999 1 S COND") (Obt (codes "A") 999999999 1 S false ∷ [])
    × Reads (codes "REL A 999999999 1") (Rel (codes "A") 999999999 1 ∷ [])
    × FaultOf (codes "OBT A 1000000000 1 S COND") 1 BadOperand
    × FaultOf (codes "REL A 0000000001 1") 1 BadOperand
unfolding is_word is_hex digit is_allowed bad_line put put_word put_open end_line break_off begin_word begin step_in
    step scan_from finish_in lines_of lines_or_fault is_name_byte all_name is_name short_at digits written_number
    number_at requestor_at ctl_at sync_at make_at obtain_at release_at purge_at call_at form judge judge_all reading
numbers = (refl, refl, refl, refl)

-- a set's name of eight bytes, and of nine in each call; a digit first; other bytes; in quotes
names :
    Reads (codes "PRG ABCDEFGH 1") (Prg (codes "ABCDEFGH") 1 ∷ [])
    × FaultOf (codes "CRT ABCDEFGHI 1") 1 NameLength
    × FaultOf (codes "OBT ABCDEFGHI 0 1 E SYNC") 1 NameLength
    × FaultOf (codes "REL ABCDEFGHI 0 1") 1 NameLength
    × FaultOf (codes "PRG ABCDEFGHI 1") 1 NameLength
    × FaultOf (codes "CRT 1A 1") 1 BadOperand
    × FaultOf (codes "CRT a 1") 1 BadOperand
    × FaultOf (codes "CRT A.B 1") 1 BadOperand
    × FaultOf (codes "CRT 'A' 1") 1 BadOperand
unfolding is_word is_hex digit is_allowed bad_line put put_word put_open end_line break_off begin_word begin step_in
    step scan_from finish_in lines_of lines_or_fault is_name_byte all_name is_name short_at digits written_number
    number_at requestor_at ctl_at sync_at make_at obtain_at release_at purge_at call_at form judge judge_all reading
names = (refl, refl, refl, refl, refl, refl, refl, refl, refl)

-- bytes that no text may have: a tab on the second line; one behind a fault on an earlier line; CR that no LF follows
bytes :
    FaultOf (codes "PRG A 1" ++ 10 ∷ 9 ∷ codes "PRG A 1") 2 BadByte
    × FaultOf (text (codes "FOO" ∷ codes "PRG A 1" ∷ []) ++ 9 ∷ []) 3 BadByte
    × FaultOf (codes "PRG A 1" ++ 13 ∷ []) 1 BadByte
unfolding is_word is_hex digit is_allowed bad_line put put_word put_open end_line break_off begin_word begin step_in
    step scan_from finish_in lines_of lines_or_fault is_name_byte all_name is_name short_at digits written_number
    number_at requestor_at ctl_at sync_at make_at obtain_at release_at purge_at call_at form judge judge_all reading
bytes = (refl, refl, refl)

-- the first word: another; in lower case; with a comma or a name directly behind it; a sign; a word in quotes. A
-- parenthesis may follow it, and is of another form
words :
    FaultOf (text (codes "PRG A 1" ∷ codes "" ∷ codes "FOO A 1" ∷ [])) 3 UnknownStatement
    × FaultOf (codes "crt A 1") 1 UnknownStatement
    × FaultOf (codes "CRT,A 1") 1 UnknownStatement
    × FaultOf (codes "CRT'A' 1") 1 UnknownStatement
    × FaultOf (codes ", CRT A 1") 1 UnknownStatement
    × FaultOf (codes "'CRT' A 1") 1 UnknownStatement
    × FaultOf (codes "CRT(A 1)") 1 BadOperand
unfolding is_word is_hex digit is_allowed bad_line put put_word put_open end_line break_off begin_word begin step_in
    step scan_from finish_in lines_of lines_or_fault is_name_byte all_name is_name short_at digits written_number
    number_at requestor_at ctl_at sync_at make_at obtain_at release_at purge_at call_at form judge judge_all reading
words = (refl, refl, refl, refl, refl, refl, refl)

-- the form: each call with a word too few and with one too many; the operands in another order, and others
forms :
    FaultOf (text (codes "PRG A 1" ∷ codes "CRT A" ∷ [])) 2 BadOperand
    × FaultOf (codes "CRT A 1 2") 1 BadOperand
    × FaultOf (codes "OBT A 0 1 E") 1 BadOperand
    × FaultOf (codes "OBT A 0 1 E SYNC 2") 1 BadOperand
    × FaultOf (codes "REL A 0") 1 BadOperand
    × FaultOf (codes "REL A 0 1 2") 1 BadOperand
    × FaultOf (codes "PRG A") 1 BadOperand
    × FaultOf (codes "PRG A 0 1") 1 BadOperand
    × FaultOf (codes "PRG") 1 BadOperand
    × FaultOf (codes "OBT A 0 1 SYNC E") 1 BadOperand
    × FaultOf (codes "OBT A 0 1 X SYNC") 1 BadOperand
    × FaultOf (codes "OBT A 0 1 E WAIT") 1 BadOperand
    × FaultOf (codes "PRG A +1") 1 BadOperand
    × FaultOf (codes "PRG A,1") 1 BadOperand
unfolding is_word is_hex digit is_allowed bad_line put put_word put_open end_line break_off begin_word begin step_in
    step scan_from finish_in lines_of lines_or_fault is_name_byte all_name is_name short_at digits written_number
    number_at requestor_at ctl_at sync_at make_at obtain_at release_at purge_at call_at form judge judge_all reading
forms = (refl, refl, refl, refl, refl, refl, refl, refl, refl, refl, refl, refl, refl, refl)

-- a comment that ends on a further line, and so breaks a call off; one that isn't closed: alone, on the line where it
-- begins; behind a call, which is judged first; in the middle of one; behind a fault
comments :
    FaultOf (text (codes "PRG A /*" ∷ codes "*/ 1" ∷ [])) 1 BadOperand
    × FaultOf (text (codes "PRG A 1" ∷ codes "/* A" ∷ codes "FOO" ∷ [])) 2 BadOperand
    × FaultOf (text (codes "CRT A 1" ∷ codes "CRT A 1 /* A" ∷ codes "" ∷ [])) 2 BadOperand
    × FaultOf (codes "CRT ABCDEFGHI 1 /* A") 1 NameLength
    × FaultOf (codes "CRT A /* A") 1 BadOperand
    × FaultOf (codes "FOO /* A") 1 UnknownStatement
unfolding is_word is_hex digit is_allowed bad_line put put_word put_open end_line break_off begin_word begin step_in
    step scan_from finish_in lines_of lines_or_fault is_name_byte all_name is_name short_at digits written_number
    number_at requestor_at ctl_at sync_at make_at obtain_at release_at purge_at call_at form judge judge_all reading
comments = (refl, refl, refl, refl, refl, refl)

-- of a line the least kind; of lines the first, whatever is wrong with the next
least :
    FaultOf (codes "FOO ABCDEFGHI 0") 1 UnknownStatement
    × FaultOf (codes "CRT ABCDEFGHI 0") 1 BadOperand
    × FaultOf (text (codes "CRT ABCDEFGHI 1" ∷ codes "CRT A 0" ∷ [])) 1 NameLength
    × FaultOf (text (codes "CRT A 0" ∷ codes "FOO" ∷ [])) 1 BadOperand
unfolding is_word is_hex digit is_allowed bad_line put put_word put_open end_line break_off begin_word begin step_in
    step scan_from finish_in lines_of lines_or_fault is_name_byte all_name is_name short_at digits written_number
    number_at requestor_at ctl_at sync_at make_at obtain_at release_at purge_at call_at form judge judge_all reading
least = (refl, refl, refl, refl)

-- 64 calls that make a set, if it isn't there
abbrev made : List (List ℕ) → List ℕ
made ls = text (replicate 64 (codes "CRT A 1") ++ ls)

-- no more than 64 of them: another call may follow; a 65th one not, and what else is wrong with it comes first
sets :
    Reads (made []) (replicate 64 (Crt (codes "A") 1))
    × Reads (made (codes "PRG A 1" ∷ [])) (replicate 64 (Crt (codes "A") 1) ++ Prg (codes "A") 1 ∷ [])
    × FaultOf (made (codes "CRT A 1" ∷ [])) 65 TooMany
    × FaultOf (made (codes "CRT ABCDEFGHI 1" ∷ [])) 65 NameLength
    × FaultOf (made (codes "CRT A 0" ∷ [])) 65 BadOperand
unfolding is_word is_hex digit is_allowed bad_line put put_word put_open end_line break_off begin_word begin step_in
    step scan_from finish_in lines_of lines_or_fault is_name_byte all_name is_name short_at digits written_number
    number_at requestor_at ctl_at sync_at make_at obtain_at release_at purge_at call_at form judge judge_all reading
sets = (refl, refl, refl, refl, refl)

-- the fault that is declared of a text: one of each kind
abbrev Told : List ℕ → ℕ → Kind → Type 0
Told t n k = IsFault t (record { line = n; kind = k })

told : (t : List ℕ) (n : ℕ) (k : Kind) → FaultOf t n k → Told t n k
told t n k h = is_fault t (record { line = n; kind = k }) h

declared :
    Told (text (codes "FOO" ∷ codes "PRG A 1" ∷ []) ++ 9 ∷ []) 3 BadByte
    × Told (codes "FOO ABCDEFGHI 0") 1 UnknownStatement
    × Told (codes "CRT ABCDEFGHI 0") 1 BadOperand
    × Told (made (codes "CRT ABCDEFGHI 1" ∷ [])) 65 NameLength
    × Told (made (codes "CRT A 1" ∷ [])) 65 TooMany
declared = (
  told (text (codes "FOO" ∷ codes "PRG A 1" ∷ []) ++ 9 ∷ []) 3 BadByte bytes.1,
  told (codes "FOO ABCDEFGHI 0") 1 UnknownStatement least.0,
  told (codes "CRT ABCDEFGHI 0") 1 BadOperand least.1,
  told (made (codes "CRT ABCDEFGHI 1" ∷ [])) 65 NameLength sets.3,
  told (made (codes "CRT A 1" ∷ [])) 65 TooMany sets.2,
)

-- a call behind so many others, none of which makes a set
abbrev behind : List LatchCall → Draft
behind cs = record { calls = cs; made = 0 }

abbrev purge : GivenCall
purge = record { set = codes "A"; ask = Purge 1 }

-- 16,384 calls, and no more; what else is wrong with the next comes first
last_has_room : (cs : List LatchCall) → length cs ≡ 16383 → judge_call (behind cs) 7 purge ≡ Ok (grow (behind cs) purge)
last_has_room cs h = rw h refl

one_too_many : (cs : List LatchCall) → length cs ≡ 16384
    → judge_call (behind cs) 7 purge ≡ Err (record { line = 7; kind = TooMany })
one_too_many cs h = rw h refl

name_comes_first : (cs : List LatchCall) → length cs ≡ 16384
    → judge_call (behind cs) 7 (record purge { set = codes "ABCDEFGHI" }) ≡ Err (record { line = 7; kind = NameLength })
name_comes_first cs h = refl

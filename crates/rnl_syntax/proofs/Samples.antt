-- What the definitions say of some entries.
use Rattle.std.proofs.Common.{◌≡◌, ℕ, List, [], ◌∷◌, ◌++◌, take, Some, None, Result, Ok, Err, refl}
use Rattle.std.specs.Prelude.{codes}
use Rattle.grs_base.specs.declared.fault.DeckFault.{DeckFault}
use Rattle.grs_base.specs.declared.fault.Kind.{Kind}
use Rattle.grs_base.specs.declared.fault.Kind.TheVariants.{UnknownStatement, BadOperand, NameLength}
use Rattle.grs_base.specs.declared.rnl.RnlEntry.{RnlEntry}
use Rattle.grs_base.specs.declared.rnl.Which.TheVariants.{Incl, Excl, Con}
use Rattle.grs_base.specs.declared.rnl.Form.TheVariants.{Specific, Generic, Pattern}
use Rattle.deck_scan.specs.declared.token.Token.TheVariants.{Word, Name, Open, Close}
use Rattle.rnl_syntax.specs.Lines.{first_from}
use Rattle.rnl_syntax.specs.Operands.{which_of, form_of, value_of, operand_at, whole, rnldef_at}
use Rattle.deck_scan.specs.Bytes.{is_word, is_hex, digit, is_allowed, bad_line}
use Rattle.deck_scan.specs.Scan.{put, put_word, put_open, end_line, break_off, begin_word, begin, step_in, step}
use Rattle.deck_scan.specs.Scan.{scan_from, finish_in, lines_of}
use Rattle.deck_scan.specs.AnyBytes.{readable}
use Rattle.deck_scan.specs.Closes.{all_closes}
use Rattle.rnl_syntax.specs.Printed.{printed_rnldef}
use Rattle.rnl_syntax.specs.Reading.{rnldef_on, reading}

-- an entry of each form, with and without an rname
printed_entries :
    (printed_rnldef (record { which = Excl; form = Specific; q = codes "SYSDSN"; r = Some (codes "SYS1.PARMLIB") })
    ≡ codes "RNLDEF RNL(EXCL) TYPE(SPECIFIC) QNAME(SYSDSN) RNAME(SYS1.PARMLIB)")
    × (printed_rnldef (record { which = Incl; form = Pattern; q = codes "APPL*"; r = None })
    ≡ codes "RNLDEF RNL(INCL) TYPE(PATTERN) QNAME(APPL*)")
    × (printed_rnldef (record { which = Con; form = Generic; q = codes "Q"; r = Some (65 ∷ 0 ∷ []) })
    ≡ codes "RNLDEF RNL(CON) TYPE(GENERIC) QNAME(Q) RNAME(X'4100')")
printed_entries = (refl, refl, refl)

-- operands in another order; SPECIFIC without RNAME; without QNAME; twice RNL
statements :
    (rnldef_at (Word (codes "QNAME") ∷ Open ∷ Name (codes "a b") ∷ Close ∷ Word (codes "TYPE") ∷ Open
    ∷ Word (codes "GENERIC") ∷ Close ∷ Word (codes "RNL") ∷ Open ∷ Word (codes "CON") ∷ Close ∷ [])
    ≡ Some (record { which = Con; form = Generic; q = codes "a b"; r = None }))
    × (rnldef_at (Word (codes "QNAME") ∷ Open ∷ Word (codes "A") ∷ Close ∷ Word (codes "TYPE") ∷ Open
    ∷ Word (codes "SPECIFIC") ∷ Close ∷ Word (codes "RNL") ∷ Open ∷ Word (codes "CON") ∷ Close ∷ [])
    ≡ None)
    × (rnldef_at (Word (codes "TYPE") ∷ Open ∷ Word (codes "GENERIC") ∷ Close ∷ Word (codes "RNL") ∷ Open
    ∷ Word (codes "CON") ∷ Close ∷ [])
    ≡ None)
    × (rnldef_at (Word (codes "RNL") ∷ Open ∷ Word (codes "CON") ∷ Close ∷ Word (codes "RNL") ∷ Open
    ∷ Word (codes "CON") ∷ Close ∷ [])
    ≡ None)
unfolding which_of form_of value_of operand_at whole rnldef_at
statements = (refl, refl, refl, refl)

abbrev text : List ℕ
text = codes "RNLDEF RNL(INCL) TYPE(GENERIC) QNAME(A)  /*x*/" ++ 10 ∷ codes "SYSTEM SYA"

abbrev entry : RnlEntry
entry = record { which = Incl; form = Generic; q = codes "A"; r = None }

abbrev faulty : ℕ → Kind → Result RnlEntry DeckFault
faulty line kind = Err (record { line = line; kind = kind })

-- an RNLDEF with more behind it: 39 bytes have its closing parentheses, and fewer don't; those in a comment and in a
-- name do not count; no statement; another statement; one that breaks off; a name too long, on a later line
texts :
    (reading text ≡ Ok entry)
    × (all_closes (lines_of (take 39 text)) ≡ 3)
    × (all_closes (lines_of (take 38 text)) ≡ 2)
    × (all_closes (lines_of (codes "RNLDEF /*)*/ QNAME(')') RNL(INCL")) ≡ 1)
    × (reading [] ≡ faulty 1 UnknownStatement)
    × (reading (codes "SYSTEM SYA") ≡ faulty 1 UnknownStatement)
    × (reading (codes "RNLDEF RNL(INCL) TYPE(GENE") ≡ faulty 1 BadOperand)
    × (reading (10 ∷ codes "RNLDEF RNL(INCL) TYPE(GENERIC) QNAME(ABCDEFGHI)") ≡ faulty 2 NameLength)
unfolding is_word is_hex digit is_allowed bad_line put put_word put_open end_line break_off begin_word begin step_in
    step scan_from finish_in lines_of readable which_of form_of value_of operand_at whole rnldef_at first_from rnldef_on
    reading
texts = (refl, refl, refl, refl, refl, refl, refl, refl)

-- bytes that no deck may have: in the first word; before it; between operands, in a comment; behind the last operand on
-- its line; on a line behind the statement; in the first token of that line, which is an operand's word
bad_bytes :
    (reading (codes "RNL" ++ 9 ∷ codes "DEF") ≡ faulty 1 UnknownStatement)
    × (reading (9 ∷ text) ≡ faulty 1 UnknownStatement)
    × (reading (codes "RNLDEF RNL(INCL) /*" ++ 9 ∷ codes "*/ TYPE(GENERIC) QNAME(A)") ≡ faulty 1 BadOperand)
    × (reading (codes "RNLDEF RNL(INCL) TYPE(GENERIC) QNAME(A)" ++ 9 ∷ []) ≡ faulty 1 BadOperand)
    × (reading (text ++ 9 ∷ []) ≡ Ok entry)
    × (reading (codes "RNLDEF RNL(INCL) TYPE(GENERIC) QNAME(A)" ++ 10 ∷ 9 ∷ codes "RNAME(B)") ≡ Ok entry)
    × (reading (codes "RNLDEF RNL(INCL) TYPE(GENERIC) QNAME(A)" ++ 10 ∷ codes "RNAME" ++ 9 ∷ []) ≡ faulty 1 BadOperand)
unfolding is_word is_hex digit is_allowed bad_line put put_word put_open end_line break_off begin_word begin step_in
    step scan_from finish_in lines_of readable which_of form_of value_of operand_at whole rnldef_at first_from rnldef_on
    reading
bad_bytes = (refl, refl, refl, refl, refl, refl, refl)

-- What the definitions say of some small texts.
use Rattle.std.proofs.Common.{◌≡◌, ℕ, Bool, true, false, List, [], ◌∷◌, ◌++◌, Some, None, refl}
use Rattle.std.specs.Prelude.{codes}
use Rattle.grs_base.specs.declared.fault.Kind.TheVariants.{BadByte}
use Rattle.deck_scan.specs.declared.token.Token.{Token}
use Rattle.deck_scan.specs.declared.token.Token.TheVariants.{Word, Name, Open, Close, Comma, Equals, Stray, Unclosed}
use Rattle.deck_scan.specs.declared.token.TokenLine.{TokenLine}
use Rattle.deck_scan.specs.Bytes.{is_word, is_hex, digit, is_allowed, bad_line}
use Rattle.deck_scan.specs.Pieces.{Plain, Quoted, Hexed, Sign, Blank, Comment, LineEnd, LoneSlash, StrayByte, OpenQuote}
use Rattle.deck_scan.specs.Pieces.{OpenHexed, OpenComment, SpellsLines}
use Rattle.deck_scan.specs.Reading.{byte_fault}
use Rattle.deck_scan.specs.Scan.{put, put_word, put_open, end_line, break_off, begin_word, begin, step_in, step}
use Rattle.deck_scan.specs.Scan.{scan_from, finish_in, lines_of}

abbrev line : ℕ → List Token → Bool → TokenLine
line n tokens joined = record { at = n; tokens = tokens; joined = joined }

-- nothing; two lines, the last without LF; CR LF and a blank line; a comment over lines; an empty comment; all signs
good :
    (lines_of [] ≡ [])
    × (lines_of (codes "SYSTEM SYA" ++ 10 ∷ codes "JOB J.1")
    ≡ line 1 (Word (codes "SYSTEM") ∷ Word (codes "SYA") ∷ []) false
    ∷ line 2 (Word (codes "JOB") ∷ Word (codes "J.1") ∷ []) false ∷ [])
    × (lines_of (codes "A" ++ 13 ∷ 10 ∷ 13 ∷ 10 ∷ codes "B" ++ 13 ∷ 10 ∷ [])
    ≡ line 1 (Word (codes "A") ∷ []) false ∷ line 3 (Word (codes "B") ∷ []) false ∷ [])
    × (lines_of (codes "A /* '" ++ 10 ∷ codes "** */ B")
    ≡ line 1 (Word (codes "A") ∷ []) false ∷ line 2 (Word (codes "B") ∷ []) false ∷ [])
    × (lines_of (codes " /**/ ") ≡ [])
    × (lines_of (codes "E (A,B)=?")
    ≡ line 1 (Word (codes "E") ∷ Open ∷ Word (codes "A") ∷ Comma ∷ Word (codes "B") ∷ Close ∷ Equals ∷ Word (codes "?")
    ∷ [])
    false
    ∷ [])
unfolding is_word is_hex digit put put_word put_open end_line break_off begin_word begin step_in step scan_from
    finish_in lines_of
good = (refl, refl, refl, refl, refl, refl)

-- quotes; a quoted name of no bytes; digits of both cases; X as a word, and in a longer word; a quoted name behind X
-- and a blank
names :
    (lines_of (codes "'it''s'") ≡ line 1 (Name (codes "it's") ∷ []) false ∷ [])
    × (lines_of (codes "''") ≡ line 1 (Name [] ∷ []) false ∷ [])
    × (lines_of (codes "X'4a4B'X''") ≡ line 1 (Name (codes "JK") ∷ Name [] ∷ []) false ∷ [])
    × (lines_of (codes "X X1") ≡ line 1 (Word (codes "X") ∷ Word (codes "X1") ∷ []) false ∷ [])
    × (lines_of (codes "1X'41'") ≡ line 1 (Word (codes "1X") ∷ Name (codes "41") ∷ []) true ∷ [])
    × (lines_of (codes "X 'A'") ≡ line 1 (Word (codes "X") ∷ Name (codes "A") ∷ []) false ∷ [])
unfolding is_word is_hex digit put put_word put_open end_line break_off begin_word begin step_in step scan_from
    finish_in lines_of
names = (refl, refl, refl, refl, refl, refl)

-- three digits; a wrong digit; an open hexadecimal name; an open quote with what looks like a comment, and the next
-- line; a quote in an open quote; a byte of no token; a slash; an open comment behind a statement and over a line; a
-- comment whose begin is no end
faulty :
    (lines_of (codes "X'123'") ≡ line 1 (Stray ∷ []) false ∷ [])
    × (lines_of (codes "X'1G'A") ≡ line 1 (Stray ∷ Word (codes "A") ∷ []) false ∷ [])
    × (lines_of (codes "X'12" ++ 10 ∷ codes "B")
    ≡ line 1 (Stray ∷ []) false ∷ line 2 (Word (codes "B") ∷ []) false ∷ [])
    × (lines_of (codes "'A /* B" ++ 10 ∷ codes "C")
    ≡ line 1 (Stray ∷ []) false ∷ line 2 (Word (codes "C") ∷ []) false ∷ [])
    × (lines_of (codes "('A''") ≡ line 1 (Open ∷ Stray ∷ []) false ∷ [])
    × (lines_of (codes "A ;") ≡ line 1 (Word (codes "A") ∷ Stray ∷ []) false ∷ [])
    × (lines_of (codes "A /B") ≡ line 1 (Word (codes "A") ∷ Stray ∷ Word (codes "B") ∷ []) false ∷ [])
    × (lines_of (codes "A /* B" ++ 10 ∷ codes "C *")
    ≡ line 1 (Word (codes "A") ∷ []) false ∷ line 1 (Unclosed ∷ []) false ∷ [])
    × (lines_of (codes "/*/") ≡ line 1 (Unclosed ∷ []) false ∷ [])
unfolding is_word is_hex digit put put_word put_open end_line break_off begin_word begin step_in step scan_from
    finish_in lines_of
faulty = (refl, refl, refl, refl, refl, refl, refl, refl, refl)

-- what joins the first word of a line, and what doesn't
joins :
    (lines_of (codes "A,B") ≡ line 1 (Word (codes "A") ∷ Comma ∷ Word (codes "B") ∷ []) true ∷ [])
    × (lines_of (codes "A ,B") ≡ line 1 (Word (codes "A") ∷ Comma ∷ Word (codes "B") ∷ []) false ∷ [])
    × (lines_of (codes "A(,)") ≡ line 1 (Word (codes "A") ∷ Open ∷ Comma ∷ Close ∷ []) false ∷ [])
    × (lines_of (codes "A'B'") ≡ line 1 (Word (codes "A") ∷ Name (codes "B") ∷ []) true ∷ [])
    × (lines_of (codes "A/**/,") ≡ line 1 (Word (codes "A") ∷ Comma ∷ []) false ∷ [])
    × (lines_of (codes "A/") ≡ line 1 (Word (codes "A") ∷ Stray ∷ []) true ∷ [])
    × (lines_of (codes "A B,") ≡ line 1 (Word (codes "A") ∷ Word (codes "B") ∷ Comma ∷ []) false ∷ [])
unfolding is_word is_hex digit put put_word put_open end_line break_off begin_word begin step_in step scan_from
    finish_in lines_of
joins = (refl, refl, refl, refl, refl, refl, refl)

-- bytes that no deck has: a tab on line 2; a CR alone; none
bytes :
    (byte_fault (codes "A" ++ 10 ∷ 9 ∷ []) ≡ Some (record { line = 2; kind = BadByte }))
    × (byte_fault (codes "A" ++ 13 ∷ codes "B") ≡ Some (record { line = 1; kind = BadByte }))
    × (byte_fault (codes "A" ++ 13 ∷ 10 ∷ []) ≡ None)
unfolding is_allowed bad_line
bytes = (refl, refl, refl)

-- pieces of texts, with the lines that they say
pieces :
    SpellsLines (codes "Q ('A''B',X'4a')" ++ 13 ∷ 10 ∷ codes "/* c */ D")
    (line 1 (Word (codes "Q") ∷ Open ∷ Name (codes "A'B") ∷ Comma ∷ Name (codes "J") ∷ Close ∷ []) false
    ∷ line 2 (Word (codes "D") ∷ []) false ∷ [])
    × SpellsLines (codes "A/;'B" ++ 10 ∷ codes "X'1'X'2" ++ 10 ∷ codes "/* C")
    (line 1 (Word (codes "A") ∷ Stray ∷ Stray ∷ Stray ∷ []) true ∷ line 2 (Stray ∷ Stray ∷ []) false
    ∷ line 3 (Unclosed ∷ []) false ∷ [])
unfolding is_word is_hex digit is_allowed bad_line
pieces = (
  record {
    allowed = refl;
    pieces =
        Plain (codes "Q") ∷ Blank ∷ Sign Open ∷ Quoted (codes "A'B") ∷ Sign Comma ∷ Hexed (codes "4a") ∷ Sign Close
        ∷ LineEnd ∷ Comment (codes " c ") ∷ Blank ∷ Plain (codes "D") ∷ [];
    spells = refl;
    are = refl;
    says = refl;
  },
  record {
    allowed = refl;
    pieces =
        Plain (codes "A") ∷ LoneSlash ∷ StrayByte 59 ∷ OpenQuote (codes "B") ∷ LineEnd ∷ Hexed (codes "1")
        ∷ OpenHexed (codes "2") ∷ LineEnd ∷ OpenComment (codes " C") ∷ [];
    spells = refl;
    are = refl;
    says = refl;
  },
)

-- A printed entry is read again.
use Rattle.std.proofs.Common.{◌≡◌, ℕ, ◌+◌, Bool, true, false, cond, eqb, List, [], ◌∷◌, ◌++◌, length, take, Option}
use Rattle.std.proofs.Common.{Some, None, refl, sym, ap, subst, ◌∙◌, arith, append_assoc, length-append, inl, inr}
use Rattle.std.specs.Prelude.{codes, ◌&&◌, is_none}
use Rattle.std.specs.List.{list_all}
use Rattle.std.proofs.Math.Seq.{take-append_seam}
use Rattle.std.proofs.lemmas.List.{append-nil}
use Rattle.rnl_syntax.proofs.Closed.{ends_closed-snoc, line_closes}
use Rattle.deck_scan.specs.Closes.{all_closes}
use Rattle.deck_scan.proofs.Counted.{close_is_no_word}
use Rattle.rnl_syntax.proofs.Exact.{some, rnldef_closes}
use Rattle.rnl_syntax.proofs.Used.{no_shorter}
use Rattle.std.proofs.lemmas.List.Folds.{list_all-append}
use Rattle.grs_base.specs.Printed.{is_printable, printed_name}
use Rattle.grs_base.specs.declared.rnl.Which.{Which}
use Rattle.grs_base.specs.declared.rnl.Which.TheVariants.{Incl, Excl, Con}
use Rattle.grs_base.specs.declared.rnl.Form.{Form}
use Rattle.grs_base.specs.declared.rnl.Form.TheVariants.{Specific, Generic, Pattern}
use Rattle.grs_base.specs.declared.rnl.RnlEntry.{RnlEntry}
use Rattle.grs_base.specs.Names.{IsMaybeRname, are_bytes}
use Rattle.grs_base.specs.NameLists.{is_specific, IsEntry}
use Rattle.deck_scan.specs.declared.token.Token.{Token}
use Rattle.deck_scan.specs.declared.token.Token.TheVariants.{Word, Open, Close}
use Rattle.deck_scan.specs.declared.token.TokenLine.{TokenLine}
use Rattle.deck_scan.specs.Bytes.{is_word, is_allowed, bad_line}
use Rattle.deck_scan.specs.Lengths.{is_bad_rname}
use Rattle.deck_scan.specs.Named.{name_piece, name_token}
use Rattle.deck_scan.specs.Pieces.{Piece, Plain, Sign, Blank, LineEnd, spelled, is_piece, is_nonempty, followed_by}
use Rattle.deck_scan.specs.Pieces.{are_pieces, Place, past_all, first_place, next_line, lines_said, without_cr}
use Rattle.deck_scan.specs.Pieces.{SpellsLines}
use Rattle.deck_scan.specs.AnyBytes.{readable}
use Rattle.deck_scan.proofs.AnyLemmas.{any_text}
use Rattle.rnl_syntax.proofs.Readable.{printable_read, end_read}
use Rattle.deck_scan.proofs.Names.{piece-spelling, piece-is, printed-printable, qname_nonempty, rname_nonempty}
use Rattle.deck_scan.proofs.Print.{printable-before, printable-kept, piece_on, name_followed, name_past, name_names}
use Rattle.rnl_syntax.specs.declared.operands.Rnldef.{Rnldef}
use Rattle.rnl_syntax.specs.Lines.{is_open, first_from, begins_operands}
use Rattle.rnl_syntax.specs.Spelled.{which_word, form_word, WithRnl, WithType, WithQname, WithRname, IsRnldef}
use Rattle.rnl_syntax.specs.Printed.{printed_rname, printed_rnldef}
use Rattle.rnl_syntax.specs.Reading.{MakesEntry, ends_closed, SpellsEntry}
use Rattle.rnl_syntax.specs.Laws.{IsLineEnd, IsNextLine, MayFollow}
use Rattle.rnl_syntax.proofs.Behind.{lines_behind}

-- ---- the pieces of a printed entry

rname_pieces : Option (List ℕ) → List Piece → List Piece
rname_pieces None rest = rest
rname_pieces (Some r) rest = Blank ∷ Plain (codes "RNAME") ∷ Sign Open ∷ name_piece r ∷ Sign Close ∷ rest

entry_pieces : RnlEntry → List Piece → List Piece
entry_pieces e rest =
    Plain (codes "RNLDEF") ∷ Blank ∷ Plain (codes "RNL") ∷ Sign Open ∷ Plain (which_word e.which) ∷ Sign Close ∷ Blank
    ∷ Plain (codes "TYPE") ∷ Sign Open ∷ Plain (form_word e.form) ∷ Sign Close ∷ Blank ∷ Plain (codes "QNAME")
    ∷ Sign Open ∷ name_piece e.q ∷ Sign Close ∷ rname_pieces e.r rest

abbrev rname_tokens : Option (List ℕ) → List Token
rname_tokens None = []
rname_tokens (Some r) = Word (codes "RNAME") ∷ Open ∷ name_token r ∷ Close ∷ []

abbrev entry_tokens : RnlEntry → List Token
entry_tokens e =
    Word (codes "RNL") ∷ Open ∷ Word (which_word e.which) ∷ Close ∷ Word (codes "TYPE") ∷ Open ∷ Word (form_word e.form)
    ∷ Close ∷ Word (codes "QNAME") ∷ Open ∷ name_token e.q ∷ Close ∷ rname_tokens e.r

abbrev entry_line : RnlEntry → TokenLine
entry_line e = record { at = 1; tokens = Word (codes "RNLDEF") ∷ entry_tokens e; joined = false }

-- ---- how they are spelled

rname_spelled : (r : Option (List ℕ)) (rest : List Piece)
    → spelled (rname_pieces r rest) ≡ printed_rname r ++ spelled rest
unfolding rname_pieces
rname_spelled None rest = refl
rname_spelled (Some r) rest =
    rw (piece-spelling r)
    (ap (λ (x : List ℕ). codes " RNAME(" ++ x) (sym (append_assoc (printed_name r) (codes ")") (spelled rest))))

tail_is : (q r rest : List ℕ) → ((q ++ 41 ∷ []) ++ r) ++ rest ≡ q ++ 41 ∷ (r ++ rest)
tail_is q r rest = append_assoc (q ++ 41 ∷ []) r rest ∙ append_assoc q (41 ∷ []) (r ++ rest)

parts_spelled : (which : Which) (form : Form) (q : List ℕ) (r : Option (List ℕ)) (rest : List Piece)
    → spelled (entry_pieces (record { which = which; form = form; q = q; r = r }) rest)
    ≡ printed_rnldef (record { which = which; form = form; q = q; r = r }) ++ spelled rest
unfolding entry_pieces
parts_spelled Incl Specific q r rest =
    rw (piece-spelling q, rname_spelled r rest, tail_is (printed_name q) (printed_rname r) (spelled rest)) refl
parts_spelled Incl Generic q r rest =
    rw (piece-spelling q, rname_spelled r rest, tail_is (printed_name q) (printed_rname r) (spelled rest)) refl
parts_spelled Incl Pattern q r rest =
    rw (piece-spelling q, rname_spelled r rest, tail_is (printed_name q) (printed_rname r) (spelled rest)) refl
parts_spelled Excl Specific q r rest =
    rw (piece-spelling q, rname_spelled r rest, tail_is (printed_name q) (printed_rname r) (spelled rest)) refl
parts_spelled Excl Generic q r rest =
    rw (piece-spelling q, rname_spelled r rest, tail_is (printed_name q) (printed_rname r) (spelled rest)) refl
parts_spelled Excl Pattern q r rest =
    rw (piece-spelling q, rname_spelled r rest, tail_is (printed_name q) (printed_rname r) (spelled rest)) refl
parts_spelled Con Specific q r rest =
    rw (piece-spelling q, rname_spelled r rest, tail_is (printed_name q) (printed_rname r) (spelled rest)) refl
parts_spelled Con Generic q r rest =
    rw (piece-spelling q, rname_spelled r rest, tail_is (printed_name q) (printed_rname r) (spelled rest)) refl
parts_spelled Con Pattern q r rest =
    rw (piece-spelling q, rname_spelled r rest, tail_is (printed_name q) (printed_rname r) (spelled rest)) refl

entry_spelled : (e : RnlEntry) (rest : List Piece) → spelled (entry_pieces e rest) ≡ printed_rnldef e ++ spelled rest
entry_spelled e rest = parts_spelled e.which e.form e.q e.r rest

rname_printable : (r : Option (List ℕ)) → IsMaybeRname r → list_all is_printable (printed_rname r) ≡ true
rname_printable None h = refl
rname_printable (Some r) h =
    rw (list_all-append is_printable (codes " RNAME(" ++ printed_name r) (codes ")"), printed-printable r h.1) refl

parts_printable : (which : Which) (form : Form) (q : List ℕ) (r : Option (List ℕ)) → are_bytes q ≡ true → IsMaybeRname r
    → list_all is_printable (printed_rnldef (record { which = which; form = form; q = q; r = r })) ≡ true
parts_printable Incl Specific q r hq hr =
    rw (
      list_all-append is_printable (printed_name q ++ codes ")") (printed_rname r),
      list_all-append is_printable (printed_name q) (codes ")"),
      printed-printable q hq,
      rname_printable r hr,
    )
    refl
parts_printable Incl Generic q r hq hr =
    rw (
      list_all-append is_printable (printed_name q ++ codes ")") (printed_rname r),
      list_all-append is_printable (printed_name q) (codes ")"),
      printed-printable q hq,
      rname_printable r hr,
    )
    refl
parts_printable Incl Pattern q r hq hr =
    rw (
      list_all-append is_printable (printed_name q ++ codes ")") (printed_rname r),
      list_all-append is_printable (printed_name q) (codes ")"),
      printed-printable q hq,
      rname_printable r hr,
    )
    refl
parts_printable Excl Specific q r hq hr =
    rw (
      list_all-append is_printable (printed_name q ++ codes ")") (printed_rname r),
      list_all-append is_printable (printed_name q) (codes ")"),
      printed-printable q hq,
      rname_printable r hr,
    )
    refl
parts_printable Excl Generic q r hq hr =
    rw (
      list_all-append is_printable (printed_name q ++ codes ")") (printed_rname r),
      list_all-append is_printable (printed_name q) (codes ")"),
      printed-printable q hq,
      rname_printable r hr,
    )
    refl
parts_printable Excl Pattern q r hq hr =
    rw (
      list_all-append is_printable (printed_name q ++ codes ")") (printed_rname r),
      list_all-append is_printable (printed_name q) (codes ")"),
      printed-printable q hq,
      rname_printable r hr,
    )
    refl
parts_printable Con Specific q r hq hr =
    rw (
      list_all-append is_printable (printed_name q ++ codes ")") (printed_rname r),
      list_all-append is_printable (printed_name q) (codes ")"),
      printed-printable q hq,
      rname_printable r hr,
    )
    refl
parts_printable Con Generic q r hq hr =
    rw (
      list_all-append is_printable (printed_name q ++ codes ")") (printed_rname r),
      list_all-append is_printable (printed_name q) (codes ")"),
      printed-printable q hq,
      rname_printable r hr,
    )
    refl
parts_printable Con Pattern q r hq hr =
    rw (
      list_all-append is_printable (printed_name q ++ codes ")") (printed_rname r),
      list_all-append is_printable (printed_name q) (codes ")"),
      printed-printable q hq,
      rname_printable r hr,
    )
    refl

entry_printable : (e : RnlEntry) → IsEntry e → list_all is_printable (printed_rnldef e) ≡ true
entry_printable e h = parts_printable e.which e.form e.q e.r h.q_bytes h.r

-- ---- they are pieces

word_piece : (which : Which) → is_piece (Plain (which_word which)) ≡ true
unfolding is_word
word_piece Incl = refl
word_piece Excl = refl
word_piece Con = refl

form_piece : (form : Form) → is_piece (Plain (form_word form)) ≡ true
unfolding is_word
form_piece Specific = refl
form_piece Generic = refl
form_piece Pattern = refl

close_followed : (xs : List ℕ) → followed_by (Sign Close) xs ≡ true
close_followed [] = refl
close_followed (x ∷ xs) = refl

close_on : (ps : List Piece) → are_pieces ps ≡ true → are_pieces (Sign Close ∷ ps) ≡ true
close_on ps h = piece_on (Sign Close) ps refl (close_followed (spelled ps)) h

name_on : (n : List ℕ) (ps : List Piece) → is_nonempty n ≡ true → are_bytes n ≡ true → are_pieces ps ≡ true
    → are_pieces (name_piece n ∷ Sign Close ∷ ps) ≡ true
name_on n ps some bytes h =
    piece_on (name_piece n) (Sign Close ∷ ps) (piece-is n some bytes)
    (name_followed n (spelled ps) 41 close_is_no_word refl) (close_on ps h)

rname_are : (r : Option (List ℕ)) (rest : List Piece) → IsMaybeRname r → are_pieces rest ≡ true
    → are_pieces (rname_pieces r rest) ≡ true
unfolding rname_pieces is_word
rname_are None rest h all = all
rname_are (Some r) rest h all =
    piece_on Blank (Plain (codes "RNAME") ∷ Sign Open ∷ name_piece r ∷ Sign Close ∷ rest) refl refl
    (piece_on (Plain (codes "RNAME")) (Sign Open ∷ name_piece r ∷ Sign Close ∷ rest) refl refl
    (open_on (name_piece r ∷ Sign Close ∷ rest) (name_on r rest (rname_nonempty r h.0) h.1 all)))
  where
    followed : (xs : List ℕ) → followed_by (Sign Open) xs ≡ true
    followed [] = refl
    followed (x ∷ xs) = refl

    open_on : (ps : List Piece) → are_pieces ps ≡ true → are_pieces (Sign Open ∷ ps) ≡ true
    open_on ps k = piece_on (Sign Open) ps refl (followed (spelled ps)) k

open_followed : (xs : List ℕ) → followed_by (Sign Open) xs ≡ true
open_followed [] = refl
open_followed (x ∷ xs) = refl

-- a word with what stands between parentheses behind it
operand_on : (word : List ℕ) (p : Piece) (ps : List Piece) → is_piece (Plain word) ≡ true
    → are_pieces (p ∷ Sign Close ∷ ps) ≡ true → are_pieces (Blank ∷ Plain word ∷ Sign Open ∷ p ∷ Sign Close ∷ ps) ≡ true
unfolding is_word
operand_on word p ps is h =
    let inside = piece_on (Sign Open) (p ∷ Sign Close ∷ ps) refl (open_followed (spelled (p ∷ Sign Close ∷ ps))) h in
    let from_word = piece_on (Plain word) (Sign Open ∷ p ∷ Sign Close ∷ ps) is refl inside in
    piece_on Blank (Plain word ∷ Sign Open ∷ p ∷ Sign Close ∷ ps) refl
    (blank_followed (spelled (Plain word ∷ Sign Open ∷ p ∷ Sign Close ∷ ps))) from_word
  where
    blank_followed : (xs : List ℕ) → followed_by Blank xs ≡ true
    blank_followed [] = refl
    blank_followed (x ∷ xs) = refl

value_on : (word : List ℕ) (ps : List Piece) → is_piece (Plain word) ≡ true → are_pieces ps ≡ true
    → are_pieces (Plain word ∷ Sign Close ∷ ps) ≡ true
unfolding is_word
value_on word ps is h = piece_on (Plain word) (Sign Close ∷ ps) is refl (close_on ps h)

literal : (is_piece (Plain (codes "RNLDEF")) ≡ true) × (is_piece (Plain (codes "RNL")) ≡ true)
    × (is_piece (Plain (codes "TYPE")) ≡ true) × (is_piece (Plain (codes "QNAME")) ≡ true)
unfolding is_word
literal = (refl, refl, refl, refl)

entry_are : (e : RnlEntry) (rest : List Piece) → IsEntry e → are_pieces rest ≡ true
    → are_pieces (entry_pieces e rest) ≡ true
unfolding entry_pieces is_word
entry_are e rest h all =
    let last =
    name_on e.q (rname_pieces e.r rest) (qname_nonempty e.q h.q.made) h.q_bytes (rname_are e.r rest h.r all) in
    let third = operand_on (codes "QNAME") (name_piece e.q) (rname_pieces e.r rest) literal.3 last in
    let names : List Piece =
    Blank ∷ Plain (codes "QNAME") ∷ Sign Open ∷ name_piece e.q ∷ Sign Close ∷ rname_pieces e.r rest in
    let second =
    operand_on (codes "TYPE") (Plain (form_word e.form)) names literal.2
    (value_on (form_word e.form) names (form_piece e.form) third) in
    let form : List Piece = Blank ∷ Plain (codes "TYPE") ∷ Sign Open ∷ Plain (form_word e.form) ∷ Sign Close ∷ names in
    let first =
    operand_on (codes "RNL") (Plain (which_word e.which)) form literal.1
    (value_on (which_word e.which) form (word_piece e.which) second) in
    piece_on (Plain (codes "RNLDEF"))
    (Blank ∷ Plain (codes "RNL") ∷ Sign Open ∷ Plain (which_word e.which) ∷ Sign Close ∷ form) literal.0 refl first

-- ---- what they say

abbrev entry_place : RnlEntry → Place
entry_place e = record {
  line = 1;
  tokens = Word (codes "RNLDEF") ∷ entry_tokens e;
  near = false;
  joined = false;
  lines = [];
}

abbrev at_name : Which → Form → List Token → Place
at_name which form more = record {
  line = 1;
  tokens =
      Word (codes "RNLDEF") ∷ Word (codes "RNL") ∷ Open ∷ Word (which_word which) ∷ Close ∷ Word (codes "TYPE") ∷ Open
      ∷ Word (form_word form) ∷ Close ∷ Word (codes "QNAME") ∷ Open ∷ more;
  near = false;
  joined = false;
  lines = [];
}

parts_past : (which : Which) (form : Form) (q : List ℕ) (r : Option (List ℕ)) (rest : List Piece) → are_bytes q ≡ true
    → IsMaybeRname r
    → past_all (entry_pieces (record { which = which; form = form; q = q; r = r }) rest) first_place
    ≡ past_all rest (entry_place (record { which = which; form = form; q = q; r = r }))
unfolding entry_pieces rname_pieces
parts_past which form q None rest hq hr =
    ap (past_all (Sign Close ∷ rest)) (name_past q hq (at_name which form []) refl)
parts_past which form q (Some r) rest hq hr =
    ap (past_all (Sign Close ∷ Blank ∷ Plain (codes "RNAME") ∷ Sign Open ∷ name_piece r ∷ Sign Close ∷ rest))
    (name_past q hq (at_name which form []) refl)
    ∙ ap (past_all (Sign Close ∷ rest))
    (name_past r hr.1 (at_name which form (name_token q ∷ Close ∷ Word (codes "RNAME") ∷ Open ∷ [])) refl)

entry_past : (e : RnlEntry) (rest : List Piece) → IsEntry e
    → past_all (entry_pieces e rest) first_place ≡ past_all rest (entry_place e)
entry_past e rest h = parts_past e.which e.form e.q e.r rest h.q_bytes h.r

abbrev rnldef_of : RnlEntry → Rnldef
rnldef_of e = record { which = e.which; form = e.form; q = e.q; r = e.r }

parts_say : (which : Which) (form : Form) (q : List ℕ) (r : Option (List ℕ)) → (is_specific form && is_none r) ≡ false
    → IsRnldef (entry_tokens (record { which = which; form = form; q = q; r = r }))
    (record { which = which; form = form; q = q; r = r })
parts_say which form q None needed = record {
  given = WithRnl which ∷ WithType form ∷ WithQname (name_token q) q ∷ [];
  spelled = refl;
  operands = (refl, (refl, ((refl, name_names q), refl)));
  needed = needed;
}
parts_say which form q (Some r) needed = record {
  given = WithRnl which ∷ WithType form ∷ WithQname (name_token q) q ∷ WithRname (name_token r) r ∷ [];
  spelled = refl;
  operands = (refl, (refl, ((refl, name_names q), ((refl, name_names r), refl))));
  needed = needed;
}

rname_good : (r : Option (List ℕ)) → IsMaybeRname r → is_bad_rname r ≡ false
rname_good None h = refl
rname_good (Some r) h = rw h.0 refl

parts_end : (which : Which) (form : Form) (q : List ℕ) (r : Option (List ℕ))
    → next_line (entry_place (record { which = which; form = form; q = q; r = r }))
    ≡ record {
      line = 2;
      tokens = [];
      near = false;
      joined = false;
      lines = entry_line (record { which = which; form = form; q = q; r = r }) ∷ [];
    }
parts_end which form q None = refl
parts_end which form q (Some r) = refl

entry_end : (e : RnlEntry)
    → next_line (entry_place e)
    ≡ record { line = 2; tokens = []; near = false; joined = false; lines = entry_line e ∷ [] }
entry_end e = parts_end e.which e.form e.q e.r

-- ---- the statement

closed_tokens : (which : Which) (form : Form) (q : List ℕ) (r : Option (List ℕ))
    → is_open (Word (codes "RNLDEF") ∷ entry_tokens (record { which = which; form = form; q = q; r = r })) ≡ false
closed_tokens which form q None = refl
closed_tokens which form q (Some r) = refl

-- it doesn't go on
stays : (e : RnlEntry) (more : List TokenLine) → begins_operands more ≡ false
    → first_from (entry_line e) more ≡ entry_line e
unfolding first_from
stays e [] h = refl
stays e (m ∷ ms) h = rw (closed_tokens e.which e.form e.q e.r, h) refl

made_by : (e : RnlEntry) (text : List ℕ) (more : List TokenLine) → IsEntry e
    → SpellsLines (readable text) (entry_line e ∷ more) → begins_operands more ≡ false → MakesEntry text e
made_by e text more h spelled other = record {
  lines = entry_line e ∷ more;
  spelled = spelled;
  statement = entry_line e;
  first = ap (λ (s : TokenLine). Some s) (stays e more other);
  apart = refl;
  behind = entry_tokens e;
  parts = refl;
  rnldef = rnldef_of e;
  says = parts_say e.which e.form e.q e.r h.needed;
  names = rw (h.q.made, rname_good e.r h.r) refl;
  makes = rw h.q.trimmed refl;
}

-- ---- the text

spells_with : (e : RnlEntry) (behind : List ℕ) (rest : List Piece) → IsEntry e → without_cr behind ≡ spelled rest
    → bad_line 1 behind ≡ None → are_pieces rest ≡ true
    → SpellsLines (printed_rnldef e ++ behind) (lines_said (entry_pieces e rest))
spells_with e behind rest h bytes allowed are = record {
  allowed = printable-before (printed_rnldef e) behind 1 (entry_printable e h) ∙ allowed;
  pieces = entry_pieces e rest;
  spells =
      printable-kept (printed_rnldef e) behind (entry_printable e h)
      ∙ ap (λ (x : List ℕ). printed_rnldef e ++ x) bytes
      ∙ sym (entry_spelled e rest);
  are = entry_are e rest h are;
  says = refl;
}

none_bad : bad_line 1 [] ≡ None
unfolding bad_line
none_bad = refl

alone_spells : (e : RnlEntry) → IsEntry e → SpellsLines (printed_rnldef e ++ []) (entry_line e ∷ [])
alone_spells e h =
    let lines : lines_said (entry_pieces e []) ≡ entry_line e ∷ [] =
    ap (λ (p : Place). (next_line p).lines) (entry_past e [] h) ∙ ap (λ (p : Place). p.lines) (entry_end e) in
    subst (λ (ls : List TokenLine). SpellsLines (printed_rnldef e ++ []) ls) lines
    (spells_with e [] [] h refl none_bad refl)

alone : (e : RnlEntry) → IsEntry e → MakesEntry (printed_rnldef e ++ []) e
alone e h =
    made_by e (printed_rnldef e ++ []) [] h (any_text (printed_rnldef e ++ []) (entry_line e ∷ []) (alone_spells e h))
    refl

-- ---- the next line

allowed_any : (text : List ℕ) (n m : ℕ) → bad_line n text ≡ None → bad_line m text ≡ None
unfolding bad_line
allowed_any [] n m h = refl
allowed_any (b ∷ bs) n m h = go (is_allowed b bs) (eqb b 10) (λ i j k. allowed_any bs i j k) h
  where
    go : (ok lf : Bool) → ((i j : ℕ) → bad_line i bs ≡ None → bad_line j bs ≡ None)
        → cond ok (bad_line (cond lf (n + 1) n) bs) (Some n) ≡ None
        → cond ok (bad_line (cond lf (m + 1) m) bs) (Some m) ≡ None
    go true true next k = next _ _ k
    go true false next k = next _ _ k
    go false lf next k = absurd cc

end_allowed : (end rest : List ℕ) → IsLineEnd end → bad_line 1 rest ≡ None → bad_line 1 (end ++ rest) ≡ None
unfolding bad_line is_allowed
end_allowed end rest (inl e) h = rw e (allowed_any rest 1 2 h)
end_allowed end rest (inr e) h = rw e (allowed_any rest 1 2 h)

end_kept : (end rest : List ℕ) → IsLineEnd end → without_cr (end ++ rest) ≡ 10 ∷ without_cr rest
end_kept end rest (inl e) = rw e refl
end_kept end rest (inr e) = rw e refl

line_end_on : (ps : List Piece) → are_pieces ps ≡ true → are_pieces (LineEnd ∷ ps) ≡ true
line_end_on ps h = piece_on LineEnd ps refl (followed (spelled ps)) h
  where
    followed : (xs : List ℕ) → followed_by LineEnd xs ≡ true
    followed [] = refl
    followed (x ∷ xs) = refl

next_made : (e : RnlEntry) (behind : List ℕ) → IsEntry e → IsNextLine behind → MakesEntry (printed_rnldef e ++ behind) e
next_made e behind h n =
    let qs = n.spelled.pieces in
    let next : List ℕ = n.bytes ++ readable n.rest in
    let read : readable (printed_rnldef e ++ behind) ≡ printed_rnldef e ++ next =
    ap (λ (t : List ℕ). readable (printed_rnldef e ++ t)) n.parts
    ∙ printable_read (printed_rnldef e) (n.bytes ++ n.rest) (entry_printable e h)
    ∙ ap (λ (t : List ℕ). printed_rnldef e ++ t) (end_read n.bytes n.rest n.ends) in
    let bytes : without_cr next ≡ spelled (LineEnd ∷ qs) =
    end_kept n.bytes (readable n.rest) n.ends ∙ ap (λ (x : List ℕ). 10 ∷ x) n.spelled.spells in
    let allowed : bad_line 1 next ≡ None = end_allowed n.bytes (readable n.rest) n.ends n.spelled.allowed in
    let b = lines_behind (entry_line e) qs 2 in
    let lines : lines_said (entry_pieces e (LineEnd ∷ qs)) ≡ entry_line e ∷ b.more =
    ap (λ (p : Place). (next_line p).lines) (entry_past e (LineEnd ∷ qs) h)
    ∙ ap (λ (p : Place). (next_line (past_all qs p)).lines) (entry_end e)
    ∙ b.lines in
    let other : begins_operands b.more ≡ false = b.first ∙ ap begins_operands (sym n.spelled.says) ∙ n.other in
    let all : SpellsLines (printed_rnldef e ++ next) (entry_line e ∷ b.more) =
    subst (λ (ls : List TokenLine). SpellsLines (printed_rnldef e ++ next) ls) lines
    (spells_with e next (LineEnd ∷ qs) h bytes allowed (line_end_on qs n.spelled.are)) in
    made_by e (printed_rnldef e ++ behind) b.more h
    (subst (λ (t : List ℕ). SpellsLines t (entry_line e ∷ b.more)) (sym read) all) other

-- ---- the bytes used

-- a printed entry without its last byte
record Ending (e : RnlEntry) : Type 0 where
  init : List ℕ
  parts : printed_rnldef e ≡ init ++ 41 ∷ []

last_byte : (text : List ℕ) (r : Option (List ℕ))
    → (init : List ℕ) × ((text ++ codes ")") ++ printed_rname r ≡ init ++ 41 ∷ [])
last_byte text None = (text, append-nil (text ++ codes ")"))
last_byte text (Some r) = (
  (text ++ codes ")") ++ (codes " RNAME(" ++ printed_name r),
  sym (append_assoc (text ++ codes ")") (codes " RNAME(" ++ printed_name r) (codes ")")),
)

ending : (e : RnlEntry) → Ending e
ending e =
    let l =
    last_byte (codes "RNLDEF RNL(" ++ which_word e.which ++ codes ") TYPE(" ++ form_word e.form ++ codes ") QNAME("
    ++ printed_name e.q)
    e.r in
    record { init = l.0; parts = l.1 }

line_ends : (which : Which) (form : Form) (q : List ℕ) (r : Option (List ℕ))
    → line_closes (entry_line (record { which = which; form = form; q = q; r = r }) ∷ []) ≡ true
line_ends which form q None = refl
line_ends which form q (Some r) = refl

line_count : (e : RnlEntry) → IsEntry e → all_closes (entry_line e ∷ []) ≡ 3 + some e.r
line_count e h =
    let k = rnldef_closes (entry_tokens e) (rnldef_of e) (parts_say e.which e.form e.q e.r h.needed) in omega (arith, k)

-- What is printed of an entry is read as that entry, and used to its end.
used_all : (e : RnlEntry) (behind : List ℕ) → IsEntry e → MakesEntry (printed_rnldef e ++ behind) e
    → SpellsEntry (printed_rnldef e ++ behind) e (length (printed_rnldef e))
used_all e behind h made =
    let long : length (printed_rnldef e ++ behind) ≡ length (printed_rnldef e) + length behind =
    length-append (printed_rnldef e) behind in
    let same : printed_rnldef e ++ [] ≡ printed_rnldef e = append-nil (printed_rnldef e) in
    let own : MakesEntry (printed_rnldef e) e = subst (λ (x : List ℕ). MakesEntry x e) same (alone e h) in
    let spelled : SpellsLines (printed_rnldef e) (entry_line e ∷ []) =
    subst (λ (x : List ℕ). SpellsLines x (entry_line e ∷ [])) same (alone_spells e h) in
    let cut : take (length (printed_rnldef e)) (printed_rnldef e ++ behind) ≡ printed_rnldef e =
    take-append_seam (printed_rnldef e) behind in
    let end = ending e in
    let closed : ends_closed (printed_rnldef e) ≡ true = ap ends_closed end.parts ∙ ends_closed-snoc end.init 41 in
    record {
      makes = made;
      front = (omega (arith, long), ap ends_closed cut ∙ closed, subst (λ (x : List ℕ). MakesEntry x e) (sym cut) own);
      fewest = λ n lt f.
          no_shorter (printed_rnldef e) end.init behind e (entry_line e ∷ []) end.parts spelled
          (line_ends e.which e.form e.q e.r) (line_count e h) n lt f.1 f.2;
    }

pub entry_again : (e : RnlEntry) (behind : List ℕ) → IsEntry e → MayFollow behind
    → SpellsEntry (printed_rnldef e ++ behind) e (length (printed_rnldef e))
entry_again e behind h (inl none) =
    used_all e behind h (subst (λ (t : List ℕ). MakesEntry (printed_rnldef e ++ t) e) (sym none) (alone e h))
entry_again e behind h (inr next) = used_all e behind h (next_made e behind h next)

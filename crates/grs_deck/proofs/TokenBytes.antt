-- The tokens of a spelled text say bytes: numbers below 256.
use Rattle.std.proofs.Common.{◌≡◌, ◌∙◌, ℕ, ◌+◌, ◌*◌, ◌<◌, ◌≤◌, Bool, true, false, cond, eqb, leb, ltb, List, [], ◌∷◌}
use Rattle.std.proofs.Common.{◌++◌, length, refl, sym, subst, arith}
use Rattle.std.specs.Prelude.{◌&&◌}
use Rattle.std.specs.List.{list_all}
use Rattle.std.proofs.lemmas.Bool.{and_parts, and_from, leb-true, lt-ltb}
use Rattle.std.proofs.lemmas.Bool.Decides.{nat_tests}
use Rattle.std.proofs.lemmas.List.Folds.{list_all-append}
use Rattle.grs_base.specs.Printed.{is_printable}
use Rattle.grs_base.specs.Names.{are_bytes}
use Rattle.deck_scan.specs.declared.token.Token.{Token}
use Rattle.deck_scan.specs.declared.token.Token.TheVariants.{Word, Name, Open, Close, Comma, Equals, Stray, Unclosed}
use Rattle.deck_scan.specs.declared.token.TokenLine.{TokenLine}
use Rattle.deck_scan.specs.Bytes.{is_word, is_hex, digit}
use Rattle.deck_scan.specs.Next.{Names}
use Rattle.deck_scan.specs.Pieces.{Piece, Plain, Quoted, Hexed, Sign, Blank, Comment, LineEnd, LoneSlash, StrayByte}
use Rattle.deck_scan.specs.Pieces.{OpenQuote, OpenHexed, OpenComment, is_sign, is_nonempty, spelled, is_piece}
use Rattle.deck_scan.specs.Pieces.{followed_by, are_pieces, is_hexed, unhex, Place, with_token, with_sign, apart}
use Rattle.deck_scan.specs.Pieces.{next_line, over, past, past_all, first_place, SpellsLines}
use Rattle.deck_scan.proofs.Names.{plain_printable, all_kept}
use Rattle.rnl_syntax.specs.Lines.{goes_on, with_line}
use Rattle.deck_form.specs.Statements.{is_schedule, statements_from, statements}

-- What a token says is bytes.
abbrev pub says_bytes : Token → Bool
says_bytes (Word w) = are_bytes w
says_bytes (Name n) = are_bytes n
says_bytes _ = true

-- What the tokens of a line say is bytes.
abbrev pub are_of_bytes : TokenLine → Bool
are_of_bytes l = list_all says_bytes l.tokens

pub named_bytes : (t : Token) (n : List ℕ) → Names t n → says_bytes t ≡ true → are_bytes n ≡ true
named_bytes (Word w) n h s = subst (λ (x : List ℕ). are_bytes x ≡ true) h s
named_bytes (Name w) n h s = subst (λ (x : List ℕ). are_bytes x ≡ true) h s
named_bytes _ n h s = absurd h

-- ---- bytes

printable_byte : (b : ℕ) → is_printable b ≡ true → ltb b 256 ≡ true
printable_byte b h =
    let small : b ≤ 126 = leb-true b 126 (and_parts (leb 32 b) (leb b 126) h).1 in
    lt-ltb b 256 (omega (arith, small))

word_byte : (b : ℕ) → is_word b ≡ true → ltb b 256 ≡ true
unfolding is_word
word_byte b h = printable_byte b (plain_printable b h)

digit_below : (b : ℕ) → digit b < 16
unfolding digit
digit_below b = grind (arith, nat_tests)

unhex_bytes : (ds : List ℕ) → is_hexed ds ≡ true → are_bytes (unhex ds) ≡ true
unhex_bytes [] h = refl
unhex_bytes (a ∷ []) h = refl
unhex_bytes (a ∷ b ∷ ds) h =
    let k = and_parts (is_hex a) (is_hex b && is_hexed ds) h in
    let m = and_parts (is_hex b) (is_hexed ds) k.1 in
    let small : 16 * digit a + digit b < 256 = omega (arith, digit_below a, digit_below b) in
    and_from (ltb (16 * digit a + digit b) 256) (are_bytes (unhex ds)) (lt-ltb (16 * digit a + digit b) 256 small)
    (unhex_bytes ds m.1)

-- ---- where a text stands behind its pieces

record HasBytes (p : Place) : Type 0 where
  tokens : list_all says_bytes p.tokens ≡ true
  lines : list_all are_of_bytes p.lines ≡ true

token_bytes : (t : Token) (p : Place) → says_bytes t ≡ true → HasBytes p → HasBytes (with_token t p)
token_bytes t p s h = record {
  tokens =
      list_all-append says_bytes p.tokens (t ∷ [])
      ∙ and_from (list_all says_bytes p.tokens) (list_all says_bytes (t ∷ [])) h.tokens
      (and_from (says_bytes t) true s refl);
  lines = h.lines;
}

apart_bytes : (p : Place) → HasBytes p → HasBytes (apart p)
apart_bytes p h = record { tokens = h.tokens; lines = h.lines }

line_bytes : (p : Place) → HasBytes p → HasBytes (next_line p)
line_bytes p h = record { tokens = refl; lines = go (eqb (length p.tokens) 0) }
  where
    line : TokenLine
    line = record { at = p.line; tokens = p.tokens; joined = p.joined }

    go : (b : Bool) → list_all are_of_bytes (cond b p.lines (p.lines ++ line ∷ [])) ≡ true
    go true = h.lines
    go false =
        list_all-append are_of_bytes p.lines (line ∷ [])
        ∙ and_from (list_all are_of_bytes p.lines) (list_all are_of_bytes (line ∷ [])) h.lines
        (and_from (are_of_bytes line) true h.tokens refl)

over_bytes : (bs : List ℕ) (p : Place) → HasBytes p → HasBytes (over bs p)
over_bytes [] p h = h
over_bytes (b ∷ bs) p h = over_bytes bs (cond (eqb b 10) (next_line p) p) (go (eqb b 10))
  where
    go : (x : Bool) → HasBytes (cond x (next_line p) p)
    go true = line_bytes p h
    go false = h

open_bytes : (c : List ℕ) (p : Place) → HasBytes p → HasBytes (past (OpenComment c) p)
open_bytes c p h =
    let k =
    token_bytes Unclosed (next_line (over c (apart p))) refl
    (line_bytes (over c (apart p)) (over_bytes c (apart p) (apart_bytes p h))) in
    record { tokens = k.tokens; lines = k.lines }

sign_bytes : (t : Token) (p : Place) → is_sign t ≡ true → HasBytes p → HasBytes (with_sign t p)
sign_bytes Open p s h = let k = token_bytes Open p refl h in record { tokens = k.tokens; lines = k.lines }
sign_bytes Close p s h = token_bytes Close p refl h
sign_bytes Comma p s h = token_bytes Comma p refl h
sign_bytes Equals p s h = token_bytes Equals p refl h
sign_bytes (Word w) p s h = absurd cc
sign_bytes (Name n) p s h = absurd cc
sign_bytes Stray p s h = absurd cc
sign_bytes Unclosed p s h = absurd cc

hexed_bytes : (ds : List ℕ) (p : Place) → HasBytes p → HasBytes (past (Hexed ds) p)
hexed_bytes ds p h = go (is_hexed ds) refl
  where
    go : (x : Bool) → is_hexed ds ≡ x → HasBytes (with_token (cond x (Name (unhex ds)) Stray) p)
    go true is = token_bytes (Name (unhex ds)) p (unhex_bytes ds is) h
    go false is = token_bytes Stray p refl h

past_bytes : (q : Piece) (p : Place) → is_piece q ≡ true → HasBytes p → HasBytes (past q p)
past_bytes (Plain w) p is h =
    let k =
    token_bytes (Word w) p
    (all_kept is_word (λ b. ltb b 256) word_byte w (and_parts (is_nonempty w) (list_all is_word w) is).1) h in
    record { tokens = k.tokens; lines = k.lines }
past_bytes (Quoted n) p is h = token_bytes (Name n) p (all_kept is_printable (λ b. ltb b 256) printable_byte n is) h
past_bytes (Hexed ds) p is h = hexed_bytes ds p h
past_bytes (Sign t) p is h = sign_bytes t p is h
past_bytes Blank p is h = apart_bytes p h
past_bytes (Comment c) p is h = over_bytes c (apart p) (apart_bytes p h)
past_bytes LineEnd p is h = line_bytes p h
past_bytes LoneSlash p is h = token_bytes Stray p refl h
past_bytes (StrayByte b) p is h = token_bytes Stray p refl h
past_bytes (OpenQuote n) p is h = token_bytes Stray p refl h
past_bytes (OpenHexed ds) p is h = token_bytes Stray p refl h
past_bytes (OpenComment c) p is h = open_bytes c p h

all_bytes : (qs : List Piece) (p : Place) → are_pieces qs ≡ true → HasBytes p → HasBytes (past_all qs p)
all_bytes [] p are h = h
all_bytes (q ∷ qs) p are h =
    let k = and_parts (is_piece q) (followed_by q (spelled qs) && are_pieces qs) are in
    all_bytes qs (past q p) (and_parts (followed_by q (spelled qs)) (are_pieces qs) k.1).1 (past_bytes q p k.0 h)

-- The lines that a text spells are of bytes.
pub spelled_bytes : (text : List ℕ) (lines : List TokenLine) → SpellsLines text lines
    → list_all are_of_bytes lines ≡ true
spelled_bytes text lines h =
    let first : HasBytes first_place = record { tokens = refl; lines = refl } in
    subst (λ (ls : List TokenLine). list_all are_of_bytes ls ≡ true) (sym h.says)
    (line_bytes (past_all h.pieces first_place) (all_bytes h.pieces first_place h.are first)).lines

-- ---- statements

gone_on : (s l : TokenLine) → are_of_bytes s ≡ true → are_of_bytes l ≡ true → are_of_bytes (with_line s l) ≡ true
gone_on s l h k =
    list_all-append says_bytes s.tokens l.tokens
    ∙ and_from (list_all says_bytes s.tokens) (list_all says_bytes l.tokens) h k

from_bytes : (s : TokenLine) (ls : List TokenLine) → are_of_bytes s ≡ true → list_all are_of_bytes ls ≡ true
    → list_all are_of_bytes (statements_from s ls) ≡ true
unfolding statements_from
from_bytes s [] h k = and_from (are_of_bytes s) true h refl
from_bytes s (l ∷ ls) h k =
    let parts = and_parts (are_of_bytes l) (list_all are_of_bytes ls) k in
    go (is_schedule s.tokens) (goes_on s l) (from_bytes (with_line s l) ls (gone_on s l h parts.0) parts.1)
    (from_bytes l ls parts.0 parts.1)
  where
    go : (b c : Bool) → list_all are_of_bytes (statements_from (with_line s l) ls) ≡ true
        → list_all are_of_bytes (statements_from l ls) ≡ true
        → list_all are_of_bytes
        (cond b (s ∷ l ∷ ls) (cond c (statements_from (with_line s l) ls) (s ∷ statements_from l ls)))
        ≡ true
    go true c on apart = and_from (are_of_bytes s) (list_all are_of_bytes (l ∷ ls)) h k
    go false true on apart = on
    go false false on apart = and_from (are_of_bytes s) (list_all are_of_bytes (statements_from l ls)) h apart

-- The statements of lines of bytes are of bytes.
pub statements_bytes : (ls : List TokenLine) → list_all are_of_bytes ls ≡ true
    → list_all are_of_bytes (statements ls) ≡ true
unfolding statements
statements_bytes [] h = refl
statements_bytes (l ∷ ls) h = let k = and_parts (are_of_bytes l) (list_all are_of_bytes ls) h in from_bytes l ls k.0 k.1

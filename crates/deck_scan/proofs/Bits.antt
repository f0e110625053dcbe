-- A printed line as bits: words, names, signs and blanks one behind the other.
use Rattle.std.proofs.Common.{◌≡◌, ℕ, Bool, true, false, eqb, List, [], ◌∷◌, ◌++◌, length, refl, sym, ap, ◌∙◌, arith}
use Rattle.std.proofs.Common.{append_assoc, append-nil, length-append}
use Rattle.std.specs.Prelude.{◌&&◌}
use Rattle.std.specs.List.{list_all}
use Rattle.std.proofs.lemmas.Bool.{and_from, and_parts, ne_eqb}
use Rattle.std.proofs.lemmas.List.Folds.{list_all-append}
use Rattle.grs_base.specs.Printed.{is_plain_byte, is_printable, printed_name}
use Rattle.grs_base.specs.Names.{are_bytes}
use Rattle.deck_scan.specs.declared.token.Token.{Token}
use Rattle.deck_scan.specs.declared.token.Token.TheVariants.{Word, Open, Close, Comma, Equals}
use Rattle.deck_scan.specs.declared.token.TokenLine.{TokenLine}
use Rattle.deck_scan.specs.Bytes.{is_word}
use Rattle.deck_scan.specs.Named.{name_piece, name_token}
use Rattle.deck_scan.specs.Pieces.{Piece, Plain, Sign, Blank, sign, spelled, is_sign, is_nonempty, is_piece}
use Rattle.deck_scan.specs.Pieces.{followed_by, are_pieces, Place, next_line, past, past_all, SpellsLines}
use Rattle.deck_scan.proofs.Names.{printable-no_cr, printable-allowed, printed-printable, plain_printable, all_kept}
use Rattle.deck_scan.proofs.Names.{piece-spelling, piece-is}
use Rattle.deck_scan.proofs.Print.{piece_on, name_followed, name_past}

pub data Bit : Type 0 where
  Of : List ℕ → Bit
  Called : List ℕ → Bit
  Mark : Token → Bit
  Gap : Bit

abbrev pub piece_of : Bit → Piece
piece_of (Of w) = Plain w
piece_of (Called n) = name_piece n
piece_of (Mark t) = Sign t
piece_of Gap = Blank

abbrev pub pieces_of : List Bit → List Piece
pieces_of [] = []
pieces_of (b ∷ bs) = piece_of b ∷ pieces_of bs

abbrev pub text_of : List Bit → List ℕ
text_of [] = []
text_of (Of w ∷ bs) = w ++ text_of bs
text_of (Called n ∷ bs) = printed_name n ++ text_of bs
text_of (Mark t ∷ bs) = sign t ∷ text_of bs
text_of (Gap ∷ bs) = 32 ∷ text_of bs

abbrev pub tokens_of : List Bit → List Token
tokens_of [] = []
tokens_of (Of w ∷ bs) = Word w ∷ tokens_of bs
tokens_of (Called n ∷ bs) = name_token n ∷ tokens_of bs
tokens_of (Mark t ∷ bs) = t ∷ tokens_of bs
tokens_of (Gap ∷ bs) = tokens_of bs

abbrev pub is_bit : Bit → Bool
is_bit (Of w) = is_piece (Plain w)
is_bit (Called n) = is_nonempty n && are_bytes n
is_bit (Mark t) = is_sign t
is_bit Gap = true

-- nothing, a sign or a blank comes first
abbrev pub starts_apart : List Bit → Bool
starts_apart [] = true
starts_apart (Of w ∷ bs) = false
starts_apart (Called n ∷ bs) = false
starts_apart (Mark t ∷ bs) = true
starts_apart (Gap ∷ bs) = true

abbrev pub is_apart : Bit → List Bit → Bool
is_apart (Of w) bs = starts_apart bs
is_apart (Called n) bs = starts_apart bs
is_apart (Mark t) bs = true
is_apart Gap bs = true

-- words and names do not touch
abbrev pub are_bits : List Bit → Bool
are_bits [] = true
are_bits (b ∷ bs) = is_bit b && (is_apart b bs && are_bits bs)

-- ---- their spelling

spelled_bits : (bs : List Bit) → spelled (pieces_of bs) ≡ text_of bs
spelled_bits [] = refl
spelled_bits (Of w ∷ bs) = ap (λ (x : List ℕ). w ++ x) (spelled_bits bs)
spelled_bits (Called n ∷ bs) = rw (piece-spelling n) (ap (λ (x : List ℕ). printed_name n ++ x) (spelled_bits bs))
spelled_bits (Mark t ∷ bs) = ap (λ (x : List ℕ). sign t ∷ x) (spelled_bits bs)
spelled_bits (Gap ∷ bs) = ap (λ (x : List ℕ). 32 ∷ x) (spelled_bits bs)

-- a sign is printable, and ends a word or a name
record Ends (b : ℕ) : Type 0 where
  printable : is_printable b ≡ true
  word : is_word b ≡ false
  quote : eqb b 39 ≡ false

sign_ends : (t : Token) → is_sign t ≡ true → Ends (sign t)
unfolding is_word
sign_ends Open h = record { printable = refl; word = refl; quote = refl }
sign_ends Close h = record { printable = refl; word = refl; quote = refl }
sign_ends Comma h = record { printable = refl; word = refl; quote = refl }
sign_ends Equals h = record { printable = refl; word = refl; quote = refl }
sign_ends _ h = absurd cc

printable_one : (b : Bit) (bs : List Bit) → is_bit b ≡ true → list_all is_printable (text_of bs) ≡ true
    → list_all is_printable (text_of (b ∷ bs)) ≡ true
unfolding is_word
printable_one (Of w) bs is all =
    list_all-append is_printable w (text_of bs)
    ∙ and_from (list_all is_printable w) _
    (all_kept is_plain_byte is_printable plain_printable w (and_parts (is_nonempty w) (list_all is_word w) is).1) all
printable_one (Called n) bs is all =
    list_all-append is_printable (printed_name n) (text_of bs)
    ∙ and_from (list_all is_printable (printed_name n)) _
    (printed-printable n (and_parts (is_nonempty n) (are_bytes n) is).1) all
printable_one (Mark t) bs is all = and_from (is_printable (sign t)) _ (sign_ends t is).printable all
printable_one Gap bs is all = all

printable_bits : (bs : List Bit) → are_bits bs ≡ true → list_all is_printable (text_of bs) ≡ true
printable_bits [] h = refl
printable_bits (b ∷ bs) h =
    let k = and_parts (is_bit b) (is_apart b bs && are_bits bs) h in
    printable_one b bs k.0 (printable_bits bs (and_parts (is_apart b bs) (are_bits bs) k.1).1)

-- ---- they are pieces

word_followed : (w xs : List ℕ) (b : ℕ) → Ends b → followed_by (Plain w) (b ∷ xs) ≡ true
word_followed w xs b h = rw (h.word, h.quote) refl

gap_ends : Ends 32
unfolding is_word
gap_ends = record { printable = refl; word = refl; quote = refl }

-- what comes behind a word or a name
next_followed : (p : Piece) (bs : List Bit) → ((xs : List ℕ) (b : ℕ) → Ends b → followed_by p (b ∷ xs) ≡ true)
    → starts_apart bs ≡ true → are_bits bs ≡ true → followed_by p (spelled (pieces_of bs)) ≡ true
next_followed p [] f h all = refl
next_followed p (Of w ∷ bs) f h all = absurd cc
next_followed p (Called n ∷ bs) f h all = absurd cc
next_followed p (Mark t ∷ bs) f h all =
    f (spelled (pieces_of bs)) (sign t) (sign_ends t (and_parts (is_sign t) (are_bits bs) all).0)
next_followed p (Gap ∷ bs) f h all = f (spelled (pieces_of bs)) 32 gap_ends

sign_followed : (t : Token) (xs : List ℕ) → followed_by (Sign t) xs ≡ true
sign_followed t [] = refl
sign_followed t (x ∷ xs) = refl

blank_followed : (xs : List ℕ) → followed_by Blank xs ≡ true
blank_followed [] = refl
blank_followed (x ∷ xs) = refl

one_piece : (b : Bit) (bs : List Bit) → is_bit b ≡ true → is_apart b bs ≡ true → are_bits bs ≡ true
    → are_pieces (pieces_of bs) ≡ true → are_pieces (pieces_of (b ∷ bs)) ≡ true
one_piece (Of w) bs is parted all ps =
    piece_on (Plain w) (pieces_of bs) is (next_followed (Plain w) bs (λ xs b h. word_followed w xs b h) parted all) ps
one_piece (Called n) bs is parted all ps =
    let k = and_parts (is_nonempty n) (are_bytes n) is in
    piece_on (name_piece n) (pieces_of bs) (piece-is n k.0 k.1)
    (next_followed (name_piece n) bs (λ xs b h. name_followed n xs b h.word h.quote) parted all) ps
one_piece (Mark t) bs is parted all ps =
    piece_on (Sign t) (pieces_of bs) is (sign_followed t (spelled (pieces_of bs))) ps
one_piece Gap bs is parted all ps = piece_on Blank (pieces_of bs) refl (blank_followed (spelled (pieces_of bs))) ps

bits_pieces : (bs : List Bit) → are_bits bs ≡ true → are_pieces (pieces_of bs) ≡ true
bits_pieces [] h = refl
bits_pieces (b ∷ bs) h =
    let k = and_parts (is_bit b) (is_apart b bs && are_bits bs) h in
    let j = and_parts (is_apart b bs) (are_bits bs) k.1 in
    one_piece b bs k.0 j.0 j.1 (bits_pieces bs j.1)

-- ---- what they say

abbrev at : List Token → Place
at ts = record { line = 1; tokens = ts; near = false; joined = false; lines = [] }

abbrev own : Bit → List Token
own (Of w) = Word w ∷ []
own (Called n) = name_token n ∷ []
own (Mark t) = t ∷ []
own Gap = []

more_tokens : (ts : List Token) (t : Token) → eqb (length (ts ++ t ∷ [])) 0 ≡ false
more_tokens ts t = ne_eqb _ 0 (λ e. omega (arith, e, length-append ts (t ∷ [])))

own_tokens : (b : Bit) (bs : List Bit) → own b ++ tokens_of bs ≡ tokens_of (b ∷ bs)
own_tokens (Of w) bs = refl
own_tokens (Called n) bs = refl
own_tokens (Mark t) bs = refl
own_tokens Gap bs = refl

one_past : (b : Bit) (ts : List Token) → is_bit b ≡ true → eqb (length ts) 0 ≡ false
    → past (piece_of b) (at ts) ≡ at (ts ++ own b)
one_past (Of w) ts is some = rw some refl
one_past (Called n) ts is some = name_past n (and_parts (is_nonempty n) (are_bytes n) is).1 (at ts) some
one_past (Mark Open) ts is some = refl
one_past (Mark Close) ts is some = refl
one_past (Mark Comma) ts is some = refl
one_past (Mark Equals) ts is some = refl
one_past (Mark _) ts is some = absurd cc
one_past Gap ts is some = rw (append-nil ts) refl

some_still : (b : Bit) (ts : List Token) → eqb (length ts) 0 ≡ false → eqb (length (ts ++ own b)) 0 ≡ false
some_still (Of w) ts some = more_tokens ts (Word w)
some_still (Called n) ts some = more_tokens ts (name_token n)
some_still (Mark t) ts some = more_tokens ts t
some_still Gap ts some = rw (append-nil ts) some

bits_past : (bs : List Bit) (ts : List Token) → are_bits bs ≡ true → eqb (length ts) 0 ≡ false
    → past_all (pieces_of bs) (at ts) ≡ at (ts ++ tokens_of bs)
bits_past [] ts h some = ap at (sym (append-nil ts))
bits_past (b ∷ bs) ts h some =
    let k = and_parts (is_bit b) (is_apart b bs && are_bits bs) h in
    let j = and_parts (is_apart b bs) (are_bits bs) k.1 in
    ap (past_all (pieces_of bs)) (one_past b ts k.0 some)
    ∙ bits_past bs (ts ++ own b) j.1 (some_still b ts some)
    ∙ ap at (append_assoc ts (own b) (tokens_of bs) ∙ ap (λ (x : List Token). ts ++ x) (own_tokens b bs))

abbrev pub line_of_bits : List ℕ → List Bit → TokenLine
line_of_bits word bs = record { at = 1; tokens = Word word ∷ tokens_of bs; joined = false }

-- A word, a blank and bits are one line of their tokens.
pub bits_line : (word : List ℕ) (bs : List Bit) → is_piece (Plain word) ≡ true → are_bits bs ≡ true
    → SpellsLines (word ++ 32 ∷ text_of bs) (line_of_bits word bs ∷ [])
bits_line word bs is h =
    let all : List Bit = Of word ∷ Gap ∷ bs in
    let are : are_bits all ≡ true = and_from (is_piece (Plain word)) _ is h in
    let printable = printable_bits all are in
    record {
      allowed = printable-allowed (text_of all) 1 printable;
      pieces = pieces_of all;
      spells = printable-no_cr (text_of all) printable ∙ sym (spelled_bits all);
      are = bits_pieces all are;
      says = sym (ap (λ (p : Place). (next_line p).lines) (bits_past bs (Word word ∷ []) h refl) ∙ ended);
    }
  where
    some : eqb (length (Word word ∷ tokens_of bs)) 0 ≡ false
    some = ne_eqb _ 0 (λ e. omega (arith, e))

    ended : (next_line (at (Word word ∷ tokens_of bs))).lines ≡ line_of_bits word bs ∷ []
    ended = rw some refl

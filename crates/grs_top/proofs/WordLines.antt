-- A text of lines of words is read as these lines, each of its words.
use Rattle.std.proofs.Common.{◌≡◌, ℕ, ◌+◌, Bool, true, false, eqb, List, [], ◌∷◌, ◌++◌, length, map, Option, None, refl}
use Rattle.std.proofs.Common.{sym, ap, ◌∙◌, arith, append_assoc, append-nil, length-append}
use Rattle.std.specs.Prelude.{◌&&◌, ◌||◌, not, filter}
use Rattle.std.specs.List.{list_all, flat_map}
use Rattle.std.proofs.lemmas.Bool.{and_from, and_parts, or_parts, ne_eqb}
use Rattle.std.proofs.lemmas.List.Folds.{list_all-append}
use Rattle.grs_base.specs.Printed.{is_plain_byte, is_printable}
use Rattle.deck_scan.specs.declared.token.Token.{Token}
use Rattle.deck_scan.specs.declared.token.Token.TheVariants.{Word}
use Rattle.deck_scan.specs.declared.token.TokenLine.{TokenLine}
use Rattle.deck_scan.specs.Bytes.{is_word, is_allowed, bad_line}
use Rattle.deck_scan.specs.Pieces.{Piece, Plain, Blank, LineEnd, spelled, is_nonempty, is_piece, followed_by}
use Rattle.deck_scan.specs.Pieces.{are_pieces}
use Rattle.deck_scan.specs.Pieces.{Place, next_line, past_all, lines_with, without_cr, SpellsLines}
use Rattle.deck_scan.proofs.Names.{plain_printable, all_kept}
use Rattle.deck_scan.proofs.Print.{piece_on}
use Rattle.deck_scan.proofs.Said.{test_not}
use Rattle.grs_display.specs.Lines.{spaced, line}

-- a word and those behind it
abbrev pub Words : Type 0
Words = List ℕ × List (List ℕ)

abbrev pub is_line_word : List ℕ → Bool
is_line_word w = is_piece (Plain w)

abbrev pub are_words : Words → Bool
are_words x = is_line_word x.0 && list_all is_line_word x.1

abbrev pub text_of : List Words → List ℕ
text_of xs = flat_map (λ x. line (x.0 ∷ x.1)) xs

-- the lines, of which the first has this number
abbrev pub numbered : ℕ → List Words → List TokenLine
numbered n [] = []
numbered n (x ∷ xs) =
    record { at = n; tokens = Word x.0 ∷ map (λ w. Word w) x.1; joined = false } ∷ numbered (n + 1) xs

-- ---- bytes

is_kept : ℕ → Bool
is_kept b = is_printable b || eqb b 10

kept_allowed : (b : ℕ) (rest : List ℕ) → is_kept b ≡ true → is_allowed b rest ≡ true
unfolding is_kept is_allowed
kept_allowed b rest h = go (is_printable b) refl (eqb b 10) refl h
  where
    go : (p : Bool) → is_printable b ≡ p → (q : Bool) → eqb b 10 ≡ q → (p || q) ≡ true
        → is_allowed b rest ≡ true
    go true e q f k = rw e refl
    go false e true f k = rw (e, f) refl
    go false e false f k = absurd cc

all_allowed : (t : List ℕ) (n : ℕ) → list_all is_kept t ≡ true → bad_line n t ≡ None
unfolding bad_line
all_allowed [] n h = refl
all_allowed (b ∷ bs) n h =
    let k = and_parts (is_kept b) (list_all is_kept bs) h in
    rw (kept_allowed b bs k.0) (all_allowed bs _ k.1)

all_no_cr : (t : List ℕ) → list_all is_kept t ≡ true → without_cr t ≡ t
unfolding is_kept
all_no_cr [] h = refl
all_no_cr (b ∷ bs) h =
    let k = and_parts (is_kept b) (list_all is_kept bs) h in
    rw (test_not is_kept b 13 k.0 refl) (ap (λ (t : List ℕ). b ∷ t) (all_no_cr bs k.1))

word_kept : (b : ℕ) → is_word b ≡ true → is_kept b ≡ true
unfolding is_word is_kept
word_kept b h = rw (plain_printable b h) refl

words_kept : (w : List ℕ) → is_line_word w ≡ true → list_all is_kept w ≡ true
words_kept w h = all_kept is_word is_kept word_kept w (and_parts (is_nonempty w) (list_all is_word w) h).1

marks_kept : (is_kept 32 ≡ true) × (is_kept 10 ≡ true)
unfolding is_kept
marks_kept = (refl, refl)

spaced_kept : (ws : List (List ℕ)) → list_all is_line_word ws ≡ true → list_all is_kept (spaced ws) ≡ true
spaced_kept [] h = refl
spaced_kept (w ∷ ws) h =
    let k = and_parts (is_line_word w) (list_all is_line_word ws) h in
    rw (list_all-append is_kept w (spaced ws), marks_kept.0, words_kept w k.0) (spaced_kept ws k.1)

line_kept : (x : Words) → are_words x ≡ true → list_all is_kept (line (x.0 ∷ x.1)) ≡ true
unfolding line
line_kept x h =
    let k = and_parts (is_line_word x.0) (list_all is_line_word x.1) h in
    rw (
      list_all-append is_kept (x.0 ++ spaced x.1) (10 ∷ []),
      list_all-append is_kept x.0 (spaced x.1),
      words_kept x.0
          k.0,
      spaced_kept x.1 k.1,
      marks_kept.1,
    ) refl

text_kept : (xs : List Words) → list_all are_words xs ≡ true → list_all is_kept (text_of xs) ≡ true
text_kept [] h = refl
text_kept (x ∷ xs) h =
    let k = and_parts (are_words x) (list_all are_words xs) h in
    rw (list_all-append is_kept (line (x.0 ∷ x.1)) (text_of xs), line_kept x k.0) (text_kept xs k.1)

-- ---- pieces

abbrev behind : List (List ℕ) → List Piece → List Piece
behind [] rest = LineEnd ∷ rest
behind (w ∷ ws) rest = Blank ∷ Plain w ∷ behind ws rest

abbrev pieces : List Words → List Piece
pieces [] = []
pieces (x ∷ xs) = Plain x.0 ∷ behind x.1 (pieces xs)

spelled_behind : (ws : List (List ℕ)) (rest : List Piece)
    → spelled (behind ws rest) ≡ spaced ws ++ 10 ∷ spelled rest
spelled_behind [] rest = refl
spelled_behind (w ∷ ws) rest =
    ap (λ (t : List ℕ). 32 ∷ t)
    (ap (λ (t : List ℕ). w ++ t) (spelled_behind ws rest) ∙ sym (append_assoc w (spaced ws) (10 ∷ spelled rest)))

spelled_text : (xs : List Words) → spelled (pieces xs) ≡ text_of xs
unfolding line
spelled_text [] = refl
spelled_text (x ∷ xs) =
    ap (λ (t : List ℕ). x.0 ++ t) (spelled_behind x.1 (pieces xs))
    ∙ sym (append_assoc x.0 (spaced x.1) (10 ∷ spelled (pieces xs)))
    ∙ ap (λ (t : List ℕ). (x.0 ++ spaced x.1) ++ 10 ∷ t) (spelled_text xs)
    ∙ sym (append_assoc (x.0 ++ spaced x.1) (10 ∷ []) (text_of xs))

blank_followed : (xs : List ℕ) → followed_by Blank xs ≡ true
blank_followed [] = refl
blank_followed (x ∷ xs) = refl

end_followed : (xs : List ℕ) → followed_by LineEnd xs ≡ true
end_followed [] = refl
end_followed (x ∷ xs) = refl

word_followed : (w : List ℕ) (ws : List (List ℕ)) (rest : List Piece)
    → followed_by (Plain w) (spelled (behind ws rest)) ≡ true
unfolding is_word
word_followed w [] rest = refl
word_followed w (v ∷ vs) rest = refl

are_behind : (ws : List (List ℕ)) (rest : List Piece) → list_all is_line_word ws ≡ true → are_pieces rest ≡ true
    → are_pieces (behind ws rest) ≡ true
are_behind [] rest h all = piece_on LineEnd rest refl (end_followed (spelled rest)) all
are_behind (w ∷ ws) rest h all =
    let k = and_parts (is_line_word w) (list_all is_line_word ws) h in
    piece_on Blank (Plain w ∷ behind ws rest) refl (blank_followed (spelled (Plain w ∷ behind ws rest)))
    (piece_on (Plain w) (behind ws rest) k.0 (word_followed w ws rest) (are_behind ws rest k.1 all))

are_all : (xs : List Words) → list_all are_words xs ≡ true → are_pieces (pieces xs) ≡ true
are_all [] h = refl
are_all (x ∷ xs) h =
    let k = and_parts (are_words x) (list_all are_words xs) h in
    let j = and_parts (is_line_word x.0) (list_all is_line_word x.1) k.0 in
    piece_on (Plain x.0) (behind x.1 (pieces xs)) j.0 (word_followed x.0 x.1 (pieces xs))
    (are_behind x.1 (pieces xs) j.1 (are_all xs k.1))

-- ---- what they say

abbrev at : ℕ → List Token → Bool → List TokenLine → Place
at n ts near lines = record { line = n; tokens = ts; near = near; joined = false; lines = lines }

more_tokens : (ts : List Token) (t : Token) → eqb (length (ts ++ t ∷ [])) 0 ≡ false
more_tokens ts t = ne_eqb _ 0 (λ e. omega (arith, e, length-append ts (t ∷ [])))

abbrev said : ℕ → List Token → List TokenLine
said n ts = record { at = n; tokens = ts; joined = false } ∷ []

kept_line : (n : ℕ) (ts : List Token) (lines : List TokenLine) → eqb (length ts) 0 ≡ false
    → lines_with n ts false lines ≡ lines ++ said n ts
kept_line n ts lines some = rw some refl

ended : (n : ℕ) (ts : List Token) (near : Bool) (lines : List TokenLine) → eqb (length ts) 0 ≡ false
    → next_line (at n ts near lines) ≡ at (n + 1) [] false (lines ++ said n ts)
ended n ts near lines some = ap (λ (ls : List TokenLine). at (n + 1) [] false ls) (kept_line n ts lines some)

past_behind : (ws : List (List ℕ)) (rest : List Piece) (n : ℕ) (ts : List Token) (near : Bool) (lines : List TokenLine)
    → eqb (length ts) 0 ≡ false
    → past_all (behind ws rest) (at n ts near lines)
    ≡ past_all rest (at (n + 1) [] false (lines ++ said n (ts ++ map (λ w. Word w) ws)))
past_behind [] rest n ts near lines some =
    ap (past_all rest) (ended n ts near lines some)
    ∙ ap (λ (us : List Token). past_all rest (at (n + 1) [] false (lines ++ said n us))) (sym (append-nil ts))
past_behind (w ∷ ws) rest n ts near lines some =
    past_behind ws rest n (ts ++ Word w ∷ []) _ lines (more_tokens ts (Word w))
    ∙ ap (λ (us : List Token). past_all rest (at (n + 1) [] false (lines ++ said n us)))
    (append_assoc ts (Word w ∷ []) (map (λ v. Word v) ws))

one_token : (t : Token) → eqb (length (t ∷ [])) 0 ≡ false
one_token t = ne_eqb (length (t ∷ [])) 0 (λ e. omega (arith, e))

all_said : (xs : List Words) (n : ℕ) (lines : List TokenLine)
    → (next_line (past_all (pieces xs) (at n [] false lines))).lines ≡ lines ++ numbered n xs
all_said [] n lines = sym (append-nil lines)
all_said (x ∷ xs) n lines =
    ap (λ (p : Place). (next_line p).lines)
    (past_behind x.1 (pieces xs) n (Word x.0 ∷ []) _ lines (one_token (Word x.0)))
    ∙ all_said xs (n + 1) (lines ++ said n (Word x.0 ∷ map (λ w. Word w) x.1))
    ∙ append_assoc lines (said n (Word x.0 ∷ map (λ w. Word w) x.1)) (numbered (n + 1) xs)

pub words_spell : (xs : List Words) → list_all are_words xs ≡ true → SpellsLines (text_of xs) (numbered 1 xs)
words_spell xs h = record {
  allowed = all_allowed (text_of xs) 1 (text_kept xs h);
  pieces = pieces xs;
  spells = all_no_cr (text_of xs) (text_kept xs h) ∙ sym (spelled_text xs);
  are = are_all xs h;
  says = sym (all_said xs 1 []);
}

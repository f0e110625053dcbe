-- A line of two or three words with a blank between them is read as any other line is.
use Rattle.std.proofs.Common.{◌≡◌, ℕ, ◌+◌, Bool, true, false, ◌&&◌, ◌==◌, List, [], ◌∷◌, ◌++◌, length, Option, Some}
use Rattle.std.proofs.Common.{None, is_some, Bor, refl, sym, ap, ◌∙◌, append_assoc, append-nil}
use Rattle.std.specs.List.{list_all}
use Rattle.std.specs.Str.{bytes_eq}
use Rattle.std.proofs.lemmas.Bool.{and_from}
use Rattle.std.proofs.lemmas.List.Folds.{list_all-append}
use Rattle.grs_base.specs.Printed.{is_printable}
use Rattle.deck_scan.specs.declared.token.Token.{Token}
use Rattle.deck_scan.specs.declared.token.Token.TheVariants.{Word}
use Rattle.deck_scan.specs.declared.row.ScannedLine.{ScannedLine}
use Rattle.deck_scan.specs.declared.cursor.Cursor.{Cursor}
use Rattle.deck_scan.specs.Bytes.{is_word, begins}
use Rattle.deck_scan.specs.Pieces.{is_nonempty, lines_with}
use Rattle.deck_scan.specs.Rows.{to_come, coming, row_with, after_mark, no_row, Takes, IsRow, EndsLine, starts}
use Rattle.deck_scan.specs.Plain.{plain_line, IsFront, IsThird}
use Rattle.deck_scan.proofs.Names.{all_kept, plain_printable}
use Rattle.deck_scan.proofs.Pieces.{takes_word, takes_mark}
use Rattle.deck_scan.proofs.Rows.{Along, along_none, along_piece, row_done, row_ended}

pub nonempty : (w : List ℕ) → (length w ≡ 0 → ⊥) → is_nonempty w ≡ true
nonempty [] h = absurd (h refl)
nonempty (b ∷ bs) h = refl

-- a word at the front
word_taken : (text word behind : List ℕ) (old : ScannedLine) → IsFront text word behind → starts is_word behind ≡ false
    → begins 39 behind ≡ false
    → Takes text old behind (record (row_with (Word word) old) { near = length old.tokens == 0 })
word_taken text word behind old f ends quote =
    takes_word text old word behind _ (record { parts = f.parts; every = f.every; ends = ends }) (some word f.some)
    (neither (bytes_eq word (88 ∷ [])) (begins 39 behind) quote) refl
  where
    some : (w : List ℕ) → is_nonempty w ≡ true → length w ≡ 0 → ⊥
    some [] h none = absurd cc
    some (b ∷ bs) h none = absurd cc

    neither : (x y : Bool) → y ≡ false → (x && y) ≡ false
    neither true y h = h
    neither false y h = refl

blank_is_no_word : is_word 32 ≡ false
unfolding is_word
blank_is_no_word = refl

blank_taken : (tail : List ℕ) (old : ScannedLine) → Takes (32 ∷ tail) old tail (record old { near = false })
unfolding after_mark
blank_taken tail old = takes_mark (32 ∷ tail) old 32 tail _ refl refl refl refl

words_printable : (w : List ℕ) → list_all is_word w ≡ true → list_all is_printable w ≡ true
unfolding is_word
words_printable w h = all_kept is_word is_printable plain_printable w h

-- what is read of a line that begins with these words
abbrev two_words : List ℕ → List ℕ → List Token → ScannedLine
two_words first second more =
    record { tokens = Word first ∷ Word second ∷ more; near = false; joined = false; begun = None }

along_two : (at : ℕ) (text first front second behind more : List ℕ) → IsFront text first (32 ∷ front)
    → IsFront front second behind → starts is_word behind ≡ false → begins 39 behind ≡ false
    → Along at text (two_words first second []) behind more
along_two at text first front second behind more f s ends quote =
    let none = along_none at text (no_row None) more refl in
    let one =
    along_piece at text (no_row None) text (32 ∷ front) _ more
    (word_taken text first (32 ∷ front) (no_row None) f blank_is_no_word refl) none in
    let apart = along_piece at text _ (32 ∷ front) front _ more (blank_taken front _) one in
    along_piece at text _ front behind _ more (word_taken front second behind _ s ends quote) apart

along_three : (at : ℕ) (text first front second rest third behind more : List ℕ) → IsFront text first (32 ∷ front)
    → IsFront front second (32 ∷ rest) → IsFront rest third behind → starts is_word behind ≡ false
    → begins 39 behind ≡ false → Along at text (two_words first second (Word third ∷ [])) behind more
along_three at text first front second rest third behind more f s t ends quote =
    let two = along_two at text first front second (32 ∷ rest) more f s blank_is_no_word refl in
    let apart = along_piece at text _ (32 ∷ rest) rest _ more (blank_taken rest _) two in
    along_piece at text _ rest behind _ more (word_taken rest third behind _ t ends quote) apart

-- a word alone, with nothing behind it
alone : (text word behind : List ℕ) → IsFront text word behind → IsFront word word []
alone text word behind f = record { parts = sym (append-nil word); some = f.some; every = f.every }

-- a word in front of less
before : (text word behind less : List ℕ) → IsFront text word behind → IsFront (word ++ less) word less
before text word behind less f = record { parts = refl; some = f.some; every = f.every }

both_printable : (w rest : List ℕ) → list_all is_word w ≡ true → list_all is_printable rest ≡ true
    → list_all is_printable (w ++ rest) ≡ true
both_printable w rest h k =
    list_all-append is_printable w rest
    ∙ and_from (list_all is_printable w) (list_all is_printable rest) (words_printable w h) k

-- A line of two words, and one of three.
row_of_two : (at : ℕ) (text first b front second behind : List ℕ) → IsFront text first b → IsFront front second behind
    → IsRow at None (first ++ 32 ∷ second) (two_words first second [])
row_of_two at text first b front second behind f s =
    row_done at (first ++ 32 ∷ second) (two_words first second []) [] refl
    (both_printable first (32 ∷ second) f.every (words_printable second s.every)) refl
    (λ more.
    along_two at (first ++ 32 ∷ second) first second second [] more (before text first b (32 ∷ second) f)
    (alone front second behind s) refl refl)

row_of_three : (at : ℕ) (text first b front second c rest third behind : List ℕ) → IsFront text first b
    → IsFront front second c → IsFront rest third behind
    → IsRow at None (first ++ 32 ∷ (second ++ 32 ∷ third)) (two_words first second (Word third ∷ []))
row_of_three at text first b front second c rest third behind f s t =
    let tail = second ++ 32 ∷ third in
    row_done at (first ++ 32 ∷ tail) (two_words first second (Word third ∷ [])) [] refl
    (both_printable first (32 ∷ tail) f.every
    (both_printable second (32 ∷ third) s.every (words_printable third t.every))) refl
    (λ more.
    along_three at (first ++ 32 ∷ tail) first tail second third third [] more (before text first b (32 ∷ tail) f)
    (before front second c (32 ∷ third) s) (alone rest third behind t) refl refl)

apart : (begun : Option ℕ) → is_some begun ≡ false → begun ≡ None
apart None h = refl
apart (Some line) h = absurd cc

ended : (from : Cursor) (text behind : List ℕ) (rest : Bor (List ℕ)) (row : ScannedLine) → is_some from.begun ≡ false
    → from.rest.now ≡ text ++ behind → list_all is_printable text ≡ true → EndsLine behind rest.now
    → IsRow from.line None text row
    → coming from ≡ lines_with from.line row.tokens row.joined [] ++ to_come (from.line + 1) row.begun rest.now
ended from text behind rest row none parts ok ends h =
    ap (λ (begun : Option ℕ). to_come from.line begun from.rest.now) (apart from.begun none)
    ∙ ap (to_come from.line None) parts
    ∙ row_ended from.line None text behind rest.now row ok ends h

-- The next line is the plain one, and then comes what stands behind it.
pub plain_next : (from : Cursor) (first b front second c : List ℕ) (third : Option (Bor (List ℕ))) (behind : List ℕ)
    (rest : Bor (List ℕ)) → is_some from.begun ≡ false → IsFront from.rest.now first b → b ≡ 32 ∷ front
    → IsFront front second c → IsThird c third behind → EndsLine behind rest.now
    → coming from
    ≡ plain_line from.line first second third ∷ coming (record { rest = rest; line = from.line + 1; begun = None })
plain_next from first b front second c None behind rest none f blank s is ends =
    ended from (first ++ 32 ∷ second) behind rest (two_words first second []) none
    (f.parts
    ∙ ap (λ (t : List ℕ). first ++ t) (blank
    ∙ ap (λ (t : List ℕ). 32 ∷ t) (s.parts ∙ ap (λ (t : List ℕ). second ++ t) is))
    ∙ sym (append_assoc first (32 ∷ second) behind))
    (both_printable first (32 ∷ second) f.every (words_printable second s.every)) ends
    (row_of_two from.line from.rest.now first b front second c f s)
plain_next from first b front second c (Some w) behind rest none f blank s k ends =
    let third = w.now in
    let tail = second ++ 32 ∷ third in
    let t = k.2 in
    ended from (first ++ 32 ∷ tail) behind rest (two_words first second (Word third ∷ [])) none
    (f.parts
    ∙ ap (λ (x : List ℕ). first ++ x) (blank
    ∙ ap (λ (x : List ℕ). 32 ∷ x) (s.parts
    ∙ ap (λ (x : List ℕ). second ++ x) (k.1 ∙ ap (λ (x : List ℕ). 32 ∷ x) t.parts)
    ∙ sym (append_assoc second (32 ∷ third) behind)))
    ∙ sym (append_assoc first (32 ∷ tail) behind))
    (both_printable first (32 ∷ tail) f.every
    (both_printable second (32 ∷ third) s.every (words_printable third t.every))) ends
    (row_of_three from.line from.rest.now first b front second c k.0 third behind f s t)

-- What is printed, as pieces one behind the other: words, signs, blanks and names.
use Rattle.std.proofs.Common.{◌≡◌, ℕ, Bool, true, false, cond, not, eqb, List, [], ◌∷◌, ◌++◌, length, refl, ap, ◌∙◌}
use Rattle.std.specs.List.{list_all}
use Rattle.std.proofs.lemmas.Bool.{and_from, and_parts}
use Rattle.std.proofs.lemmas.List.Elements.{filter-append}
use Rattle.grs_base.specs.Printed.{is_plain_byte, is_printable, hex_digits}
use Rattle.grs_base.specs.Names.{are_bytes}
use Rattle.deck_scan.specs.declared.token.Token.TheVariants.{Word, Name}
use Rattle.deck_scan.specs.Next.{Names}
use Rattle.deck_scan.specs.Bytes.{is_allowed, bad_line, is_word}
use Rattle.deck_scan.specs.Pieces.{Piece, Plain, Quoted, Hexed, spelled, is_piece, followed_by, may_follow, are_pieces}
use Rattle.deck_scan.specs.Pieces.{Place, past, with_token, with_word, without_cr}
use Rattle.deck_scan.specs.Named.{name_piece, name_token}
use Rattle.deck_scan.proofs.Said.{test_not}
use Rattle.deck_scan.proofs.Names.{printable-no_cr, piece-past}

-- ---- printable bytes before a rest

pub printable-before : (xs ys : List ℕ) (n : ℕ) → list_all is_printable xs ≡ true
    → bad_line n (xs ++ ys) ≡ bad_line n ys
unfolding bad_line is_allowed
printable-before [] ys n h = refl
printable-before (x ∷ xs) ys n h =
    let k = and_parts (is_printable x) (list_all is_printable xs) h in
    rw (k.0, test_not is_printable x 10 k.0 refl) (printable-before xs ys n k.1)

pub printable-kept : (xs ys : List ℕ) → list_all is_printable xs ≡ true → without_cr (xs ++ ys) ≡ xs ++ without_cr ys
printable-kept xs ys h =
    filter-append (λ (b : ℕ). not (eqb b 13)) xs ys ∙ ap (λ (zs : List ℕ). zs ++ without_cr ys) (printable-no_cr xs h)

-- ---- pieces

pub piece_on : (p : Piece) (ps : List Piece) → is_piece p ≡ true → followed_by p (spelled ps) ≡ true
    → are_pieces ps ≡ true → are_pieces (p ∷ ps) ≡ true
piece_on p ps is next all = and_from (is_piece p) _ is (and_from (followed_by p (spelled ps)) (are_pieces ps) next all)

-- ---- names

-- what is no plain byte and no quote may stand behind a name
pub name_followed : (bs rest : List ℕ) (b : ℕ) → is_word b ≡ false → eqb b 39 ≡ false
    → followed_by (name_piece bs) (b ∷ rest) ≡ true
name_followed bs rest b word quote = go (list_all is_plain_byte bs) (list_all is_printable bs)
  where
    go : (x y : Bool) → may_follow (cond x (Plain bs) (cond y (Quoted bs) (Hexed (hex_digits bs)))) b ≡ true
    go true y = rw (word, quote) refl
    go false true = rw quote refl
    go false false = refl

-- behind other tokens a name is one more
pub name_past : (bs : List ℕ) → are_bytes bs ≡ true → (p : Place) → eqb (length p.tokens) 0 ≡ false
    → past (name_piece bs) p ≡ with_token (name_token bs) p
name_past bs h p some = piece-past bs h p ∙ go (list_all is_plain_byte bs)
  where
    go : (x : Bool) → cond x (with_word bs p) (with_token (Name bs) p) ≡ with_token (cond x (Word bs) (Name bs)) p
    go true = rw some refl
    go false = refl

pub name_names : (bs : List ℕ) → Names (name_token bs) bs
name_names bs = go (list_all is_plain_byte bs)
  where
    go : (x : Bool) → Names (cond x (Word bs) (Name bs)) bs
    go true = refl
    go false = refl

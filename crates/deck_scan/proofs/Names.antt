-- A printed name is read as its bytes.
use Rattle.std.proofs.Common.{◌≡◌, ℕ, ◌+◌, ◌*◌, ◌/◌, ◌%◌, ◌<◌, Bool, true, false, cond, not, eqb, ltb, List, [], ◌∷◌}
use Rattle.std.proofs.Common.{◌++◌, None, refl, sym, ap, ◌∙◌, arith}
use Rattle.std.specs.List.{list_all}
use Rattle.std.proofs.lemmas.Bool.{and_from, and_parts, ltb-true}
use Rattle.std.proofs.lemmas.Bool.Decides.{nat_tests}
use Rattle.std.proofs.lemmas.List.{append-nil}
use Rattle.std.proofs.lemmas.List.Folds.{list_all-append}
use Rattle.grs_base.specs.Names.{is_qname, is_rname, are_bytes}
use Rattle.grs_base.specs.Printed.{is_plain_byte, is_printable, quotes_doubled, hex_digit, hex_digits, printed_name}
use Rattle.deck_scan.specs.declared.token.Token.TheVariants.{Word, Name}
use Rattle.deck_scan.specs.Bytes.{is_allowed, bad_line, is_word, is_hex, digit}
use Rattle.deck_scan.specs.Pieces.{Plain, Quoted, Hexed, spelling, is_nonempty, is_between_quotes, is_piece, is_hexed}
use Rattle.deck_scan.specs.Pieces.{unhex, hex_token, Place, past, first_place, next_line, with_token, with_word}
use Rattle.deck_scan.specs.Pieces.{without_cr, SpellsLines}
use Rattle.deck_scan.specs.Named.{name_piece, name_line, past_name}
use Rattle.deck_scan.proofs.Said.{test_not}

-- ---- digits

pub digit-hex : (n : ℕ) → n < 16 → is_hex (hex_digit n) ≡ true
unfolding is_hex
digit-hex n h = grind (arith, nat_tests)

pub digit-hex_digit : (n : ℕ) → n < 16 → digit (hex_digit n) ≡ n
unfolding digit
digit-hex_digit n h = grind (arith, nat_tests)

pub digit-small : (b : ℕ) → digit b < 16
unfolding digit
digit-small b = grind (arith, nat_tests)

digit-between : (n : ℕ) → n < 16 → is_between_quotes (hex_digit n) ≡ true
digit-between n h = grind (arith, nat_tests)

two_digits : (b : ℕ) → b < 256 → 16 * digit (hex_digit (b / 16)) + digit (hex_digit (b % 16)) ≡ b
two_digits b h = rw (digit-hex_digit (b / 16) (omega arith), digit-hex_digit (b % 16) (omega arith)) (omega arith)

is_hexed-digits : (bs : List ℕ) → are_bytes bs ≡ true → is_hexed (hex_digits bs) ≡ true
is_hexed-digits [] h = refl
is_hexed-digits (b ∷ bs) h =
    let k = and_parts (ltb b 256) (are_bytes bs) h in
    let small : b < 256 = ltb-true b 256 k.0 in
    rw (digit-hex (b / 16) (omega arith), digit-hex (b % 16) (omega arith)) (is_hexed-digits bs k.1)

unhex-digits : (bs : List ℕ) → are_bytes bs ≡ true → unhex (hex_digits bs) ≡ bs
unhex-digits [] h = refl
unhex-digits (b ∷ bs) h =
    let k = and_parts (ltb b 256) (are_bytes bs) h in
    rw (two_digits b (ltb-true b 256 k.0), unhex-digits bs k.1) refl

digits-between : (bs : List ℕ) → are_bytes bs ≡ true → list_all is_between_quotes (hex_digits bs) ≡ true
digits-between [] h = refl
digits-between (b ∷ bs) h =
    let k = and_parts (ltb b 256) (are_bytes bs) h in
    let small : b < 256 = ltb-true b 256 k.0 in
    rw (digit-between (b / 16) (omega arith), digit-between (b % 16) (omega arith)) (digits-between bs k.1)

words : (bs : List ℕ) → list_all is_plain_byte bs ≡ list_all is_word bs
unfolding is_word
words bs = refl

-- ---- the piece

pub piece-spelling : (bs : List ℕ) → spelling (name_piece bs) ≡ printed_name bs
piece-spelling bs = go (list_all is_plain_byte bs) (list_all is_printable bs)
  where
    go : (x y : Bool)
        → spelling (cond x (Plain bs) (cond y (Quoted bs) (Hexed (hex_digits bs))))
        ≡ cond x bs (cond y (39 ∷ (quotes_doubled bs ++ 39 ∷ [])) (88 ∷ 39 ∷ (hex_digits bs ++ 39 ∷ [])))
    go true y = refl
    go false true = refl
    go false false = refl

pub piece-is : (bs : List ℕ) → is_nonempty bs ≡ true → are_bytes bs ≡ true → is_piece (name_piece bs) ≡ true
piece-is bs h bytes = go (list_all is_plain_byte bs) (list_all is_printable bs) refl refl
  where
    go : (x y : Bool) → list_all is_plain_byte bs ≡ x → list_all is_printable bs ≡ y
        → is_piece (cond x (Plain bs) (cond y (Quoted bs) (Hexed (hex_digits bs)))) ≡ true
    go true y e f = and_from (is_nonempty bs) (list_all is_word bs) h (sym (words bs) ∙ e)
    go false true e f = f
    go false false e f = digits-between bs bytes

pub piece-past : (bs : List ℕ) → are_bytes bs ≡ true → (p : Place) → past (name_piece bs) p ≡ past_name bs p
piece-past bs bytes p = go (list_all is_plain_byte bs) (list_all is_printable bs)
  where
    hexed : hex_token (hex_digits bs) ≡ Name bs
    hexed = rw (is_hexed-digits bs bytes, unhex-digits bs bytes) refl

    go : (x y : Bool)
        → past (cond x (Plain bs) (cond y (Quoted bs) (Hexed (hex_digits bs)))) p
        ≡ cond x (with_word bs p) (with_token (Name bs) p)
    go true y = refl
    go false true = refl
    go false false = ap (λ t. with_token t p) hexed

-- ---- a printed name alone

-- a text of printable bytes has no CR and no byte that isn't allowed
pub printable-no_cr : (t : List ℕ) → list_all is_printable t ≡ true → without_cr t ≡ t
printable-no_cr [] h = refl
printable-no_cr (b ∷ bs) h =
    let k = and_parts (is_printable b) (list_all is_printable bs) h in
    rw (test_not is_printable b 13 k.0 refl) (ap (λ (t : List ℕ). b ∷ t) (printable-no_cr bs k.1))

pub printable-allowed : (t : List ℕ) (n : ℕ) → list_all is_printable t ≡ true → bad_line n t ≡ None
unfolding bad_line is_allowed
printable-allowed [] n h = refl
printable-allowed (b ∷ bs) n h =
    let k = and_parts (is_printable b) (list_all is_printable bs) h in
    rw (k.0, test_not is_printable b 10 k.0 refl) (printable-allowed bs n k.1)

pub plain_printable : (b : ℕ) → is_plain_byte b ≡ true → is_printable b ≡ true
plain_printable b h = grind (arith, nat_tests, h)

pub all_kept : (p q : ℕ → Bool) → ((b : ℕ) → p b ≡ true → q b ≡ true) → (bs : List ℕ) → list_all p bs ≡ true
    → list_all q bs ≡ true
all_kept p q f [] h = refl
all_kept p q f (b ∷ bs) h =
    let k = and_parts (p b) (list_all p bs) h in and_from (q b) (list_all q bs) (f b k.0) (all_kept p q f bs k.1)

doubled_printable : (bs : List ℕ) → list_all is_printable bs ≡ true → list_all is_printable (quotes_doubled bs) ≡ true
doubled_printable [] h = refl
doubled_printable (b ∷ bs) h =
    let k = and_parts (is_printable b) (list_all is_printable bs) h in go (eqb b 39) k.0 (doubled_printable bs k.1)
  where
    go : (x : Bool) → is_printable b ≡ true → list_all is_printable (quotes_doubled bs) ≡ true
        → list_all is_printable (cond x (39 ∷ 39 ∷ quotes_doubled bs) (b ∷ quotes_doubled bs)) ≡ true
    go true e f = f
    go false e f = and_from (is_printable b) (list_all is_printable (quotes_doubled bs)) e f

closed_printable : (bs : List ℕ) → list_all is_printable bs ≡ true → list_all is_printable (bs ++ 39 ∷ []) ≡ true
closed_printable bs h = list_all-append is_printable bs (39 ∷ []) ∙ rw h refl

pub printed-printable : (bs : List ℕ) → are_bytes bs ≡ true → list_all is_printable (printed_name bs) ≡ true
printed-printable bs bytes = go (list_all is_plain_byte bs) (list_all is_printable bs) refl refl
  where
    go : (x y : Bool) → list_all is_plain_byte bs ≡ x → list_all is_printable bs ≡ y
        → list_all is_printable
        (cond x bs (cond y (39 ∷ (quotes_doubled bs ++ 39 ∷ [])) (88 ∷ 39 ∷ (hex_digits bs ++ 39 ∷ []))))
        ≡ true
    go true y e f = all_kept is_plain_byte is_printable plain_printable bs e
    go false true e f = closed_printable (quotes_doubled bs) (doubled_printable bs f)
    go false false e f =
        closed_printable (hex_digits bs) (all_kept is_between_quotes is_printable
        (λ b h. (and_parts (is_printable b) (not (eqb b 39)) h).0) (hex_digits bs) (digits-between bs bytes))

-- A name has a byte.
pub qname_nonempty : (q : List ℕ) → is_qname q ≡ true → is_nonempty q ≡ true
qname_nonempty [] h = absurd cc
qname_nonempty (b ∷ bs) h = refl

pub rname_nonempty : (r : List ℕ) → is_rname r ≡ true → is_nonempty r ≡ true
rname_nonempty [] h = absurd cc
rname_nonempty (b ∷ bs) h = refl

-- A text that is one printed name spells one line of that name.
pub printed_spells : (bs : List ℕ) → is_nonempty bs ≡ true → are_bytes bs ≡ true
    → SpellsLines (printed_name bs) (name_line bs ∷ [])
printed_spells bs h bytes =
    let printable = printed-printable bs bytes in
    record {
      allowed = printable-allowed (printed_name bs) 1 printable;
      pieces = name_piece bs ∷ [];
      spells =
          printable-no_cr (printed_name bs) printable
          ∙ sym (piece-spelling bs)
          ∙ sym (append-nil (spelling (name_piece bs)));
      are = and_from (is_piece (name_piece bs)) true (piece-is bs h bytes) refl;
      says =
          says (list_all is_plain_byte bs)
          ∙ sym (ap (λ (p : Place). (next_line p).lines) (piece-past bs bytes first_place));
    }
  where
    says : (x : Bool)
        → record { at = 1; tokens = cond x (Word bs) (Name bs) ∷ []; joined = false } ∷ []
        ≡ (next_line (cond x (with_word bs first_place) (with_token (Name bs) first_place))).lines
    says true = refl
    says false = refl

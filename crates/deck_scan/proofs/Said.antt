-- What pieces spell is read as the lines that they say.
use Rattle.std.proofs.Common.{◌≡◌, ℕ, ◌+◌, ◌*◌, Bool, true, false, cond, not, eqb, List, [], ◌∷◌, ◌++◌, length, refl}
use Rattle.std.proofs.Common.{sym, ap, subst, ◌∙◌, append_assoc, arith}
use Rattle.std.specs.Prelude.{◌&&◌, ◌||◌}
use Rattle.std.specs.List.{list_all}
use Rattle.std.proofs.lemmas.Bool.{eqb-true, ne_eqb, and_parts}
use Rattle.std.proofs.lemmas.List.{append-nil}
use Rattle.grs_base.specs.Printed.{is_printable, quotes_doubled}
use Rattle.deck_scan.specs.declared.token.Token.{Token}
use Rattle.deck_scan.specs.declared.token.Token.TheVariants.{Word, Name, Open, Close, Comma, Equals, Stray, Unclosed}
use Rattle.deck_scan.specs.declared.token.TokenLine.{TokenLine}
use Rattle.deck_scan.specs.Bytes.{begins, is_word, is_hex, digit}
use Rattle.deck_scan.specs.Scan.{Scan, Mode, InBlank, AfterSlash, InWord, InQuote, AfterQuote, InHex, InHexLow}
use Rattle.deck_scan.specs.Scan.{InBadHex, InComment, AfterStar, put, put_word, put_open, end_line, break_off}
use Rattle.deck_scan.specs.Scan.{begin_word, begin, step_in, step, scan_from, finish_in, is_x}
use Rattle.deck_scan.specs.Pieces.{Piece, Plain, Quoted, Hexed, Sign, Blank, Comment, LineEnd, LoneSlash, StrayByte}
use Rattle.deck_scan.specs.Pieces.{OpenQuote, OpenHexed, OpenComment, spelling, spelled, has_no_end, is_in_comment}
use Rattle.deck_scan.specs.Pieces.{is_between_quotes, is_sign, quote, singles, is_one_of, is_mark, is_piece, may_follow}
use Rattle.deck_scan.specs.Pieces.{followed_by, are_pieces, is_hexed, unhex, hex_token, Place, next_line, apart}
use Rattle.deck_scan.specs.Pieces.{with_token, over, past, past_all}

-- ---- tests

pub not_true : (x : Bool) → not x ≡ true → x ≡ false
not_true true h = cc
not_true false h = refl

-- a byte of a kind is no byte that isn't of it
pub test_not : (p : ℕ → Bool) (b n : ℕ) → p b ≡ true → p n ≡ false → eqb b n ≡ false
test_not p b n h not_n =
    ne_eqb b n (λ e. let P : ℕ → Type 0 = λ m. p m ≡ true in
    let k : p n ≡ true = subst P e h in
    let z : false ≡ true = sym not_n ∙ k in
    cc)

-- what is one of some bytes passes no test that none of them passes
none_passes : (p : ℕ → Bool) (bytes : List ℕ) → list_all (λ n. not (p n)) bytes ≡ true → (b : ℕ)
    → is_one_of bytes b ≡ true → p b ≡ false
none_passes p [] none b is = absurd cc
none_passes p (n ∷ ns) none b is =
    let k = and_parts (not (p n)) (list_all (λ m. not (p m)) ns) none in
    go (eqb b n) refl is (not_true (p n) k.0) (none_passes p ns k.1 b)
  where
    go : (x : Bool) → eqb b n ≡ x → (x || is_one_of ns b) ≡ true → p n ≡ false → (is_one_of ns b ≡ true → p b ≡ false)
        → p b ≡ false
    go true e here fails next = ap p (eqb-true b n e) ∙ fails
    go false e later fails next = next later

pub mark_is_no_word : (b : ℕ) → is_mark b ≡ true → is_word b ≡ false
unfolding is_word
mark_is_no_word b is = none_passes is_word (quote ∷ singles) refl b is

cr_is_no_word : is_word 13 ≡ false
unfolding is_word
cr_is_no_word = refl

pub lf_is_no_word : is_word 10 ≡ false
unfolding is_word
lf_is_no_word = refl

-- ---- scans and places

-- a scan with this open
abbrev pub state : Mode → List ℕ → Scan → Scan
state m w r = record r { part = w; mode = m }

-- a scan with one token more
abbrev pub with : Token → Scan → Scan
with t r = record r { tokens = r.tokens ++ t ∷ []; joined = r.joined || r.near; near = false }

abbrev pub place_of : Scan → Place
place_of s = record { line = s.line; tokens = s.tokens; near = s.near; joined = s.joined; lines = s.lines }

pub end_line-state : (m : Mode) (w : List ℕ) (r : Scan) → end_line (state m w r) ≡ state m w (end_line r)
unfolding end_line
end_line-state m w r = refl

pub place-end_line : (s : Scan) → place_of (end_line s) ≡ next_line (place_of s)
unfolding end_line
place-end_line s = refl

-- ---- the bytes of a piece behind its first

step_word : (w : List ℕ) (b : ℕ) (r : Scan) → is_word b ≡ true
    → step (state InWord w r) b ≡ state InWord (w ++ b ∷ []) r
unfolding step step_in
step_word w b r h = rw (test_not is_word b 13 h cr_is_no_word, h) refl

word_run : (w bs rest : List ℕ) (r : Scan) → list_all is_word bs ≡ true
    → scan_from (state InWord w r) (bs ++ rest) ≡ scan_from (state InWord (w ++ bs) r) rest
unfolding scan_from
word_run w [] rest r h = ap (λ (x : List ℕ). scan_from (state InWord x r) rest) (sym (append-nil w))
word_run w (b ∷ bs) rest r h =
    let k = and_parts (is_word b) (list_all is_word bs) h in
    ap (λ (x : Scan). scan_from x (bs ++ rest)) (step_word w b r k.0)
    ∙ word_run (w ++ b ∷ []) bs rest r k.1
    ∙ ap (λ (x : List ℕ). scan_from (state InWord x r) rest) (append_assoc w (b ∷ []) bs)

step_quote : (q : List ℕ) (b : ℕ) (r : Scan) → is_printable b ≡ true → eqb b 39 ≡ false
    → step (state InQuote q r) b ≡ state InQuote (q ++ b ∷ []) r
unfolding step step_in
step_quote q b r h e = rw (test_not is_printable b 13 h refl, e, test_not is_printable b 10 h refl) refl

-- one byte of a quoted name
quote_one : (q bs : List ℕ) (b : ℕ) (tail : List ℕ) (r : Scan) → is_printable b ≡ true
    → scan_from (state InQuote q r) (quotes_doubled (b ∷ bs) ++ tail)
    ≡ scan_from (state InQuote (q ++ b ∷ []) r) (quotes_doubled bs ++ tail)
unfolding scan_from step step_in
quote_one q bs b tail r h = go (eqb b 39) refl
  where
    go : (is : Bool) → eqb b 39 ≡ is
        → scan_from (state InQuote q r) (cond is (39 ∷ 39 ∷ quotes_doubled bs) (b ∷ quotes_doubled bs) ++ tail)
        ≡ scan_from (state InQuote (q ++ b ∷ []) r) (quotes_doubled bs ++ tail)
    go true e =
        ap (λ (c : ℕ). scan_from (state InQuote (q ++ c ∷ []) r) (quotes_doubled bs ++ tail)) (sym (eqb-true b 39 e))
    go false e = ap (λ (x : Scan). scan_from x (quotes_doubled bs ++ tail)) (step_quote q b r h e)

quote_run : (q n rest : List ℕ) (r : Scan) → list_all is_printable n ≡ true
    → scan_from (state InQuote q r) (quotes_doubled n ++ rest) ≡ scan_from (state InQuote (q ++ n) r) rest
quote_run q [] rest r h = ap (λ (x : List ℕ). scan_from (state InQuote x r) rest) (sym (append-nil q))
quote_run q (b ∷ bs) rest r h =
    let k = and_parts (is_printable b) (list_all is_printable bs) h in
    quote_one q bs b rest r k.0
    ∙ quote_run (q ++ b ∷ []) bs rest r k.1
    ∙ ap (λ (x : List ℕ). scan_from (state InQuote x r) rest) (append_assoc q (b ∷ []) bs)

-- ---- hexadecimal names

-- what is open behind these bytes of one, and what has been read of it
abbrev hex_mode : List ℕ → Mode
hex_mode [] = InHex
hex_mode (a ∷ []) = cond (is_hex a) InHexLow InBadHex
hex_mode (a ∷ b ∷ ds) = cond (is_hex a) (cond (is_hex b) (hex_mode ds) InBadHex) InBadHex

abbrev hex_part : List ℕ → List ℕ → List ℕ
hex_part q [] = q
hex_part q (a ∷ []) = q
hex_part q (a ∷ b ∷ ds) = cond (is_hex a) (cond (is_hex b) (hex_part (q ++ (16 * digit a + digit b) ∷ []) ds) q) q

-- a byte between quotes is no CR, no quote and no LF
record Between (b : ℕ) : Type 0 where
  cr : eqb b 13 ≡ false
  quote : eqb b 39 ≡ false
  lf : eqb b 10 ≡ false

between : (b : ℕ) → is_between_quotes b ≡ true → Between b
between b h = record {
  cr = test_not is_between_quotes b 13 h refl;
  quote = test_not is_between_quotes b 39 h refl;
  lf = test_not is_between_quotes b 10 h refl;
}

step_hex : (q : List ℕ) (b : ℕ) (r : Scan) → Between b → is_hex b ≡ true
    → step (state InHex q r) b ≡ state InHexLow q (record r { high = b })
unfolding step step_in
step_hex q b r h is = rw (h.cr, h.quote, h.lf, is) refl

step_hex_bad : (q : List ℕ) (b : ℕ) (r : Scan) → Between b → is_hex b ≡ false
    → step (state InHex q r) b ≡ state InBadHex q r
unfolding step step_in
step_hex_bad q b r h is = rw (h.cr, h.quote, h.lf, is) refl

step_low : (q : List ℕ) (b : ℕ) (r : Scan) → Between b → is_hex b ≡ true
    → step (state InHexLow q r) b ≡ state InHex (q ++ (16 * digit r.high + digit b) ∷ []) r
unfolding step step_in
step_low q b r h is = rw (h.cr, h.quote, h.lf, is) refl

step_low_bad : (q : List ℕ) (b : ℕ) (r : Scan) → Between b → is_hex b ≡ false
    → step (state InHexLow q r) b ≡ state InBadHex q r
unfolding step step_in
step_low_bad q b r h is = rw (h.cr, h.quote, h.lf, is) refl

step_bad : (q : List ℕ) (b : ℕ) (r : Scan) → Between b → step (state InBadHex q r) b ≡ state InBadHex q r
unfolding step step_in
step_bad q b r h = rw (h.cr, h.quote, h.lf) refl

bad_run : (q ds rest : List ℕ) (r : Scan) → list_all is_between_quotes ds ≡ true
    → scan_from (state InBadHex q r) (ds ++ rest) ≡ scan_from (state InBadHex q r) rest
unfolding scan_from
bad_run q [] rest r h = refl
bad_run q (b ∷ ds) rest r h =
    let k = and_parts (is_between_quotes b) (list_all is_between_quotes ds) h in
    ap (λ (x : Scan). scan_from x (ds ++ rest)) (step_bad q b r (between b k.0)) ∙ bad_run q ds rest r k.1

abbrev HexRun : List ℕ → List ℕ → List ℕ → Scan → Mode → List ℕ → Type 0
HexRun q ds rest r m p =
    (h : ℕ) × (scan_from (state InHex q r) (ds ++ rest) ≡ scan_from (state m p (record r { high = h })) rest)

hex_run : (q ds rest : List ℕ) (r : Scan) → list_all is_between_quotes ds ≡ true
    → HexRun q ds rest r (hex_mode ds) (hex_part q ds)
unfolding scan_from
hex_run q [] rest r h = (r.high, refl)
hex_run q (a ∷ []) rest r h = go (is_hex a) refl
  where
    is : Between a
    is = between a (and_parts (is_between_quotes a) true h).0

    go : (x : Bool) → is_hex a ≡ x → HexRun q (a ∷ []) rest r (cond x InHexLow InBadHex) q
    go true e = (a, ap (λ (x : Scan). scan_from x rest) (step_hex q a r is e))
    go false e = (r.high, ap (λ (x : Scan). scan_from x rest) (step_hex_bad q a r is e))
hex_run q (a ∷ b ∷ ds) rest r h =
    go (is_hex a) (is_hex b) refl refl
    (hex_run (q ++ (16 * digit a + digit b) ∷ []) ds rest (record r { high = a }) both.1)
  where
    all : (is_between_quotes a ≡ true) × (list_all is_between_quotes (b ∷ ds) ≡ true)
    all = and_parts (is_between_quotes a) (list_all is_between_quotes (b ∷ ds)) h

    both : (is_between_quotes b ≡ true) × (list_all is_between_quotes ds ≡ true)
    both = and_parts (is_between_quotes b) (list_all is_between_quotes ds) all.1

    go : (x y : Bool) → is_hex a ≡ x → is_hex b ≡ y
        → HexRun (q ++ (16 * digit a + digit b) ∷ []) ds rest (record r { high = a }) (hex_mode ds)
        (hex_part (q ++ (16 * digit a + digit b) ∷ []) ds)
        → HexRun q (a ∷ b ∷ ds) rest r (cond x (cond y (hex_mode ds) InBadHex) InBadHex)
        (cond x (cond y (hex_part (q ++ (16 * digit a + digit b) ∷ []) ds) q) q)
    go true true e f k = (
      k.0,
      ap (λ (x : Scan). scan_from x (b ∷ (ds ++ rest))) (step_hex q a r (between a all.0) e)
          ∙ ap (λ (x : Scan). scan_from x (ds ++ rest)) (step_low q b (record r { high = a }) (between b both.0) f)
          ∙ k.1,
    )
    go true false e f k = (
      a,
      ap (λ (x : Scan). scan_from x (b ∷ (ds ++ rest))) (step_hex q a r (between a all.0) e)
          ∙ ap (λ (x : Scan). scan_from x (ds ++ rest)) (step_low_bad q b (record r { high = a }) (between b both.0) f)
          ∙ bad_run q ds rest (record r { high = a }) both.1,
    )
    go false y e f k = (
      r.high,
      ap (λ (x : Scan). scan_from x (b ∷ (ds ++ rest))) (step_hex_bad q a r (between a all.0) e)
          ∙ bad_run q (b ∷ ds) rest r all.1,
    )

-- the quote that closes one
hex_close : (q ds : List ℕ) (r : Scan)
    → step (state (hex_mode ds) (hex_part q ds) r) 39
    ≡ state InBlank [] (with (cond (is_hexed ds) (Name (q ++ unhex ds)) Stray) r)
unfolding step step_in put
hex_close q [] r = ap (λ (x : List ℕ). state InBlank [] (with (Name x) r)) (sym (append-nil q))
hex_close q (a ∷ []) r = go (is_hex a)
  where
    go : (x : Bool) → step (state (cond x InHexLow InBadHex) q r) 39 ≡ state InBlank [] (with Stray r)
    go true = refl
    go false = refl
hex_close q (a ∷ b ∷ ds) r =
    go (is_hex a) (is_hex b) (hex_close (q ++ (16 * digit a + digit b) ∷ []) ds r
    ∙ ap (λ (x : List ℕ). state InBlank [] (with (cond (is_hexed ds) (Name x) Stray) r))
    (append_assoc q ((16 * digit a + digit b) ∷ []) (unhex ds)))
  where
    go : (x y : Bool)
        → step (state (hex_mode ds) (hex_part (q ++ (16 * digit a + digit b) ∷ []) ds) r) 39
        ≡ state InBlank [] (with (cond (is_hexed ds) (Name (q ++ (16 * digit a + digit b) ∷ unhex ds)) Stray) r)
        → step (state (cond x (cond y (hex_mode ds) InBadHex) InBadHex)
        (cond x (cond y (hex_part (q ++ (16 * digit a + digit b) ∷ []) ds) q) q) r)
        39
        ≡ state InBlank []
        (with (cond (x && (y && is_hexed ds)) (Name (q ++ (16 * digit a + digit b) ∷ unhex ds)) Stray) r)
    go true true k = k
    go true false k = refl
    go false y k = refl

-- an open one ends with its line, or with the text
hex_break : (ds q : List ℕ) (r : Scan) → step (state (hex_mode ds) q r) 10 ≡ state InBlank [] (end_line (with Stray r))
unfolding step step_in put break_off end_line
hex_break [] q r = refl
hex_break (a ∷ []) q r = go (is_hex a)
  where
    go : (x : Bool) → step (state (cond x InHexLow InBadHex) q r) 10 ≡ state InBlank [] (end_line (with Stray r))
    go true = refl
    go false = refl
hex_break (a ∷ b ∷ ds) q r = go (is_hex a) (is_hex b) (hex_break ds q r)
  where
    go : (x y : Bool) → step (state (hex_mode ds) q r) 10 ≡ state InBlank [] (end_line (with Stray r))
        → step (state (cond x (cond y (hex_mode ds) InBadHex) InBadHex) q r) 10
        ≡ state InBlank [] (end_line (with Stray r))
    go true true k = k
    go true false k = refl
    go false y k = refl

hex_finish : (ds : List ℕ) (s : Scan) → finish_in (hex_mode ds) s ≡ put Stray s
unfolding finish_in
hex_finish [] s = refl
hex_finish (a ∷ []) s = go (is_hex a)
  where
    go : (x : Bool) → finish_in (cond x InHexLow InBadHex) s ≡ put Stray s
    go true = refl
    go false = refl
hex_finish (a ∷ b ∷ ds) s = go (is_hex a) (is_hex b) (hex_finish ds s)
  where
    go : (x y : Bool) → finish_in (hex_mode ds) s ≡ put Stray s
        → finish_in (cond x (cond y (hex_mode ds) InBadHex) InBadHex) s ≡ put Stray s
    go true true k = k
    go true false k = refl
    go false y k = refl

-- ---- comments

-- what is open in a comment, by whether a star stands before
abbrev pub comment_mode : Bool → Mode
comment_mode true = AfterStar
comment_mode false = InComment

-- whether a star stands last
abbrev pub star_after : Bool → List ℕ → Bool
star_after star [] = star
star_after star (b ∷ bs) = star_after (eqb b 42) bs

-- behind a star no slash comes
abbrev pub Inside : Bool → List ℕ → Type 0
Inside star c = ((star && begins 47 c) ≡ false) × (has_no_end c ≡ true)

inside_tail : (star : Bool) (b : ℕ) (bs : List ℕ) → Inside star (b ∷ bs) → Inside (eqb b 42) bs
inside_tail star b bs h =
    let k = and_parts (not (eqb b 42 && begins 47 bs)) (has_no_end bs) h.1 in (not_true _ k.0, k.1)

step_comment : (star : Bool) (b : ℕ) (bs : List ℕ) (r : Scan) → Inside star (b ∷ bs) → is_in_comment b ≡ true
    → step (state (comment_mode star) [] r) b ≡ state (comment_mode (eqb b 42)) [] (cond (eqb b 10) (end_line r) r)
unfolding step step_in
step_comment star b bs r h ok = rw (test_not is_in_comment b 13 ok refl) (go star (eqb b 42) (eqb b 10) h.0 refl refl)
  where
    go : (star is_star is_lf : Bool) → (star && eqb b 47) ≡ false → eqb b 42 ≡ is_star → eqb b 10 ≡ is_lf
        → step_in (comment_mode star) (state (comment_mode star) [] r) b
        ≡ state (comment_mode is_star) [] (cond is_lf (end_line r) r)
    go star true true h s l = absurd (let e = eqb-true b 42 s in let f = eqb-true b 10 l in omega (arith, e, f))
    go true true false h s l = rw (h, s) refl
    go false true false h s l = rw s refl
    go true false true h s l = rw (h, s, l) (end_line-state InComment [] r)
    go false false true h s l = rw (s, l) (end_line-state InComment [] r)
    go true false false h s l = rw (h, s, l) refl
    go false false false h s l = rw (s, l) refl

place-passed : (lf : Bool) (r : Scan)
    → place_of (cond lf (end_line r) r) ≡ cond lf (next_line (place_of r)) (place_of r)
place-passed true r = place-end_line r
place-passed false r = refl

begun-passed : (lf : Bool) (r : Scan) → (cond lf (end_line r) r).begun ≡ r.begun
unfolding end_line
begun-passed true r = refl
begun-passed false r = refl

pub record CommentRun (star : Bool) (c rest : List ℕ) (r : Scan) : Type 0 where
  pub after : Scan
  pub same : scan_from (state (comment_mode star) [] r) (c ++ rest)
      ≡ scan_from (state (comment_mode (star_after star c)) [] after) rest
  pub place : place_of after ≡ over c (place_of r)
  pub begun : after.begun ≡ r.begun

pub comment_run : (star : Bool) (c rest : List ℕ) (r : Scan) → Inside star c → list_all is_in_comment c ≡ true
    → CommentRun star c rest r
unfolding scan_from
comment_run star [] rest r h e = record { after = r; same = refl; place = refl; begun = refl }
comment_run star (b ∷ bs) rest r h e =
    let ok = and_parts (is_in_comment b) (list_all is_in_comment bs) e in
    let k = comment_run (eqb b 42) bs rest (cond (eqb b 10) (end_line r) r) (inside_tail star b bs h) ok.1 in
    record {
      after = k.after;
      same = ap (λ (x : Scan). scan_from x (bs ++ rest)) (step_comment star b bs r h ok.0) ∙ k.same;
      place = k.place ∙ ap (over bs) (place-passed (eqb b 10) r);
      begun = k.begun ∙ begun-passed (eqb b 10) r;
    }

pub comment_close : (star : Bool) (rest : List ℕ) (s : Scan)
    → scan_from (state (comment_mode star) [] s) (42 ∷ 47 ∷ rest) ≡ scan_from (state InBlank [] s) rest
unfolding scan_from step step_in
comment_close true rest s = refl
comment_close false rest s = refl

-- ---- from one piece to the next

-- the scan after a piece: its token may still be open
abbrev pub sits : Piece → Scan → Scan
sits (Plain w) r = state InWord w r
sits (Quoted n) r = state AfterQuote n r
sits LoneSlash r = state AfterSlash [] r
sits (OpenQuote n) r = state InQuote n r
sits (OpenHexed ds) r = state (hex_mode ds) (hex_part [] ds) r
sits (OpenComment c) r = state (comment_mode (star_after false c)) [] r
sits _ r = state InBlank [] r

-- where a token that is open is put among the tokens
abbrev pub settle : Piece → Scan → Scan
settle (Plain w) r = record (with (Word w) r) { near = eqb (length r.tokens) 0 }
settle (Quoted n) r = with (Name n) r
settle LoneSlash r = with Stray r
settle (OpenQuote n) r = with Stray r
settle (OpenHexed ds) r = with Stray r
settle (OpenComment c) r = with Unclosed (record (end_line r) { line = r.begun })
settle _ r = r

quote_break : (n : List ℕ) (r : Scan) → step (state InQuote n r) 10 ≡ begin (state InBlank [] (with Stray r)) 10
unfolding step step_in put break_off end_line begin
quote_break n r = refl

lf_begun : (r : Scan) → state InBlank [] (end_line r) ≡ begin (state InBlank [] r) 10
unfolding end_line begin
lf_begun r = refl

pub enters : (p : Piece) (b : ℕ) (r : Scan) → eqb b 13 ≡ false → may_follow p b ≡ true
    → step (sits p r) b ≡ begin (state InBlank [] (settle p r)) b
unfolding step step_in put put_word
enters (Plain w) b r cr h =
    let k = and_parts (not (is_word b)) (not (eqb b 39 && is_x w)) h in
    rw (cr, not_true (is_word b) k.0, not_true (eqb b 39 && is_x w) k.1) refl
enters (Quoted n) b r cr h = rw (cr, not_true (eqb b 39) h) refl
enters LoneSlash b r cr h = rw (cr, not_true (eqb b 42) h) refl
enters (OpenQuote n) b r cr h = rw (eqb-true b 10 h) (quote_break n r)
enters (OpenHexed ds) b r cr h = rw (eqb-true b 10 h) (hex_break ds (hex_part [] ds) r ∙ lf_begun (with Stray r))
enters (OpenComment c) b r cr h = absurd cc
enters (Hexed ds) b r cr h = rw cr refl
enters (Sign t) b r cr h = rw cr refl
enters Blank b r cr h = rw cr refl
enters (Comment c) b r cr h = rw cr refl
enters LineEnd b r cr h = rw cr refl
enters (StrayByte c) b r cr h = rw cr refl

begins_word : (b : ℕ) (r : Scan) → is_word b ≡ true → begin (state InBlank [] r) b ≡ state InWord (b ∷ []) r
unfolding begin begin_word
begins_word b r h =
    rw (
      mark 32 refl,
      test_not is_word b 10 h lf_is_no_word,
      mark 39 refl,
      mark 47 refl,
      mark 40 refl,
      mark 41 refl,
      mark 44 refl,
      mark 61 refl,
      h,
    )
    refl
  where
    mark : (n : ℕ) → is_mark n ≡ true → eqb b n ≡ false
    mark n is = test_not is_word b n h (mark_is_no_word n is)

begins_stray : (b : ℕ) (r : Scan) → is_printable b ≡ true → is_word b ≡ false → is_mark b ≡ false
    → begin (state InBlank [] r) b ≡ state InBlank [] (with Stray r)
unfolding begin begin_word put
begins_stray b r printable word mark =
    rw (
      other 32 refl,
      test_not is_printable b 10 printable refl,
      other 39 refl,
      other 47 refl,
      other 40 refl,
      other 41 refl,
      other 44 refl,
      other 61 refl,
      word,
    )
    refl
  where
    other : (n : ℕ) → is_mark n ≡ true → eqb b n ≡ false
    other n is =
        ne_eqb b n (λ e. let P : ℕ → Type 0 = λ m. is_mark m ≡ false in
        let k : is_mark n ≡ false = subst P e mark in
        let z : false ≡ true = sym k ∙ is in
        cc)

-- what is read of one piece
pub record Read (p q : Piece) (r : Scan) (rest : List ℕ) : Type 0 where
  pub after : Scan
  pub same : scan_from (sits p r) (spelling q ++ rest) ≡ scan_from (sits q after) rest
  pub place : place_of (settle q after) ≡ past q (place_of (settle p r))

-- the first byte of a piece, and then its others
first : (p : Piece) (b : ℕ) (bs : List ℕ) (r next : Scan) → eqb b 13 ≡ false → may_follow p b ≡ true
    → begin (state InBlank [] (settle p r)) b ≡ next → scan_from (sits p r) (b ∷ bs) ≡ scan_from next bs
unfolding scan_from
first p b bs r next cr h e = ap (λ (x : Scan). scan_from x bs) (enters p b r cr h ∙ e)

sign_run : (p : Piece) (t : Token) (r : Scan) (rest : List ℕ) → is_sign t ≡ true
    → followed_by p (spelling (Sign t) ++ rest) ≡ true → Read p (Sign t) r rest
unfolding begin put put_open
sign_run p Open r rest h f = record {
  after = record (with Open (settle p r)) { joined = (settle p r).joined };
  same = first p 40 rest r _ refl f refl;
  place = refl;
}
sign_run p Close r rest h
    f = record { after = with Close (settle p r); same = first p 41 rest r _ refl f refl; place = refl }
sign_run p Comma r rest h
    f = record { after = with Comma (settle p r); same = first p 44 rest r _ refl f refl; place = refl }
sign_run p Equals r rest h
    f = record { after = with Equals (settle p r); same = first p 61 rest r _ refl f refl; place = refl }
sign_run p _ r rest h f = absurd cc

word_next : (p : Piece) (w rest : List ℕ) (r : Scan) → is_piece (Plain w) ≡ true → followed_by p (w ++ rest) ≡ true
    → Read p (Plain w) r rest
word_next p [] rest r h f = absurd cc
word_next p (b ∷ bs) rest r h f =
    let k = and_parts (is_word b) (list_all is_word bs) h in
    record {
      after = settle p r;
      same =
          first p b (bs ++ rest) r (state InWord (b ∷ []) (settle p r)) (test_not is_word b 13 k.0 cr_is_no_word) f
          (begins_word b (settle p r) k.0)
          ∙ word_run (b ∷ []) bs rest (settle p r) k.1;
      place = refl;
    }

-- X and a quote begin a hexadecimal name
hex_begin : (p : Piece) (bs : List ℕ) (r : Scan) → may_follow p 88 ≡ true
    → scan_from (sits p r) (88 ∷ 39 ∷ bs) ≡ scan_from (state InHex [] (settle p r)) bs
unfolding scan_from step step_in begin begin_word is_word
hex_begin p bs r f = first p 88 (39 ∷ bs) r (state InWord (88 ∷ []) (settle p r)) refl f refl

quote_begin : (p : Piece) (bs : List ℕ) (r : Scan) → may_follow p 39 ≡ true
    → scan_from (sits p r) (39 ∷ bs) ≡ scan_from (state InQuote [] (settle p r)) bs
unfolding begin
quote_begin p bs r f = first p 39 bs r (state InQuote [] (settle p r)) refl f refl

-- the scan in a comment that begins here
abbrev pub commented : Scan → Scan
commented r = record r { begun = r.line; near = false }

pub comment_begin : (p : Piece) (bs : List ℕ) (r : Scan) → may_follow p 47 ≡ true
    → scan_from (sits p r) (47 ∷ 42 ∷ bs) ≡ scan_from (state InComment [] (commented (settle p r))) bs
unfolding scan_from step step_in begin
comment_begin p bs r f = first p 47 (42 ∷ bs) r (state AfterSlash [] (settle p r)) refl f refl

inside_from : (c : List ℕ) → is_piece (Comment c) ≡ true → Inside false c
inside_from c h = (refl, (and_parts (has_no_end c) (list_all is_in_comment c) h).0)

-- a comment that is not closed, from where the text stands at its end
abbrev pub over_from : Place → ℕ → Place
over_from p n = record (with_token Unclosed (next_line p)) { line = n }

pub unclosed : (c : List ℕ) (s : Scan) → place_of (settle (OpenComment c) s) ≡ over_from (place_of s) s.begun
unfolding end_line
unclosed c s = refl

pub piece_run : (p q : Piece) (r : Scan) (rest : List ℕ) → is_piece q ≡ true → followed_by p (spelling q ++ rest) ≡ true
    → Read p q r rest
unfolding begin put scan_from step step_in
piece_run p (Plain w) r rest h f = word_next p w rest r h f
piece_run p (Quoted n) r rest h f = record {
  after = settle p r;
  same = quote_begin p ((quotes_doubled n ++ 39 ∷ []) ++ rest) r f
      ∙ ap (scan_from (state InQuote [] (settle p r))) (append_assoc (quotes_doubled n) (39 ∷ []) rest)
      ∙ quote_run [] n (39 ∷ rest) (settle p r) h;
  place = refl;
}
piece_run p (OpenQuote n) r rest h f = record {
  after = settle p r;
  same = quote_begin p (quotes_doubled n ++ rest) r f ∙ quote_run [] n rest (settle p r) h;
  place = refl;
}
piece_run p (Hexed ds) r rest h f =
    let k = hex_run [] ds (39 ∷ rest) (settle p r) h in
    let s : Scan = record (settle p r) { high = k.0 } in
    record {
      after = with (hex_token ds) s;
      same =
          hex_begin p ((ds ++ 39 ∷ []) ++ rest) r f
          ∙ ap (scan_from (state InHex [] (settle p r))) (append_assoc ds (39 ∷ []) rest)
          ∙ k.1
          ∙ ap (λ (x : Scan). scan_from x rest) (hex_close [] ds s);
      place = refl;
    }
piece_run p (OpenHexed ds) r rest h f =
    let k = hex_run [] ds rest (settle p r) h in
    record { after = record (settle p r) { high = k.0 }; same = hex_begin p (ds ++ rest) r f ∙ k.1; place = refl }
piece_run p (Sign t) r rest h f = sign_run p t r rest h f
piece_run p Blank r rest h
    f = record { after = record (settle p r) { near = false }; same = first p 32 rest r _ refl f refl; place = refl }
piece_run p LineEnd r rest h f = record {
  after = end_line (settle p r);
  same = first p 10 rest r _ refl f (end_line-state InBlank [] (settle p r));
  place = place-end_line (settle p r);
}
piece_run p LoneSlash r rest h f = record { after = settle p r; same = first p 47 rest r _ refl f refl; place = refl }
piece_run p (StrayByte b) r rest h f =
    let k = and_parts (is_printable b) (not (is_word b || is_mark b)) h in
    let e : (is_word b || is_mark b) ≡ false = not_true (is_word b || is_mark b) k.1 in
    record {
      after = with Stray (settle p r);
      same =
          first p b rest r _ (test_not is_printable b 13 k.0 refl) f
          (begins_stray b (settle p r) k.0 (neither (is_word b) (is_mark b) e).0 (neither (is_word b) (is_mark b) e).1);
      place = refl;
    }
  where
    neither : (x y : Bool) → (x || y) ≡ false → (x ≡ false) × (y ≡ false)
    neither true y e = absurd cc
    neither false y e = (refl, e)
piece_run p (Comment c) r rest h f =
    let k =
    comment_run false c (42 ∷ 47 ∷ rest) (commented (settle p r)) (inside_from c h)
    (and_parts (has_no_end c) (list_all is_in_comment c) h).1 in
    record {
      after = k.after;
      same =
          comment_begin p ((c ++ 42 ∷ 47 ∷ []) ++ rest) r f
          ∙ ap (scan_from (state InComment [] (commented (settle p r)))) (append_assoc c (42 ∷ 47 ∷ []) rest)
          ∙ k.same
          ∙ comment_close (star_after false c) rest k.after;
      place = k.place;
    }
piece_run p (OpenComment c) r rest h f =
    let k =
    comment_run false c rest (commented (settle p r)) (inside_from c h)
    (and_parts (has_no_end c) (list_all is_in_comment c) h).1 in
    record {
      after = k.after;
      same = comment_begin p (c ++ rest) r f ∙ k.same;
      place =
          unclosed c k.after
          ∙ ap (λ (x : Place). over_from x (k.after.begun)) k.place
          ∙ ap (over_from (over c (apart (place_of (settle p r))))) k.begun;
    }

-- the lines at the end of the text
abbrev pub at_end : Scan → List TokenLine
at_end s = (end_line (finish_in s.mode s)).lines

pub ends_there : (p : Piece) (r : Scan) → at_end (sits p r) ≡ (next_line (place_of (settle p r))).lines
unfolding finish_in put put_word end_line
ends_there (Plain w) r = refl
ends_there (Quoted n) r = refl
ends_there (Hexed ds) r = refl
ends_there (Sign t) r = refl
ends_there Blank r = refl
ends_there (Comment c) r = refl
ends_there LineEnd r = refl
ends_there LoneSlash r = refl
ends_there (StrayByte b) r = refl
ends_there (OpenQuote n) r = refl
ends_there (OpenHexed ds) r = ap (λ (x : Scan). (end_line x).lines) (hex_finish ds (sits (OpenHexed ds) r))
ends_there (OpenComment c) r = go (star_after false c)
  where
    go : (star : Bool)
        → at_end (state (comment_mode star) [] r) ≡ (next_line (place_of (settle (OpenComment c) r))).lines
    go true = refl
    go false = refl

pub all_run : (p : Piece) (qs : List Piece) (r : Scan) → followed_by p (spelled qs) ≡ true → are_pieces qs ≡ true
    → at_end (scan_from (sits p r) (spelled qs)) ≡ (next_line (past_all qs (place_of (settle p r)))).lines
unfolding scan_from
all_run p [] r f h = ends_there p r
all_run p (q ∷ qs) r f h =
    let here = and_parts (is_piece q) (followed_by q (spelled qs) && are_pieces qs) h in
    let behind = and_parts (followed_by q (spelled qs)) (are_pieces qs) here.1 in
    let k = piece_run p q r (spelled qs) here.0 f in
    ap at_end k.same
    ∙ all_run q qs k.after behind.0 behind.1
    ∙ ap (λ (x : Place). (next_line (past_all qs x)).lines) k.place

-- The same lines are to come behind a gap, and a word behind it is the first of the next line.
use Rattle.std.proofs.Common.{◌≡◌, ℕ, ◌+◌, ◌<◌, ◌≤◌, Bool, true, false, cond, not, eqb, List, [], ◌∷◌, ◌++◌, length}
use Rattle.std.proofs.Common.{get_or, drop, Option, Some, None, is_some, refl, sym, ap, subst, ◌∙◌, arith}
use Rattle.std.specs.Prelude.{◌&&◌, ◌||◌, ◌==◌}
use Rattle.std.specs.Str.{bytes_eq}
use Rattle.std.specs.List.{list_all}
use Rattle.std.proofs.lemmas.Bool.{eqb-true, ne_eqb, and_parts, false_from_ne_true}
use Rattle.std.proofs.lemmas.List.Elements.{filter-append}
use Rattle.grs_base.specs.Printed.{is_printable}
use Rattle.deck_scan.specs.declared.token.Token.{Token}
use Rattle.deck_scan.specs.declared.token.Token.TheVariants.{Word, Name, Open, Close, Comma, Equals, Stray, Unclosed}
use Rattle.deck_scan.specs.declared.token.TokenLine.{TokenLine}
use Rattle.deck_scan.specs.declared.cursor.Cursor.{Cursor}
use Rattle.deck_scan.specs.Bytes.{begins, is_word, is_allowed}
use Rattle.deck_scan.specs.AnyBytes.{readable}
use Rattle.deck_scan.specs.Pieces.{Piece, Plain, Quoted, Hexed, Sign, Blank, Comment, LineEnd, LoneSlash, StrayByte}
use Rattle.deck_scan.specs.Pieces.{OpenQuote, OpenHexed, OpenComment, sign, spelled, is_mark, is_nonempty, is_piece}
use Rattle.deck_scan.specs.Pieces.{followed_by, are_pieces, is_hexed, unhex, hex_token, lines_with, Place, next_line}
use Rattle.deck_scan.specs.Pieces.{over, over_open, past, past_all, without_cr}
use Rattle.deck_scan.specs.Scan.{Scan, InComment, AfterStar, put, step, step_in, begin, begin_word, end_line, finish_in}
use Rattle.deck_scan.specs.Scan.{scan_from}
use Rattle.deck_scan.specs.Rows.{at_row, to_come, coming, word_in, front_word, first_word, IsSplit, starts, begins_gap}
use Rattle.deck_scan.specs.Rows.{ends_text, is_at_token, GoesOver}
use Rattle.deck_scan.proofs.Said.{state, at_end, not_true, test_not}
use Rattle.deck_scan.proofs.Found.{by_test, found_pieces}
use Rattle.deck_scan.proofs.Names.{printable-no_cr, plain_printable, all_kept}
use Rattle.deck_scan.proofs.Pieces.{nil_of}
use Rattle.deck_scan.proofs.Ahead.{fresh_place, read_said}
use Rattle.deck_scan.proofs.Rows.{readable_row, readable_ok, two_front, row_inside, comment_done}

-- ---- a byte or two of a gap

lf_apart : (line : ℕ) (rest : List ℕ) → to_come line None (10 ∷ rest) ≡ to_come (line + 1) None rest
unfolding to_come readable is_allowed scan_from step step_in begin end_line
lf_apart line rest = refl

blank_apart : (line : ℕ) (rest : List ℕ) → to_come line None (32 ∷ rest) ≡ to_come line None rest
unfolding to_come readable is_allowed scan_from step step_in begin
blank_apart line rest = refl

cr_apart : (line : ℕ) (rest : List ℕ) → to_come line None (13 ∷ 10 ∷ rest) ≡ to_come line None (10 ∷ rest)
unfolding to_come readable is_allowed scan_from step
cr_apart line rest = refl

comment_apart : (line : ℕ) (rest : List ℕ) → to_come line None (47 ∷ 42 ∷ rest) ≡ to_come line (Some line) rest
unfolding to_come readable is_allowed scan_from step step_in begin
comment_apart line rest = refl

-- a CR that a deck may have
cr_front : (b : ℕ) (bs : List ℕ) → is_allowed b bs ≡ true → eqb b 13 ≡ true → b ∷ bs ≡ 13 ∷ 10 ∷ drop 1 bs
unfolding is_allowed
cr_front b [] ok cr = absurd (let z : false ≡ true = sym (rw (eqb-true b 13 cr) refl) ∙ ok in cc)
cr_front b (c ∷ cs) ok cr = let e = eqb-true b 13 cr in rw (e, eqb-true c 10 (rw e at ok)) refl

-- behind a star that no slash follows a comment is as before it
star_step : (c : ℕ) (r : Scan) → eqb c 13 ≡ false → eqb c 47 ≡ false
    → step (state AfterStar [] r) c ≡ step (state InComment [] r) c
unfolding step step_in
star_step c r cr slash = rw (cr, slash) refl

abbrev StarGone : Scan → List ℕ → Type 0
StarGone r bs =
    at_end (scan_from (state AfterStar [] r) (readable bs)) ≡ at_end (scan_from (state InComment [] r) (readable bs))

star_cr : (r : Scan) (bs : List ℕ) → StarGone r (13 ∷ 10 ∷ bs)
unfolding readable is_allowed scan_from step step_in
star_cr r bs = refl

star_good : (r : Scan) (c : ℕ) (cs : List ℕ) → is_allowed c cs ≡ true → eqb c 13 ≡ false → eqb c 47 ≡ false
    → StarGone r (c ∷ cs)
unfolding readable scan_from
star_good r c cs ok cr slash = rw ok (ap (λ (s : Scan). at_end (scan_from s (readable cs))) (star_step c r cr slash))

star_wrong : (r : Scan) (c : ℕ) (cs : List ℕ) → is_allowed c cs ≡ false → StarGone r (c ∷ cs)
unfolding readable scan_from step step_in
star_wrong r c cs bad = rw bad refl

star_gone : (r : Scan) (bs : List ℕ) → begins 47 bs ≡ false → StarGone r bs
unfolding readable scan_from finish_in put end_line
star_gone r [] h = refl
star_gone r (c ∷ cs) h =
    by_test (is_allowed c cs)
    (λ ok.
    by_test (eqb c 13) (λ cr. subst (StarGone r) (sym (cr_front c cs ok cr)) (star_cr r (drop 1 cs)))
    (λ unlike. star_good r c cs ok unlike h))
    (star_wrong r c cs)

-- a byte of a comment leaves it open, but that a star may end it
cr_step : (s : Scan) (b : ℕ) → eqb b 13 ≡ true → step s b ≡ s
unfolding step
cr_step s b cr = rw cr refl

star_there : (r : Scan) (b : ℕ) → eqb b 13 ≡ false → eqb b 42 ≡ true
    → step (state InComment [] r) b ≡ state AfterStar [] r
unfolding step step_in
star_there r b unlike star = rw (unlike, star) refl

other_step : (r : Scan) (b : ℕ) → eqb b 13 ≡ false → eqb b 42 ≡ false → eqb b 10 ≡ false
    → step (state InComment [] r) b ≡ state InComment [] r
unfolding step step_in
other_step r b unlike star lf = rw (unlike, star, lf) refl

byte_inside : (line begun b : ℕ) (bs : List ℕ) → is_allowed b bs ≡ true → eqb b 10 ≡ false
    → (b == 42 && begins 47 bs) ≡ false → to_come line (Some begun) (b ∷ bs) ≡ to_come line (Some begun) bs
unfolding to_come readable scan_from
byte_inside line begun b bs ok lf star =
    rw ok
    (by_test (eqb b 13) (λ cr. passed (cr_step r b cr))
    (λ unlike.
    by_test (eqb b 42)
    (λ is. passed (star_there r b unlike is) ∙ star_gone r bs (sym (ap (λ (x : Bool). x && begins 47 bs) is) ∙ star))
    (λ other. passed (other_step r b unlike other lf))))
  where
    r : Scan
    r = at_row line (Some begun)

    passed : {s : Scan} → step r b ≡ s
        → at_end (scan_from (step r b) (readable bs)) ≡ at_end (scan_from s (readable bs))
    passed e = ap (λ (x : Scan). at_end (scan_from x (readable bs))) e

-- ---- as the reader goes over them

-- from one place to the next
goes : (from to : Cursor) (begun : Option ℕ) (text : List ℕ) (line : ℕ) (after : Option ℕ) (rest : List ℕ)
    → from.begun ≡ begun → from.rest.now ≡ text → to.line ≡ line → to.begun ≡ after → to.rest.now ≡ rest
    → to_come from.line begun text ≡ to_come line after rest → length rest < length text → GoesOver from to
goes from to begun text line after rest b t l a r same
    less = record { same = rw (b, t, l, a, r) (sym same); shorter = rw (t, r) less }

none_of : (o : Option ℕ) → is_some o ≡ false → o ≡ None
none_of None h = refl
none_of (Some n) h = absurd cc

some_of : (o : Option ℕ) → is_some o ≡ true → (n : ℕ) × (o ≡ Some n)
some_of (Some n) h = (n, refl)
some_of None h = absurd cc

-- a text that begins with this byte
one_front : (n : ℕ) (text : List ℕ) → 1 ≤ length text → get_or text 0 0 ≡ n → text ≡ n ∷ drop 1 text
one_front n [] long first = absurd (omega (arith, long))
one_front n (x ∷ xs) long first = rw first refl

-- no star and slash stand there
no_pair : (text : List ℕ) → (2 ≤ length text → get_or text 0 0 ≡ 42 → get_or text 1 0 ≡ 47 → ⊥)
    → (get_or text 0 0 == 42 && begins 47 (drop 1 text)) ≡ false
no_pair [] h = refl
no_pair (x ∷ []) h = go (eqb x 42)
  where
    go : (is : Bool) → (is && false) ≡ false
    go true = refl
    go false = refl
no_pair (x ∷ y ∷ ys) h =
    false_from_ne_true (eqb x 42 && eqb y 47)
    (λ is. let k = and_parts (eqb x 42) (eqb y 47) is in h (omega arith) (eqb-true x 42 k.0) (eqb-true y 47 k.1))

module _ (from to : Cursor) where
  abbrev text : List ℕ
  text = from.rest.now

  module _ (apart : is_some from.begun ≡ false) where
    none : from.begun ≡ None
    none = none_of from.begun apart

    pub over_begin : 2 ≤ length text → get_or text 0 0 ≡ 47 → get_or text 1 0 ≡ 42 → to.line ≡ from.line
        → to.begun ≡ Some from.line → to.rest.now ≡ drop 2 text → GoesOver from to
    over_begin long first second line begun rest =
        goes from to None (47 ∷ 42 ∷ drop 2 text) from.line (Some from.line) (drop 2 text) none
        (two_front 47 42 text long first second) line begun rest (comment_apart from.line (drop 2 text)) (omega arith)

    pub over_end : 1 ≤ length text → get_or text 0 0 ≡ 10 → to.line ≡ from.line + 1 → to.begun ≡ None
        → to.rest.now ≡ drop 1 text → GoesOver from to
    over_end long first line begun rest =
        goes from to None (10 ∷ drop 1 text) (from.line + 1) None (drop 1 text) none (one_front 10 text long first) line
        begun rest (lf_apart from.line (drop 1 text)) (omega arith)

    pub over_cr : 2 ≤ length text → get_or text 0 0 ≡ 13 → get_or text 1 0 ≡ 10 → to.line ≡ from.line + 1
        → to.begun ≡ None → to.rest.now ≡ drop 2 text → GoesOver from to
    over_cr long first second line begun rest =
        goes from to None (13 ∷ 10 ∷ drop 2 text) (from.line + 1) None (drop 2 text) none
        (two_front 13 10 text long first second) line begun rest
        (cr_apart from.line (drop 2 text) ∙ lf_apart from.line (drop 2 text)) (omega arith)

    pub over_blank : 1 ≤ length text → get_or text 0 0 ≡ 32 → to.line ≡ from.line → to.begun ≡ None
        → to.rest.now ≡ drop 1 text → GoesOver from to
    over_blank long first line begun rest =
        goes from to None (32 ∷ drop 1 text) from.line None (drop 1 text) none (one_front 32 text long first) line begun
        rest (blank_apart from.line (drop 1 text)) (omega arith)

  module _ (inside : is_some from.begun ≡ true) where
    begun_on : (n : ℕ) × (from.begun ≡ Some n)
    begun_on = some_of from.begun inside

    pub over_close : 2 ≤ length text → get_or text 0 0 ≡ 42 → get_or text 1 0 ≡ 47 → to.line ≡ from.line
        → to.begun ≡ None → to.rest.now ≡ drop 2 text → GoesOver from to
    over_close long first second line begun rest =
        goes from to (Some begun_on.0) (42 ∷ 47 ∷ drop 2 text) from.line None (drop 2 text) begun_on.1
        (two_front 42 47 text long first second) line begun rest
        (comment_done from.line begun_on.0 [] (drop 2 text) refl refl) (omega arith)

    pub over_line : 1 ≤ length text → get_or text 0 0 ≡ 10 → to.line ≡ from.line + 1 → to.begun ≡ from.begun
        → to.rest.now ≡ drop 1 text → GoesOver from to
    over_line long first line begun rest =
        goes from to (Some begun_on.0) (10 ∷ drop 1 text) (from.line + 1) (Some begun_on.0) (drop 1 text) begun_on.1
        (one_front 10 text long first) line (begun ∙ begun_on.1) rest
        ((row_inside from.line begun_on.0 [] refl refl).goes (drop 1 text)) (omega arith)

    pub over_byte : 1 ≤ length text → (2 ≤ length text → get_or text 0 0 ≡ 42 → get_or text 1 0 ≡ 47 → ⊥)
        → (get_or text 0 0 ≡ 10 → ⊥) → is_allowed (get_or text 0 0) (drop 1 text) ≡ true
        → to.line ≡ from.line → to.begun ≡ from.begun → to.rest.now ≡ drop 1 text → GoesOver from to
    over_byte long pair lf ok line begun rest =
        let b = get_or text 0 0 in
        goes from to (Some begun_on.0) (b ∷ drop 1 text) from.line (Some begun_on.0) (drop 1 text) begun_on.1
        (one_front b text long refl) line (begun ∙ begun_on.1) rest
        (byte_inside from.line begun_on.0 b (drop 1 text) ok (ne_eqb b 10 lf) (no_pair text pair)) (omega arith)

-- ---- the front of what is read

module _ (p : ℕ → Bool) (other : (b : ℕ) → is_printable b ≡ false → p b ≡ false) (wrong : p 33 ≡ false) where
  cr_read : (bs : List ℕ) → starts p (without_cr (readable (13 ∷ 10 ∷ bs))) ≡ p 10
  unfolding readable is_allowed
  cr_read bs = refl

  not_printable : (b : ℕ) (bs : List ℕ) → is_allowed b bs ≡ false → is_printable b ≡ false
  unfolding is_allowed
  not_printable b bs h = go (is_printable b) (eqb b 10) h
    where
      go : (x lf : Bool) → (x || lf || (eqb b 13 && begins 10 bs)) ≡ false → x ≡ false
      go true lf k = absurd cc
      go false lf k = refl

  good_read : (b : ℕ) (bs : List ℕ) → is_allowed b bs ≡ true → eqb b 13 ≡ false
      → starts p (without_cr (readable (b ∷ bs))) ≡ p b
  unfolding readable
  good_read b bs ok unlike = rw (ok, unlike) refl

  wrong_read : (b : ℕ) (bs : List ℕ) → is_allowed b bs ≡ false → starts p (without_cr (readable (b ∷ bs))) ≡ p b
  unfolding readable
  wrong_read b bs bad = rw bad (wrong ∙ sym (other b (not_printable b bs bad)))

  pub read_front : (bs : List ℕ) → starts p (without_cr (readable bs)) ≡ starts p bs
  unfolding readable
  read_front [] = refl
  read_front (b ∷ bs) =
      by_test (is_allowed b bs)
      (λ ok. by_test (eqb b 13)
      (λ cr.
      ap (λ (t : List ℕ). starts p (without_cr (readable t))) (cr_front b bs ok cr)
      ∙ cr_read (drop 1 bs)
      ∙ other 10 refl
      ∙ sym (other b (ap is_printable (eqb-true b 13 cr))))
      (good_read b bs ok))
      (wrong_read b bs)

begins_starts : (n : ℕ) (t : List ℕ) → begins n t ≡ starts (λ b. eqb b n) t
begins_starts n [] = refl
begins_starts n (b ∷ bs) = refl

read_begins : (n : ℕ) → is_printable n ≡ true → eqb 33 n ≡ false → (bs : List ℕ)
    → begins n (without_cr (readable bs)) ≡ begins n bs
read_begins n ok wrong bs =
    begins_starts n (without_cr (readable bs))
    ∙ read_front (λ b. eqb b n) (λ b k. test_not (λ m. not (is_printable m)) b n (rw k refl) (rw ok refl)) wrong bs
    ∙ sym (begins_starts n bs)

gap_read : (text : List ℕ) → begins_gap text ≡ false → begins_gap (without_cr (readable text)) ≡ false
unfolding readable
gap_read [] h = refl
gap_read (b ∷ bs) h =
    by_test (is_allowed b bs)
    (λ ok.
    by_test (eqb b 13) (λ cr. absurd (let z : true ≡ false = ap begins_gap (sym (cr_front b bs ok cr)) ∙ h in cc))
    (λ unlike. rw (ok, unlike, read_begins 42 refl refl bs, unlike) (rw unlike at h)))
    (λ bad. rw bad refl)

word_is_printable : (b : ℕ) → is_word b ≡ true → is_printable b ≡ true
unfolding is_word
word_is_printable b h = plain_printable b h

printable_if_word : (b : ℕ) → is_printable b ≡ false → is_word b ≡ false
printable_if_word b h =
    by_test (is_word b) (λ k. absurd (let z : true ≡ false = sym (word_is_printable b k) ∙ h in cc)) (λ k. k)

word_read : (word behind : List ℕ) → list_all is_word word ≡ true
    → without_cr (readable (word ++ behind)) ≡ word ++ without_cr (readable behind)
word_read word behind h =
    let printable = all_kept is_word is_printable word_is_printable word h in
    ap without_cr (readable_row word behind printable)
    ∙ filter-append (λ (b : ℕ). not (eqb b 13)) word (readable behind)
    ∙ ap (λ (t : List ℕ). t ++ without_cr (readable behind)) (printable-no_cr word printable)

-- ---- the word at the front of pieces

abbrev word_of : List Piece → Option (List ℕ)
word_of (Plain w ∷ ps) = Some w
word_of _ = None

first_same : (x y : ℕ) (xs ys : List ℕ) → x ∷ xs ≡ y ∷ ys → (x ≡ y) × (xs ≡ ys)
first_same x y xs ys e = (cc, cc)

no_byte : (b c : ℕ) → b ≡ c → is_word b ≡ false → is_word c ≡ true → ⊥
no_byte b c e h k = let z : false ≡ true = sym h ∙ ap is_word e ∙ k in cc

first_no_word : (b : ℕ) (bs ys vs : List ℕ) → is_word b ≡ false → list_all is_word ys ≡ true → b ∷ bs ≡ ys ++ vs
    → ys ≡ []
first_no_word b bs [] vs h k e = refl
first_no_word b bs (y ∷ ys) vs h k e =
    absurd (no_byte b y (first_same b y bs (ys ++ vs) e).0 h (and_parts (is_word y) (list_all is_word ys) k).0)

cut_same : (xs us ys vs : List ℕ) → list_all is_word xs ≡ true → starts is_word us ≡ false → list_all is_word ys ≡ true
    → starts is_word vs ≡ false → xs ++ us ≡ ys ++ vs → (xs ≡ ys) × (us ≡ vs)
cut_same [] us [] vs h f k g e = (refl, e)
cut_same [] us (y ∷ ys) vs h f k g e =
    absurd (let z : false ≡ true = sym f ∙ ap (starts is_word) e ∙ (and_parts (is_word y) (list_all is_word ys) k).0 in
    cc)
cut_same (x ∷ xs) us [] vs h f k g e =
    absurd (let z : false ≡ true =
    sym g ∙ ap (starts is_word) (sym e) ∙ (and_parts (is_word x) (list_all is_word xs) h).0 in
    cc)
cut_same (x ∷ xs) us (y ∷ ys) vs h f k g e =
    let s = first_same x y (xs ++ us) (ys ++ vs) e in
    let r =
    cut_same xs us ys vs (and_parts (is_word x) (list_all is_word xs) h).1 f
    (and_parts (is_word y) (list_all is_word ys) k).1 g s.1 in
    (rw (s.0, r.0) refl, r.1)

-- the word here, if one stands here
abbrev leading : List ℕ → List ℕ → Option (List ℕ)
leading word behind =
    cond (eqb (length word) 0) None (cond (bytes_eq word (88 ∷ []) && begins 39 behind) None (Some word))

leading_some : (word behind : List ℕ) → (length word ≡ 0 → ⊥) → (bytes_eq word (88 ∷ []) && begins 39 behind) ≡ false
    → leading word behind ≡ Some word
leading_some word behind some other = rw (ne_eqb (length word) 0 some, other) refl

none_leads : (word behind : List ℕ) → word ≡ [] → None ≡ leading word behind
none_leads word behind e = rw e refl

x_leads : (word behind : List ℕ) → word ≡ 88 ∷ [] → begins 39 behind ≡ true → None ≡ leading word behind
x_leads word behind e q = rw (e, q) refl

word_88 : list_all is_word (88 ∷ []) ≡ true
unfolding is_word
word_88 = refl

sign_no_word : (t : Token) → is_piece (Sign t) ≡ true → is_word (sign t) ≡ false
unfolding is_word
sign_no_word Open h = refl
sign_no_word Close h = refl
sign_no_word Comma h = refl
sign_no_word Equals h = refl
sign_no_word _ h = absurd cc

marks : (is_word 32 ≡ false) × (is_word 10 ≡ false) × (is_word 39 ≡ false) × (is_word 47 ≡ false)
unfolding is_word
marks = (refl, refl, refl, refl)

stray_no_word : (b : ℕ) → is_piece (StrayByte b) ≡ true → is_word b ≡ false
stray_no_word b h =
    neither (is_word b) (is_mark b)
    (not_true (is_word b || is_mark b) (and_parts (is_printable b) (not (is_word b || is_mark b)) h).1)
  where
    neither : (x y : Bool) → (x || y) ≡ false → x ≡ false
    neither true y e = absurd cc
    neither false y e = refl

-- a word stands before no other byte of a word, and as X before no quote
plain_ends : (w t : List ℕ) → followed_by (Plain w) t ≡ true
    → (starts is_word t ≡ false) × ((bytes_eq w (88 ∷ []) && begins 39 t) ≡ false)
plain_ends w [] h = (refl, none (bytes_eq w (88 ∷ [])))
  where
    none : (x : Bool) → (x && false) ≡ false
    none true = refl
    none false = refl
plain_ends w (b ∷ bs) h =
    let k = and_parts (not (is_word b)) (not (eqb b 39 && bytes_eq w (88 ∷ []))) h in
    (not_true (is_word b) k.0, swap (eqb b 39) (bytes_eq w (88 ∷ [])) (not_true (eqb b 39 && bytes_eq w (88 ∷ [])) k.1))
  where
    swap : (x y : Bool) → (x && y) ≡ false → (y && x) ≡ false
    swap true true h = h
    swap true false h = refl
    swap false true h = refl
    swap false false h = refl

some_length : (w : List ℕ) → is_nonempty w ≡ true → length w ≡ 0 → ⊥
some_length [] h e = cc
some_length (b ∷ bs) h e = omega (arith, e)

module _ (word behind : List ℕ) (every : list_all is_word word ≡ true) (ends : starts is_word behind ≡ false) where
  -- no word stands before such a byte
  other : (b : ℕ) (bs : List ℕ) → is_word b ≡ false → b ∷ bs ≡ word ++ behind → None ≡ leading word behind
  other b bs h e = none_leads word behind (first_no_word b bs word behind h every e)

  x_quote : (bs : List ℕ) → 88 ∷ 39 ∷ bs ≡ word ++ behind → None ≡ leading word behind
  x_quote bs e =
      let k = cut_same (88 ∷ []) (39 ∷ bs) word behind word_88 marks.2 every ends e in
      x_leads word behind (sym k.0) (ap (begins 39) (sym k.1))

  plain : (w : List ℕ) (ps : List Piece) → is_piece (Plain w) ≡ true → followed_by (Plain w) (spelled ps) ≡ true
      → w ++ spelled ps ≡ word ++ behind → Some w ≡ leading word behind
  plain w ps is f e =
      let p = and_parts (is_nonempty w) (list_all is_word w) is in
      let t = plain_ends w (spelled ps) f in
      let k = cut_same w (spelled ps) word behind p.1 t.0 every ends e in
      sym (leading_some w (spelled ps) (some_length w p.0) t.1) ∙ rw (k.0, k.1) refl

  leads : (ps : List Piece) → are_pieces ps ≡ true → spelled ps ≡ word ++ behind → word_of ps ≡ leading word behind
  leads [] h e = go word e
    where
      go : (w : List ℕ) → [] ≡ w ++ behind → None ≡ leading w behind
      go [] k = refl
      go (x ∷ xs) k = absurd cc
  leads (Plain w ∷ ps) h e =
      let k = and_parts (is_piece (Plain w)) (followed_by (Plain w) (spelled ps) && are_pieces ps) h in
      plain w ps k.0 (and_parts (followed_by (Plain w) (spelled ps)) (are_pieces ps) k.1).0 e
  leads (Quoted n ∷ ps) h e = other 39 _ marks.2 e
  leads (Hexed ds ∷ ps) h e = x_quote _ e
  leads (Sign t ∷ ps) h e =
      other (sign t) _
      (sign_no_word t (and_parts (is_piece (Sign t)) (followed_by (Sign t) (spelled ps) && are_pieces ps) h).0) e
  leads (Blank ∷ ps) h e = other 32 _ marks.0 e
  leads (Comment c ∷ ps) h e = other 47 _ marks.3 e
  leads (LineEnd ∷ ps) h e = other 10 _ marks.1 e
  leads (LoneSlash ∷ ps) h e = other 47 _ marks.3 e
  leads (StrayByte b ∷ ps) h e =
      other b _ (stray_no_word b
      (and_parts (is_piece (StrayByte b)) (followed_by (StrayByte b) (spelled ps) && are_pieces ps) h).0)
      e
  leads (OpenQuote n ∷ ps) h e = other 39 _ marks.2 e
  leads (OpenHexed ds ∷ ps) h e = x_quote _ e
  leads (OpenComment c ∷ ps) h e = other 47 _ marks.3 e

-- ---- the first token stays the first

-- the tokens of the first line, where these are those of the line that stands open
abbrev heads : List TokenLine → List Token → List Token
heads [] ts = ts
heads (l ∷ ls) ts = l.tokens

module _ (t : Token) where
  abbrev Leads : Place → Type 0
  Leads p = (ts : List Token) × (heads p.lines p.tokens ≡ t ∷ ts)

  token_more : (u : Token) (ls : List TokenLine) (us : List Token) → (ts : List Token) × (heads ls us ≡ t ∷ ts)
      → (ts : List Token) × (heads ls (us ++ u ∷ []) ≡ t ∷ ts)
  token_more u [] us h = (h.0 ++ u ∷ [], ap (λ (x : List Token). x ++ u ∷ []) h.1)
  token_more u (l ∷ ls) us h = h

  -- the same lines, and one token more
  with_more : (u : Token) (p q : Place) → q.lines ≡ p.lines → q.tokens ≡ p.tokens ++ u ∷ [] → Leads p → Leads q
  with_more u p q lines tokens h = rw (lines, tokens) (token_more u p.lines p.tokens h)

  line_more : (at : ℕ) (us : List Token) (joined : Bool) (ls : List TokenLine)
      → (ts : List Token) × (heads ls us ≡ t ∷ ts)
      → (ts : List Token) × (heads (lines_with at us joined ls) [] ≡ t ∷ ts)
  line_more at [] joined [] h = absurd (let z : [] ≡ t ∷ h.0 = h.1 in cc)
  line_more at (u ∷ us) joined [] h =
      let some : eqb (length (u ∷ us)) 0 ≡ false = ne_eqb (length (u ∷ us)) 0 (λ e. omega (arith, e)) in rw some h
  line_more at us joined (l ∷ ls) h = go (eqb (length us) 0)
    where
      go : (none : Bool)
          → (ts : List Token)
          × (heads (cond none (l ∷ ls) ((l ∷ ls) ++ record { at = at; tokens = us; joined = joined } ∷ [])) [] ≡ t ∷ ts)
      go true = h
      go false = h

  ended : (p : Place) → Leads p → Leads (next_line p)
  ended p h = line_more p.line p.tokens p.joined p.lines h

  over_more : (c : List ℕ) (p : Place) → Leads p → Leads (over c p)
  over_more [] p h = h
  over_more (b ∷ bs) p h = over_more bs (cond (eqb b 10) (next_line p) p) (go (eqb b 10))
    where
      go : (lf : Bool) → Leads (cond lf (next_line p) p)
      go true = ended p h
      go false = h

  open_more : (c : List ℕ) (p : Place) → Leads p → Leads (over_open c p)
  open_more c p h =
      with_more Unclosed (next_line (over c (record p { near = false }))) (over_open c p) refl refl
      (ended (over c (record p { near = false })) (over_more c (record p { near = false }) h))

  sign_more : (u : Token) (p : Place) → Leads p → Leads (past (Sign u) p)
  sign_more Open p h = with_more Open p (past (Sign Open) p) refl refl h
  sign_more (Word w) p h = with_more (Word w) p (past (Sign (Word w)) p) refl refl h
  sign_more (Name w) p h = with_more (Name w) p (past (Sign (Name w)) p) refl refl h
  sign_more Close p h = with_more Close p (past (Sign Close) p) refl refl h
  sign_more Comma p h = with_more Comma p (past (Sign Comma) p) refl refl h
  sign_more Equals p h = with_more Equals p (past (Sign Equals) p) refl refl h
  sign_more Stray p h = with_more Stray p (past (Sign Stray) p) refl refl h
  sign_more Unclosed p h = with_more Unclosed p (past (Sign Unclosed) p) refl refl h

  piece_more : (q : Piece) (p : Place) → Leads p → Leads (past q p)
  piece_more (Plain w) p h = with_more (Word w) p (past (Plain w) p) refl refl h
  piece_more (Quoted n) p h = with_more (Name n) p (past (Quoted n) p) refl refl h
  piece_more (Hexed ds) p h = with_more (hex_token ds) p (past (Hexed ds) p) refl refl h
  piece_more (Sign u) p h = sign_more u p h
  piece_more Blank p h = h
  piece_more (Comment c) p h = over_more c (record p { near = false }) h
  piece_more LineEnd p h = ended p h
  piece_more LoneSlash p h = with_more Stray p (past LoneSlash p) refl refl h
  piece_more (StrayByte b) p h = with_more Stray p (past (StrayByte b) p) refl refl h
  piece_more (OpenQuote n) p h = with_more Stray p (past (OpenQuote n) p) refl refl h
  piece_more (OpenHexed ds) p h = with_more Stray p (past (OpenHexed ds) p) refl refl h
  piece_more (OpenComment c) p h = open_more c p h

  pieces_more : (qs : List Piece) (p : Place) → Leads p → Leads (past_all qs p)
  pieces_more [] p h = h
  pieces_more (q ∷ qs) p h = pieces_more qs (past q p) (piece_more q p h)

  first_is : (ls : List TokenLine) → (ts : List Token) × (heads ls [] ≡ t ∷ ts) → first_word ls ≡ word_in t
  first_is [] h = absurd (let z : [] ≡ t ∷ h.0 = h.1 in cc)
  first_is (l ∷ ls) h = ap front_word h.1

  led : (qs : List Piece) (p : Place) → Leads p → first_word (next_line (past_all qs p)).lines ≡ word_in t
  led qs p h = first_is (next_line (past_all qs p)).lines (ended (past_all qs p) (pieces_more qs p h))

hex_no_word : (ds : List ℕ) → word_in (hex_token ds) ≡ None
hex_no_word ds = go (is_hexed ds)
  where
    go : (x : Bool) → word_in (cond x (Name (unhex ds)) Stray) ≡ None
    go true = refl
    go false = refl

-- the place where the first piece is no gap
said : (ps : List Piece) (line : ℕ) → are_pieces ps ≡ true → begins_gap (spelled ps) ≡ false
    → first_word (next_line (past_all ps (fresh_place line []))).lines ≡ word_of ps
said [] line h gap = refl
said (Plain w ∷ ps) line h gap = led (Word w) ps (past (Plain w) (fresh_place line [])) ([], refl)
said (Quoted n ∷ ps) line h gap = led (Name n) ps (past (Quoted n) (fresh_place line [])) ([], refl)
said (Hexed ds ∷ ps) line h gap =
    led (hex_token ds) ps (past (Hexed ds) (fresh_place line [])) ([], refl) ∙ hex_no_word ds
said (Sign Open ∷ ps) line h gap = led Open ps (past (Sign Open) (fresh_place line [])) ([], refl)
said (Sign Close ∷ ps) line h gap = led Close ps (past (Sign Close) (fresh_place line [])) ([], refl)
said (Sign Comma ∷ ps) line h gap = led Comma ps (past (Sign Comma) (fresh_place line [])) ([], refl)
said (Sign Equals ∷ ps) line h gap = led Equals ps (past (Sign Equals) (fresh_place line [])) ([], refl)
said (Sign _ ∷ ps) line h gap = absurd cc
said (Blank ∷ ps) line h gap = absurd cc
said (Comment c ∷ ps) line h gap = absurd cc
said (LineEnd ∷ ps) line h gap = absurd cc
said (LoneSlash ∷ ps) line h gap = led Stray ps (past LoneSlash (fresh_place line [])) ([], refl)
said (StrayByte b ∷ ps) line h gap = led Stray ps (past (StrayByte b) (fresh_place line [])) ([], refl)
said (OpenQuote n ∷ ps) line h gap = led Stray ps (past (OpenQuote n) (fresh_place line [])) ([], refl)
said (OpenHexed ds ∷ ps) line h gap = led Stray ps (past (OpenHexed ds) (fresh_place line [])) ([], refl)
said (OpenComment c ∷ ps) line h gap = absurd cc

-- ---- the word that comes

wrong_word : is_word 33 ≡ false
unfolding is_word
wrong_word = refl

comes_apart : (line : ℕ) (text word behind : List ℕ) → begins_gap text ≡ false → IsSplit is_word text word behind
    → first_word (to_come line None text) ≡ leading word behind
unfolding to_come
comes_apart line text word behind gap s =
    let k = found_pieces (without_cr (readable text)) (readable_ok text) in
    let back = without_cr (readable behind) in
    let parts : spelled k.0 ≡ word ++ back =
    sym k.1 ∙ ap (λ (t : List ℕ). without_cr (readable t)) s.parts ∙ word_read word behind s.every in
    ap first_word (read_said (at_row line None) (readable text) (readable_ok text))
    ∙ said k.0 line k.2 (subst (λ (t : List ℕ). begins_gap t ≡ false) k.1 (gap_read text gap))
    ∙ leads word back s.every (read_front is_word printable_if_word wrong_word behind ∙ s.ends) k.0 k.2 parts
    ∙ ap (λ (q : Bool). cond (eqb (length word) 0) None (cond (bytes_eq word (88 ∷ []) && q) None (Some word)))
    (read_begins 39 refl refl behind)

comes_inside : (line begun : ℕ) (text : List ℕ) → ends_text text ≡ true
    → first_word (to_come line (Some begun) text) ≡ None
unfolding to_come readable scan_from step step_in begin begin_word is_word put finish_in end_line
comes_inside line begun [] h = refl
comes_inside line begun (b ∷ bs) h = rw (not_true (is_allowed b bs) h) refl

pub none_inside : (at : Cursor) → is_some at.begun ≡ true → is_at_token at.begun at.rest.now ≡ true
    → None ≡ first_word (coming at)
none_inside at inside there =
    let k = some_of at.begun inside in rw k.1 (sym (comes_inside at.line k.0 at.rest.now (rw k.1 at there)))

word_apart : (at : Cursor) (word behind : List ℕ) → is_some at.begun ≡ false → is_at_token at.begun at.rest.now ≡ true
    → IsSplit is_word at.rest.now word behind → first_word (coming at) ≡ leading word behind
word_apart at word behind apart there s =
    let none = none_of at.begun apart in
    rw none (comes_apart at.line at.rest.now word behind (not_true (begins_gap at.rest.now) (rw none at there)) s)

module _ (at : Cursor) (word behind : List ℕ) (apart : is_some at.begun ≡ false)
    (there : is_at_token at.begun at.rest.now ≡ true) (s : IsSplit is_word at.rest.now word behind) where
  pub none_apart : length word ≡ 0 → None ≡ first_word (coming at)
  none_apart h = none_leads word behind (nil_of word h) ∙ sym (word_apart at word behind apart there s)

  pub hexed_apart : (bytes_eq word (88 ∷ []) && begins 39 behind) ≡ true → None ≡ first_word (coming at)
  hexed_apart h = go (eqb (length word) 0) ∙ sym (word_apart at word behind apart there s)
    where
      go : (x : Bool) → None ≡ cond x None (cond (bytes_eq word (88 ∷ []) && begins 39 behind) None (Some word))
      go true = refl
      go false = rw h refl

  pub some_apart : (length word ≡ 0 → ⊥) → (bytes_eq word (88 ∷ []) && begins 39 behind) ≡ false
      → Some word ≡ first_word (coming at)
  some_apart some other = sym (leading_some word behind some other) ∙ sym (word_apart at word behind apart there s)

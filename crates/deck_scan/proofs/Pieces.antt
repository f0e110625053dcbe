-- One piece at the front of a text.
use Rattle.std.proofs.Common.{◌≡◌, ℕ, ◌+◌, ◌≤◌, suc, Bool, true, false, cond, not, eqb, ltb, List, [], ◌∷◌, ◌++◌}
use Rattle.std.proofs.Common.{length, take, drop, length-drop, ◌-◌, Some, None, refl, sym, ap, subst, ◌∙◌, append_assoc}
use Rattle.std.proofs.Common.{append-nil, arith}
use Rattle.std.specs.Prelude.{◌&&◌, ◌||◌, ◌==◌, position}
use Rattle.std.specs.Str.{bytes_eq}
use Rattle.std.specs.List.{list_all, position_or_len}
use Rattle.std.proofs.lemmas.Bool.{eqb-true, and_from, and_parts, ltb-false}
use Rattle.std.proofs.lemmas.List.{take_all}
use Rattle.std.proofs.lemmas.List.Folds.{list_all-append}
use Rattle.grs_base.specs.Printed.{is_printable, quotes_doubled}
use Rattle.deck_scan.specs.declared.token.Token.TheVariants.{Word, Name, Open, Close, Comma, Equals, Stray}
use Rattle.deck_scan.specs.declared.row.ScannedLine.{ScannedLine}
use Rattle.deck_scan.specs.Bytes.{begins, is_word}
use Rattle.deck_scan.specs.Pieces.{Piece, Plain, Quoted, Hexed, Sign, Blank, Comment, LoneSlash, StrayByte, OpenQuote}
use Rattle.deck_scan.specs.Pieces.{OpenHexed, spelling, has_no_end, is_in_comment, is_between_quotes, is_mark}
use Rattle.deck_scan.specs.Pieces.{is_single, is_nonempty, is_piece, may_follow, followed_by, hex_token, Place, over}
use Rattle.deck_scan.specs.Pieces.{apart, past}
use Rattle.deck_scan.specs.Rows.{row_with, after_mark, starts, is_no_quote, is_doubled, closes_name, IsSplit, Unquotes}
use Rattle.deck_scan.specs.Rows.{Takes, ClosesComment, place}
use Rattle.deck_scan.proofs.Said.{not_true, test_not, lf_is_no_word}
use Rattle.deck_scan.proofs.Found.{by_test}

-- ---- a text cut before the first byte of another kind

module _ (p : ℕ → Bool) where
  split_front : (text : List ℕ)
      → IsSplit p text (take (position_or_len (λ b. not (p b)) text) text)
      (drop (position_or_len (λ b. not (p b)) text) text)
  split_front [] = record { parts = refl; every = refl; ends = refl }
  split_front (b ∷ bs) = go (p b) refl (split_front bs)
    where
      n : ℕ
      n = position_or_len (λ b. not (p b)) bs

      At : ℕ → Type 0
      At k = IsSplit p (b ∷ bs) (take k (b ∷ bs)) (drop k (b ∷ bs))

      go : (x : Bool) → p b ≡ x → IsSplit p bs (take n bs) (drop n bs) → At (cond (not (not x)) (1 + n) 0)
      go true e k =
          let next : 1 + n ≡ suc n = omega arith in
          subst At (sym next) (record {
            parts = ap (λ (t : List ℕ). b ∷ t) k.parts;
            every = and_from (p b) (list_all p (take n bs)) e k.every;
            ends = k.ends;
          })
      go false e k = record { parts = refl; every = refl; ends = e }

  pub split_some : (text : List ℕ) (i : ℕ) → position (λ b. not (p b)) text ≡ Some i
      → IsSplit p text (take i text) (drop i text)
  split_some text i h = go (ltb n (length text)) h
    where
      n : ℕ
      n = position_or_len (λ b. not (p b)) text

      go : (x : Bool) → cond x (Some n) None ≡ Some i → IsSplit p text (take i text) (drop i text)
      go true e =
          let same : n ≡ i = cc in subst (λ (k : ℕ). IsSplit p text (take k text) (drop k text)) same (split_front text)
      go false e = absurd cc

  pub split_none : (text : List ℕ) → position (λ b. not (p b)) text ≡ None → IsSplit p text text []
  split_none text h = go (ltb n (length text)) refl h
    where
      n : ℕ
      n = position_or_len (λ b. not (p b)) text

      go : (x : Bool) → ltb n (length text) ≡ x → cond x (Some n) None ≡ None → IsSplit p text text []
      go true e k = absurd cc
      go false e k =
          let long : length text ≤ n = ltb-false n (length text) e in
          record {
            parts = sym (append-nil text);
            every = subst (λ (t : List ℕ). list_all p t ≡ true) (take_all n text long) (split_front text).every;
            ends = refl;
          }

-- both parts of a text are of a kind
pub all_parts : (p : ℕ → Bool) (text front back : List ℕ) → text ≡ front ++ back → list_all p text ≡ true
    → (list_all p front ≡ true) × (list_all p back ≡ true)
all_parts p text front back is h =
    and_parts (list_all p front) (list_all p back)
    (sym (list_all-append p front back) ∙ subst (λ (t : List ℕ). list_all p t ≡ true) is h)

pub nil_of : {A : Type 0} (xs : List A) → length xs ≡ 0 → xs ≡ []
nil_of [] h = refl
nil_of (x ∷ xs) h = absurd (omega (arith, h))

-- ---- quoted names

no_quotes : (n : List ℕ) → list_all is_no_quote n ≡ true → quotes_doubled n ≡ n
no_quotes [] h = refl
no_quotes (b ∷ bs) h =
    let k = and_parts (is_no_quote b) (list_all is_no_quote bs) h in
    rw (not_true (eqb b 39) k.0) (ap (λ (t : List ℕ). b ∷ t) (no_quotes bs k.1))

quotes_doubled-append : (xs ys : List ℕ) → quotes_doubled (xs ++ ys) ≡ quotes_doubled xs ++ quotes_doubled ys
quotes_doubled-append [] ys = refl
quotes_doubled-append (x ∷ xs) ys = go (eqb x 39) (quotes_doubled-append xs ys)
  where
    go : (q : Bool) → quotes_doubled (xs ++ ys) ≡ quotes_doubled xs ++ quotes_doubled ys
        → cond q (39 ∷ 39 ∷ quotes_doubled (xs ++ ys)) (x ∷ quotes_doubled (xs ++ ys))
        ≡ cond q (39 ∷ 39 ∷ quotes_doubled xs) (x ∷ quotes_doubled xs) ++ quotes_doubled ys
    go true h = ap (λ (t : List ℕ). 39 ∷ 39 ∷ t) h
    go false h = ap (λ (t : List ℕ). x ∷ t) h

-- the byte before which a text was cut is a quote
quote_here : (b : ℕ) → is_no_quote b ≡ false → b ≡ 39
quote_here b h = go (eqb b 39) refl h
  where
    go : (x : Bool) → eqb b 39 ≡ x → not x ≡ false → b ≡ 39
    go true e k = eqb-true b 39 e
    go false e k = absurd cc

closes_here : (back : List ℕ) → starts is_no_quote back ≡ false → is_doubled back ≡ false → closes_name back ≡ true
closes_here [] h d = refl
closes_here (b ∷ bs) h d = rw (quote_here b h, d) refl

pub unquotes : (text front back : List ℕ) → list_all is_printable text ≡ true → IsSplit is_no_quote text front back
    → is_doubled back ≡ false → Unquotes text front back
unquotes text front back ok s d = record {
  parts = s.parts ∙ ap (λ (t : List ℕ). t ++ back) (sym (no_quotes front s.every));
  every = (all_parts is_printable text front back s.parts ok).0;
  ends = closes_here back s.ends d;
}

-- a part of a quoted name was made, and this rest of it is still to be read
pub record Undoubled (text name rest : List ℕ) : Type 0 where
  pub parts : text ≡ quotes_doubled name ++ rest
  pub every : list_all is_printable name ≡ true
  pub printable : list_all is_printable rest ≡ true

undoubled_part : (text name rest part back : List ℕ) → IsSplit is_no_quote rest part back → Undoubled text name rest
    → (text ≡ quotes_doubled (name ++ part) ++ back) × (list_all is_printable (name ++ part) ≡ true)
undoubled_part text name rest part back s h =
    let both = all_parts is_printable rest part back s.parts h.printable in (
      h.parts
          ∙ ap (λ (t : List ℕ). quotes_doubled name ++ t)
          (s.parts ∙ ap (λ (t : List ℕ). t ++ back) (sym (no_quotes part s.every)))
          ∙ sym (append_assoc (quotes_doubled name) (quotes_doubled part) back)
          ∙ ap (λ (t : List ℕ). t ++ back) (sym (quotes_doubled-append name part)),
      list_all-append is_printable name part
          ∙ and_from (list_all is_printable name) (list_all is_printable part) h.every both.0,
    )

pub undoubled_end : (text name rest part back new : List ℕ) → IsSplit is_no_quote rest part back
    → is_doubled back ≡ false → new ≡ name ++ part → Undoubled text name rest → Unquotes text new back
undoubled_end text name rest part back new s d is h =
    let k = undoubled_part text name rest part back s h in
    rw is (record { parts = k.0; every = k.1; ends = closes_here back s.ends d })

two_quotes : (back : List ℕ) → starts is_no_quote back ≡ false → is_doubled back ≡ true → back ≡ 39 ∷ 39 ∷ drop 2 back
two_quotes [] h d = absurd cc
two_quotes (b ∷ []) h d = absurd cc
two_quotes (b ∷ c ∷ bs) h d = rw (quote_here b h, eqb-true c 39 d) refl

pub undoubled_more : (text name rest part back new : List ℕ) → IsSplit is_no_quote rest part back
    → is_doubled back ≡ true → new ≡ (name ++ part) ++ 39 ∷ [] → Undoubled text name rest
    → Undoubled text new (drop 2 back)
undoubled_more text name rest part back new s d is h =
    let k = undoubled_part text name rest part back s h in
    let two = two_quotes back s.ends d in
    let tail = (all_parts is_printable rest part back s.parts h.printable).1 in
    rw is (record {
      parts =
          k.0
          ∙ ap (λ (t : List ℕ). quotes_doubled (name ++ part) ++ t) two
          ∙ sym (append_assoc (quotes_doubled (name ++ part)) (39 ∷ 39 ∷ []) (drop 2 back))
          ∙ ap (λ (t : List ℕ). t ++ drop 2 back) (sym (quotes_doubled-append (name ++ part) (39 ∷ [])));
      every =
          list_all-append is_printable (name ++ part) (39 ∷ [])
          ∙ and_from (list_all is_printable (name ++ part)) true k.1 refl;
      printable = (all_parts is_printable back (39 ∷ 39 ∷ []) (drop 2 back) two tail).1;
    })

any_follows : (p : Piece) → ((b : ℕ) → may_follow p b ≡ true) → (rest : List ℕ) → followed_by p rest ≡ true
any_follows p h [] = refl
any_follows p h (b ∷ bs) = h b

pub takes_open_quote : (text : List ℕ) (old : ScannedLine) (name back : List ℕ) (new : ScannedLine)
    → Unquotes text name back
    → length back ≡ 0 → new ≡ row_with Stray old → Takes (39 ∷ text) old back new
takes_open_quote text old name back new u none is = record {
  piece = OpenQuote name;
  is = u.every;
  parts = ap (λ (t : List ℕ). 39 ∷ t) u.parts;
  follows = rw (nil_of back none) refl;
  ends = refl;
  says = λ line. ap (place line) is;
  begun = ap (λ (r : ScannedLine). r.begun) is;
}

pub takes_quoted : (text : List ℕ) (old : ScannedLine) (name back behind : List ℕ) (b : ℕ) (new : ScannedLine)
    → Unquotes text name back
    → back ≡ b ∷ behind → new ≡ row_with (Name name) old → Takes (39 ∷ text) old behind new
takes_quoted text old name back behind b new u front is =
    let closes : (eqb b 39 && not (begins 39 behind)) ≡ true =
    subst (λ (t : List ℕ). closes_name t ≡ true) front u.ends in
    let k = and_parts (eqb b 39) (not (begins 39 behind)) closes in
    record {
      piece = Quoted name;
      is = u.every;
      parts =
          ap (λ (t : List ℕ). 39 ∷ t) (u.parts
          ∙ ap (λ (t : List ℕ). quotes_doubled name ++ t) (front ∙ ap (λ (c : ℕ). c ∷ behind) (eqb-true b 39 k.0))
          ∙ sym (append_assoc (quotes_doubled name) (39 ∷ []) behind));
      follows = follows behind (not_true (begins 39 behind) k.1);
      ends = refl;
      says = λ line. ap (place line) is;
      begun = ap (λ (r : ScannedLine). r.begun) is;
    }
  where
    follows : (t : List ℕ) → begins 39 t ≡ false → followed_by (Quoted name) t ≡ true
    follows [] h = refl
    follows (c ∷ cs) h = rw h refl

-- ---- hexadecimal names

between_all : (ds : List ℕ) → list_all is_printable ds ≡ true → list_all is_no_quote ds ≡ true
    → list_all is_between_quotes ds ≡ true
between_all [] h k = refl
between_all (b ∷ bs) h k =
    let a = and_parts (is_printable b) (list_all is_printable bs) h in
    let c = and_parts (is_no_quote b) (list_all is_no_quote bs) k in
    and_from (is_between_quotes b) (list_all is_between_quotes bs) (and_from (is_printable b) (is_no_quote b) a.0 c.0)
    (between_all bs a.1 c.1)

pub takes_open_hexed : (text : List ℕ) (old : ScannedLine) (ds back : List ℕ) (new : ScannedLine)
    → IsSplit is_no_quote text ds back
    → list_all is_printable text ≡ true → length back ≡ 0 → new ≡ row_with Stray old
    → Takes (88 ∷ 39 ∷ text) old back new
takes_open_hexed text old ds back new s ok none is = record {
  piece = OpenHexed ds;
  is = between_all ds (all_parts is_printable text ds back s.parts ok).0 s.every;
  parts = ap (λ (t : List ℕ). 88 ∷ 39 ∷ t) s.parts;
  follows = rw (nil_of back none) refl;
  ends = refl;
  says = λ line. ap (place line) is;
  begun = ap (λ (r : ScannedLine). r.begun) is;
}

pub takes_hexed : (text : List ℕ) (old : ScannedLine) (ds back behind : List ℕ) (b : ℕ) (new : ScannedLine)
    → IsSplit is_no_quote text ds back → list_all is_printable text ≡ true → back ≡ b ∷ behind
    → new ≡ row_with (hex_token ds) old → Takes (88 ∷ 39 ∷ text) old behind new
takes_hexed text old ds back behind b new s ok front is =
    let quote : b ≡ 39 = quote_here b (subst (λ (t : List ℕ). starts is_no_quote t ≡ false) front s.ends) in
    record {
      piece = Hexed ds;
      is = between_all ds (all_parts is_printable text ds back s.parts ok).0 s.every;
      parts =
          ap (λ (t : List ℕ). 88 ∷ 39 ∷ t) (s.parts
          ∙ ap (λ (t : List ℕ). ds ++ t) (front ∙ ap (λ (c : ℕ). c ∷ behind) quote)
          ∙ sym (append_assoc ds (39 ∷ []) behind));
      follows = any_follows (Hexed ds) (λ c. refl) behind;
      ends = refl;
      says = λ line. ap (place line) is;
      begun = ap (λ (r : ScannedLine). r.begun) is;
    }

-- ---- words

pub takes_stray : (text : List ℕ) (old : ScannedLine) (b : ℕ) (tail word rest : List ℕ) (new : ScannedLine)
    → IsSplit is_word text word rest → length word ≡ 0 → text ≡ b ∷ tail → list_all is_printable text ≡ true
    → is_mark b ≡ false
    → new ≡ row_with Stray old → Takes text old tail new
takes_stray text old b tail word rest new s none front ok mark is =
    let here : rest ≡ b ∷ tail = sym (s.parts ∙ ap (λ (t : List ℕ). t ++ rest) (nil_of word none)) ∙ front in
    let no_word : is_word b ≡ false = subst (λ (t : List ℕ). starts is_word t ≡ false) here s.ends in
    let printable : is_printable b ≡ true =
    (and_parts (is_printable b) (list_all is_printable tail)
    (subst (λ (t : List ℕ). list_all is_printable t ≡ true) front ok)).0 in
    record {
      piece = StrayByte b;
      is = and_from (is_printable b) (not (is_word b || is_mark b)) printable (rw (no_word, mark) refl);
      parts = front;
      follows = any_follows (StrayByte b) (λ c. refl) tail;
      ends = refl;
      says = λ line. ap (place line) is;
      begun = ap (λ (r : ScannedLine). r.begun) is;
    }

pub takes_word : (text : List ℕ) (old : ScannedLine) (word rest : List ℕ) (new : ScannedLine)
    → IsSplit is_word text word rest
    → (length word ≡ 0 → ⊥) → (bytes_eq word (88 ∷ []) && begins 39 rest) ≡ false
    → new ≡ record (row_with (Word word) old) { near = length old.tokens == 0 } → Takes text old rest new
takes_word text old word rest new s some x is = record {
  piece = Plain word;
  is = and_from (is_nonempty word) (list_all is_word word) (nonempty word some) s.every;
  parts = s.parts;
  follows = follows rest s.ends x;
  ends = rw lf_is_no_word refl;
  says = λ line. ap (place line) is;
  begun = ap (λ (r : ScannedLine). r.begun) is;
}
  where
    nonempty : (w : List ℕ) → (length w ≡ 0 → ⊥) → is_nonempty w ≡ true
    nonempty [] h = absurd (h refl)
    nonempty (b ∷ bs) h = refl

    swap : (x y : Bool) → (x && y) ≡ false → (y && x) ≡ false
    swap true true h = h
    swap true false h = refl
    swap false true h = refl
    swap false false h = refl

    follows : (t : List ℕ) → starts is_word t ≡ false → (bytes_eq word (88 ∷ []) && begins 39 t) ≡ false
        → followed_by (Plain word) t ≡ true
    follows [] h x = refl
    follows (b ∷ bs) h x = rw (h, swap (bytes_eq word (88 ∷ [])) (eqb b 39) x) refl

-- X and a quote begin a hexadecimal name
pub hexed_front : (text word rest : List ℕ) → IsSplit is_word text word rest → word ≡ 88 ∷ [] → begins 39 rest ≡ true
    → text ≡ 88 ∷ 39 ∷ drop 1 rest
hexed_front text word [] s x q = absurd cc
hexed_front text word (b ∷ bs) s x q =
    s.parts ∙ ap (λ (t : List ℕ). t ++ b ∷ bs) x ∙ ap (λ (c : ℕ). 88 ∷ c ∷ bs) (eqb-true b 39 q)

-- ---- blanks, signs and slashes

-- a piece of one byte
single : (piece : Piece) (n b : ℕ) (text tail : List ℕ) (old new after : ScannedLine) → eqb b n ≡ true → text ≡ b ∷ tail
    → is_piece piece ≡ true → spelling piece ≡ n ∷ []
    → followed_by piece tail ≡ true → may_follow piece 10 ≡ true
    → ((line : ℕ) → place line after ≡ past piece (place line old)) → after.begun ≡ old.begun → new ≡ after
    → Takes text old tail new
single piece n b text tail old new after e front is spells follows ends says begun made = record {
  piece = piece;
  is = is;
  parts = front ∙ ap (λ (c : ℕ). c ∷ tail) (eqb-true b n e) ∙ ap (λ (t : List ℕ). t ++ tail) (sym spells);
  follows = follows;
  ends = ends;
  says = λ line. ap (place line) made ∙ says line;
  begun = ap (λ (r : ScannedLine). r.begun) made ∙ begun;
}

pub takes_mark : (text : List ℕ) (old : ScannedLine) (b : ℕ) (tail : List ℕ) (new : ScannedLine) → text ≡ b ∷ tail
    → is_single b ≡ true
    → (b == 47 && begins 42 tail) ≡ false → new ≡ after_mark b old → Takes text old tail new
unfolding after_mark
takes_mark text old b tail new front is no_comment made =
    by_test (eqb b 32) (λ e.
    single Blank 32 b text tail old new _ e front refl refl (any_follows Blank (λ c. refl) tail) refl (λ line. refl)
    refl (made ∙ rw e refl))
    (λ not_32.
    by_test (eqb b 40) (λ e.
    single (Sign Open) 40 b text tail old new _ e front refl refl (any_follows (Sign Open) (λ c. refl) tail) refl
    (λ line. refl) refl (made ∙ rw (not_32, e) refl))
    (λ not_40.
    by_test (eqb b 41) (λ e.
    single (Sign Close) 41 b text tail old new _ e front refl refl (any_follows (Sign Close) (λ c. refl) tail) refl
    (λ line. refl) refl (made ∙ rw (not_32, not_40, e) refl))
    (λ not_41.
    by_test (eqb b 44) (λ e.
    single (Sign Comma) 44 b text tail old new _ e front refl refl (any_follows (Sign Comma) (λ c. refl) tail) refl
    (λ line. refl) refl (made ∙ rw (not_32, not_40, not_41, e) refl))
    (λ not_44.
    by_test (eqb b 61) (λ e.
    single (Sign Equals) 61 b text tail old new _ e front refl refl (any_follows (Sign Equals) (λ c. refl) tail) refl
    (λ line. refl) refl (made ∙ rw (not_32, not_40, not_41, not_44, e) refl))
    (λ not_61. let slash : eqb b 47 ≡ true = slash_left not_32 not_40 not_41 not_44 not_61 in
    single LoneSlash 47 b text tail old new _ slash front refl refl
    (follows tail (sym (ap (λ (x : Bool). x && begins 42 tail) slash) ∙ no_comment)) refl (λ line. refl) refl
    (made ∙ rw (not_32, not_40, not_41, not_44, not_61) refl))))))
  where
    or_none : (x : Bool) → (x || false) ≡ x
    or_none true = refl
    or_none false = refl

    slash_left : eqb b 32 ≡ false → eqb b 40 ≡ false → eqb b 41 ≡ false → eqb b 44 ≡ false → eqb b 61 ≡ false
        → eqb b 47 ≡ true
    slash_left h1 h2 h3 h4 h5 = sym (rw (h1, h2, h3, h4, h5) (or_none (eqb b 47))) ∙ is

    follows : (t : List ℕ) → begins 42 t ≡ false → followed_by LoneSlash t ≡ true
    follows [] h = refl
    follows (c ∷ cs) h = rw h refl

-- ---- comments

pub closes_later : (text : List ℕ) (b : ℕ) (tail rest : List ℕ) → text ≡ b ∷ tail → (b == 42 && begins 47 tail) ≡ false
    → ClosesComment tail rest → ClosesComment text rest
closes_later text b tail rest front other k = record {
  inside = b ∷ k.inside;
  parts = front ∙ ap (λ (t : List ℕ). b ∷ t) k.parts;
  first = rw (before k.inside (sym (ap (λ (t : List ℕ). b == 42 && begins 47 t) k.parts) ∙ other)) k.first;
}
  where
    before : (c : List ℕ) → (b == 42 && begins 47 (c ++ 42 ∷ 47 ∷ rest)) ≡ false → (b == 42 && begins 47 c) ≡ false
    before [] h = go (eqb b 42)
      where
        go : (x : Bool) → (x && false) ≡ false
        go true = refl
        go false = refl
    before (c ∷ cs) h = h

pub over-printable : (c : List ℕ) (p : Place) → list_all is_printable c ≡ true → over c p ≡ p
over-printable [] p h = refl
over-printable (b ∷ bs) p h =
    let k = and_parts (is_printable b) (list_all is_printable bs) h in
    rw (test_not is_printable b 10 k.0 refl) (over-printable bs p k.1)

pub printable_inside : (c : List ℕ) → list_all is_printable c ≡ true → list_all is_in_comment c ≡ true
printable_inside [] h = refl
printable_inside (b ∷ bs) h =
    let k = and_parts (is_printable b) (list_all is_printable bs) h in
    and_from (is_in_comment b) (list_all is_in_comment bs) (rw k.0 refl) (printable_inside bs k.1)

-- a comment that is closed on its line
pub takes_comment : (text : List ℕ) (old : ScannedLine) (behind : List ℕ) (new : ScannedLine) (c : List ℕ)
    → list_all is_printable c ≡ true → text ≡ 47 ∷ 42 ∷ c → ClosesComment c behind → new ≡ record old { near = false }
    → Takes text old behind new
takes_comment text old behind new c ok front k is =
    let inner = (all_parts is_printable c k.inside (42 ∷ 47 ∷ behind) k.parts ok).0 in
    record {
      piece = Comment k.inside;
      is = and_from (has_no_end k.inside) (list_all is_in_comment k.inside) k.first (printable_inside k.inside inner);
      parts = front ∙ ap (λ (t : List ℕ). 47 ∷ 42 ∷ t) (k.parts ∙ sym (append_assoc k.inside (42 ∷ 47 ∷ []) behind));
      follows = any_follows (Comment k.inside) (λ b. refl) behind;
      ends = refl;
      says = λ line. ap (place line) is ∙ sym (over-printable k.inside (apart (place line old)) inner);
      begun = ap (λ (r : ScannedLine). r.begun) is;
    }

-- ---- slices and bytes

-- what stands behind the first bytes
pub rest_is : (k : ℕ) (xs : List ℕ) → take (length xs - k) (drop k xs) ≡ drop k xs
rest_is k xs = take_all (length xs - k) (drop k xs) (let long = length-drop k xs in omega (arith, long))

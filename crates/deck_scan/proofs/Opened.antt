-- What stands open is told without tokens, and so the closing parentheses are counted.
use Rattle.std.proofs.Common.{◌≡◌, inl, inr, ◌⊎◌, ℕ, zero, suc, ◌+◌, ◌-◌, ◌<◌, ◌≤◌, Bool, true, false, cond, eqb, List}
use Rattle.std.proofs.Common.{[], ◌∷◌, ◌++◌, length, take, refl, sym, ap, subst, ◌∙◌, arith, append_assoc, append-nil}
use Rattle.std.proofs.Common.{length-append}
use Rattle.std.specs.Prelude.{◌&&◌}
use Rattle.std.proofs.Math.Seq.{take-append_seam}
use Rattle.std.proofs.lemmas.Bool.{eqb-true}
use Rattle.std.proofs.lemmas.List.{take-append-le}
use Rattle.deck_scan.specs.declared.token.Token.{Token}
use Rattle.deck_scan.specs.declared.token.Token.TheVariants as tokens
use Rattle.deck_scan.specs.declared.closes.Open.{Open}
use Rattle.deck_scan.specs.declared.closes.Open.TheVariants.{Nothing, Slash, X, Word, Quoted, Hexed, Comment, Star}
use Rattle.deck_scan.specs.Bytes.{is_word, is_hex}
use Rattle.deck_scan.specs.Pieces.{is_nonempty}
use Rattle.deck_scan.specs.Scan.{Scan, Mode, InBlank, AfterSlash, InWord, InQuote, AfterQuote, InHex, InHexLow}
use Rattle.deck_scan.specs.Scan.{InBadHex, InComment, AfterStar, put, put_word, put_open, end_line, break_off}
use Rattle.deck_scan.specs.Scan.{begin_word, begin, step_in, step, scan_from, start, is_x, lines_of}
use Rattle.deck_scan.specs.Closes.{all_closes, begun, in_word, in_name, opened_in, opened, is_nothing, is_closing}
use Rattle.deck_scan.specs.Closes.{HaveCloses}
use Rattle.deck_scan.proofs.Said.{mark_is_no_word}
use Rattle.deck_scan.proofs.Found.{by_test}
use Rattle.deck_scan.proofs.Counted.{count, is_quiet, another, closing, text_closes, scan-append, few_closes}

-- ---- what stands open

-- so much stands open in a scan
abbrev IsOpen : Open → Scan → Type 0
IsOpen Nothing s = ((s.mode ≡ InBlank) × (s.part ≡ [])) ⊎ (s.mode ≡ AfterQuote)
IsOpen Slash s = (s.mode ≡ AfterSlash) × (s.part ≡ [])
IsOpen X s = (s.mode ≡ InWord) × (s.part ≡ 88 ∷ [])
IsOpen Word s = (s.mode ≡ InWord) × (is_x s.part ≡ false) × (is_nonempty s.part ≡ true)
IsOpen Quoted s = s.mode ≡ InQuote
IsOpen Hexed s = (s.mode ≡ InHex) ⊎ ((s.mode ≡ InHexLow) ⊎ (s.mode ≡ InBadHex))
IsOpen Comment s = (s.mode ≡ InComment) × (s.part ≡ [])
IsOpen Star s = (s.mode ≡ AfterStar) × (s.part ≡ [])

-- no token stands open where nothing does
quiet_is : (o : Open) (s : Scan) → IsOpen o s → is_quiet s.mode ≡ is_nothing o
quiet_is Nothing s (inl h) = ap is_quiet h.0
quiet_is Nothing s (inr h) = ap is_quiet h
quiet_is Slash s h = ap is_quiet h.0
quiet_is X s h = ap is_quiet h.0
quiet_is Word s h = ap is_quiet h.0
quiet_is Quoted s h = ap is_quiet h
quiet_is Hexed s (inl h) = ap is_quiet h
quiet_is Hexed s (inr (inl h)) = ap is_quiet h
quiet_is Hexed s (inr (inr h)) = ap is_quiet h
quiet_is Comment s h = ap is_quiet h.0
quiet_is Star s h = ap is_quiet h.0

-- ---- one byte where nothing stands open

module _ (s : Scan) (blank : s.mode ≡ InBlank) (none : s.part ≡ []) where
  at_blank : IsOpen (begun 32) (begin s 32)
  unfolding begun begin is_word
  at_blank = inl (blank, none)

  at_end : IsOpen (begun 10) (begin s 10)
  unfolding begun begin is_word end_line
  at_end = inl (blank, none)

  at_quote : IsOpen (begun 39) (begin s 39)
  unfolding begun begin
  at_quote = refl

  at_slash : IsOpen (begun 47) (begin s 47)
  unfolding begun begin
  at_slash = (refl, none)

  at_left : IsOpen (begun 40) (begin s 40)
  unfolding begun begin is_word put_open put
  at_left = inl (refl, refl)

  at_right : IsOpen (begun 41) (begin s 41)
  unfolding begun begin is_word put
  at_right = inl (refl, refl)

  at_comma : IsOpen (begun 44) (begin s 44)
  unfolding begun begin is_word put
  at_comma = inl (refl, refl)

  at_equals : IsOpen (begun 61) (begin s 61)
  unfolding begun begin is_word put
  at_equals = inl (refl, refl)

  at_x : IsOpen (begun 88) (begin s 88)
  unfolding begun begin begin_word is_word
  at_x = (refl, ap (λ (w : List ℕ). w ++ 88 ∷ []) none)

  -- a byte of a word that isn't X, or one that begins no token
  module _ (b : ℕ) (no_x : eqb b 88 ≡ false) where
    word_begun : is_word b ≡ true → IsOpen Word (record s { part = s.part ++ b ∷ []; mode = InWord })
    word_begun h = rw none (refl, rw no_x refl, refl)

    other_begun : eqb b 39 ≡ false → eqb b 47 ≡ false → IsOpen (begun b) (begin_word s b)
    unfolding begun begin_word put
    other_begun quote slash =
        rw (quote, slash, no_x) (by_test (is_word b) (λ h. rw h (word_begun h)) (λ h. rw h (inl (refl, refl))))

  other : (b : ℕ) → eqb b 32 ≡ false → eqb b 10 ≡ false → eqb b 39 ≡ false → eqb b 47 ≡ false → eqb b 40 ≡ false
      → eqb b 41 ≡ false → eqb b 44 ≡ false → eqb b 61 ≡ false → begin s b ≡ begin_word s b
  unfolding begin
  other b p q r t u v w x = rw (p, q, r, t, u, v, w, x) refl

  begun_open : (b : ℕ) → IsOpen (begun b) (begin s b)
  begun_open b =
      by_test (eqb b 32) (λ e. at 32 e at_blank)
      (λ not_32. by_test (eqb b 10) (λ e. at 10 e at_end)
      (λ not_10. by_test (eqb b 39) (λ e. at 39 e at_quote)
      (λ not_39. by_test (eqb b 47) (λ e. at 47 e at_slash)
      (λ not_47. by_test (eqb b 40) (λ e. at 40 e at_left)
      (λ not_40. by_test (eqb b 41) (λ e. at 41 e at_right)
      (λ not_41. by_test (eqb b 44) (λ e. at 44 e at_comma)
      (λ not_44. by_test (eqb b 61) (λ e. at 61 e at_equals)
      (λ not_61. by_test (eqb b 88) (λ e. at 88 e at_x)
      (λ no_x.
      subst (IsOpen (begun b)) (sym (other b not_32 not_10 not_39 not_47 not_40 not_41 not_44 not_61))
      (other_begun b no_x not_39 not_47))))))))))
    where
      at : (n : ℕ) → eqb b n ≡ true → IsOpen (begun n) (begin s n) → IsOpen (begun b) (begin s b)
      at n e h = subst (λ (m : ℕ). IsOpen (begun m) (begin s m)) (sym (eqb-true b n e)) h

-- ---- one byte of what stands open

and_none : (x : Bool) → (x && false) ≡ false
and_none true = refl
and_none false = refl

long_x : (w : List ℕ) (b : ℕ) → is_nonempty w ≡ true → is_x (w ++ b ∷ []) ≡ false
long_x [] b h = absurd cc
long_x (c ∷ []) b h = and_none (eqb c 88)
long_x (c ∷ d ∷ ds) b h = and_none (eqb c 88)

nonempty_snoc : (w : List ℕ) (b : ℕ) → is_nonempty (w ++ b ∷ []) ≡ true
nonempty_snoc [] b = refl
nonempty_snoc (c ∷ cs) b = refl

module _ (s : Scan) (b : ℕ) where
  put_mode : (t : Token) → (put t s).mode ≡ InBlank
  unfolding put
  put_mode t = refl

  put_part : (t : Token) → (put t s).part ≡ []
  unfolding put
  put_part t = refl

  word_mode : (put_word s).mode ≡ InBlank
  unfolding put_word put
  word_mode = refl

  word_part : (put_word s).part ≡ []
  unfolding put_word put
  word_part = refl

  put_nothing : (t : Token) → IsOpen Nothing (put t s)
  put_nothing t = inl (put_mode t, put_part t)

  broken : IsOpen Nothing (break_off s)
  unfolding break_off end_line put
  broken = inl (refl, refl)

  -- in so much
  by_mode : (o : Open) (m : Mode) → s.mode ≡ m → IsOpen o (step_in m s b) → IsOpen o (step_in s.mode s b)
  by_mode o m is h = subst (λ (x : Mode). IsOpen o (step_in x s b)) (sym is) h

  either : (P : Scan → Type 0) (c : Bool) (x y : Scan) → P x → P y → P (cond c x y)
  either P true x y p q = p
  either P false x y p q = q

  blank_in : s.mode ≡ InBlank → s.part ≡ [] → IsOpen (begun b) (step_in InBlank s b)
  unfolding step_in
  blank_in mode part = begun_open s mode part b

  quote_begun : eqb b 39 ≡ true → Quoted ≡ begun b
  unfolding begun
  quote_begun e = rw e refl

  quote_in : IsOpen (begun b) (step_in AfterQuote s b)
  unfolding step_in
  quote_in =
      by_test (eqb b 39) (λ e.
      rw e (subst (λ (o : Open). IsOpen o (record s { part = s.part ++ 39 ∷ []; mode = InQuote })) (quote_begun e)
      refl))
      (λ unlike.
      rw unlike (begun_open (put (tokens.Name s.part) s) (put_mode (tokens.Name s.part)) (put_part (tokens.Name s.part))
      b))

  slash_in : s.part ≡ [] → IsOpen (opened_in Slash b) (step_in AfterSlash s b)
  unfolding step_in
  slash_in part =
      by_test (eqb b 42) (λ e. rw e (refl, part))
      (λ unlike. rw unlike (begun_open (put tokens.Stray s) (put_mode tokens.Stray) (put_part tokens.Stray) b))

  word_in : s.mode ≡ InWord → is_nonempty s.part ≡ true → (eqb b 39 && is_x s.part) ≡ false
      → IsOpen (in_word b) (step_in InWord s b)
  unfolding step_in
  word_in mode some no_x =
      by_test (is_word b) (λ h. rw h (mode, long_x s.part b some, nonempty_snoc s.part b))
      (λ h. rw (h, no_x) (begun_open (put_word s) word_mode word_part b))

  x_quote : s.part ≡ 88 ∷ [] → eqb b 39 ≡ true → IsOpen Hexed (step_in InWord s b)
  unfolding step_in
  x_quote part e =
      let unlike : is_word b ≡ false = ap is_word (eqb-true b 39 e) ∙ mark_is_no_word 39 refl in
      rw (unlike, e, part) (inl refl)

  x_in : s.mode ≡ InWord → s.part ≡ 88 ∷ [] → IsOpen (opened_in X b) (step_in InWord s b)
  x_in mode part =
      by_test (eqb b 39) (λ e. subst (λ (o : Open). IsOpen o (step_in InWord s b)) (sym (quoted e)) (x_quote part e))
      (λ unlike.
      subst (λ (o : Open). IsOpen o (step_in InWord s b)) (sym (other unlike))
      (word_in mode (ap is_nonempty part) (ap (λ (q : Bool). q && is_x s.part) unlike)))
    where
      quoted : eqb b 39 ≡ true → opened_in X b ≡ Hexed
      quoted e = rw e refl

      other : eqb b 39 ≡ false → opened_in X b ≡ in_word b
      other e = rw e refl

  -- a name ends with a quote or with its line
  name_in : (o : Open) (x y : Scan) → IsOpen Nothing x → IsOpen o y
      → IsOpen (in_name o b) (cond (eqb b 39) x (cond (eqb b 10) (break_off s) y))
  name_in o x y closed on =
      by_test (eqb b 39) (λ e. rw e closed)
      (λ unlike. by_test (eqb b 10) (λ e. rw (unlike, e) broken) (λ e. rw (unlike, e) on))

  quoted_in : s.mode ≡ InQuote → IsOpen (opened_in Quoted b) (step_in InQuote s b)
  unfolding step_in
  quoted_in mode =
      name_in Quoted (record s { mode = AfterQuote }) (record s { part = s.part ++ b ∷ [] }) (inr refl) mode

  hex_in : IsOpen (opened_in Hexed b) (step_in InHex s b)
  unfolding step_in
  hex_in =
      name_in Hexed _ _ (put_nothing (tokens.Name s.part))
      (either (IsOpen Hexed) (is_hex b) _ _ (inr (inl refl)) (inr (inr refl)))

  low_in : IsOpen (opened_in Hexed b) (step_in InHexLow s b)
  unfolding step_in
  low_in =
      name_in Hexed _ _ (put_nothing tokens.Stray) (either (IsOpen Hexed) (is_hex b) _ _ (inl refl) (inr (inr refl)))

  bad_in : s.mode ≡ InBadHex → IsOpen (opened_in Hexed b) (step_in InBadHex s b)
  unfolding step_in
  bad_in mode = name_in Hexed _ _ (put_nothing tokens.Stray) (inr (inr mode))

  comment_in : s.mode ≡ InComment → s.part ≡ [] → IsOpen (opened_in Comment b) (step_in InComment s b)
  unfolding step_in end_line
  comment_in mode part =
      by_test (eqb b 42) (λ e. rw e (refl, part))
      (λ unlike. rw unlike (either (IsOpen Comment) (eqb b 10) _ _ (mode, part) (mode, part)))

  star_in : s.mode ≡ AfterStar → s.part ≡ [] → IsOpen (opened_in Star b) (step_in AfterStar s b)
  unfolding step_in end_line
  star_in mode part =
      by_test (eqb b 47) (λ e. rw e (inl (refl, part))) (λ unlike.
      by_test (eqb b 42) (λ e. rw (unlike, e) (mode, part))
      (λ e. rw (unlike, e) (either (IsOpen Comment) (eqb b 10) _ _ (refl, part) (refl, part))))

  opens_in : (o : Open) → IsOpen o s → IsOpen (opened_in o b) (step_in s.mode s b)
  opens_in Nothing (inl h) = by_mode (begun b) InBlank h.0 (blank_in h.0 h.1)
  opens_in Nothing (inr h) = by_mode (begun b) AfterQuote h quote_in
  opens_in Slash h = by_mode (opened_in Slash b) AfterSlash h.0 (slash_in h.1)
  opens_in X h = by_mode (opened_in X b) InWord h.0 (x_in h.0 h.1)
  opens_in Word h = by_mode (in_word b) InWord h.0 (word_in h.0 h.2 (other (eqb b 39) (is_x s.part) h.1))
    where
      other : (x y : Bool) → y ≡ false → (x && y) ≡ false
      other true y e = e
      other false y e = refl
  opens_in Quoted h = by_mode (opened_in Quoted b) InQuote h (quoted_in h)
  opens_in Hexed (inl h) = by_mode (opened_in Hexed b) InHex h hex_in
  opens_in Hexed (inr (inl h)) = by_mode (opened_in Hexed b) InHexLow h low_in
  opens_in Hexed (inr (inr h)) = by_mode (opened_in Hexed b) InBadHex h (bad_in h)
  opens_in Comment h = by_mode (opened_in Comment b) InComment h.0 (comment_in h.0 h.1)
  opens_in Star h = by_mode (opened_in Star b) AfterStar h.0 (star_in h.0 h.1)

  opens : (o : Open) → IsOpen o s → IsOpen (opened o b) (step s b)
  unfolding step
  opens o h =
      by_test (eqb b 13) (λ e. rw e h) (λ e.
      subst (λ (x : Open). IsOpen x (cond (eqb b 13) s (step_in s.mode s b))) (sym (no_cr e)) (rw e (opens_in o h)))
    where
      no_cr : eqb b 13 ≡ false → opened o b ≡ opened_in o b
      no_cr e = rw e refl

  -- A byte takes one where it is a closing parenthesis and nothing stands open behind it, else none.
  step-closes : (o : Open) → IsOpen o s → count (step s b) ≡ cond (is_closing b (opened o b)) (suc (count s)) (count s)
  step-closes o h = by_test (eqb b 41) (λ e. closed (eqb-true b 41 e)) (λ unlike. another s b unlike ∙ none unlike)
    where
      quiet : is_quiet (step s b).mode ≡ is_nothing (opened o b)
      quiet = quiet_is (opened o b) (step s b) (opens o h)

      takes : count (step s 41) ≡ cond (is_quiet (step s 41).mode) (suc (count s)) (count s)
      takes = closing s

      closed : b ≡ 41 → count (step s b) ≡ cond (is_closing b (opened o b)) (suc (count s)) (count s)
      closed is =
          subst (λ (n : ℕ). count (step s n) ≡ cond (is_quiet (step s n).mode) (suc (count s)) (count s)) (sym is) takes
          ∙ ap (λ (x : Bool). cond x (suc (count s)) (count s))
          (quiet ∙ sym (ap (λ (x : Bool). x && is_nothing (opened o b)) (ap (λ (n : ℕ). eqb n 41) is)))

      none : eqb b 41 ≡ false → count s ≡ cond (is_closing b (opened o b)) (suc (count s)) (count s)
      none unlike = rw unlike refl

-- ---- the bytes up to a closing parenthesis

ne_pos : (n : ℕ) → (n ≡ 0 → ⊥) → 0 < n
ne_pos zero h = absurd (h refl)
ne_pos (suc n) h = omega arith

-- Some bytes of a text were passed, so much stands open behind them, and so many closing parentheses are left of those
-- sought.
pub record Sought (text : List ℕ) (n : ℕ) (o : Open) (left : ℕ) (rest : List ℕ) : Type 0 where
  pub front : List ℕ
  pub parts : text ≡ front ++ rest
  pub opens : IsOpen o (scan_from start front)
  pub sum : left + count (scan_from start front) ≡ n
  pub fewest : (k : ℕ) → k < length front → all_closes (lines_of (take k front)) < n

pub sought_none : (text : List ℕ) (n : ℕ) → Sought text n Nothing n text
unfolding scan_from
sought_none text n = record {
  front = [];
  parts = refl;
  opens = inl (refl, refl);
  sum = omega arith;
  fewest = λ k lt. absurd (omega (arith, lt));
}

one : (x : Scan) (b : ℕ) → scan_from x (b ∷ []) ≡ step x b
unfolding scan_from
one x b = refl

pub sought_more :
    (text : List ℕ) (n : ℕ) (o new : Open) (left : ℕ) (rest : List ℕ) (b : ℕ) (tail : List ℕ) (closes : Bool)
    → rest ≡ b ∷ tail → new ≡ opened o b → (left ≡ 0 → ⊥)
    → is_closing b new ≡ closes → Sought text n o left rest → Sought text n new (cond closes (left - 1) left) tail
sought_more text n o new left rest b tail closes is made more counts h = record {
  front = h.front ++ b ∷ [];
  parts = h.parts ∙ ap (λ (t : List ℕ). h.front ++ t) is ∙ sym (append_assoc h.front (b ∷ []) tail);
  opens = subst (IsOpen new) (sym passed) (subst (λ (x : Open). IsOpen x (step s b)) (sym made) (opens s b o h.opens));
  sum =
      total closes (ap count passed
      ∙ step-closes s b o h.opens
      ∙ ap (λ (c : Bool). cond c (suc (count s)) (count s)) (ap (is_closing b) (sym made) ∙ counts));
  fewest = λ k lt. shorter k (omega (arith, lt, length-append h.front (b ∷ [])));
}
  where
    s : Scan
    s = scan_from start h.front

    passed : scan_from start (h.front ++ b ∷ []) ≡ step s b
    passed = scan-append start h.front (b ∷ []) ∙ one s b

    some : 0 < left
    some = ne_pos left more

    total : (c : Bool) → count (scan_from start (h.front ++ b ∷ [])) ≡ cond c (suc (count s)) (count s)
        → cond c (left - 1) left + count (scan_from start (h.front ++ b ∷ [])) ≡ n
    total true q = let k = h.sum in omega (arith, q, k, some)
    total false q = let k = h.sum in omega (arith, q, k)

    shorter : (k : ℕ) → k ≤ length h.front → all_closes (lines_of (take k (h.front ++ b ∷ []))) < n
    shorter k within =
        let cut : all_closes (lines_of (take k (h.front ++ b ∷ []))) ≡ all_closes (lines_of (take k h.front)) =
        ap (λ (t : List ℕ). all_closes (lines_of t)) (take-append-le k h.front (b ∷ []) within) in
        let few = few_closes h.front k in
        let all = text_closes h.front in
        let k = h.sum in
        omega (arith, cut, few, all, k, some)

-- they are found before the text ends
pub sought_all : (text : List ℕ) (n : ℕ) (o : Open) (left : ℕ) (rest : List ℕ) → length rest ≡ 0
    → n ≤ all_closes (lines_of text) → (left ≡ 0 → ⊥) → Sought text n o left rest → ⊥
sought_all text n o left (b ∷ bs) none enough more h = absurd (omega (arith, none))
sought_all text n o left [] none enough more h =
    let some : 0 < left = ne_pos left more in
    let whole : all_closes (lines_of text) ≡ all_closes (lines_of h.front) =
    ap (λ (t : List ℕ). all_closes (lines_of t)) (h.parts ∙ append-nil h.front) in
    let all = text_closes h.front in
    let k = h.sum in
    omega (arith, enough, some, whole, all, k)

pub sought_found : (text : List ℕ) (n : ℕ) (o : Open) (left : ℕ) (rest : List ℕ) → left ≡ 0 → Sought text n o left rest
    → HaveCloses text n (length text - length rest)
sought_found text n o left rest none h =
    let e = ap length h.parts in
    let used : length text - length rest ≡ length h.front = omega (arith, e, length-append h.front rest) in
    let cut : take (length h.front) text ≡ h.front =
    ap (take (length h.front)) h.parts ∙ take-append_seam h.front rest in
    let all = text_closes h.front in
    let whole : all_closes (lines_of (take (length h.front) text)) ≡ all_closes (lines_of h.front) =
    ap (λ (t : List ℕ). all_closes (lines_of t)) cut in
    let k = h.sum in
    subst (HaveCloses text n) (sym used) (record {
      within = omega (arith, e, length-append h.front rest);
      has = omega (arith, all, whole, k, none);
      fewest = λ k lt.
          subst (λ (t : List ℕ). all_closes (lines_of t) < n)
          (sym (ap (take k) h.parts ∙ take-append-le k h.front rest (omega (arith, lt)))) (h.fewest k lt);
    })

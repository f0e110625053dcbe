-- A scan keeps the closing parentheses that it has taken, and a byte takes one or none.
use Rattle.std.proofs.Common.{◌≡◌, ℕ, suc, ◌+◌, ◌≤◌, Bool, true, false, cond, eqb, List, [], ◌∷◌, ◌++◌, length, take}
use Rattle.std.proofs.Common.{drop, refl, ap, ◌∙◌, arith}
use Rattle.std.proofs.lemmas.Bool.{eqb-true}
use Rattle.std.proofs.lemmas.List.{take-append-drop}
use Rattle.deck_scan.specs.declared.token.Token.{Token}
use Rattle.deck_scan.specs.declared.token.Token.TheVariants.{Word, Name, Open, Close, Comma, Equals, Stray, Unclosed}
use Rattle.deck_scan.specs.declared.token.TokenLine.{TokenLine}
use Rattle.deck_scan.specs.Bytes.{is_word, is_hex}
use Rattle.deck_scan.specs.Pieces.{lines_with}
use Rattle.deck_scan.specs.Scan.{Scan, Mode, InBlank, AfterSlash, InWord, InQuote, AfterQuote, InHex, InHexLow}
use Rattle.deck_scan.specs.Scan.{InBadHex, InComment, AfterStar, put, put_word, put_open, end_line, break_off}
use Rattle.deck_scan.specs.Scan.{begin_word, begin, step_in, step, scan_from, finish_in, start, lines_of}
use Rattle.deck_scan.specs.Closes.{closes, all_closes, weight}
use Rattle.deck_scan.proofs.Said.{mark_is_no_word}

-- ---- how many closing parentheses tokens and lines have

pub closes-append : (ts us : List Token) → closes (ts ++ us) ≡ closes ts + closes us
closes-append [] us = omega arith
closes-append (t ∷ ts) us = let h = closes-append ts us in omega (arith, h)

all_closes-push : (ls : List TokenLine) (l : TokenLine) → all_closes (ls ++ l ∷ []) ≡ all_closes ls + closes l.tokens
all_closes-push [] l = omega arith
all_closes-push (m ∷ ms) l = let h = all_closes-push ms l in omega (arith, h)

none_closes : (ts : List Token) → eqb (length ts) 0 ≡ true → closes ts ≡ 0
none_closes [] h = refl
none_closes (t ∷ ts) h = absurd (let e = eqb-true (length (t ∷ ts)) 0 h in omega (arith, e))

lines_closes : (at : ℕ) (ts : List Token) (joined : Bool) (ls : List TokenLine)
    → all_closes (lines_with at ts joined ls) ≡ closes ts + all_closes ls
lines_closes at ts joined ls = go (eqb (length ts) 0) refl
  where
    go : (b : Bool) → eqb (length ts) 0 ≡ b
        → all_closes (cond b ls (ls ++ record { at = at; tokens = ts; joined = joined } ∷ []))
        ≡ closes ts + all_closes ls
    go true e = let h = none_closes ts e in omega (arith, h)
    go false e = let h = all_closes-push ls (record { at = at; tokens = ts; joined = joined }) in omega (arith, h)

-- ---- a scan keeps them

abbrev pub count : Scan → ℕ
count s = closes s.tokens + all_closes s.lines

pub count-put : (t : Token) (s : Scan) → count (put t s) ≡ weight t + count s
unfolding put
count-put t s = let h = closes-append s.tokens (t ∷ []) in omega (arith, h)

pub count-put_word : (s : Scan) → count (put_word s) ≡ count s
unfolding put_word put
count-put_word s = let h = closes-append s.tokens (Word s.part ∷ []) in omega (arith, h)

count-put_open : (s : Scan) → count (put_open s) ≡ count s
unfolding put_open put
count-put_open s = let h = closes-append s.tokens (Open ∷ []) in omega (arith, h)

count-end_line : (s : Scan) → count (end_line s) ≡ count s
unfolding end_line
count-end_line s = let h = lines_closes s.line s.tokens s.joined s.lines in omega (arith, h)

-- at least so many
module _ (n : ℕ) where
  abbrev Has : Scan → Type 0
  Has s = n ≤ count s

  chosen : (b : Bool) (x y : Scan) → Has x → Has y → Has (cond b x y)
  chosen true x y p q = p
  chosen false x y p q = q

  has-put : (t : Token) (s : Scan) → Has s → Has (put t s)
  has-put t s h = let k = count-put t s in omega (arith, h, k)

  has-put_word : (s : Scan) → Has s → Has (put_word s)
  has-put_word s h = let k = count-put_word s in omega (arith, h, k)

  has-end_line : (s : Scan) → Has s → Has (end_line s)
  has-end_line s h = let k = count-end_line s in omega (arith, h, k)

  has-break_off : (s : Scan) → Has s → Has (break_off s)
  unfolding break_off
  has-break_off s h = has-end_line (put Stray s) (has-put Stray s h)

  has-begin : (s : Scan) (b : ℕ) → Has s → Has (begin s b)
  unfolding begin begin_word
  has-begin s b h =
      chosen (eqb b 32) _ _ h
      (chosen (eqb b 10) _ _ (has-end_line s h)
      (chosen (eqb b 39) _ _ h
      (chosen (eqb b 47) _ _ h
      (chosen (eqb b 40) _ _ (let k = count-put_open s in omega (arith, h, k))
      (chosen (eqb b 41) _ _ (has-put Close s h)
      (chosen (eqb b 44) _ _ (has-put Comma s h)
      (chosen (eqb b 61) _ _ (has-put Equals s h)
      (chosen (is_word b) _ _ h (has-put Stray s h)))))))))

  has-in : (m : Mode) (s : Scan) (b : ℕ) → Has s → Has (step_in m s b)
  unfolding step_in
  has-in InBlank s b h = has-begin s b h
  has-in AfterSlash s b h = chosen (eqb b 42) _ _ h (has-begin (put Stray s) b (has-put Stray s h))
  has-in InWord s b h = chosen (is_word b) _ _ h (chosen _ _ _ h (has-begin (put_word s) b (has-put_word s h)))
  has-in InQuote s b h = chosen (eqb b 39) _ _ h (chosen (eqb b 10) _ _ (has-break_off s h) h)
  has-in AfterQuote s b h = chosen (eqb b 39) _ _ h (has-begin (put (Name s.part) s) b (has-put (Name s.part) s h))
  has-in InHex s b h =
      chosen (eqb b 39) _ _ (has-put (Name s.part) s h)
      (chosen (eqb b 10) _ _ (has-break_off s h) (chosen (is_hex b) _ _ h h))
  has-in InHexLow s b h =
      chosen (eqb b 39) _ _ (has-put Stray s h) (chosen (eqb b 10) _ _ (has-break_off s h) (chosen (is_hex b) _ _ h h))
  has-in InBadHex s b h = chosen (eqb b 39) _ _ (has-put Stray s h) (chosen (eqb b 10) _ _ (has-break_off s h) h)
  has-in InComment s b h = chosen (eqb b 42) _ _ h (chosen (eqb b 10) _ _ (has-end_line s h) h)
  has-in AfterStar s b h =
      chosen (eqb b 47) _ _ h
      (chosen (eqb b 42) _ _ h (chosen (eqb b 10) _ _ (has-end_line (record s { mode = InComment }) h) h))

  has-step : (s : Scan) (b : ℕ) → Has s → Has (step s b)
  unfolding step
  has-step s b h = chosen (eqb b 13) _ _ h (has-in s.mode s b h)

  has-scan : (s : Scan) (bs : List ℕ) → Has s → Has (scan_from s bs)
  unfolding scan_from
  has-scan s [] h = h
  has-scan s (b ∷ bs) h = has-scan (step s b) bs (has-step s b h)

-- the end of the text adds none
end_closes : (s : Scan) → all_closes (end_line s).lines ≡ count s
unfolding end_line
end_closes s = lines_closes s.line s.tokens s.joined s.lines

finish_closes : (m : Mode) (s : Scan) → count (finish_in m s) ≡ count s
unfolding finish_in
finish_closes InBlank s = refl
finish_closes AfterSlash s = let k = count-put Stray s in omega (arith, k)
finish_closes InWord s = count-put_word s
finish_closes InQuote s = let k = count-put Stray s in omega (arith, k)
finish_closes AfterQuote s = let k = count-put (Name s.part) s in omega (arith, k)
finish_closes InHex s = let k = count-put Stray s in omega (arith, k)
finish_closes InHexLow s = let k = count-put Stray s in omega (arith, k)
finish_closes InBadHex s = let k = count-put Stray s in omega (arith, k)
finish_closes InComment s =
    let k = count-put Unclosed (record (end_line s) { line = s.begun }) in
    let j = count-end_line s in
    omega (arith, k, j)
finish_closes AfterStar s =
    let k = count-put Unclosed (record (end_line s) { line = s.begun }) in
    let j = count-end_line s in
    omega (arith, k, j)

pub text_closes : (text : List ℕ) → all_closes (lines_of text) ≡ count (scan_from start text)
unfolding lines_of
text_closes text = let s = scan_from start text in end_closes (finish_in s.mode s) ∙ finish_closes s.mode s

pub scan-append : (s : Scan) (xs ys : List ℕ) → scan_from s (xs ++ ys) ≡ scan_from (scan_from s xs) ys
unfolding scan_from
scan-append s [] ys = refl
scan-append s (x ∷ xs) ys = scan-append (step s x) xs ys

-- a front has no more
pub front_closes : (front back : List ℕ) → all_closes (lines_of front) ≤ all_closes (lines_of (front ++ back))
front_closes front back =
    let s = scan_from start front in
    let h = has-scan (count s) s back (omega arith) in
    let a = text_closes front in
    let b = text_closes (front ++ back) in
    let c = ap count (scan-append start front back) in
    omega (arith, h, a, b, c)

-- ---- one byte

-- a closing parenthesis where nothing stands open is one more
pub begin_close : (s : Scan) → count (begin s 41) ≡ suc (count s)
unfolding begin
begin_close s = let h = count-put Close s in omega (arith, h)

pub close_is_no_word : is_word 41 ≡ false
close_is_no_word = mark_is_no_word 41 refl

pub close_is_no_hex : is_hex 41 ≡ false
unfolding is_hex
close_is_no_hex = refl

begin_mode : (s : Scan) → (begin s 41).mode ≡ InBlank
unfolding begin put
begin_mode s = refl

-- no token stands open
abbrev pub is_quiet : Mode → Bool
is_quiet InBlank = true
is_quiet AfterQuote = true
is_quiet _ = false

-- so many as the mode behind it says
abbrev pub Closed : Scan → Scan → Type 0
Closed s x = count x ≡ cond (is_quiet x.mode) (suc (count s)) (count s)

begun_close : (s r : Scan) → count r ≡ count s → Closed s (begin r 41)
begun_close s r e = rw (begin_mode r) (begin_close r ∙ ap suc e)

put_none : (t : Token) (s : Scan) → weight t ≡ 0 → count (put t s) ≡ count s
put_none t s w = let k = count-put t s in omega (arith, k, w)

in_closed : (m : Mode) (s : Scan) → s.mode ≡ m → Closed s (step_in m s 41)
unfolding step_in
in_closed InBlank s e = begun_close s s refl
in_closed AfterSlash s e = begun_close s (put Stray s) (put_none Stray s refl)
in_closed InWord s e = rw close_is_no_word (begun_close s (put_word s) (count-put_word s))
in_closed InQuote s e = rw e refl
in_closed AfterQuote s e = begun_close s (put (Name s.part) s) (put_none (Name s.part) s refl)
in_closed InHex s e = rw close_is_no_hex refl
in_closed InHexLow s e = rw close_is_no_hex refl
in_closed InBadHex s e = rw e refl
in_closed InComment s e = rw e refl
in_closed AfterStar s e = refl

-- another byte takes none
module _ (s : Scan) (b : ℕ) (other : eqb b 41 ≡ false) where
  abbrev Same : Scan → Type 0
  Same x = count x ≡ count s

  either : (c : Bool) (x y : Scan) → Same x → Same y → Same (cond c x y)
  either true x y p q = p
  either false x y p q = q

  put-same : (t : Token) (r : Scan) → weight t ≡ 0 → Same r → Same (put t r)
  put-same t r w h = put_none t r w ∙ h

  end_line-same : (r : Scan) → Same r → Same (end_line r)
  end_line-same r h = count-end_line r ∙ h

  break_off-same : (r : Scan) → Same r → Same (break_off r)
  unfolding break_off
  break_off-same r h = end_line-same (put Stray r) (put-same Stray r refl h)

  begin-same : (r : Scan) → Same r → Same (begin r b)
  unfolding begin begin_word
  begin-same r h =
      rw other (either (eqb b 32) _ _ h
      (either (eqb b 10) _ _ (end_line-same r h)
      (either (eqb b 39) _ _ h
      (either (eqb b 47) _ _ h
      (either (eqb b 40) _ _ (count-put_open r ∙ h)
      (either (eqb b 44) _ _ (put-same Comma r refl h)
      (either (eqb b 61) _ _ (put-same Equals r refl h)
      (either (is_word b) _ _ h (put-same Stray r refl h)))))))))

  in-same : (m : Mode) → Same (step_in m s b)
  unfolding step_in
  in-same InBlank = begin-same s refl
  in-same AfterSlash = either (eqb b 42) _ _ refl (begin-same (put Stray s) (put-same Stray s refl refl))
  in-same InWord = either (is_word b) _ _ refl (either _ _ _ refl (begin-same (put_word s) (count-put_word s)))
  in-same InQuote = either (eqb b 39) _ _ refl (either (eqb b 10) _ _ (break_off-same s refl) refl)
  in-same AfterQuote =
      either (eqb b 39) _ _ refl (begin-same (put (Name s.part) s) (put-same (Name s.part) s refl refl))
  in-same InHex =
      either (eqb b 39) _ _ (put-same (Name s.part) s refl refl)
      (either (eqb b 10) _ _ (break_off-same s refl) (either (is_hex b) _ _ refl refl))
  in-same InHexLow =
      either (eqb b 39) _ _ (put-same Stray s refl refl)
      (either (eqb b 10) _ _ (break_off-same s refl) (either (is_hex b) _ _ refl refl))
  in-same InBadHex =
      either (eqb b 39) _ _ (put-same Stray s refl refl) (either (eqb b 10) _ _ (break_off-same s refl) refl)
  in-same InComment = either (eqb b 42) _ _ refl (either (eqb b 10) _ _ (end_line-same s refl) refl)
  in-same AfterStar =
      either (eqb b 47) _ _ refl
      (either (eqb b 42) _ _ refl (either (eqb b 10) _ _ (end_line-same (record s { mode = InComment }) refl) refl))

pub another : (s : Scan) (b : ℕ) → eqb b 41 ≡ false → count (step s b) ≡ count s
unfolding step
another s b other = either s b other (eqb b 13) _ _ refl (in-same s b other s.mode)

pub closing : (s : Scan) → Closed s (step s 41)
unfolding step
closing s = in_closed s.mode s refl

-- the first bytes have no more
pub few_closes : (text : List ℕ) (k : ℕ) → all_closes (lines_of (take k text)) ≤ all_closes (lines_of text)
few_closes text k =
    let h = front_closes (take k text) (drop k text) in
    let e : all_closes (lines_of (take k text ++ drop k text)) ≡ all_closes (lines_of text) =
    ap (λ (t : List ℕ). all_closes (lines_of t)) (take-append-drop k text) in
    omega (arith, h, e)

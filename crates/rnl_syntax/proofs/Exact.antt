-- No shorter front of a printed entry makes it: each front has fewer closing parentheses.
use Rattle.std.proofs.Common.{◌≡◌, ℕ, suc, ◌+◌, ◌≤◌, Bool, true, false, cond, eqb, List, [], ◌∷◌, ◌++◌, length, Option}
use Rattle.std.proofs.Common.{Some, None, refl, sym, ap, ◌∙◌, arith, length-append}
use Rattle.std.specs.Prelude.{◌||◌}
use Rattle.std.proofs.lemmas.Bool.{eqb-true}
use Rattle.std.specs.List.{flat_map}
use Rattle.deck_scan.specs.declared.token.Token.{Token}
use Rattle.deck_scan.specs.declared.token.Token.TheVariants.{Word, Name, Stray, Unclosed}
use Rattle.deck_scan.specs.declared.token.TokenLine.{TokenLine}
use Rattle.deck_scan.specs.Next.{Names, Sets}
use Rattle.deck_scan.specs.Scan.{Scan, Mode, InBlank, AfterSlash, InWord, InQuote, AfterQuote, InHex, InHexLow}
use Rattle.deck_scan.specs.Scan.{InBadHex, InComment, AfterStar, put, put_word, end_line, step_in, step, scan_from}
use Rattle.deck_scan.specs.Scan.{finish_in, start, lines_of}
use Rattle.deck_scan.specs.Closes.{weight, closes, all_closes}
use Rattle.deck_scan.proofs.Said.{at_end}
use Rattle.deck_scan.proofs.Counted.{closes-append, count, count-put, count-put_word, text_closes, scan-append}
use Rattle.deck_scan.proofs.Counted.{begin_close, close_is_no_word, close_is_no_hex}
use Rattle.rnl_syntax.specs.declared.operands.Operands.{Operands}
use Rattle.rnl_syntax.specs.declared.operands.Rnldef.{Rnldef}
use Rattle.rnl_syntax.specs.Lines.{goes_on, with_line, first_from}
use Rattle.rnl_syntax.specs.Operands.{no_operands}
use Rattle.rnl_syntax.specs.Spelled.{Operand, WithRnl, WithType, WithQname, WithRname, operand, IsFree, set, IsRnldef}
use Rattle.rnl_syntax.proofs.Closed.{is_close, line_closes, last_closes-append, line_closes-snoc}

-- ---- the last parenthesis

-- the last token of a text that ends within something is none
stray_last : (t : Token) (s : Scan) → is_close t ≡ false → line_closes (end_line (put t s)).lines ≡ false
unfolding end_line put
stray_last t s other = go (eqb (length (s.tokens ++ t ∷ [])) 0) refl
  where
    new : TokenLine
    new = record { at = s.line; tokens = s.tokens ++ t ∷ []; joined = s.joined || s.near }

    go : (b : Bool) → eqb (length (s.tokens ++ t ∷ [])) 0 ≡ b
        → line_closes (cond b s.lines (s.lines ++ new ∷ [])) ≡ false
    go true e =
        absurd (let k = eqb-true (length (s.tokens ++ t ∷ [])) 0 e in omega (arith, k, length-append s.tokens (t ∷ [])))
    go false e = line_closes-snoc s.lines new ∙ last_closes-append s.tokens [] t ∙ other

-- a closing parenthesis that is the last token is one more
in_close : (m : Mode) (s : Scan) → s.mode ≡ m → line_closes (at_end (step_in m s 41)) ≡ true
    → count (step_in m s 41) ≡ suc (count s)
unfolding step_in finish_in put end_line
in_close InBlank s e h = begin_close s
in_close AfterSlash s e h = let k = begin_close (put Stray s) in let j = count-put Stray s in omega (arith, k, j)
in_close InWord s e h =
    rw close_is_no_word (let k = begin_close (put_word s) in let j = count-put_word s in omega (arith, k, j))
in_close InQuote s e h =
    absurd (let z : true ≡ false = sym h ∙ rw e (stray_last Stray (record s { part = s.part ++ 41 ∷ [] }) refl) in cc)
in_close AfterQuote s e h =
    let k = begin_close (put (Name s.part) s) in let j = count-put (Name s.part) s in omega (arith, k, j)
in_close InHex s e h =
    absurd (let z : true ≡ false = sym h ∙ rw close_is_no_hex (stray_last Stray (record s { mode = InBadHex }) refl) in
    cc)
in_close InHexLow s e h =
    absurd (let z : true ≡ false = sym h ∙ rw close_is_no_hex (stray_last Stray (record s { mode = InBadHex }) refl) in
    cc)
in_close InBadHex s e h = absurd (let z : true ≡ false = sym h ∙ rw e (stray_last Stray s refl) in cc)
in_close InComment s e h =
    absurd (let z : true ≡ false = sym h ∙ rw e (stray_last Unclosed (record (end_line s) { line = s.begun }) refl) in
    cc)
in_close AfterStar s e h =
    absurd (let z : true ≡ false =
    sym h ∙ stray_last Unclosed (record (end_line (record s { mode = InComment })) { line = s.begun }) refl in
    cc)

-- without its last parenthesis a text has one less
pub last_close : (init : List ℕ) → line_closes (lines_of (init ++ 41 ∷ [])) ≡ true
    → all_closes (lines_of (init ++ 41 ∷ [])) ≡ suc (all_closes (lines_of init))
unfolding lines_of step scan_from
last_close init h =
    let s = scan_from start init in
    let last : scan_from start (init ++ 41 ∷ []) ≡ step_in s.mode s 41 = scan-append start init (41 ∷ []) ∙ one s in
    let there : line_closes (at_end (step_in s.mode s 41)) ≡ true =
    ap (λ (x : Scan). line_closes (at_end x)) (sym last) ∙ h in
    text_closes (init ++ 41 ∷ []) ∙ ap count last ∙ in_close s.mode s refl there ∙ ap suc (sym (text_closes init))
  where
    one : (s : Scan) → scan_from s (41 ∷ []) ≡ step_in s.mode s 41
    one s = refl

-- ---- statements

-- the first statement has no more than all lines
pub first_closes : (ls : List TokenLine) (s : TokenLine)
    → closes (first_from s ls).tokens ≤ closes s.tokens + all_closes ls
unfolding first_from
first_closes [] s = omega arith
first_closes (l ∷ ls) s = go (goes_on s l) (first_closes ls (with_line s l))
  where
    go : (b : Bool) → closes (first_from (with_line s l) ls).tokens ≤ closes (s.tokens ++ l.tokens) + all_closes ls
        → closes (cond b (first_from (with_line s l) ls) s).tokens ≤ closes s.tokens + all_closes (l ∷ ls)
    go true h = let k = closes-append s.tokens l.tokens in omega (arith, h, k)
    go false h = omega arith

abbrev pub some : {A : Type 0} → Option A → ℕ
some None = 0
some (Some x) = 1

filled : Operands → ℕ
filled o = some o.which + some o.form + some o.q + some o.r

named_weight : (t : Token) (n : List ℕ) → Names t n → weight t ≡ 0
named_weight (Word w) n h = refl
named_weight (Name w) n h = refl
named_weight _ n h = absurd h

given_closes : (xs : List Operand) (o p : Operands) → Sets IsFree set o xs p
    → closes (flat_map operand xs) + filled o ≡ filled p
unfolding filled
given_closes [] o p h = rw h (omega arith)
given_closes (WithRnl which ∷ xs) o p h =
    let k = given_closes xs (set (WithRnl which) o) p h.1 in let f = ap some h.0 in omega (arith, k, f)
given_closes (WithType form ∷ xs) o p h =
    let k = given_closes xs (set (WithType form) o) p h.1 in let f = ap some h.0 in omega (arith, k, f)
given_closes (WithQname t q ∷ xs) o p h =
    let k = given_closes xs (set (WithQname t q) o) p h.1 in
    let f = ap some h.0.0 in
    let w = named_weight t q h.0.1 in
    omega (arith, k, f, w)
given_closes (WithRname t r ∷ xs) o p h =
    let k = given_closes xs (set (WithRname t r) o) p h.1 in
    let f = ap some h.0.0 in
    let w = named_weight t r h.0.1 in
    omega (arith, k, f, w)

-- an RNLDEF has one for each operand
pub rnldef_closes : (ts : List Token) (d : Rnldef) → IsRnldef ts d → closes ts ≡ 3 + some d.r
unfolding filled
rnldef_closes ts d h =
    let k =
    given_closes h.given no_operands (record { which = Some d.which; form = Some d.form; q = Some d.q; r = d.r })
    h.operands in
    let e = ap closes h.spelled in
    omega (arith, k, e)

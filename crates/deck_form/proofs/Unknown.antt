-- Why a line is no statement.
use Rattle.std.proofs.Common.{◌≡◌, inl, inr, ◌⊎◌, ℕ, Bool, true, false, cond, List, [], ◌∷◌, Option, Some, None, Result}
use Rattle.std.proofs.Common.{Ok, Err, refl, sym, ap, subst, ◌∙◌}
use Rattle.std.proofs.lemmas.Bool.{or_parts}
use Rattle.std.specs.Prelude.{codes, is_some}
use Rattle.std.specs.Str.{bytes_eq}
use Rattle.grs_base.specs.declared.fault.Kind.{Kind}
use Rattle.grs_base.specs.declared.fault.Kind.TheVariants.{TooLong, BadByte, UnknownStatement, BadOperand, NameLength}
use Rattle.grs_base.specs.declared.fault.Kind.TheVariants.{Repeated, OutOfPlace, TooMany, UnknownName, NoSystem}
use Rattle.deck_scan.specs.declared.token.Token.{Token}
use Rattle.deck_scan.specs.declared.token.Token.TheVariants.{Word, Unclosed}
use Rattle.deck_scan.specs.declared.token.TokenLine.{TokenLine}
use Rattle.deck_form.specs.declared.form.Stmt.{Stmt}
use Rattle.deck_form.specs.declared.form.Key.{Key}
use Rattle.deck_form.specs.declared.form.Key.TheVariants as keys
use Rattle.job_syntax.specs.declared.line_ask.LineWord.{LineWord}
use Rattle.job_syntax.specs.LineAsk.{line_word}
use Rattle.rnl_syntax.specs.Lines.{is_rnldef_word}
use Rattle.deck_form.specs.Form.{line_key, key, plain_form, or_bad, keyed, first_form, event_form, form}
use Rattle.deck_form.specs.Spelled.{Spells, is_statement_word, BeginsOtherwise, NoWord, IsNoStatement, Answers}
use Rattle.deck_form.proofs.Taken.{form_taken}
use Rattle.deck_form.proofs.Again.{form_again}

abbrev pub failed : Kind → Result Stmt Kind
failed k = Err k

abbrev pub formed : Stmt → Result Stmt Kind
formed st = Ok st

pub failed_is : (j k : Kind) → failed j ≡ failed k → j ≡ k
failed_is j k h = cc

pub formed_is : (a b : Stmt) → formed a ≡ formed b → a ≡ b
formed_is a b h = cc

pub not_both : {A : Type 0} (r : Result Stmt Kind) (st : Stmt) (k : Kind) → r ≡ formed st → r ≡ failed k → A
not_both r st k h e = absurd (let z : formed st ≡ failed k = sym h ∙ e in cc)

-- ---- the first word

test_fails : (b : Bool) (k r : Key) → (k ≡ keys.Unknown → ⊥) → cond b k r ≡ keys.Unknown
    → (b ≡ false) × (r ≡ keys.Unknown)
test_fails true k r other h = absurd (other h)
test_fails false k r other h = (refl, h)

no_line : (o : Option LineWord) → line_key o ≡ keys.Unknown → is_some o ≡ false
no_line None h = refl
no_line (Some v) h = absurd cc

line_none : (o : Option LineWord) → is_some o ≡ false → line_key o ≡ keys.Unknown
line_none None h = refl
line_none (Some v) h = absurd cc

-- no test of a key passes
key_unknown : (w : List ℕ) → key w ≡ keys.Unknown → is_statement_word w ≡ false
unfolding key
key_unknown w h =
    let a = test_fails (bytes_eq w (codes "COMPLEX")) keys.Complex _ (λ e. cc) h in
    let r = test_fails (is_rnldef_word w) keys.Rnldef _ (λ e. cc) a.1 in
    let b = test_fails (bytes_eq w (codes "SYSTEM")) keys.System _ (λ e. cc) r.1 in
    let c = test_fails (bytes_eq w (codes "JOB")) keys.Job _ (λ e. cc) b.1 in
    let d = test_fails (bytes_eq w (codes "TASK")) keys.Task _ (λ e. cc) c.1 in
    let t = test_fails (bytes_eq w (codes "AT")) keys.At _ (λ e. cc) d.1 in
    let f = test_fails (bytes_eq w (codes "SCHEDULE")) keys.Schedule _ (λ e. cc) t.1 in
    rw (a.0, r.0, b.0, c.0, d.0, t.0, f.0, no_line (line_word w) f.1) refl

unknown_key : (w : List ℕ) → is_statement_word w ≡ false → key w ≡ keys.Unknown
unfolding key
unknown_key w h =
    let a = or_parts (bytes_eq w (codes "COMPLEX")) _ h in
    let r = or_parts (is_rnldef_word w) _ a.1 in
    let b = or_parts (bytes_eq w (codes "SYSTEM")) _ r.1 in
    let c = or_parts (bytes_eq w (codes "JOB")) _ b.1 in
    let d = or_parts (bytes_eq w (codes "TASK")) _ c.1 in
    let t = or_parts (bytes_eq w (codes "AT")) _ d.1 in
    let f = or_parts (bytes_eq w (codes "SCHEDULE")) (is_some (line_word w)) t.1 in
    rw (a.0, r.0, b.0, c.0, d.0, t.0, f.0) (line_none (line_word w) f.1)

bad_not_unknown : (o : Option Stmt) → or_bad o ≡ failed UnknownStatement → ⊥
bad_not_unknown (Some st) h = cc
bad_not_unknown None h = cc

keyed_none : (k : Key) (ts : List Token) → keyed k ts ≡ failed UnknownStatement → k ≡ keys.Unknown
keyed_none keys.Unknown ts h = refl
keyed_none keys.Complex ts h = absurd (bad_not_unknown (plain_form keys.Complex ts) h)
keyed_none keys.System ts h = absurd (bad_not_unknown (plain_form keys.System ts) h)
keyed_none keys.Job ts h = absurd (bad_not_unknown (plain_form keys.Job ts) h)
keyed_none keys.Task ts h = absurd (bad_not_unknown (plain_form keys.Task ts) h)
keyed_none (keys.Line v) ts h = absurd (bad_not_unknown (plain_form (keys.Line v) ts) h)
keyed_none keys.Rnldef ts h = absurd (bad_not_unknown (plain_form keys.Rnldef ts) h)
keyed_none keys.At ts h = absurd (bad_not_unknown (plain_form keys.At ts) h)
keyed_none keys.Schedule ts h = absurd (bad_not_unknown (plain_form keys.Schedule ts) h)

first_unknown : (joined : Bool) (ts : List Token) → first_form joined ts ≡ failed UnknownStatement
    → (joined ≡ true) ⊎ BeginsOtherwise ts
unfolding first_form
first_unknown true ts h = inl refl
first_unknown false (Word w ∷ ts) h = inr (key_unknown w (keyed_none (key w) ts h))
first_unknown false (Unclosed ∷ ts) h = absurd cc
first_unknown false [] h = inr tt
first_unknown false (_ ∷ ts) h = inr tt

unknown_first : (joined : Bool) (ts : List Token) → (joined ≡ true) ⊎ BeginsOtherwise ts
    → first_form joined ts ≡ failed UnknownStatement
unfolding first_form
unknown_first true ts h = refl
unknown_first false (Word w ∷ ts) (inr h) = rw (unknown_key w h) refl
unknown_first false (Unclosed ∷ ts) (inr h) = absurd h
unknown_first false [] (inr h) = refl
unknown_first false (_ ∷ ts) (inr h) = refl
unknown_first false ts (inl h) = absurd cc

pub unknown_there : (scheduled : Bool) (entries : ℕ) (l : TokenLine)
    → form scheduled entries l ≡ failed UnknownStatement → (scheduled ≡ false) × NoWord l
unfolding form
unknown_there false entries l h = (refl, first_unknown l.joined l.tokens h)
unknown_there true entries l h = absurd (bad_not_unknown (event_form entries l.tokens) h)

pub there_unknown : (scheduled : Bool) (entries : ℕ) (l : TokenLine) → scheduled ≡ false → NoWord l
    → form scheduled entries l ≡ failed UnknownStatement
unfolding form
there_unknown false entries l e h = unknown_first l.joined l.tokens h
there_unknown true entries l e h = absurd cc

-- ---- the two kinds

or_bad_kind : (o : Option Stmt) (k : Kind) → or_bad o ≡ failed k → BadOperand ≡ k
or_bad_kind (Some st) k h = absurd cc
or_bad_kind None k h = cc

keyed_kind : (w : Key) (ts : List Token) (k : Kind) → keyed w ts ≡ failed k → (UnknownStatement ≡ k) ⊎ (BadOperand ≡ k)
keyed_kind keys.Unknown ts k h = inl cc
keyed_kind keys.Complex ts k h = inr (or_bad_kind (plain_form keys.Complex ts) k h)
keyed_kind keys.System ts k h = inr (or_bad_kind (plain_form keys.System ts) k h)
keyed_kind keys.Job ts k h = inr (or_bad_kind (plain_form keys.Job ts) k h)
keyed_kind keys.Task ts k h = inr (or_bad_kind (plain_form keys.Task ts) k h)
keyed_kind (keys.Line v) ts k h = inr (or_bad_kind (plain_form (keys.Line v) ts) k h)
keyed_kind keys.Rnldef ts k h = inr (or_bad_kind (plain_form keys.Rnldef ts) k h)
keyed_kind keys.At ts k h = inr (or_bad_kind (plain_form keys.At ts) k h)
keyed_kind keys.Schedule ts k h = inr (or_bad_kind (plain_form keys.Schedule ts) k h)

first_kind : (joined : Bool) (ts : List Token) (k : Kind) → first_form joined ts ≡ failed k
    → (UnknownStatement ≡ k) ⊎ (BadOperand ≡ k)
unfolding first_form
first_kind true ts k h = inl cc
first_kind false (Word w ∷ ts) k h = keyed_kind (key w) ts k h
first_kind false (Unclosed ∷ ts) k h = inr cc
first_kind false [] k h = inl cc
first_kind false (_ ∷ ts) k h = inl cc

form_kind : (scheduled : Bool) (entries : ℕ) (l : TokenLine) (k : Kind) → form scheduled entries l ≡ failed k
    → (UnknownStatement ≡ k) ⊎ (BadOperand ≡ k)
unfolding form
form_kind false entries l k h = first_kind l.joined l.tokens k h
form_kind true entries l k h = inr (or_bad_kind (event_form entries l.tokens) k h)

-- a line that isn't read is no statement
pub is_none : (scheduled : Bool) (entries : ℕ) (l : TokenLine) (k : Kind) → form scheduled entries l ≡ failed k
    → IsNoStatement k scheduled entries l
is_none scheduled entries l k h = elim (form_kind scheduled entries l k h) [
  | inl e ↦ subst (λ (x : Kind). IsNoStatement x scheduled entries l) e
      (unknown_there scheduled entries l (h ∙ ap failed (sym e)))
  | inr e ↦ subst (λ (x : Kind). IsNoStatement x scheduled entries l) e (
    known (h ∙ ap failed (sym e)),
    λ st s. not_both (form scheduled entries l) st k (form_again scheduled entries l st s) h,
  )
]
  where
    known : form scheduled entries l ≡ failed BadOperand → scheduled ≡ false → NoWord l → ⊥
    known is e no_word =
        let z : failed UnknownStatement ≡ failed BadOperand = sym (there_unknown scheduled entries l e no_word) ∙ is in
        cc

-- a line that is no statement isn't read
pub none_is : (scheduled : Bool) (entries : ℕ) (l : TokenLine) (k : Kind) → IsNoStatement k scheduled entries l
    → form scheduled entries l ≡ failed k
none_is scheduled entries l UnknownStatement h = there_unknown scheduled entries l h.0 h.1
none_is scheduled entries l BadOperand h = go (form scheduled entries l) refl
  where
    go : (r : Result Stmt Kind) → form scheduled entries l ≡ r → r ≡ failed BadOperand
    go (Ok st) is = absurd (h.1 st (form_taken scheduled entries l st is))
    go (Err k) is = elim (form_kind scheduled entries l k is) [
      | inl e ↦ let u = unknown_there scheduled entries l (is ∙ ap failed (sym e)) in absurd (h.0 u.0 u.1)
      | inr e ↦ ap failed (sym e)
    ]
none_is scheduled entries l TooLong h = absurd h
none_is scheduled entries l BadByte h = absurd h
none_is scheduled entries l NameLength h = absurd h
none_is scheduled entries l Repeated h = absurd h
none_is scheduled entries l OutOfPlace h = absurd h
none_is scheduled entries l TooMany h = absurd h
none_is scheduled entries l UnknownName h = absurd h
none_is scheduled entries l NoSystem h = absurd h

-- ---- what is answered

pub answers : (r : Result Stmt Kind) (scheduled : Bool) (entries : ℕ) (l : TokenLine) → r ≡ form scheduled entries l
    → Answers r scheduled entries l
answers (Ok st) scheduled entries l h = form_taken scheduled entries l st (sym h)
answers (Err k) scheduled entries l h = is_none scheduled entries l k (sym h)

pub one_spelled : (scheduled : Bool) (entries : ℕ) (l : TokenLine) (a b : Stmt) → Spells scheduled entries l a
    → Spells scheduled entries l b → a ≡ b
one_spelled scheduled entries l a b h k =
    formed_is a b (sym (form_again scheduled entries l a h) ∙ form_again scheduled entries l b k)

pub either : (scheduled : Bool) (entries : ℕ) (l : TokenLine)
    → ((st : Stmt) × Spells scheduled entries l st) ⊎ ((k : Kind) × IsNoStatement k scheduled entries l)
either scheduled entries l = go (form scheduled entries l) refl
  where
    go : (r : Result Stmt Kind) → form scheduled entries l ≡ r
        → ((st : Stmt) × Spells scheduled entries l st) ⊎ ((k : Kind) × IsNoStatement k scheduled entries l)
    go (Ok st) is = inl (st, form_taken scheduled entries l st is)
    go (Err k) is = inr (k, is_none scheduled entries l k is)

pub apart : (scheduled : Bool) (entries : ℕ) (l : TokenLine) (st : Stmt) (k : Kind) → Spells scheduled entries l st
    → IsNoStatement k scheduled entries l → ⊥
apart scheduled entries l st k s h =
    not_both (form scheduled entries l) st k (form_again scheduled entries l st s) (none_is scheduled entries l k h)

pub one_kind : (scheduled : Bool) (entries : ℕ) (l : TokenLine) (j k : Kind) → IsNoStatement j scheduled entries l
    → IsNoStatement k scheduled entries l → j ≡ k
one_kind scheduled entries l j k a b =
    failed_is j k (sym (none_is scheduled entries l j a) ∙ none_is scheduled entries l k b)

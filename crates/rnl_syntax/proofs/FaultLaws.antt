-- The fault of an RNLDEF is told by the table of kinds, and a text makes an entry or has one fault.
use Rattle.std.proofs.Common.{◌≡◌, inl, inr, ◌⊎◌, ℕ, Bool, true, false, cond, List, [], ◌∷◌, Option, Some, None, Result}
use Rattle.std.proofs.Common.{Ok, Err, refl, sym, ap, subst, ◌∙◌}
use Rattle.std.specs.Prelude.{codes}
use Rattle.grs_base.specs.declared.fault.DeckFault.{DeckFault}
use Rattle.grs_base.specs.declared.fault.Kind.{Kind}
use Rattle.grs_base.specs.declared.fault.Kind.TheVariants.{UnknownStatement, BadOperand, NameLength}
use Rattle.grs_base.specs.declared.fault.ReadError.{ReadError}
use Rattle.grs_base.specs.declared.fault.ReadError.TheVariants as read_errors
use Rattle.grs_base.specs.declared.rnl.RnlEntry.{RnlEntry}
use Rattle.deck_scan.specs.declared.token.Token.{Token}
use Rattle.deck_scan.specs.declared.token.Token.TheVariants.{Word, Unclosed}
use Rattle.deck_scan.specs.declared.token.TokenLine.{TokenLine}
use Rattle.deck_scan.specs.AnyBytes.{readable}
use Rattle.deck_scan.specs.Scan.{lines_of}
use Rattle.deck_scan.specs.Gives.{◌>>=◌, refused, or_bad}
use Rattle.deck_scan.proofs.AnyLemmas.{some_lines}
use Rattle.deck_scan.proofs.Taking.{same_bytes}
use Rattle.rnl_syntax.specs.declared.operands.Rnldef.{Rnldef}
use Rattle.rnl_syntax.specs.Lines.{is_rnldef_word}
use Rattle.rnl_syntax.specs.Operands.{rnldef_at, has_bad_name, entry_of}
use Rattle.rnl_syntax.specs.Reading.{first_statement, by_word, by_first, rnldef_on, sized, entry_on, reading}
use Rattle.rnl_syntax.specs.Reading.{MakesEntry, BeginsOtherwise, NoWord, IsStatement, IsWrong, IsFault, Answers, Found}
use Rattle.rnl_syntax.proofs.Taken.{rnldef_taken}
use Rattle.rnl_syntax.proofs.Again.{rnldef_again}
use Rattle.rnl_syntax.proofs.ReadLaws.{lines_are, there_statement, statement_of, reading_makes, makes_reading}

abbrev made : ℕ → Kind → DeckFault
made at kind = record { line = at; kind = kind }

abbrev fault_of : DeckFault → Result Rnldef DeckFault
fault_of f = Err f

abbrev fault_as : DeckFault → Result RnlEntry DeckFault
fault_as f = Err f

abbrev read_as : RnlEntry → Result RnlEntry DeckFault
read_as e = Ok e

fault_is : (f g : DeckFault) → fault_as f ≡ fault_as g → f ≡ g
fault_is f g h = cc

-- ---- a fault is the statement's

abbrev IsBad : TokenLine → DeckFault → Type 0
IsBad s f = IsWrong f.kind f.line (Some s)

told : (s : TokenLine) (f g : DeckFault) → fault_of f ≡ fault_of g → IsBad s f → IsBad s g
told s f g e h = subst (IsBad s) (let k : f ≡ g = cc in k) h

same_parts : (x y : List ℕ) (xs ys : List Token) → Word x ∷ xs ≡ Word y ∷ ys → (x ≡ y) × (xs ≡ ys)
same_parts x y xs ys e = (cc, cc)

no_statement : (w : List ℕ) (ts : List Token) → rnldef_at ts ≡ None → (d : Rnldef) → IsStatement (Word w ∷ ts) d → ⊥
no_statement w ts none d h =
    let first = same_parts w (codes "RNLDEF") ts h.0 h.1 in
    let there : rnldef_at ts ≡ Some d = ap rnldef_at first.1 ∙ rnldef_again h.0 d h.2 in
    let k : None ≡ Some d = sym none ∙ there in
    cc

word_bad : (s : TokenLine) (w : List ℕ) (ts : List Token) (f : DeckFault) → s.joined ≡ false → s.tokens ≡ Word w ∷ ts
    → by_word s.at w ts ≡ fault_of f → IsBad s f
word_bad s w ts f apart is h = go (is_rnldef_word w) refl h
  where
    word : is_rnldef_word w ≡ true → NoWord s → ⊥
    word e (inl joined) = let k : true ≡ false = sym joined ∙ apart in cc
    word e (inr other) = let k : true ≡ false = sym e ∙ subst BeginsOtherwise is other in cc

    form : (o : Option Rnldef) → is_rnldef_word w ≡ true → rnldef_at ts ≡ o → or_bad s.at o ≡ fault_of f → IsBad s f
    form (Some d) e there k = absurd cc
    form None e there k =
        told s (made s.at BadOperand) f k
        (refl, word e, λ d says. no_statement w ts there d (subst (λ (x : List Token). IsStatement x d) is says))

    go : (b : Bool) → is_rnldef_word w ≡ b
        → cond b (or_bad s.at (rnldef_at ts)) (refused s.at UnknownStatement) ≡ fault_of f → IsBad s f
    go true e k = form (rnldef_at ts) e refl k
    go false e k = told s (made s.at UnknownStatement) f k (refl, inr (subst BeginsOtherwise (sym is) e))

open_bad : (s : TokenLine) (ts : List Token) → s.joined ≡ false → s.tokens ≡ Unclosed ∷ ts
    → IsBad s (made s.at BadOperand)
open_bad s ts apart
    is = (refl, word, λ d says. let k : Unclosed ∷ ts ≡ Word (codes "RNLDEF") ∷ says.0 = sym is ∙ says.1 in cc)
  where
    word : NoWord s → ⊥
    word (inl joined) = let k : true ≡ false = sym joined ∙ apart in cc
    word (inr other) = subst BeginsOtherwise is other

first_bad : (s : TokenLine) (ts : List Token) (f : DeckFault) → s.joined ≡ false → s.tokens ≡ ts
    → by_first s.at ts ≡ fault_of f → IsBad s f
first_bad s (Word w ∷ ts) f apart is h = word_bad s w ts f apart is h
first_bad s (Unclosed ∷ ts) f apart is h = told s (made s.at BadOperand) f h (open_bad s ts apart is)
first_bad s [] f apart is h = told s (made s.at UnknownStatement) f h (refl, inr (subst BeginsOtherwise (sym is) tt))
first_bad s (_ ∷ ts) f apart is h =
    told s (made s.at UnknownStatement) f h (refl, inr (subst BeginsOtherwise (sym is) tt))

statement_bad : (s : TokenLine) (f : DeckFault) → rnldef_on s ≡ fault_of f → IsBad s f
unfolding rnldef_on
statement_bad s f h = go s.joined refl h
  where
    go : (b : Bool) → s.joined ≡ b → cond b (refused s.at UnknownStatement) (by_first s.at s.tokens) ≡ fault_of f
        → IsBad s f
    go true is k = told s (made s.at UnknownStatement) f k (refl, inl is)
    go false is k = first_bad s s.tokens f is refl k

names_bad : (s : TokenLine) (d : Rnldef) (f : DeckFault) → s.joined ≡ false → IsStatement s.tokens d
    → sized s.at d ≡ fault_as f → IsBad s f
names_bad s d f apart says h = go (has_bad_name d) refl h
  where
    go : (b : Bool) → has_bad_name d ≡ b → cond b (refused s.at NameLength) (read_as (entry_of d)) ≡ fault_as f
        → IsBad s f
    go true is k = subst (IsBad s) (fault_is (made s.at NameLength) f k) (refl, apart, (d, says, is))
    go false is k = absurd cc

-- A fault that is told is that of the statement.
pub fault_there : (o : Option TokenLine) (f : DeckFault) → entry_on o ≡ fault_as f → IsWrong f.kind f.line o
fault_there None f h =
    subst (λ (g : DeckFault). IsWrong g.kind g.line None) (fault_is (made 1 UnknownStatement) f h) refl
fault_there (Some s) f h = go (rnldef_on s) refl h
  where
    go : (r : Result Rnldef DeckFault) → rnldef_on s ≡ r → (r >>= λ d. sized s.at d) ≡ fault_as f
        → IsWrong f.kind f.line (Some s)
    go (Ok d) is k = let there = statement_of s d is in names_bad s d f there.0 there.1 k
    go (Err g) is k = statement_bad s f (is ∙ ap fault_of (fault_is g f k))

-- ---- and no other

other_first : (at : ℕ) (ts : List Token) → BeginsOtherwise ts → by_first at ts ≡ refused at UnknownStatement
other_first at (Word w ∷ ts) h = rw h refl
other_first at (Unclosed ∷ ts) h = absurd h
other_first at [] h = refl
other_first at (_ ∷ ts) h = refl

formless_first : (at : ℕ) (ts : List Token) → (BeginsOtherwise ts → ⊥) → ((d : Rnldef) → IsStatement ts d → ⊥)
    → by_first at ts ≡ refused at BadOperand
formless_first at (Word w ∷ ts) word form = go (is_rnldef_word w) refl
  where
    by : (o : Option Rnldef) → is_rnldef_word w ≡ true → rnldef_at ts ≡ o → or_bad at o ≡ refused at BadOperand
    by None e is = refl
    by (Some d) e is =
        absurd (form d (ts, ap (λ (x : List ℕ). Word x ∷ ts) (same_bytes w (codes "RNLDEF") e), rnldef_taken ts d is))

    go : (b : Bool) → is_rnldef_word w ≡ b
        → cond b (or_bad at (rnldef_at ts)) (refused at UnknownStatement) ≡ refused at BadOperand
    go true e = by (rnldef_at ts) e refl
    go false e = absurd (word e)
formless_first at (Unclosed ∷ ts) word form = refl
formless_first at [] word form = absurd (word tt)
formless_first at (_ ∷ ts) word form = absurd (word tt)

no_word_on : (s : TokenLine) → NoWord s → rnldef_on s ≡ refused s.at UnknownStatement
unfolding rnldef_on
no_word_on s (inl joined) = rw joined refl
no_word_on s (inr other) = go s.joined
  where
    go : (b : Bool) → cond b (refused s.at UnknownStatement) (by_first s.at s.tokens) ≡ refused s.at UnknownStatement
    go true = refl
    go false = other_first s.at s.tokens other

no_form_on : (s : TokenLine) → (NoWord s → ⊥) → ((d : Rnldef) → IsStatement s.tokens d → ⊥)
    → rnldef_on s ≡ refused s.at BadOperand
unfolding rnldef_on
no_form_on s word form = go s.joined refl
  where
    go : (b : Bool) → s.joined ≡ b
        → cond b (refused s.at UnknownStatement) (by_first s.at s.tokens) ≡ refused s.at BadOperand
    go true is = absurd (word (inl is))
    go false is = formless_first s.at s.tokens (λ other. word (inr other)) form

-- A fault of the statement is told.
there_fault : (k : Kind) (at : ℕ) (o : Option TokenLine) → IsWrong k at o → entry_on o ≡ fault_as (made at k)
there_fault UnknownStatement at None h = rw h refl
there_fault UnknownStatement at (Some s) h = rw (no_word_on s h.1, h.0) refl
there_fault BadOperand at (Some s) h = rw (no_form_on s h.1 h.2, h.0) refl
there_fault NameLength at (Some s) h = rw (there_statement s h.2.1.0 h.2.0 h.1 h.2.1.1 h.2.1.2, h.2.2, h.0) refl
there_fault _ at o h = absurd h

-- ---- texts

fault_reading : (text : List ℕ) (f : DeckFault) → IsFault text f → reading text ≡ fault_as f
unfolding reading
fault_reading text f h =
    ap (λ (ls : List TokenLine). entry_on (first_statement ls)) (lines_are text h.lines h.spelled)
    ∙ there_fault f.kind f.line (first_statement h.lines) h.wrong

reading_fault : (text : List ℕ) (f : DeckFault) → reading text ≡ fault_as f → IsFault text f
unfolding reading
reading_fault text f h = record {
  lines = lines_of (readable text);
  spelled = some_lines text;
  wrong = fault_there (first_statement (lines_of (readable text))) f h;
}

pub either : (text : List ℕ) → ((e : RnlEntry) × MakesEntry text e) ⊎ ((f : DeckFault) × IsFault text f)
either text = go (reading text) refl
  where
    go : (r : Result RnlEntry DeckFault) → reading text ≡ r
        → ((e : RnlEntry) × MakesEntry text e) ⊎ ((f : DeckFault) × IsFault text f)
    go (Ok e) is = inl (e, reading_makes text e is)
    go (Err f) is = inr (f, reading_fault text f is)

pub one : (text : List ℕ) (d e : RnlEntry) → MakesEntry text d → MakesEntry text e → d ≡ e
one text d e h k = let is : read_as d ≡ read_as e = sym (makes_reading text d h) ∙ makes_reading text e k in cc

pub one_fault : (text : List ℕ) (f g : DeckFault) → IsFault text f → IsFault text g → f ≡ g
one_fault text f g h k = fault_is f g (sym (fault_reading text f h) ∙ fault_reading text g k)

pub apart : (text : List ℕ) (e : RnlEntry) (f : DeckFault) → MakesEntry text e → IsFault text f → ⊥
apart text e f h k = let is : read_as e ≡ fault_as f = sym (makes_reading text e h) ∙ fault_reading text f k in cc

pub answers : (text : List ℕ) (r : Result (RnlEntry × ℕ) ReadError) → Found r text → Answers r text
answers text (Ok x) h = h.1
answers text (Err read_errors.NoMemory) h = tt
answers text (Err (read_errors.Fault f)) h = reading_fault text f h

-- The reader of one task line answers what its text spells.
use Rattle.std.proofs.Common.{◌≡◌, inl, inr, ◌⊎◌, ℕ, Bool, true, false, cond, List, [], ◌∷◌, Option, Some, None, Result}
use Rattle.std.proofs.Common.{Ok, Err, refl, sym, ap, subst, ◌∙◌}
use Rattle.grs_base.specs.declared.fault.DeckFault.{DeckFault}
use Rattle.grs_base.specs.declared.fault.Kind.{Kind}
use Rattle.grs_base.specs.declared.fault.Kind.TheVariants.{UnknownStatement, BadOperand, NameLength}
use Rattle.grs_base.specs.declared.fault.ReadError.{ReadError}
use Rattle.grs_base.specs.declared.fault.ReadError.TheVariants as read_errors
use Rattle.grs_base.specs.declared.line.Line.{Line}
use Rattle.deck_scan.specs.declared.token.Token.{Token}
use Rattle.deck_scan.specs.declared.token.Token.TheVariants.{Word, Unclosed}
use Rattle.deck_scan.specs.declared.token.TokenLine.{TokenLine}
use Rattle.deck_scan.specs.AnyBytes.{readable}
use Rattle.deck_scan.specs.Pieces.{SpellsLines}
use Rattle.deck_scan.specs.Scan.{lines_of}
use Rattle.deck_scan.specs.Gives.{◌>>=◌, Gives, IsOkUnlessMemory, refused, or_bad}
use Rattle.deck_scan.proofs.Pieced.{spelled_is}
use Rattle.deck_scan.proofs.AnyLemmas.{some_lines}
use Rattle.deck_scan.proofs.Texts.{bind_ok}
use Rattle.job_syntax.specs.declared.line_ask.LineAsk.{LineAsk}
use Rattle.job_syntax.specs.declared.line_ask.LineWord.{LineWord}
use Rattle.job_syntax.specs.LineAsk.{line_word, line_ask_at}
use Rattle.job_syntax.specs.Spelled.{line_word_for, IsWord, IsLineAsk}
use Rattle.job_syntax.specs.Lines.{has_bad_name, line_of}
use Rattle.job_syntax.specs.Reading.{line_ask_by, line_ask_first, line_ask_on, sized, alone, sized_alone, one_line}
use Rattle.job_syntax.specs.Reading.{SpellsLine, BeginsOtherwise, NoWord, NoForm, IsFurther, IsWrong, IsFault, Answers}
use Rattle.job_syntax.proofs.Taken.{line_taken, line_word_taken}
use Rattle.job_syntax.proofs.Again.{line_ask_again, line_word_again}

abbrev read_as : Line → Result Line DeckFault
read_as l = Ok l

line_is : (l m : Line) → read_as l ≡ read_as m → l ≡ m
line_is l m h = cc

-- ---- one line

some_bad : (at : ℕ) (o : Option LineAsk) (s : LineAsk) → or_bad at o ≡ Ok s → o ≡ Some s
some_bad at (Some x) s e = cc
some_bad at None s e = absurd cc

by_line_word : (at : ℕ) (w : List ℕ) (o : Option LineWord) (ts : List Token) (s : LineAsk) → line_word w ≡ o
    → line_ask_by at o ts ≡ Ok s → IsLineAsk (Word w ∷ ts) s
by_line_word at w (Some v) ts s is e = line_taken w ts v s is (some_bad at (line_ask_at v ts) s e)
by_line_word at w None ts s is e = absurd cc

first_line_ask : (at : ℕ) (ts : List Token) (s : LineAsk) → line_ask_first at ts ≡ Ok s → IsLineAsk ts s
first_line_ask at (Word w ∷ ts) s e = by_line_word at w (line_word w) ts s refl e
first_line_ask at (Unclosed ∷ ts) s e = absurd cc
first_line_ask at [] s e = absurd cc
first_line_ask at (_ ∷ ts) s e = absurd cc

line_ask_there : (l : TokenLine) (s : LineAsk) → line_ask_on l ≡ Ok s → (l.joined ≡ false) × IsLineAsk l.tokens s
unfolding line_ask_on
line_ask_there l s e = go l.joined refl e
  where
    go : (b : Bool) → l.joined ≡ b → cond b (refused l.at UnknownStatement) (line_ask_first l.at l.tokens) ≡ Ok s
        → (l.joined ≡ false) × IsLineAsk l.tokens s
    go true is k = absurd cc
    go false is k = (is, first_line_ask l.at l.tokens s k)

there_line_ask : (l : TokenLine) (s : LineAsk) → l.joined ≡ false → IsLineAsk l.tokens s → line_ask_on l ≡ Ok s
unfolding line_ask_on
there_line_ask l s apart h =
    rw (apart, h.parts, line_word_again (line_word_for s) h.word h.is_word, line_ask_again h.behind s h.is_behind) refl

sized_ok : (at : ℕ) (s t : LineAsk) → sized at s ≡ Ok t → (has_bad_name s ≡ false) × (s ≡ t)
sized_ok at s t e = go (has_bad_name s) refl e
  where
    go : (b : Bool) → has_bad_name s ≡ b → cond b (refused at NameLength) (Ok s) ≡ Ok t
        → (has_bad_name s ≡ false) × (s ≡ t)
    go true is k = absurd cc
    go false is k = (is, cc)

alone_ok : (s : LineAsk) (ls : List TokenLine) (line : Line) → alone s ls ≡ Ok line → (ls ≡ []) × (line_of s ≡ line)
alone_ok s [] line e = (refl, line_is (line_of s) line e)
alone_ok s (l ∷ ls) line e = absurd cc

-- the lines of a text that spells a line of a task
record Lines (ls : List TokenLine) (line : Line) : Type 0 where
  tokens : TokenLine
  all : ls ≡ tokens ∷ []
  apart : tokens.joined ≡ false
  line_ask : LineAsk
  says : IsLineAsk tokens.tokens line_ask
  names : has_bad_name line_ask ≡ false
  makes : line_of line_ask ≡ line

one_there : (ls : List TokenLine) (line : Line) → one_line ls ≡ Ok line → Lines ls line
unfolding one_line
one_there [] line e = absurd cc
one_there (l ∷ ls) line e =
    let s = bind_ok (line_ask_on l) (λ s. sized_alone l.at s ls) line e in
    let t = bind_ok (sized l.at s.0) (λ t. alone t ls) line s.2 in
    let right = sized_ok l.at s.0 t.0 t.1 in
    let last = alone_ok t.0 ls line t.2 in
    let there = line_ask_there l s.0 s.1 in
    record {
      tokens = l;
      all = ap (λ (x : List TokenLine). l ∷ x) last.0;
      apart = there.0;
      line_ask = s.0;
      says = there.1;
      names = right.0;
      makes = ap line_of right.1 ∙ last.1;
    }

there_one : (ls : List TokenLine) (line : Line) → Lines ls line → one_line ls ≡ Ok line
unfolding one_line
there_one ls line h = rw (h.all, there_line_ask h.tokens h.line_ask h.apart h.says, h.names) (ap read_as h.makes)

-- ---- faults

abbrev fault_as : DeckFault → Result Line DeckFault
fault_as f = Err f

fault_is : (f g : DeckFault) → fault_as f ≡ fault_as g → f ≡ g
fault_is f g h = cc

abbrev line_word_as : LineWord → Option LineWord
line_word_as v = Some v

some_line_word : (v w : LineWord) → line_word_as v ≡ line_word_as w → v ≡ w
some_line_word v w e = cc

same_parts : (x y : List ℕ) (xs ys : List Token) → Word x ∷ xs ≡ Word y ∷ ys → (x ≡ y) × (xs ≡ ys)
same_parts x y xs ys e = (cc, cc)

-- behind a right word stands no form of it
no_line_ask : (w : List ℕ) (v : LineWord) (ts : List Token) → line_word w ≡ Some v → line_ask_at v ts ≡ None
    → (s : LineAsk) → IsLineAsk (Word w ∷ ts) s → ⊥
no_line_ask w v ts is none s h =
    let first = same_parts w h.word ts h.behind h.parts in
    let same : v ≡ line_word_for s =
    some_line_word v (line_word_for s)
    (sym is ∙ ap line_word first.0 ∙ line_word_again (line_word_for s) h.word h.is_word) in
    let there : line_ask_at v ts ≡ Some s = rw (same, first.1) (line_ask_again h.behind s h.is_behind) in
    let k : None ≡ Some s = sym none ∙ there in
    cc

no_line_word : (w : List ℕ) → line_word w ≡ None → (v : LineWord) → IsWord v w → ⊥
no_line_word w none v is = let k : None ≡ line_word_as v = sym none ∙ line_word_again v w is in cc

-- ---- a fault is the text's

-- a line has this fault, whatever stands behind it
abbrev IsBad : TokenLine → DeckFault → Type 0
IsBad l f = (ls : List TokenLine) → IsWrong f.kind f.line (l ∷ ls)

abbrev fault_of : DeckFault → Result LineAsk DeckFault
fault_of f = Err f

fault_same : (P : DeckFault → Type 0) (f g : DeckFault) → fault_of f ≡ fault_of g → P f → P g
fault_same P f g e h = subst P (let k : f ≡ g = cc in k) h

abbrev made : ℕ → Kind → DeckFault
made at kind = record { line = at; kind = kind }

has_word : (l : TokenLine) (w : List ℕ) (ts : List Token) (v : LineWord) → l.joined ≡ false → l.tokens ≡ Word w ∷ ts
    → line_word w ≡ Some v → NoWord l → ⊥
has_word l w ts v apart is of (inl joined) = let k : true ≡ false = sym joined ∙ apart in cc
has_word l w ts v apart is of (inr other) = subst BeginsOtherwise is other v (line_word_taken w v of)

word_bad : (l : TokenLine) (w : List ℕ) (ts : List Token) (f : DeckFault) → l.joined ≡ false → l.tokens ≡ Word w ∷ ts
    → line_ask_by l.at (line_word w) ts ≡ fault_of f → IsBad l f
word_bad l w ts f apart is h = go (line_word w) refl h
  where
    form : (v : LineWord) (o : Option LineAsk) → line_word w ≡ Some v → line_ask_at v ts ≡ o
        → or_bad l.at o ≡ fault_of f → IsBad l f
    form v (Some s) of there k = absurd cc
    form v None of there k =
        fault_same (IsBad l) (made l.at BadOperand) f k (λ ls.
        inl (
          refl,
          (
            has_word l w ts v apart is of,
            λ s says. no_line_ask w v ts of there s (subst (λ (x : List Token). IsLineAsk x s) is says),
          ),
        ))

    go : (o : Option LineWord) → line_word w ≡ o → line_ask_by l.at o ts ≡ fault_of f → IsBad l f
    go (Some v) of k = form v (line_ask_at v ts) of refl k
    go None of k =
        fault_same (IsBad l) (made l.at UnknownStatement) f k
        (λ ls. (refl, inr (subst BeginsOtherwise (sym is) (no_line_word w of))))

open_form : (l : TokenLine) (ts : List Token) → l.joined ≡ false → l.tokens ≡ Unclosed ∷ ts → NoForm l
open_form l ts apart
    is = (word, λ s says. let k : Unclosed ∷ ts ≡ Word says.word ∷ says.behind = sym is ∙ says.parts in cc)
  where
    word : NoWord l → ⊥
    word (inl joined) = let k : true ≡ false = sym joined ∙ apart in cc
    word (inr other) = subst BeginsOtherwise is other

first_bad : (l : TokenLine) (ts : List Token) (f : DeckFault) → l.joined ≡ false → l.tokens ≡ ts
    → line_ask_first l.at ts ≡ fault_of f → IsBad l f
first_bad l (Word w ∷ ts) f apart is h = word_bad l w ts f apart is h
first_bad l (Unclosed ∷ ts) f apart is h =
    fault_same (IsBad l) (made l.at BadOperand) f h (λ ls. inl (refl, open_form l ts apart is))
first_bad l [] f apart is h =
    fault_same (IsBad l) (made l.at UnknownStatement) f h (λ ls. (refl, inr (subst BeginsOtherwise (sym is) tt)))
first_bad l (_ ∷ ts) f apart is h =
    fault_same (IsBad l) (made l.at UnknownStatement) f h (λ ls. (refl, inr (subst BeginsOtherwise (sym is) tt)))

line_bad : (l : TokenLine) (f : DeckFault) → line_ask_on l ≡ fault_of f → IsBad l f
unfolding line_ask_on
line_bad l f h = go l.joined refl h
  where
    go : (b : Bool) → l.joined ≡ b → cond b (refused l.at UnknownStatement) (line_ask_first l.at l.tokens) ≡ fault_of f
        → IsBad l f
    go true is k = fault_same (IsBad l) (made l.at UnknownStatement) f k (λ ls. (refl, inl is))
    go false is k = first_bad l l.tokens f is refl k

-- the names of a task line, or a further line
line_ask_bad : (l : TokenLine) (s : LineAsk) (ls : List TokenLine) (f : DeckFault) → l.joined ≡ false
    → IsLineAsk l.tokens s → sized_alone l.at s ls ≡ fault_as f → IsWrong f.kind f.line (l ∷ ls)
line_ask_bad l s ls f apart says h = go (has_bad_name s) refl ls h
  where
    Wrong : List TokenLine → DeckFault → Type 0
    Wrong ms g = IsWrong g.kind g.line (l ∷ ms)

    go : (b : Bool) → has_bad_name s ≡ b → (ms : List TokenLine)
        → (cond b (refused l.at NameLength) (Ok s) >>= λ t. alone t ms) ≡ fault_as f → Wrong ms f
    go true is ms k =
        subst (λ (g : DeckFault). IsWrong g.kind g.line (l ∷ ms)) (fault_is (made l.at NameLength) f k)
        (refl, (apart, (s, says, is)))
    go false is [] k = absurd cc
    go false is (m ∷ ms) k =
        subst (λ (g : DeckFault). IsWrong g.kind g.line (l ∷ m ∷ ms)) (fault_is (made m.at BadOperand) f k)
        (inr (refl, (apart, (s, says, is))))

-- A fault that is told is that of the lines.
fault_there : (ls : List TokenLine) (f : DeckFault) → one_line ls ≡ fault_as f → IsWrong f.kind f.line ls
unfolding one_line
fault_there [] f h = subst (λ (g : DeckFault). IsWrong g.kind g.line []) (fault_is (made 1 UnknownStatement) f h) refl
fault_there (l ∷ ls) f h = go (line_ask_on l) refl h
  where
    go : (r : Result LineAsk DeckFault) → line_ask_on l ≡ r → (r >>= λ s. sized_alone l.at s ls) ≡ fault_as f
        → IsWrong f.kind f.line (l ∷ ls)
    go (Ok s) is k = let there = line_ask_there l s is in line_ask_bad l s ls f there.0 there.1 k
    go (Err g) is k = line_bad l f (is ∙ ap fault_of (fault_is g f k)) ls

-- ---- and no other

other_first : (at : ℕ) (ts : List Token) → BeginsOtherwise ts → line_ask_first at ts ≡ refused at UnknownStatement
other_first at (Word w ∷ ts) h = go (line_word w) refl
  where
    go : (o : Option LineWord) → line_word w ≡ o → line_ask_by at o ts ≡ refused at UnknownStatement
    go None is = refl
    go (Some v) is = absurd (h v (line_word_taken w v is))
other_first at (Unclosed ∷ ts) h = absurd h
other_first at [] h = refl
other_first at (_ ∷ ts) h = refl

formless_first : (at : ℕ) (ts : List Token) → (BeginsOtherwise ts → ⊥) → ((s : LineAsk) → IsLineAsk ts s → ⊥)
    → line_ask_first at ts ≡ refused at BadOperand
formless_first at (Word w ∷ ts) word form = go (line_word w) refl
  where
    by : (v : LineWord) (o : Option LineAsk) → line_word w ≡ Some v → line_ask_at v ts ≡ o
        → or_bad at o ≡ refused at BadOperand
    by v None of is = refl
    by v (Some s) of is = absurd (form s (line_taken w ts v s of is))

    go : (o : Option LineWord) → line_word w ≡ o → line_ask_by at o ts ≡ refused at BadOperand
    go None is = absurd (word (no_line_word w is))
    go (Some v) is = by v (line_ask_at v ts) is refl
formless_first at (Unclosed ∷ ts) word form = refl
formless_first at [] word form = absurd (word tt)
formless_first at (_ ∷ ts) word form = absurd (word tt)

no_word_on : (l : TokenLine) → NoWord l → line_ask_on l ≡ refused l.at UnknownStatement
unfolding line_ask_on
no_word_on l (inl joined) = rw joined refl
no_word_on l (inr other) = go l.joined
  where
    go : (b : Bool)
        → cond b (refused l.at UnknownStatement) (line_ask_first l.at l.tokens) ≡ refused l.at UnknownStatement
    go true = refl
    go false = other_first l.at l.tokens other

no_form_on : (l : TokenLine) → NoForm l → line_ask_on l ≡ refused l.at BadOperand
unfolding line_ask_on
no_form_on l h = go l.joined refl
  where
    go : (b : Bool) → l.joined ≡ b
        → cond b (refused l.at UnknownStatement) (line_ask_first l.at l.tokens) ≡ refused l.at BadOperand
    go true is = absurd (h.0 (inl is))
    go false is = formless_first l.at l.tokens (λ other. h.0 (inr other)) h.1

further_on : (at : ℕ) (l : TokenLine) (ls : List TokenLine) → IsFurther at l ls
    → one_line (l ∷ ls) ≡ fault_as (made at BadOperand)
unfolding one_line
further_on at l [] h = absurd h
further_on at l (m ∷ ms) h = rw (there_line_ask l h.1.1.0 h.1.0 h.1.1.1, h.1.1.2, h.0) refl

-- A fault of the lines is told.
there_fault : (k : Kind) (at : ℕ) (ls : List TokenLine) → IsWrong k at ls → one_line ls ≡ fault_as (made at k)
unfolding one_line
there_fault UnknownStatement at [] h = rw h refl
there_fault UnknownStatement at (l ∷ ls) h = rw (no_word_on l h.1, h.0) refl
there_fault BadOperand at (l ∷ ls) (inl h) = rw (no_form_on l h.1, h.0) refl
there_fault BadOperand at (l ∷ ls) (inr h) = further_on at l ls h
there_fault NameLength at (l ∷ ls) h = rw (there_line_ask l h.1.1.0 h.1.0 h.1.1.1, h.1.1.2, h.0) refl
there_fault _ at ls h = absurd h

-- ---- texts

-- What is read of a text.
reading : List ℕ → Result Line DeckFault
reading text = one_line (lines_of (readable text))

lines_are : (text : List ℕ) (ls : List TokenLine) → SpellsLines (readable text) ls → lines_of (readable text) ≡ ls
lines_are text ls h = spelled_is (readable text) ls h

spelled_by : (text : List ℕ) (ls : List TokenLine) (line : Line) → SpellsLines (readable text) ls
    → one_line ls ≡ Ok line → SpellsLine text line
spelled_by text ls line spelled h =
    let o = one_there ls line h in
    record {
      tokens = o.tokens;
      spelled = subst (λ (x : List TokenLine). SpellsLines (readable text) x) o.all spelled;
      apart = o.apart;
      line_ask = o.line_ask;
      says = o.says;
      names = o.names;
      makes = o.makes;
    }

-- What is spelled is read.
spells_reading : (text : List ℕ) (line : Line) → SpellsLine text line → reading text ≡ Ok line
unfolding reading
spells_reading text line h =
    ap one_line (lines_are text (h.tokens ∷ []) h.spelled)
    ∙ there_one (h.tokens ∷ []) line (record {
      tokens = h.tokens;
      all = refl;
      apart = h.apart;
      line_ask = h.line_ask;
      says = h.says;
      names = h.names;
      makes = h.makes;
    })

fault_reading : (text : List ℕ) (f : DeckFault) → IsFault text f → reading text ≡ fault_as f
unfolding reading
fault_reading text f h = ap one_line (lines_are text h.lines h.spelled) ∙ there_fault f.kind f.line h.lines h.wrong

pub either : (text : List ℕ) → ((l : Line) × SpellsLine text l) ⊎ ((f : DeckFault) × IsFault text f)
either text = go (one_line (lines_of (readable text))) refl
  where
    go : (r : Result Line DeckFault) → one_line (lines_of (readable text)) ≡ r
        → ((l : Line) × SpellsLine text l) ⊎ ((f : DeckFault) × IsFault text f)
    go (Ok l) is = inl (l, spelled_by text (lines_of (readable text)) l (some_lines text) is)
    go (Err f) is =
        inr (
          f,
          record {
            lines = lines_of (readable text);
            spelled = some_lines text;
            wrong = fault_there (lines_of (readable text)) f is;
          },
        )

pub one : (text : List ℕ) (l m : Line) → SpellsLine text l → SpellsLine text m → l ≡ m
one text l m h k = line_is l m (sym (spells_reading text l h) ∙ spells_reading text m k)

pub one_fault : (text : List ℕ) (f g : DeckFault) → IsFault text f → IsFault text g → f ≡ g
one_fault text f g h k = fault_is f g (sym (fault_reading text f h) ∙ fault_reading text g k)

pub apart : (text : List ℕ) (l : Line) (f : DeckFault) → SpellsLine text l → IsFault text f → ⊥
apart text l f h k = let e : read_as l ≡ fault_as f = sym (spells_reading text l h) ∙ fault_reading text f k in cc

-- ---- what is answered

pub answers : (text : List ℕ) (ls : List TokenLine) (r : Result Line ReadError) → SpellsLines (readable text) ls
    → Gives r (one_line ls) → Answers r text
answers text ls (Ok l) spelled h = spelled_by text ls l spelled h
answers text ls (Err read_errors.NoMemory) spelled h = tt
answers text ls (Err (read_errors.Fault f)) spelled
    h = record { lines = ls; spelled = spelled; wrong = fault_there ls f h }

pub only : (text : List ℕ) (r : Result Line ReadError) → Answers r text → (l : Line) → SpellsLine text l
    → IsOkUnlessMemory r l
only text (Ok m) h l s = one text m l h s
only text (Err read_errors.NoMemory) h l s = tt
only text (Err (read_errors.Fault f)) h l s = apart text l f s h

-- The reader of an RNLDEF answers what its text spells, and uses the bytes of the statement.
use Rattle.std.proofs.Common.{◌≡◌, ℕ, Bool, true, false, cond, ltb, List, [], ◌∷◌, ◌++◌, Option, Some, None, Result, Ok}
use Rattle.std.proofs.Common.{Err, refl, sym, ap, subst, ◌∙◌, arith, append_assoc}
use Rattle.std.specs.Prelude.{codes}
use Rattle.std.specs.List.{flat_map}
use Rattle.std.proofs.lemmas.Bool.{ltb-false, ltb-true}
use Rattle.std.proofs.lemmas.List.{append-nil}
use Rattle.grs_base.specs.declared.fault.DeckFault.{DeckFault}
use Rattle.grs_base.specs.declared.fault.Kind.TheVariants.{UnknownStatement, NameLength}
use Rattle.grs_base.specs.declared.fault.ReadError.{ReadError}
use Rattle.grs_base.specs.declared.fault.ReadError.TheVariants as read_errors
use Rattle.grs_base.specs.declared.rnl.RnlEntry.{RnlEntry}
use Rattle.deck_scan.specs.declared.token.Token.{Token}
use Rattle.deck_scan.specs.declared.token.Token.TheVariants.{Word, Close, Unclosed}
use Rattle.deck_scan.specs.declared.token.TokenLine.{TokenLine}
use Rattle.deck_scan.specs.Next.{Sets}
use Rattle.deck_scan.specs.Pieces.{SpellsLines}
use Rattle.deck_scan.specs.Gives.{Gives, IsOkUnlessMemory, refused, or_bad}
use Rattle.deck_scan.specs.AnyBytes.{readable}
use Rattle.deck_scan.specs.Scan.{lines_of}
use Rattle.deck_scan.proofs.AnyLemmas.{some_lines, any_text}
use Rattle.deck_scan.proofs.Pieced.{spelled_is}
use Rattle.deck_scan.proofs.Taking.{same_bytes}
use Rattle.deck_scan.proofs.Texts.{bind_ok}
use Rattle.rnl_syntax.specs.declared.operands.Operands.{Operands}
use Rattle.rnl_syntax.specs.declared.operands.Rnldef.{Rnldef}
use Rattle.rnl_syntax.specs.Lines.{goes_on, with_line, is_rnldef_word, first_from}
use Rattle.rnl_syntax.specs.Operands.{no_operands, rnldef_at, has_bad_name, entry_of}
use Rattle.rnl_syntax.specs.Spelled.{Operand, WithRnl, WithType, WithQname, WithRname, operand, IsFree, set, IsRnldef}
use Rattle.rnl_syntax.specs.Reading.{first_statement, by_word, by_first, rnldef_on, sized, entry_on, reading}
use Rattle.rnl_syntax.specs.Reading.{MakesEntry, SpellsEntry, IsStatement, Found}
use Rattle.rnl_syntax.proofs.Taken.{rnldef_taken}
use Rattle.rnl_syntax.proofs.Again.{rnldef_again}
use Rattle.rnl_syntax.proofs.Closed.{is_close, last_closes, line_closes, last_closes-append}
use Rattle.rnl_syntax.proofs.Fronts.{front_spells}
use Rattle.rnl_syntax.proofs.Readable.{cut_readable}

abbrev read_as : RnlEntry → Result RnlEntry DeckFault
read_as e = Ok e

entry_is : (e f : RnlEntry) → read_as e ≡ read_as f → e ≡ f
entry_is e f h = cc

-- ---- the first statement

some_bad : (at : ℕ) (o : Option Rnldef) (d : Rnldef) → or_bad at o ≡ Ok d → o ≡ Some d
some_bad at (Some x) d e = cc
some_bad at None d e = absurd cc

record Worded (ts : List Token) (d : Rnldef) : Type 0 where
  behind : List Token
  parts : ts ≡ Word (codes "RNLDEF") ∷ behind
  says : IsRnldef behind d

word_there : (at : ℕ) (w : List ℕ) (ts : List Token) (d : Rnldef) → by_word at w ts ≡ Ok d → Worded (Word w ∷ ts) d
word_there at w ts d e = go (is_rnldef_word w) refl e
  where
    go : (b : Bool) → is_rnldef_word w ≡ b → cond b (or_bad at (rnldef_at ts)) (refused at UnknownStatement) ≡ Ok d
        → Worded (Word w ∷ ts) d
    go true is k = record {
      behind = ts;
      parts = ap (λ (x : List ℕ). Word x ∷ ts) (same_bytes w (codes "RNLDEF") is);
      says = rnldef_taken ts d (some_bad at (rnldef_at ts) d k);
    }
    go false is k = absurd cc

first_there : (at : ℕ) (ts : List Token) (d : Rnldef) → by_first at ts ≡ Ok d → Worded ts d
first_there at (Word w ∷ ts) d e = word_there at w ts d e
first_there at (Unclosed ∷ ts) d e = absurd cc
first_there at [] d e = absurd cc
first_there at (_ ∷ ts) d e = absurd cc

statement_there : (s : TokenLine) (d : Rnldef) → rnldef_on s ≡ Ok d → (s.joined ≡ false) × Worded s.tokens d
unfolding rnldef_on
statement_there s d e = go s.joined refl e
  where
    go : (b : Bool) → s.joined ≡ b → cond b (refused s.at UnknownStatement) (by_first s.at s.tokens) ≡ Ok d
        → (s.joined ≡ false) × Worded s.tokens d
    go true is k = absurd cc
    go false is k = (is, first_there s.at s.tokens d k)

pub there_statement : (s : TokenLine) (ts : List Token) (d : Rnldef) → s.joined ≡ false
    → s.tokens ≡ Word (codes "RNLDEF") ∷ ts → IsRnldef ts d → rnldef_on s ≡ Ok d
unfolding rnldef_on
there_statement s ts d apart parts says = rw (apart, parts, rnldef_again ts d says) refl

pub statement_of : (s : TokenLine) (d : Rnldef) → rnldef_on s ≡ Ok d → (s.joined ≡ false) × IsStatement s.tokens d
statement_of s d h = let t = statement_there s d h in (t.0, (t.1.behind, t.1.parts, t.1.says))

sized_ok : (at : ℕ) (d : Rnldef) (e : RnlEntry) → sized at d ≡ Ok e → (has_bad_name d ≡ false) × (entry_of d ≡ e)
sized_ok at d e h = go (has_bad_name d) refl h
  where
    go : (b : Bool) → has_bad_name d ≡ b → cond b (refused at NameLength) (Ok (entry_of d)) ≡ Ok e
        → (has_bad_name d ≡ false) × (entry_of d ≡ e)
    go true is k = absurd cc
    go false is k = (is, entry_is (entry_of d) e k)

-- the statement of a text that makes an entry
record Statement (o : Option TokenLine) (e : RnlEntry) : Type 0 where
  statement : TokenLine
  first : o ≡ Some statement
  apart : statement.joined ≡ false
  rnldef : Rnldef
  worded : Worded statement.tokens rnldef
  names : has_bad_name rnldef ≡ false
  makes : entry_of rnldef ≡ e

entry_there : (o : Option TokenLine) (e : RnlEntry) → entry_on o ≡ Ok e → Statement o e
entry_there None e h = absurd cc
entry_there (Some s) e h =
    let d = bind_ok (rnldef_on s) (λ d. sized s.at d) e h in
    let k = sized_ok s.at d.0 e d.2 in
    let there = statement_there s d.0 d.1 in
    record { statement = s; first = refl; apart = there.0; rnldef = d.0; worded = there.1; names = k.0; makes = k.1 }

-- What is read of a text is its lines.
pub lines_are : (text : List ℕ) (ls : List TokenLine) → SpellsLines (readable text) ls → lines_of (readable text) ≡ ls
lines_are text ls h = spelled_is (readable text) ls h

-- What is read is made.
pub reading_makes : (text : List ℕ) (e : RnlEntry) → reading text ≡ Ok e → MakesEntry text e
unfolding reading
reading_makes text e h =
    let s = entry_there (first_statement (lines_of (readable text))) e h in
    record {
      lines = lines_of (readable text);
      spelled = some_lines text;
      statement = s.statement;
      first = s.first;
      apart = s.apart;
      behind = s.worded.behind;
      parts = s.worded.parts;
      rnldef = s.rnldef;
      says = s.worded.says;
      names = s.names;
      makes = s.makes;
    }

-- What is made is read.
pub makes_reading : (text : List ℕ) (e : RnlEntry) → MakesEntry text e → reading text ≡ Ok e
unfolding reading
makes_reading text e h =
    rw (
      lines_are text h.lines h.spelled,
      h.first,
      there_statement h.statement h.behind h.rnldef h.apart h.parts h.says,
      h.names,
    )
    (ap read_as h.makes)

pub entry_read : (text : List ℕ) (ls : List TokenLine) (o : Option TokenLine) (r : Result RnlEntry ReadError)
    → SpellsLines (readable text) ls → o ≡ first_statement ls → Gives r (entry_on o) → Gives r (reading text)
unfolding reading
entry_read text ls o r spelled is h = rw (lines_are text ls spelled, ← is) h

-- ---- the lines of a statement

-- a statement that ends with a closing parenthesis is so of the lines up to that
record Head (s : TokenLine) (ls : List TokenLine) : Type 0 where
  own : List TokenLine
  more : List TokenLine
  parts : ls ≡ own ++ more
  is : first_from s own ≡ first_from s ls
  closes : line_closes (s ∷ own) ≡ true
  all : (first_from s own).tokens ≡ s.tokens ++ flat_map (λ (l : TokenLine). l.tokens) own

nothing_more : (s l : TokenLine) → l.tokens ≡ [] → with_line s l ≡ s
nothing_more s l e = rw (e, append-nil s.tokens) refl

-- the next line has tokens or has none
head_next : (s l : TokenLine) (ls more : List TokenLine) (ts : List Token) → l.tokens ≡ ts → goes_on s l ≡ true
    → ls ≡ more → first_from (with_line s l) [] ≡ first_from (with_line s l) ls → last_closes (s.tokens ++ ts) ≡ true
    → Head s (l ∷ ls)
unfolding first_from
head_next s l ls more [] none e parts is closes = record {
  own = [];
  more = l ∷ ls;
  parts = refl;
  is = rw e (sym (nothing_more s l none) ∙ is);
  closes = subst (λ (ts : List Token). last_closes ts ≡ true) (append-nil s.tokens) closes;
  all = sym (append-nil s.tokens);
}
head_next s l ls more (t ∷ ts) some e parts is closes = record {
  own = l ∷ [];
  more = ls;
  parts = refl;
  is = rw e is;
  closes = ap last_closes some ∙ sym (last_closes-append s.tokens ts t) ∙ closes;
  all = rw e (ap (λ (x : List Token). s.tokens ++ x) (sym (append-nil l.tokens)));
}

head_more : (s l : TokenLine) (ls own more : List TokenLine) → goes_on s l ≡ true → ls ≡ own ++ more
    → first_from (with_line s l) own ≡ first_from (with_line s l) ls → line_closes (with_line s l ∷ own) ≡ true
    → (first_from (with_line s l) own).tokens ≡ (s.tokens ++ l.tokens) ++ flat_map (λ (m : TokenLine). m.tokens) own
    → Head s (l ∷ ls)
unfolding first_from
head_more s l ls [] more e parts is closes all = head_next s l ls more l.tokens refl e parts is closes
head_more s l ls (m ∷ ms) more e parts is closes all = record {
  own = l ∷ m ∷ ms;
  more = more;
  parts = ap (λ (x : List TokenLine). l ∷ x) parts;
  is = rw e is;
  closes = closes;
  all = rw e (all ∙ append_assoc s.tokens l.tokens (flat_map (λ (k : TokenLine). k.tokens) (m ∷ ms)));
}

head_of : (ls : List TokenLine) (s : TokenLine) → last_closes (first_from s ls).tokens ≡ true → Head s ls
unfolding first_from
head_of [] s h = record { own = []; more = []; parts = refl; is = refl; closes = h; all = sym (append-nil s.tokens) }
head_of (l ∷ ls) s h = go (goes_on s l) refl h (λ k. head_of ls (with_line s l) k)
  where
    go : (b : Bool) → goes_on s l ≡ b → last_closes (cond b (first_from (with_line s l) ls) s).tokens ≡ true
        → (last_closes (first_from (with_line s l) ls).tokens ≡ true → Head (with_line s l) ls) → Head s (l ∷ ls)
    go true e k next = let n = next k in head_more s l ls n.own n.more e n.parts n.is n.closes n.all
    go false e k next = record {
      own = [];
      more = l ∷ ls;
      parts = refl;
      is = rw e refl;
      closes = k;
      all = sym (append-nil s.tokens);
    }

-- ---- the last operand

close_all : (xs : List Operand) (t : Token) → is_close t ≡ true → last_closes (t ∷ flat_map operand xs) ≡ true
close_all [] t h = h
close_all (WithRnl which ∷ xs) t h = close_all xs Close refl
close_all (WithType form ∷ xs) t h = close_all xs Close refl
close_all (WithQname u q ∷ xs) t h = close_all xs Close refl
close_all (WithRname u r ∷ xs) t h = close_all xs Close refl

given_close : (xs : List Operand) (t : Token) (d : Rnldef)
    → Sets IsFree set no_operands xs (record { which = Some d.which; form = Some d.form; q = Some d.q; r = d.r })
    → last_closes (t ∷ flat_map operand xs) ≡ true
given_close [] t d h = absurd (let z : Some d.which ≡ None = ap (λ (o : Operands). o.which) h in cc)
given_close (WithRnl which ∷ xs) t d h = close_all xs Close refl
given_close (WithType form ∷ xs) t d h = close_all xs Close refl
given_close (WithQname u q ∷ xs) t d h = close_all xs Close refl
given_close (WithRname u r ∷ xs) t d h = close_all xs Close refl

statement_closes : (ts behind : List Token) (t : Token) (d : Rnldef) → ts ≡ t ∷ behind → IsRnldef behind d
    → last_closes ts ≡ true
statement_closes ts behind t d parts h = rw (parts, h.spelled) (given_close h.given t d h.operands)

-- ---- the front

pub record MadeFront (text : List ℕ) (e : RnlEntry) (s : TokenLine) : Type 0 where
  pub front : List ℕ
  pub back : List ℕ
  pub parts : text ≡ front ++ 41 ∷ back
  pub makes : MakesEntry (front ++ 41 ∷ []) e
  pub plain : SpellsLines (front ++ 41 ∷ []) makes.lines
  pub closes : line_closes makes.lines ≡ true
  pub same : makes.statement ≡ s
  pub tokens : flat_map (λ (l : TokenLine). l.tokens) makes.lines ≡ s.tokens

pub makes_front : (text : List ℕ) (e : RnlEntry) (lines : List TokenLine) (h : MakesEntry text e) → h.lines ≡ lines
    → MadeFront text e h.statement
makes_front text e [] h none = absurd (let z : None ≡ Some h.statement = sym (ap first_statement none) ∙ h.first in cc)
makes_front text e (l ∷ ls) h is =
    let first : Some (first_from l ls) ≡ Some h.statement = sym (ap first_statement is) ∙ h.first in
    let same : first_from l ls ≡ h.statement = cc in
    let closes : last_closes (first_from l ls).tokens ≡ true =
    ap (λ (s : TokenLine). last_closes s.tokens) same
    ∙ statement_closes h.statement.tokens h.behind (Word (codes "RNLDEF")) h.rnldef h.parts h.says in
    let head = head_of ls l closes in
    let all : h.lines ≡ (l ∷ head.own) ++ head.more = is ∙ ap (λ (x : List TokenLine). l ∷ x) head.parts in
    let f =
    front_spells (readable text) (l ∷ head.own) head.more
    (subst (λ (x : List TokenLine). SpellsLines (readable text) x) all h.spelled) head.closes in
    let cut = cut_readable text f.front f.back f.parts in
    record {
      front = f.front;
      back = cut.0;
      parts = cut.1;
      plain = f.spells;
      makes = record {
        lines = l ∷ head.own;
        spelled = any_text (f.front ++ 41 ∷ []) (l ∷ head.own) f.spells;
        statement = h.statement;
        first = ap (λ (s : TokenLine). Some s) (head.is ∙ same);
        apart = h.apart;
        behind = h.behind;
        parts = h.parts;
        rnldef = h.rnldef;
        says = h.says;
        names = h.names;
        makes = h.makes;
      };
      closes = head.closes;
      same = refl;
      tokens = sym head.all ∙ ap (λ (s : TokenLine). s.tokens) (head.is ∙ same);
    }

-- ---- answers

-- two numbers of bytes that are the fewest
pub same_used : (text : List ℕ) (e : RnlEntry) (n m : ℕ) → SpellsEntry text e n → SpellsEntry text e m → n ≡ m
same_used text e n m a b = go (ltb n m) (ltb m n) refl refl
  where
    go : (x y : Bool) → ltb n m ≡ x → ltb m n ≡ y → n ≡ m
    go true y is k = absurd (b.fewest n (ltb-true n m is) a.front)
    go false true is k = absurd (a.fewest m (ltb-true m n k) b.front)
    go false false is k = let low = ltb-false n m is in let high = ltb-false m n k in omega (arith, low, high)

pub only : (text : List ℕ) (r : Result (RnlEntry × ℕ) ReadError) → Found r text → (e : RnlEntry) (used : ℕ)
    → SpellsEntry text e used → IsOkUnlessMemory r (e, used)
only text (Ok x) h e used s =
    let same : x.0 ≡ e = entry_is x.0 e (sym h.0 ∙ makes_reading text e s.makes) in
    rw (same, same_used text e x.1 used (subst (λ (y : RnlEntry). SpellsEntry text y x.1) same h.1) s) refl
only text (Err read_errors.NoMemory) h e used s = tt
only text (Err (read_errors.Fault f)) h e used s =
    absurd (let k : read_as e ≡ Err f = sym (makes_reading text e s.makes) ∙ h in cc)

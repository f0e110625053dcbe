-- The fault that is told is the first one, and no other is; so a text is answered by its deck or its fault.
use Rattle.std.proofs.Common.{◌≡◌, inl, inr, ◌⊎◌, ℕ, Bool, true, false, cond, eqb, List, [], ◌∷◌, ◌++◌, length, Option}
use Rattle.std.proofs.Common.{Some, None, Result, Ok, Err, refl, sym, ap, subst, ◌∙◌}
use Rattle.std.proofs.lemmas.Bool.{eqb-true, eq-eqb}
use Rattle.grs_base.specs.declared.fault.DeckFault.{DeckFault}
use Rattle.grs_base.specs.declared.fault.Kind.{Kind}
use Rattle.grs_base.specs.declared.fault.Kind.TheVariants.{NoSystem}
use Rattle.grs_base.specs.declared.fault.ReadError.{ReadError}
use Rattle.grs_base.specs.declared.fault.ReadError.TheVariants as read_errors
use Rattle.grs_wire.specs.declared.deck.Deck.{Deck}
use Rattle.deck_scan.specs.declared.token.TokenLine.{TokenLine}
use Rattle.deck_scan.specs.Scan.{lines_of}
use Rattle.deck_scan.specs.Pieces.{SpellsLines}
use Rattle.deck_scan.specs.Reading.{lines_or_fault, unless_fault, byte_fault}
use Rattle.deck_scan.specs.Gives.{◌>>=◌, Gives}
use Rattle.deck_scan.proofs.Texts.{text_of, text_read}
use Rattle.grs_deck.specs.declared.judge.Draft.{Draft}
use Rattle.grs_deck.specs.Grow.{grow}
use Rattle.grs_deck.specs.Reading.{judge, judge_all, first_draft, ended, reading, fault, fault_of}
use Rattle.grs_deck.specs.Spells.{Says, SpellsDeck}
use Rattle.grs_deck.specs.Faults.{FaultyLine, NoSystemSaid, IsFault, IsFaultless, Answers}
use Rattle.grs_deck.proofs.FitsLaws.{judged}
use Rattle.grs_deck.proofs.SpellsLaws.{right_of, says, says_again, judged_again, reading_spells, fault_is, spelled_none}
use Rattle.grs_deck.proofs.Least.{refused, judged_err, judged_so}
use Rattle.deck_form.specs.Statements.{statements}
use Rattle.deck_form.proofs.Taken.{form_taken}

-- ---- lines

all_err : (ls : List TokenLine) (d : Draft) (f : DeckFault) → judge_all d ls ≡ refused f → FaultyLine ls d f
unfolding judge_all
all_err [] d f h = absurd cc
all_err (l ∷ ls) d f h = go (judge d l) refl h (λ e k. all_err ls e f k)
  where
    go : (r : Result Draft DeckFault) → judge d l ≡ r → (r >>= λ new. judge_all new ls) ≡ refused f
        → ((e : Draft) → judge_all e ls ≡ refused f → FaultyLine ls e f) → FaultyLine (l ∷ ls) d f
    go (Err g) is m next =
        let k = judged_err d l f (is ∙ m) in
        record { front = []; line = l; back = ls; before = d; parts = refl; says = refl; at = k.0; least = k.1 }
    go (Ok e) is m next =
        let k = next e m in
        let j = judged d e l is in
        record {
          front = l ∷ k.front;
          line = k.line;
          back = k.back;
          before = k.before;
          parts = ap (λ (x : List TokenLine). l ∷ x) k.parts;
          says = (
            j.st,
            form_taken d.scheduled d.deck.entries l j.st j.formed,
            right_of d j.st j.right,
            subst (λ (x : Draft). Says x k.front k.before) (sym j.grown) k.says,
          );
          at = k.at;
          least = k.least;
        }

all_so : (front back : List TokenLine) (line : TokenLine) (d before : Draft) (f : DeckFault) → Says d front before
    → judge before line ≡ refused f → judge_all d (front ++ line ∷ back) ≡ refused f
unfolding judge_all
all_so [] back line d before f s h =
    let P : Draft → Type 0 = λ x. judge x line ≡ refused f in rw (subst P (sym s) h) refl
all_so (l ∷ ls) back line d before f s h =
    rw (judged_again d l s.0 s.1 s.2) (all_so ls back line (grow d s.0) before f s.3 h)

-- ---- texts

fault_some : (r : Result Deck DeckFault) (f : DeckFault) → fault_of r ≡ Some f → r ≡ Err f
fault_some (Ok d) f h = absurd cc
fault_some (Err g) f h = cc

abbrev deck_err : DeckFault → Result Deck DeckFault
deck_err f = Err f

deck_err_is : (f g : DeckFault) → deck_err f ≡ deck_err g → f ≡ g
deck_err_is f g h = cc

abbrev some : DeckFault → Option DeckFault
some f = Some f

-- The fault is the first one, and of the least kind.
pub is_fault : (text : List ℕ) (f : DeckFault) → fault text ≡ Some f → IsFault text f
unfolding fault reading lines_or_fault
is_fault text f h = go (byte_fault text) refl (fault_some _ f h)
  where
    go : (o : Option DeckFault) → byte_fault text ≡ o
        → (unless_fault o (lines_of text) >>= λ ls. judge_all (first_draft ls) (statements ls) >>= ended)
        ≡ deck_err f
        → IsFault text f
    go (Some g) is m = inl (is ∙ ap some (deck_err_is g f m))
    go None is m = by (judge_all start (statements (lines_of text))) refl m
      where
        start : Draft
        start = first_draft (lines_of text)

        spelled : SpellsLines text (lines_of text)
        spelled = (text_of text is).spelled

        by : (r : Result Draft DeckFault) → judge_all start (statements (lines_of text)) ≡ r
            → (r >>= ended) ≡ deck_err f → IsFault text f
        by (Err g) e k =
            let same = deck_err_is g f k in
            inr (record {
              allowed = is;
              lines = lines_of text;
              spelled = spelled;
              fault = inl (all_err (statements (lines_of text)) start f (e ∙ ap refused same));
            })
        by (Ok d) e k = ends (eqb (length d.deck.systems) 0) refl k
          where
            ends : (b : Bool) → eqb (length d.deck.systems) 0 ≡ b
                → cond b (deck_err (record { line = 0; kind = NoSystem })) (Ok d.deck) ≡ deck_err f → IsFault text f
            ends true z k =
                inr (record {
                  allowed = is;
                  lines = lines_of text;
                  spelled = spelled;
                  fault =
                      inr (record {
                        draft = d;
                        says = says (statements (lines_of text)) start d e;
                        none = eqb-true (length d.deck.systems) 0 z;
                        is = sym (deck_err_is (record { line = 0; kind = NoSystem }) f k);
                      });
                })
            ends false z k = absurd cc

fault_by : (f : DeckFault) (n : ℕ) → f.line ≡ n → record { line = n; kind = f.kind } ≡ f
fault_by f n e = ap (λ (x : ℕ). made x f.kind) (sym e)
  where
    made : ℕ → Kind → DeckFault
    made n k = record { line = n; kind = k }

line_so : (ls : List TokenLine) (start : Draft) (f : DeckFault) → FaultyLine ls start f
    → (judge_all start ls >>= ended) ≡ deck_err f
line_so ls start f y =
    let j = judged_so y.before y.line f.kind y.least in
    let is : record { line = y.line.at; kind = f.kind } ≡ f = fault_by f y.line.at y.at in
    let all : judge_all start ls ≡ refused f =
    ap (judge_all start) y.parts ∙ all_so y.front y.back y.line start y.before f y.says (j ∙ ap refused is) in
    rw all refl

none_so : (ls : List TokenLine) (start : Draft) (f : DeckFault) → NoSystemSaid ls start f
    → (judge_all start ls >>= ended) ≡ deck_err f
none_so ls start f y =
    rw (says_again ls start y.draft y.says, eq-eqb (length y.draft.deck.systems) 0 y.none, y.is) refl

lines_so : (ls : List TokenLine) (start : Draft) (f : DeckFault) → FaultyLine ls start f ⊎ NoSystemSaid ls start f
    → (judge_all start ls >>= ended) ≡ deck_err f
lines_so ls start f (inl y) = line_so ls start f y
lines_so ls start f (inr y) = none_so ls start f y

-- A text has no other first fault.
pub only_fault : (text : List ℕ) (f : DeckFault) → IsFault text f → fault text ≡ Some f
unfolding fault reading lines_or_fault
only_fault text f (inl h) = rw h refl
only_fault text f (inr h) =
    let read : (lines_or_fault text >>= λ ls. judge_all (first_draft ls) (statements ls) >>= ended)
    ≡ deck_err f =
    rw (text_read text h.lines (text_of text h.allowed).short h.spelled)
    (lines_so (statements h.lines) (first_draft h.lines) f h.fault) in
    ap fault_of read

-- ---- what is answered

pub one_fault : (text : List ℕ) (f g : DeckFault) → IsFault text f → IsFault text g → f ≡ g
one_fault text f g h k = let is : some f ≡ some g = sym (only_fault text f h) ∙ only_fault text g k in cc

-- A text that spells a deck has no fault.
pub spelled_right : (text : List ℕ) (d : Deck) → SpellsDeck text d → IsFaultless text
spelled_right text d h f k = let is : some f ≡ None = sym (only_fault text f k) ∙ spelled_none text d h in cc

-- A text spells a deck or has a fault.
pub either : (text : List ℕ) → ((d : Deck) × SpellsDeck text d) ⊎ ((f : DeckFault) × IsFault text f)
either text = go (reading text) refl
  where
    go : (r : Result Deck DeckFault) → reading text ≡ r
        → ((d : Deck) × SpellsDeck text d) ⊎ ((f : DeckFault) × IsFault text f)
    go (Ok d) is = inl (d, reading_spells text d is)
    go (Err f) is = inr (f, is_fault text f (fault_is text f is))

pub answers : (text : List ℕ) (r : Result Deck ReadError) → Gives r (reading text) → Answers r text
answers text (Ok d) h = let s = reading_spells text d h in (s, spelled_right text d s)
answers text (Err read_errors.NoMemory) h = tt
answers text (Err (read_errors.Fault f)) h = is_fault text f (fault_is text f h)

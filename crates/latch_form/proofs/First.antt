-- What is read is spelled, what is spelled is read, and the fault that is told is the first one, and no other is.
use Rattle.std.proofs.Common.{◌≡◌, inl, inr, ◌⊎◌, ℕ, List, [], ◌∷◌, ◌++◌, Option, Some, None, Result, Ok, Err, refl, sym}
use Rattle.std.proofs.Common.{ap, subst, ◌∙◌}
use Rattle.grs_base.specs.declared.fault.DeckFault.{DeckFault}
use Rattle.grs_base.specs.declared.fault.Kind.{Kind}
use Rattle.grs_base.specs.declared.fault.ReadError.{ReadError}
use Rattle.grs_base.specs.declared.fault.ReadError.TheVariants as read_errors
use Rattle.deck_scan.specs.declared.token.TokenLine.{TokenLine}
use Rattle.deck_scan.specs.Scan.{lines_of}
use Rattle.deck_scan.specs.Reading.{lines_or_fault, unless_fault, byte_fault}
use Rattle.deck_scan.specs.Gives.{◌>>=◌, Gives, IsOkUnlessMemory}
use Rattle.deck_scan.proofs.Texts.{text_of, text_read}
use Rattle.grs_latch.specs.declared.call.LatchCall.{LatchCall}
use Rattle.latch_form.specs.declared.judge.Draft.{Draft}
use Rattle.latch_form.specs.Drafts.{no_draft, grow}
use Rattle.latch_form.specs.Reading.{is_too_long, is_full, judge, judge_all, calls_of, reading}
use Rattle.latch_form.specs.Spelled.{Says, SpellsCalls}
use Rattle.latch_form.specs.Faults.{IsLeast, FaultyLine, FaultOfLines, IsFault, IsFaultless, Answers}
use Rattle.latch_form.proofs.Loop.{no_fault, judged}
use Rattle.latch_form.proofs.Least.{of_sized, of_room, refused, judged_err, judged_again, one_least, none_applies}
use Rattle.latch_form.proofs.Taken.{form_taken}

abbrev draft_ok : Draft → Result Draft DeckFault
draft_ok d = Ok d

-- ---- lines that are right

pub all_ok : (ls : List TokenLine) (d e : Draft) → judge_all d ls ≡ draft_ok e → Says d ls e
unfolding judge_all
all_ok [] d e h = let z : d ≡ e = cc in z
all_ok (l ∷ ls) d e h = go (judge d l) refl h (λ x k. all_ok ls x e k)
  where
    go : (r : Result Draft DeckFault) → judge d l ≡ r → (r >>= λ new. judge_all new ls) ≡ draft_ok e
        → ((x : Draft) → judge_all x ls ≡ draft_ok e → Says x ls e) → Says d (l ∷ ls) e
    go (Err f) is m next = absurd cc
    go (Ok x) is m next =
        let j = judged d x l is in
        let right = no_fault (is_too_long j.call) (is_full d j.call) j.right in (
          j.call,
          form_taken l j.call j.formed,
          of_sized j.call right.long,
          of_room d j.call right.full,
          subst (λ (y : Draft). Says y ls e) j.grown (next x m),
        )

pub ok_again : (ls : List TokenLine) (d e : Draft) → Says d ls e → judge_all d ls ≡ draft_ok e
unfolding judge_all
ok_again [] d e h = ap draft_ok h
ok_again (l ∷ ls) d e h = rw (judged_again d l h.0 h.1 h.2 h.3) (ok_again ls (grow d h.0) e h.4)

-- ---- the first that isn't

all_err : (ls : List TokenLine) (d : Draft) (f : DeckFault) → judge_all d ls ≡ refused f → FaultyLine ls d f
unfolding judge_all
all_err [] d f h = absurd cc
all_err (l ∷ ls) d f h = go (judge d l) refl h (λ e k. all_err ls e f k)
  where
    go : (r : Result Draft DeckFault) → judge d l ≡ r → (r >>= λ new. judge_all new ls) ≡ refused f
        → ((e : Draft) → judge_all e ls ≡ refused f → FaultyLine ls e f) → FaultyLine (l ∷ ls) d f
    go (Err g) is m next =
        let k = judged_err d l f (is ∙ m) in
        record { front = []; line = l; back = ls; before = d; parts = refl; says = refl; at = k.0; least = k.1 }
    go (Ok e) is m next =
        let k = next e m in
        let j = judged d e l is in
        let right = no_fault (is_too_long j.call) (is_full d j.call) j.right in
        record {
          front = l ∷ k.front;
          line = k.line;
          back = k.back;
          before = k.before;
          parts = ap (λ (x : List TokenLine). l ∷ x) k.parts;
          says = (
            j.call,
            form_taken l j.call j.formed,
            of_sized j.call right.long,
            of_room d j.call right.full,
            subst (λ (x : Draft). Says x k.front k.before) j.grown k.says,
          );
          at = k.at;
          least = k.least;
        }

-- a line of which a kind is the least has this fault
judged_so : (d : Draft) (l : TokenLine) (f : DeckFault) → f.line ≡ l.at → IsLeast f.kind d l → judge d l ≡ refused f
judged_so d l f at least = go (judge d l) refl
  where
    go : (r : Result Draft DeckFault) → judge d l ≡ r → r ≡ refused f
    go (Ok e) is =
        let j = judged d e l is in
        let right = no_fault (is_too_long j.call) (is_full d j.call) j.right in
        absurd (none_applies d l j.call f.kind (form_taken l j.call j.formed) (of_sized j.call right.long)
        (of_room d j.call right.full) least.applies)
    go (Err g) is =
        let k = judged_err d l g is in
        let kinds : g.kind ≡ f.kind = one_least d l g.kind f.kind k.1 least in
        let lines : g.line ≡ f.line = k.0 ∙ sym at in
        ap (λ (n : ℕ). refused (record { line = n; kind = g.kind })) lines
        ∙ ap (λ (x : Kind). refused (record { line = f.line; kind = x })) kinds

all_so : (front back : List TokenLine) (line : TokenLine) (d before : Draft) (f : DeckFault) → Says d front before
    → judge before line ≡ refused f → judge_all d (front ++ line ∷ back) ≡ refused f
unfolding judge_all
all_so [] back line d before f s h =
    let P : Draft → Type 0 = λ x. judge x line ≡ refused f in rw (subst P (sym s) h) refl
all_so (l ∷ ls) back line d before f s h =
    rw (judged_again d l s.0 s.1 s.2 s.3) (all_so ls back line (grow d s.0) before f s.4 h)

line_so : (ls : List TokenLine) (d : Draft) (f : DeckFault) → FaultyLine ls d f → judge_all d ls ≡ refused f
line_so ls d f y =
    ap (judge_all d) y.parts ∙ all_so y.front y.back y.line d y.before f y.says (judged_so y.before y.line f y.at y.least)

-- ---- texts

abbrev calls_ok : List LatchCall → Result (List LatchCall) DeckFault
calls_ok cs = Ok cs

abbrev calls_err : DeckFault → Result (List LatchCall) DeckFault
calls_err f = Err f

calls_is : (a b : List LatchCall) → calls_ok a ≡ calls_ok b → a ≡ b
calls_is a b h = cc

fault_is : (f g : DeckFault) → calls_err f ≡ calls_err g → f ≡ g
fault_is f g h = cc

pub reading_spells : (text : List ℕ) (cs : List LatchCall) → reading text ≡ calls_ok cs → SpellsCalls text cs
unfolding reading lines_or_fault
reading_spells text cs h = go (byte_fault text) refl h
  where
    go : (o : Option DeckFault) → byte_fault text ≡ o
        → (unless_fault o (lines_of text) >>= λ ls. judge_all no_draft ls >>= calls_of) ≡ calls_ok cs
        → SpellsCalls text cs
    go (Some g) is m = absurd cc
    go None is m = by (judge_all no_draft (lines_of text)) refl m
      where
        by : (r : Result Draft DeckFault) → judge_all no_draft (lines_of text) ≡ r → (r >>= calls_of) ≡ calls_ok cs
            → SpellsCalls text cs
        by (Err g) e k = absurd cc
        by (Ok d) e k =
            let t = text_of text is in
            record {
              short = t.short;
              lines = lines_of text;
              spelled = t.spelled;
              draft = d;
              says = all_ok (lines_of text) no_draft d e;
              is = calls_is d.calls cs k;
            }

pub spells_reading : (text : List ℕ) (cs : List LatchCall) → SpellsCalls text cs → reading text ≡ calls_ok cs
unfolding reading
spells_reading text cs h =
    rw (text_read text h.lines h.short h.spelled, ok_again h.lines no_draft h.draft h.says) (ap calls_ok h.is)

pub is_fault : (text : List ℕ) (f : DeckFault) → reading text ≡ calls_err f → IsFault text f
unfolding reading lines_or_fault
is_fault text f h = go (byte_fault text) refl h
  where
    go : (o : Option DeckFault) → byte_fault text ≡ o
        → (unless_fault o (lines_of text) >>= λ ls. judge_all no_draft ls >>= calls_of) ≡ calls_err f
        → IsFault text f
    go (Some g) is m = inl (is ∙ ap (λ (x : DeckFault). Some x) (fault_is g f m))
    go None is m = by (judge_all no_draft (lines_of text)) refl m
      where
        by : (r : Result Draft DeckFault) → judge_all no_draft (lines_of text) ≡ r → (r >>= calls_of) ≡ calls_err f
            → IsFault text f
        by (Err g) e k =
            let same = fault_is g f k in
            inr (record {
              allowed = is;
              lines = lines_of text;
              spelled = (text_of text is).spelled;
              fault = all_err (lines_of text) no_draft f (e ∙ ap refused same);
            })
        by (Ok d) e k = absurd cc

pub only_fault : (text : List ℕ) (f : DeckFault) → IsFault text f → reading text ≡ calls_err f
unfolding reading lines_or_fault
only_fault text f (inl h) = rw h refl
only_fault text f (inr h) = of_lines (text_read text h.lines (text_of text h.allowed).short h.spelled)
  where
    of_lines : lines_or_fault text ≡ Ok h.lines
        → (lines_or_fault text >>= λ ls. judge_all no_draft ls >>= calls_of) ≡ calls_err f
    of_lines read = rw (read, line_so h.lines no_draft f h.fault) refl

-- ---- what is answered

pub one : (text : List ℕ) (cs ds : List LatchCall) → SpellsCalls text cs → SpellsCalls text ds → cs ≡ ds
one text cs ds h k = calls_is cs ds (sym (spells_reading text cs h) ∙ spells_reading text ds k)

pub one_fault : (text : List ℕ) (f g : DeckFault) → IsFault text f → IsFault text g → f ≡ g
one_fault text f g h k = fault_is f g (sym (only_fault text f h) ∙ only_fault text g k)

pub spelled_right : (text : List ℕ) (cs : List LatchCall) → SpellsCalls text cs → IsFaultless text
spelled_right text cs h f k =
    let is : calls_err f ≡ calls_ok cs = sym (only_fault text f k) ∙ spells_reading text cs h in cc

pub either : (text : List ℕ) → ((cs : List LatchCall) × SpellsCalls text cs) ⊎ ((f : DeckFault) × IsFault text f)
either text = go (reading text) refl
  where
    go : (r : Result (List LatchCall) DeckFault) → reading text ≡ r
        → ((cs : List LatchCall) × SpellsCalls text cs) ⊎ ((f : DeckFault) × IsFault text f)
    go (Ok cs) is = inl (cs, reading_spells text cs is)
    go (Err f) is = inr (f, is_fault text f is)

pub answers : (text : List ℕ) (r : Result (List LatchCall) ReadError) → Gives r (reading text) → Answers r text
answers text (Ok cs) h = let s = reading_spells text cs h in (s, spelled_right text cs s)
answers text (Err read_errors.NoMemory) h = tt
answers text (Err (read_errors.Fault f)) h = is_fault text f h

pub only : (text : List ℕ) (r : Result (List LatchCall) ReadError) → Gives r (reading text) → (cs : List LatchCall)
    → SpellsCalls text cs → IsOkUnlessMemory r cs
only text (Ok ds) h cs s = calls_is ds cs (sym h ∙ spells_reading text cs s)
only text (Err read_errors.NoMemory) h cs s = tt
only text (Err (read_errors.Fault f)) h cs s =
    absurd (let k : calls_ok cs ≡ calls_err f = sym (spells_reading text cs s) ∙ h in cc)

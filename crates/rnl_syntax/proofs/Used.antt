-- The bytes that an RNLDEF uses are its own: a shorter front has fewer closing parentheses.
use Rattle.std.proofs.Common.{◌≡◌, ℕ, ◌+◌, ◌<◌, ◌≤◌, Bool, true, false, cond, ltb, List, [], ◌∷◌, ◌++◌, length, take}
use Rattle.std.proofs.Common.{drop, Option, Some, None, Ok, refl, sym, ap, subst, ◌∙◌, arith, append_assoc}
use Rattle.std.proofs.Common.{length-append}
use Rattle.std.specs.Prelude.{is_none}
use Rattle.std.specs.List.{flat_map}
use Rattle.std.proofs.Math.Seq.{take-append_seam}
use Rattle.std.proofs.lemmas.Bool.{ltb-true, ltb-false}
use Rattle.std.proofs.lemmas.List.{take-append-le, take-append-drop}
use Rattle.grs_base.specs.declared.rnl.RnlEntry.{RnlEntry}
use Rattle.deck_scan.specs.declared.token.Token.{Token}
use Rattle.deck_scan.specs.declared.token.TokenLine.{TokenLine}
use Rattle.deck_scan.specs.Scan.{lines_of}
use Rattle.deck_scan.specs.Bytes.{bad_line}
use Rattle.deck_scan.specs.Pieces.{SpellsLines}
use Rattle.deck_scan.proofs.AnyLemmas.{readable_all}
use Rattle.rnl_syntax.proofs.Readable.{closed_allowed}
use Rattle.deck_scan.proofs.Pieced.{spelled_is}
use Rattle.rnl_syntax.specs.Lines.{first_from}
use Rattle.rnl_syntax.specs.Reading.{first_statement, MakesEntry, reading, ends_closed, operand_count, SpellsEntry}
use Rattle.rnl_syntax.specs.Laws.{AreStatement}
use Rattle.rnl_syntax.proofs.Closed.{ends_closed-snoc, line_closes}
use Rattle.rnl_syntax.proofs.ReadLaws.{MadeFront, makes_front, reading_makes, same_used}
use Rattle.rnl_syntax.proofs.Exact.{some, last_close, first_closes, rnldef_closes}
use Rattle.deck_scan.specs.Closes.{closes, all_closes, HaveCloses}
use Rattle.deck_scan.proofs.Counted.{closes-append, front_closes, few_closes}

-- the tokens of lines together
abbrev row : List TokenLine → List Token
row ls = flat_map (λ (l : TokenLine). l.tokens) ls

row_closes : (ls : List TokenLine) → closes (row ls) ≡ all_closes ls
row_closes [] = refl
row_closes (l ∷ ls) = let h = row_closes ls in let k = closes-append l.tokens (row ls) in omega (arith, h, k)

-- the statement has one for each operand
statement_closes : (text : List ℕ) (e : RnlEntry) (h : MakesEntry text e) → closes h.statement.tokens ≡ 3 + some e.r
statement_closes text e h =
    let parts = ap closes h.parts in
    let own = rnldef_closes h.behind h.rnldef h.says in
    let r : some h.rnldef.r ≡ some e.r = ap (λ (x : RnlEntry). some x.r) h.makes in
    omega (arith, parts, own, r)

-- and the lines of the text have no fewer
made_closes : (text : List ℕ) (e : RnlEntry) (h : MakesEntry text e) (lines : List TokenLine) → h.lines ≡ lines
    → 3 + some e.r ≤ all_closes lines
made_closes text e h [] none = absurd (let z : None ≡ Some h.statement = sym (ap first_statement none) ∙ h.first in cc)
made_closes text e h (l ∷ ls) is =
    let first : Some (first_from l ls) ≡ Some h.statement = sym (ap first_statement is) ∙ h.first in
    let same : first_from l ls ≡ h.statement = cc in
    let few = first_closes ls l in
    let tokens : closes (first_from l ls).tokens ≡ closes h.statement.tokens =
    ap (λ (s : TokenLine). closes s.tokens) same in
    let own = statement_closes text e h in
    omega (arith, few, tokens, own)

-- A text that is a statement alone, and ends with its last parenthesis, has no shorter front that makes the entry.
pub no_shorter : (text init behind : List ℕ) (e : RnlEntry) (lines : List TokenLine) → text ≡ init ++ 41 ∷ []
    → SpellsLines text lines → line_closes lines ≡ true → all_closes lines ≡ 3 + some e.r → (n : ℕ) → n < length text
    → ends_closed (take n (text ++ behind)) ≡ true → MakesEntry (take n (text ++ behind)) e → ⊥
no_shorter text init behind e lines parts spelled last few n lt closed made =
    let long : length text ≡ length (init ++ 41 ∷ []) = ap length parts in
    let within : n ≤ length init = omega (arith, lt, long, length-append init (41 ∷ [])) in
    let cut : take n (text ++ behind) ≡ take n init =
    take-append-le n text behind (omega (arith, lt)) ∙ ap (take n) parts ∙ take-append-le n init (41 ∷ []) within in
    let low = made_closes (take n (text ++ behind)) e made made.lines refl in
    let inside : take n (text ++ behind) ++ drop n text ≡ text =
    ap (λ (t : List ℕ). t ++ drop n text) (take-append-le n text behind (omega (arith, lt)))
    ∙ take-append-drop n text in
    let good : bad_line 1 (take n (text ++ behind)) ≡ None =
    closed_allowed (take n (text ++ behind)) (drop n text) 1
    (subst (λ (t : List ℕ). bad_line 1 t ≡ None) (sym inside) spelled.allowed) closed in
    let plain : SpellsLines (take n (text ++ behind)) made.lines =
    subst (λ (t : List ℕ). SpellsLines t made.lines) (readable_all (take n (text ++ behind)) 1 good) made.spelled in
    let own : all_closes made.lines ≡ all_closes (lines_of (take n init)) =
    ap all_closes (sym (spelled_is (take n (text ++ behind)) made.lines plain))
    ∙ ap (λ (t : List ℕ). all_closes (lines_of t)) cut in
    let more = front_closes (take n init) (drop n init) in
    let whole : all_closes (lines_of (take n init ++ drop n init)) ≡ all_closes (lines_of init) =
    ap (λ (t : List ℕ). all_closes (lines_of t)) (take-append-drop n init) in
    let said : lines_of (init ++ 41 ∷ []) ≡ lines = ap lines_of (sym parts) ∙ spelled_is text lines spelled in
    let end = last_close init (ap line_closes said ∙ last) in
    let count : all_closes (lines_of (init ++ 41 ∷ [])) ≡ all_closes lines = ap all_closes said in
    omega (arith, low, own, more, whole, end, count, few)

-- ---- the statement alone

-- a text that makes an entry begins with these bytes, which are its statement
record Own (text : List ℕ) (e : RnlEntry) (h : MakesEntry text e) : Type 0 where
  made : MadeFront text e h.statement
  parts : text ≡ (made.front ++ 41 ∷ []) ++ made.back
  cut : take (length (made.front ++ 41 ∷ [])) text ≡ made.front ++ 41 ∷ []
  count : all_closes (lines_of (made.front ++ 41 ∷ [])) ≡ 3 + some e.r
  spells : SpellsEntry text e (length (made.front ++ 41 ∷ []))

own : (text : List ℕ) (e : RnlEntry) (h : MakesEntry text e) → Own text e h
own text e h =
    let m = makes_front text e h.lines h refl in
    let whole : List ℕ = m.front ++ 41 ∷ [] in
    let parts : text ≡ whole ++ m.back = m.parts ∙ sym (append_assoc m.front (41 ∷ []) m.back) in
    let long : length text ≡ length (whole ++ m.back) = ap length parts in
    let cut : take (length whole) text ≡ whole = ap (take (length whole)) parts ∙ take-append_seam whole m.back in
    let few : all_closes m.makes.lines ≡ 3 + some e.r =
    sym (row_closes m.makes.lines) ∙ ap closes m.tokens ∙ statement_closes text e h in
    record {
      made = m;
      parts = parts;
      cut = cut;
      count = ap all_closes (spelled_is whole m.makes.lines m.plain) ∙ few;
      spells = record {
        makes = h;
        front = (
          omega (arith, long, length-append whole m.back),
          ap ends_closed cut ∙ ends_closed-snoc m.front 41,
          subst (λ (x : List ℕ). MakesEntry x e) (sym cut) m.makes,
        );
        fewest = λ n lt f.
            no_shorter whole m.front m.back e m.makes.lines refl m.plain m.closes few n lt
            (subst (λ (x : List ℕ). ends_closed (take n x) ≡ true) parts f.1)
            (subst (λ (x : List ℕ). MakesEntry (take n x) e) parts f.2);
      };
    }

-- What is used is the statement.
pub used_own : (text : List ℕ) (e : RnlEntry) (used : ℕ) → SpellsEntry text e used → AreStatement text used
used_own text e used h =
    let o = own text e h.makes in
    let m = o.made in
    let same : length (m.front ++ 41 ∷ []) ≡ used = same_used text e (length (m.front ++ 41 ∷ [])) used o.spells h in
    let is : take used text ≡ m.front ++ 41 ∷ [] = ap (λ (n : ℕ). take n text) (sym same) ∙ o.cut in
    record {
      closed = h.front.1;
      all = h.makes.lines;
      statement = h.makes.statement;
      first = (h.makes.spelled, h.makes.first);
      own = m.makes.lines;
      spelled = subst (λ (x : List ℕ). SpellsLines x m.makes.lines) (sym is) m.plain;
      tokens = m.tokens;
    }

-- ---- as the reader finds them

operands_some : (e : RnlEntry) → operand_count e ≡ 3 + some e.r
operands_some e = go e.r
  where
    go : (r : Option (List ℕ)) → cond (is_none r) 3 4 ≡ 3 + some r
    go None = refl
    go (Some x) = refl

-- A text that makes an entry has a closing parenthesis for each operand.
pub enough : (text : List ℕ) (e : RnlEntry) → reading text ≡ Ok e → operand_count e ≤ all_closes (lines_of text)
enough text e read =
    let o = own text e (reading_makes text e read) in
    let more = front_closes (o.made.front ++ 41 ∷ []) o.made.back in
    let all : all_closes (lines_of text) ≡ all_closes (lines_of ((o.made.front ++ 41 ∷ []) ++ o.made.back)) =
    ap (λ (t : List ℕ). all_closes (lines_of t)) o.parts in
    let count = o.count in
    let operands = operands_some e in
    omega (arith, more, all, count, operands)

-- a shorter front has fewer
less_closes : (init : List ℕ) → line_closes (lines_of (init ++ 41 ∷ [])) ≡ true → (n : ℕ) → n ≤ length init
    → all_closes (lines_of (take n init)) < all_closes (lines_of (init ++ 41 ∷ []))
less_closes init last n within =
    let few = few_closes init n in let end = last_close init last in omega (arith, few, end)

-- The fewest bytes that have so many are the statement.
pub used_by : (text : List ℕ) (e : RnlEntry) (used : ℕ) → reading text ≡ Ok e → HaveCloses text (operand_count e) used
    → SpellsEntry text e used
used_by text e used read h = go (ltb used (length whole)) (ltb (length whole) used) refl refl
  where
    o : Own text e (reading_makes text e read)
    o = own text e (reading_makes text e read)

    whole : List ℕ
    whole = o.made.front ++ 41 ∷ []

    last : line_closes (lines_of whole) ≡ true
    last = ap line_closes (spelled_is whole o.made.makes.lines o.made.plain) ∙ o.made.closes

    low : used < length whole → ⊥
    low lt =
        let within : used ≤ length o.made.front = omega (arith, lt, length-append o.made.front (41 ∷ [])) in
        let cut : take used text ≡ take used o.made.front =
        ap (take used) o.made.parts ∙ take-append-le used o.made.front (41 ∷ o.made.back) within in
        let same : all_closes (lines_of (take used text)) ≡ all_closes (lines_of (take used o.made.front)) =
        ap (λ (t : List ℕ). all_closes (lines_of t)) cut in
        let less = less_closes o.made.front last used within in
        let count = o.count in
        let operands = operands_some e in
        let has = h.has in
        omega (arith, same, less, count, operands, has)

    high : length whole < used → ⊥
    high lt =
        let less = h.fewest (length whole) lt in
        let same : all_closes (lines_of (take (length whole) text)) ≡ all_closes (lines_of whole) =
        ap (λ (t : List ℕ). all_closes (lines_of t)) o.cut in
        let count = o.count in
        let operands = operands_some e in
        omega (arith, less, same, count, operands)

    go : (x y : Bool) → ltb used (length whole) ≡ x → ltb (length whole) used ≡ y → SpellsEntry text e used
    go true y p q = absurd (low (ltb-true used (length whole) p))
    go false true p q = absurd (high (ltb-true (length whole) used q))
    go false false p q =
        let under = ltb-false used (length whole) p in
        let over = ltb-false (length whole) used q in
        let same : length whole ≡ used = omega (arith, under, over) in
        subst (SpellsEntry text e) same o.spells

-- A line that is read piece by piece, and then what comes behind it.
use Rattle.std.proofs.Common.{◌≡◌, inl, inr, ℕ, ◌+◌, ◌-◌, ◌<◌, ◌≤◌, Bool, true, false, eqb, List, [], ◌∷◌, ◌++◌, length}
use Rattle.std.proofs.Common.{get_or, take, drop, Option, Some, None, is_some, Result, Ok, Err, IfOk, Bor, refl, sym}
use Rattle.std.proofs.Common.{ap, subst, ◌∙◌, append_assoc, append-nil, length-append, arith}
use Rattle.std.specs.List.{list_all}
use Rattle.std.proofs.lemmas.Bool.{and_parts}
use Rattle.std.proofs.lemmas.List.Folds.{list_all-append}
use Rattle.grs_base.specs.Printed.{is_printable}
use Rattle.deck_scan.specs.declared.token.Token.TheVariants.{Unclosed}
use Rattle.deck_scan.specs.declared.token.TokenLine.{TokenLine}
use Rattle.deck_scan.specs.declared.row.ScannedLine.{ScannedLine}
use Rattle.deck_scan.specs.declared.cursor.Cursor.{Cursor}
use Rattle.deck_scan.specs.Bytes.{begins, is_allowed}
use Rattle.deck_scan.specs.AnyBytes.{wrong_byte, readable}
use Rattle.deck_scan.specs.Pieces.{Piece, Plain, Quoted, Hexed, Sign, Blank, Comment, LineEnd, LoneSlash, StrayByte}
use Rattle.deck_scan.specs.Pieces.{OpenQuote, OpenHexed, OpenComment, spelling, has_no_end, is_in_comment, is_nonempty}
use Rattle.deck_scan.specs.Pieces.{is_piece, may_follow, followed_by, lines_with, Place, next_line, past, without_cr}
use Rattle.deck_scan.specs.Scan.{Scan, InBlank, InComment, put, step, step_in, begin, end_line, finish_in, scan_from}
use Rattle.deck_scan.specs.Rows.{at_row, to_come, place, no_row, Takes, IsRow, IsLast, Passes, Next, IsSplit}
use Rattle.deck_scan.specs.Rows.{ClosesComment, EndsLine, begins_end, starts}
use Rattle.deck_scan.proofs.Said.{state, place_of, at_end, sits, settle, enters, piece_run, comment_mode, star_after}
use Rattle.deck_scan.proofs.Said.{comment_run, comment_close, comment_begin, commented, ends_there, unclosed, over_from}
use Rattle.deck_scan.proofs.Pieced.{blank_first, allowed_holds}
use Rattle.deck_scan.proofs.AnyLemmas.{readable_allowed}
use Rattle.deck_scan.proofs.Counted.{scan-append}
use Rattle.deck_scan.proofs.Pieces.{printable_inside, over-printable, all_parts, rest_is, takes_comment}
use Rattle.deck_scan.proofs.Ahead.{by_place, fresh, apart_ahead, inside, comment_ahead}

-- ---- printable bytes

printable_ok : (b : ℕ) (bs : List ℕ) → is_printable b ≡ true → is_allowed b bs ≡ true
unfolding is_allowed
printable_ok b bs h = rw h refl

pub readable_row : (row more : List ℕ) → list_all is_printable row ≡ true
    → readable (row ++ more) ≡ row ++ readable more
unfolding readable
readable_row [] more h = refl
readable_row (b ∷ bs) more h =
    let k = and_parts (is_printable b) (list_all is_printable bs) h in
    rw (printable_ok b (bs ++ more) k.0) (ap (λ (t : List ℕ). b ∷ t) (readable_row bs more k.1))

pub readable_lf : (more : List ℕ) → readable (10 ∷ more) ≡ 10 ∷ readable more
unfolding readable is_allowed
readable_lf more = refl

pub readable_cr : (more : List ℕ) → readable (13 ∷ 10 ∷ more) ≡ 13 ∷ 10 ∷ readable more
unfolding readable is_allowed
readable_cr more = refl

pub readable_nil : readable [] ≡ []
unfolding readable
readable_nil = refl

pub readable_ok : (text : List ℕ) → list_all is_in_comment (without_cr (readable text)) ≡ true
readable_ok text = allowed_holds (readable text) 1 (readable_allowed text 1)

-- ---- along the pieces of a line

-- A part of a line was read, and this rest of it and more are still to be read: the last piece may stand open.
pub record Along (line : ℕ) (text : List ℕ) (row : ScannedLine) (rest more : List ℕ) : Type 0 where
  pub piece : Piece
  pub before : Scan
  pub same : scan_from (at_row line None) (text ++ more) ≡ scan_from (sits piece before) (rest ++ more)
  pub follows : followed_by piece rest ≡ true
  pub ends : may_follow piece 10 ≡ true
  pub stands : place_of (settle piece before) ≡ place line row

pub along_none : (line : ℕ) (text : List ℕ) (row : ScannedLine) (more : List ℕ) → row ≡ no_row None
    → Along line text row text more
along_none line text row more is = record {
  piece = Blank;
  before = at_row line None;
  same = refl;
  follows = blank_first text;
  ends = refl;
  stands = ap (λ (r : ScannedLine). place line r) (sym is);
}

spelled_some : (q : Piece) → is_piece q ≡ true → is_nonempty (spelling q) ≡ true
spelled_some (Plain []) h = absurd cc
spelled_some (Plain (b ∷ bs)) h = refl
spelled_some (Quoted n) h = refl
spelled_some (Hexed ds) h = refl
spelled_some (Sign t) h = refl
spelled_some Blank h = refl
spelled_some (Comment c) h = refl
spelled_some LineEnd h = refl
spelled_some LoneSlash h = refl
spelled_some (StrayByte b) h = refl
spelled_some (OpenQuote n) h = refl
spelled_some (OpenHexed ds) h = refl
spelled_some (OpenComment c) h = refl

follows_more : (p : Piece) (xs ys more : List ℕ) → is_nonempty xs ≡ true → followed_by p (xs ++ ys) ≡ true
    → followed_by p (xs ++ (ys ++ more)) ≡ true
follows_more p [] ys more some h = absurd cc
follows_more p (x ∷ xs) ys more some h = h

pub along_piece :
    (line : ℕ) (text : List ℕ) (row : ScannedLine) (rest : List ℕ) (tail : List ℕ) (new : ScannedLine) (more : List ℕ)
    → Takes rest row tail new → Along line text row rest more → Along line text new tail more
along_piece line text row rest tail new more t h =
    let front : followed_by h.piece (spelling t.piece ++ tail) ≡ true =
    subst (λ (x : List ℕ). followed_by h.piece x ≡ true) t.parts h.follows in
    let run =
    piece_run h.piece t.piece h.before (tail ++ more) t.is
    (follows_more h.piece (spelling t.piece) tail more (spelled_some t.piece t.is) front) in
    record {
      piece = t.piece;
      before = run.after;
      same =
          h.same
          ∙ ap (λ (x : List ℕ). scan_from (sits h.piece h.before) (x ++ more)) t.parts
          ∙ ap (scan_from (sits h.piece h.before)) (append_assoc (spelling t.piece) tail more)
          ∙ run.same;
      follows = t.follows;
      ends = t.ends;
      stands = run.place ∙ ap (past t.piece) h.stands ∙ sym (t.says line);
    }

pub takes_less : (text : List ℕ) (row : ScannedLine) (rest : List ℕ) (new : ScannedLine) → Takes text row rest new
    → length rest < length text
takes_less text row rest new t = go (spelling t.piece) (spelled_some t.piece t.is) t.parts
  where
    go : (xs : List ℕ) → is_nonempty xs ≡ true → text ≡ xs ++ rest → length rest < length text
    go [] some is = absurd cc
    go (x ∷ xs) some is = let e = ap length is in omega (arith, e, length-append xs rest)

pub printable_rest : (text : List ℕ) (row : ScannedLine) (rest : List ℕ) (new : ScannedLine) → Takes text row rest new
    → list_all is_printable text ≡ true → list_all is_printable rest ≡ true
printable_rest text row rest new t ok = (all_parts is_printable text (spelling t.piece) rest t.parts ok).1

-- a text that begins with these two bytes
pub two_front : (n m : ℕ) (text : List ℕ) → 2 ≤ length text → get_or text 0 0 ≡ n → get_or text 1 0 ≡ m
    → text ≡ n ∷ m ∷ drop 2 text
two_front n m [] long first second = absurd (omega (arith, long))
two_front n m (x ∷ []) long first second = absurd (omega (arith, long))
two_front n m (x ∷ y ∷ ys) long first second = rw (first, second) refl

-- ---- the end of a line on which nothing stands open

begin_lf : (s : Scan) → begin s 10 ≡ end_line s
unfolding begin
begin_lf s = refl

fresh_end : (r : Scan)
    → end_line (state InBlank [] r) ≡ fresh (r.line + 1) r.begun r.high (lines_with r.line r.tokens r.joined r.lines)
unfolding end_line
fresh_end r = refl

apart_goes : (line : ℕ) (text : List ℕ) (row : ScannedLine) (more : List ℕ) → list_all is_printable text ≡ true
    → Along line text row [] (10 ∷ readable more)
    → to_come line None (text ++ 10 ∷ more) ≡ lines_with line row.tokens row.joined [] ++ to_come (line + 1) None more
unfolding to_come scan_from
apart_goes line text row more ok h =
    let r = settle h.piece h.before in
    ap (λ (t : List ℕ). at_end (scan_from (at_row line None) t))
    (readable_row text (10 ∷ more) ok ∙ ap (λ (t : List ℕ). text ++ t) (readable_lf more))
    ∙ ap at_end (h.same
    ∙ ap (λ (s : Scan). scan_from s (readable more))
    (enters h.piece 10 h.before refl h.ends ∙ begin_lf (state InBlank [] r) ∙ fresh_end r))
    ∙ apart_ahead (r.line + 1) r.begun r.high (lines_with r.line r.tokens r.joined r.lines) (readable more)
    (readable_ok more)
    ∙ ap (λ (p : Place).
    lines_with p.line p.tokens p.joined p.lines ++ at_end (scan_from (at_row (p.line + 1) None) (readable more)))
    h.stands

apart_ends : (line : ℕ) (text : List ℕ) (row : ScannedLine) → list_all is_printable text ≡ true
    → Along line text row [] []
    → to_come line None text ≡ lines_with line row.tokens row.joined [] ++ to_come line None []
unfolding to_come scan_from readable finish_in end_line
apart_ends line text row ok h =
    ap (λ (t : List ℕ). at_end (scan_from (at_row line None) t))
    (ap readable (sym (append-nil text)) ∙ readable_row text [] ok)
    ∙ ap at_end h.same
    ∙ ends_there h.piece h.before
    ∙ ap (λ (p : Place). (next_line p).lines) h.stands
    ∙ sym (append-nil (lines_with line row.tokens row.joined []))

-- A line was read to its end, and nothing stands open.
pub row_apart : (line : ℕ) (text : List ℕ) (row : ScannedLine) → list_all is_printable text ≡ true → row.begun ≡ None
    → ((more : List ℕ) → Along line text row [] more) → IsRow line None text row
row_apart line text row ok none h = record {
  goes = λ more.
      apart_goes line text row more ok (h (10 ∷ readable more))
      ∙ ap (λ (o : Option ℕ). lines_with line row.tokens row.joined [] ++ to_come (line + 1) o more) (sym none);
  ends =
      apart_ends line text row ok (h [])
      ∙ ap (λ (o : Option ℕ). lines_with line row.tokens row.joined [] ++ to_come line o []) (sym none);
}

pub row_done : (line : ℕ) (text : List ℕ) (row : ScannedLine) (rest : List ℕ) → length rest ≡ 0
    → list_all is_printable text ≡ true → row.begun ≡ None → ((more : List ℕ) → Along line text row rest more)
    → IsRow line None text row
row_done line text row [] none ok apart h = row_apart line text row ok apart h
row_done line text row (b ∷ bs) none ok apart h = absurd (omega (arith, none))

-- ---- the end of a line on which a comment stands open

inside_end : (star : Bool) (r : Scan)
    → step (state (comment_mode star) [] r) 10
    ≡ inside (r.line + 1) r.begun r.high (lines_with r.line r.tokens r.joined r.lines)
unfolding step step_in end_line
inside_end true r = refl
inside_end false r = refl

open_goes : (c more : List ℕ) (r : Scan) → list_all is_printable c ≡ true → has_no_end c ≡ true
    → at_end (scan_from (state InComment [] r) (c ++ 10 ∷ readable more))
    ≡ lines_with r.line r.tokens r.joined r.lines ++ to_come (r.line + 1) (Some r.begun) more
unfolding to_come scan_from
open_goes c more r ok no_end =
    let run = comment_run false c (10 ∷ readable more) r (refl, no_end) (printable_inside c ok) in
    let a = run.after in
    ap at_end (run.same ∙ ap (λ (s : Scan). scan_from s (readable more)) (inside_end (star_after false c) a))
    ∙ comment_ahead (a.line + 1) a.begun a.high (lines_with a.line a.tokens a.joined a.lines) (readable more)
    (readable_ok more)
    ∙ ap (λ (n : ℕ).
    lines_with a.line a.tokens a.joined a.lines ++ at_end (scan_from (at_row (a.line + 1) (Some n)) (readable more)))
    run.begun
    ∙ ap (λ (p : Place).
    lines_with p.line p.tokens p.joined p.lines
    ++ at_end (scan_from (at_row (p.line + 1) (Some r.begun)) (readable more)))
    (run.place ∙ over-printable c (place_of r) ok)

open_ends : (c : List ℕ) (r : Scan) (line : ℕ) → list_all is_printable c ≡ true → has_no_end c ≡ true
    → at_end (scan_from (state InComment [] r) c)
    ≡ lines_with r.line r.tokens r.joined r.lines ++ to_come line (Some r.begun) []
unfolding to_come scan_from readable finish_in end_line put
open_ends c r line ok no_end =
    let run = comment_run false c [] r (refl, no_end) (printable_inside c ok) in
    ap (λ (t : List ℕ). at_end (scan_from (state InComment [] r) t)) (sym (append-nil c))
    ∙ ap at_end run.same
    ∙ ends_there (OpenComment c) run.after
    ∙ ap (λ (p : Place). (next_line p).lines) (unclosed c run.after
    ∙ ap (λ (p : Place). over_from p run.after.begun) (run.place ∙ over-printable c (place_of r) ok)
    ∙ ap (over_from (place_of r)) run.begun)

-- A line was read up to a comment that isn't closed on it.
pub row_open : (line : ℕ) (text : List ℕ) (row new : ScannedLine) (c : List ℕ) → list_all is_printable text ≡ true
    → list_all is_printable c ≡ true → has_no_end c ≡ true
    → new ≡ record row { near = false; begun = Some line } → ((more : List ℕ) → Along line text row (47 ∷ 42 ∷ c) more)
    → IsRow line None text new
unfolding to_come
row_open line text row new c ok ok_c no_end is h = rw is (record { goes = goes; ends = ends })
  where
    begun : (more : List ℕ)
        → scan_from (at_row line None) (text ++ more)
        ≡ scan_from (state InComment [] (commented (settle (h more).piece (h more).before))) (c ++ more)
    begun more = let k = h more in k.same ∙ comment_begin k.piece (c ++ more) k.before k.follows

    goes : (more : List ℕ)
        → to_come line None (text ++ 10 ∷ more)
        ≡ lines_with line row.tokens row.joined [] ++ to_come (line + 1) (Some line) more
    goes more =
        let k = h (10 ∷ readable more) in
        ap (λ (t : List ℕ). at_end (scan_from (at_row line None) t))
        (readable_row text (10 ∷ more) ok ∙ ap (λ (t : List ℕ). text ++ t) (readable_lf more))
        ∙ ap at_end (begun (10 ∷ readable more))
        ∙ open_goes c more (commented (settle k.piece k.before)) ok_c no_end
        ∙ ap (λ (p : Place). lines_with p.line p.tokens p.joined p.lines ++ to_come (p.line + 1) (Some p.line) more)
        k.stands

    ends : to_come line None text ≡ lines_with line row.tokens row.joined [] ++ to_come line (Some line) []
    ends =
        let k = h [] in
        ap (λ (t : List ℕ). at_end (scan_from (at_row line None) t))
        (ap readable (sym (append-nil text)) ∙ readable_row text [] ok ∙ ap (λ (t : List ℕ). text ++ t) readable_nil)
        ∙ ap at_end (begun [])
        ∙ ap (λ (t : List ℕ). at_end (scan_from (state InComment [] (commented (settle k.piece k.before))) t))
        (append-nil c)
        ∙ open_ends c (commented (settle k.piece k.before)) line ok_c no_end
        ∙ ap (λ (p : Place). lines_with p.line p.tokens p.joined p.lines ++ to_come line (Some p.line) []) k.stands

module _ (row : ScannedLine) (rest : List ℕ) (printable : list_all is_printable rest ≡ true) (long : 2 ≤ length rest)
    (slash : get_or rest 0 0 ≡ 47) (star : get_or rest 1 0 ≡ 42) where
  front : rest ≡ 47 ∷ 42 ∷ drop 2 rest
  front = two_front 47 42 rest long slash star

  inner : list_all is_printable (drop 2 rest) ≡ true
  inner = subst (λ (t : List ℕ). list_all is_printable t ≡ true) front printable

  pub open_here : (line : ℕ) (text : List ℕ) → list_all is_printable text ≡ true
      → has_no_end (take (length rest - 2) (drop 2 rest)) ≡ true → ((more : List ℕ) → Along line text row rest more)
      → IsRow line None text (record row { near = false; begun = Some line })
  open_here line text ok no_end h =
      row_open line text row (record row { near = false; begun = Some line }) (drop 2 rest) ok inner
      (subst (λ (t : List ℕ). has_no_end t ≡ true) (rest_is 2 rest) no_end) refl
      (λ more. subst (λ (t : List ℕ). Along line text row t more) front (h more))

  -- a comment that is closed on its line is one piece
  pub comment_here : (behind : List ℕ) → ClosesComment (take (length rest - 2) (drop 2 rest)) behind
      → Takes rest row behind (record row { near = false })
  comment_here behind k =
      takes_comment rest row behind (record row { near = false }) (drop 2 rest) inner front
      (subst (λ (t : List ℕ). ClosesComment t behind) (rest_is 2 rest) k) refl

-- ---- a line that begins in a comment

pub row_inside : (line begun : ℕ) (text : List ℕ) → list_all is_printable text ≡ true → has_no_end text ≡ true
    → IsRow line (Some begun) text (no_row (Some begun))
unfolding to_come
row_inside line begun text ok no_end = record {
  goes = λ more. goes more;
  ends = ends;
}
  where
    goes : (more : List ℕ) → to_come line (Some begun) (text ++ 10 ∷ more) ≡ to_come (line + 1) (Some begun) more
    goes more =
        ap (λ (t : List ℕ). at_end (scan_from (at_row line (Some begun)) t))
        (readable_row text (10 ∷ more) ok ∙ ap (λ (t : List ℕ). text ++ t) (readable_lf more))
        ∙ open_goes text more (at_row line (Some begun)) ok no_end

    ends : to_come line (Some begun) text ≡ to_come line (Some begun) []
    ends =
        ap (λ (t : List ℕ). at_end (scan_from (at_row line (Some begun)) t))
        (ap readable (sym (append-nil text))
        ∙ readable_row text [] ok
        ∙ ap (λ (t : List ℕ). text ++ t) readable_nil
        ∙ append-nil text)
        ∙ open_ends text (at_row line (Some begun)) line ok no_end

-- behind the end of the comment all is as if none had stood open
pub comment_done : (line begun : ℕ) (c rest : List ℕ) → list_all is_printable c ≡ true → has_no_end c ≡ true
    → to_come line (Some begun) (c ++ 42 ∷ 47 ∷ rest) ≡ to_come line None rest
unfolding to_come
comment_done line begun c rest ok no_end =
    let run =
    comment_run false c (42 ∷ 47 ∷ readable rest) (at_row line (Some begun)) (refl, no_end) (printable_inside c ok) in
    ap (λ (t : List ℕ). at_end (scan_from (at_row line (Some begun)) t))
    (readable_row c (42 ∷ 47 ∷ rest) ok ∙ ap (λ (t : List ℕ). c ++ t) (readable_row (42 ∷ 47 ∷ []) rest refl))
    ∙ ap at_end (run.same ∙ comment_close (star_after false c) (readable rest) run.after)
    ∙ by_place run.after (at_row line None) (readable rest) (readable_ok rest)
    (run.place ∙ over-printable c (place_of (at_row line (Some begun))) ok)

pub row_behind : (line begun : ℕ) (text rest : List ℕ) (row : ScannedLine) → list_all is_printable text ≡ true
    → ClosesComment text rest → IsRow line None rest row → IsRow line (Some begun) text row
row_behind line begun text rest row ok k h = record {
  goes = λ more.
      ap (λ (t : List ℕ). to_come line (Some begun) t)
      (ap (λ (t : List ℕ). t ++ 10 ∷ more) k.parts ∙ append_assoc k.inside (42 ∷ 47 ∷ rest) (10 ∷ more))
      ∙ comment_done line begun k.inside (rest ++ 10 ∷ more) inner k.first
      ∙ h.goes more;
  ends =
      ap (λ (t : List ℕ). to_come line (Some begun) t) k.parts
      ∙ comment_done line begun k.inside rest inner k.first
      ∙ h.ends;
}
  where
    inner : list_all is_printable k.inside ≡ true
    inner =
        (and_parts (list_all is_printable k.inside) (list_all is_printable (42 ∷ 47 ∷ rest))
        (sym (list_all-append is_printable k.inside (42 ∷ 47 ∷ rest))
        ∙ subst (λ (t : List ℕ). list_all is_printable t ≡ true) k.parts ok)).0

pub row_goes_behind : {E : Type 0} (line : ℕ) (begun : Option ℕ) (text rest : List ℕ) (r : Result ScannedLine E)
    → is_some begun ≡ true → list_all is_printable text ≡ true → ClosesComment text rest
    → IfOk r (λ row. IsRow line None rest row) → IfOk r (λ row. IsRow line begun text row)
row_goes_behind line None text rest r some ok k h = absurd cc
row_goes_behind line (Some b) text rest (Ok row) some ok k h = row_behind line b text rest row ok k h
row_goes_behind line (Some b) text rest (Err e) some ok k h = tt

pub row_stays_inside : (line : ℕ) (begun : Option ℕ) (text : List ℕ) (row : ScannedLine) → is_some begun ≡ true
    → list_all is_printable text ≡ true → has_no_end text ≡ true → row ≡ no_row begun → IsRow line begun text row
row_stays_inside line None text row some ok no_end is = absurd cc
row_stays_inside line (Some b) text row some ok no_end is = rw is (row_inside line b text ok no_end)

-- ---- from line to line

-- a CR before an LF is passed over
cr_end : (line : ℕ) (begun : Option ℕ) (text more : List ℕ) → list_all is_printable text ≡ true
    → to_come line begun (text ++ 13 ∷ 10 ∷ more) ≡ to_come line begun (text ++ 10 ∷ more)
unfolding to_come scan_from step
cr_end line begun text more ok =
    ap (λ (t : List ℕ). at_end (scan_from (at_row line begun) t))
    (readable_row text (13 ∷ 10 ∷ more) ok ∙ ap (λ (t : List ℕ). text ++ t) (readable_cr more))
    ∙ ap at_end (scan-append (at_row line begun) text (13 ∷ 10 ∷ readable more)
    ∙ sym (scan-append (at_row line begun) text (10 ∷ readable more)))
    ∙ ap (λ (t : List ℕ). at_end (scan_from (at_row line begun) t))
    (sym (readable_row text (10 ∷ more) ok ∙ ap (λ (t : List ℕ). text ++ t) (readable_lf more)))

pub row_ended : (line : ℕ) (begun : Option ℕ) (text behind rest : List ℕ) (row : ScannedLine)
    → list_all is_printable text ≡ true → EndsLine behind rest → IsRow line begun text row
    → to_come line begun (text ++ behind)
    ≡ lines_with line row.tokens row.joined [] ++ to_come (line + 1) row.begun rest
row_ended line begun text behind rest row ok (inl e) h =
    ap (λ (t : List ℕ). to_come line begun (text ++ t)) e ∙ h.goes rest
row_ended line begun text behind rest row ok (inr e) h =
    ap (λ (t : List ℕ). to_come line begun (text ++ t)) e ∙ cr_end line begun text rest ok ∙ h.goes rest

readable_wrong : (b : ℕ) (bs : List ℕ) → is_printable b ≡ false → begins_end (b ∷ bs) ≡ false
    → readable (b ∷ bs) ≡ wrong_byte
unfolding readable is_allowed
readable_wrong b bs h k = rw (h, k) refl

wrong_readable : readable wrong_byte ≡ wrong_byte
unfolding readable is_allowed
wrong_readable = refl

pub last_wrong : (line : ℕ) (begun : Option ℕ) (text behind : List ℕ) (row : ScannedLine)
    → list_all is_printable text ≡ true
    → eqb (length behind) 0 ≡ false → starts is_printable behind ≡ false → begins_end behind ≡ false
    → IsRow line begun (text ++ wrong_byte) row → IsLast line begun (text ++ behind) row
unfolding to_come
last_wrong line begun text [] row ok some h k r = absurd cc
last_wrong line begun text (b ∷ bs) row ok some h k r = same ∙ r.ends
  where
    same : to_come line begun (text ++ b ∷ bs) ≡ to_come line begun (text ++ wrong_byte)
    same =
        ap (λ (t : List ℕ). at_end (scan_from (at_row line begun) t))
        (readable_row text (b ∷ bs) ok
        ∙ ap (λ (t : List ℕ). text ++ t) (readable_wrong b bs h k ∙ sym wrong_readable)
        ∙ sym (readable_row text wrong_byte ok))

-- ---- the end of the text

pub none_comes : (line : ℕ) → to_come line None [] ≡ []
unfolding to_come readable scan_from finish_in end_line
none_comes line = refl

pub one_comes : (line begun : ℕ)
    → to_come line (Some begun) [] ≡ record { at = begun; tokens = Unclosed ∷ []; joined = false } ∷ []
unfolding to_come readable scan_from finish_in end_line put
one_comes line begun = refl

pub last_wrong_ok : {E : Type 0} (line : ℕ) (begun : Option ℕ) (text behind : List ℕ) (r : Result ScannedLine E)
    → list_all is_printable text ≡ true → eqb (length behind) 0 ≡ false → starts is_printable behind ≡ false
    → begins_end behind ≡ false
    → IfOk r (λ row. IsRow line begun (text ++ wrong_byte) row) → IfOk r (λ row. IsLast line begun (text ++ behind) row)
last_wrong_ok line begun text behind (Ok row) ok some h k r = last_wrong line begun text behind row ok some h k r
last_wrong_ok line begun text behind (Err e) ok some h k r = tt

end_less : (behind rest : List ℕ) → EndsLine behind rest → length rest < length behind
end_less behind rest (inl e) = let k = ap length e in omega (arith, k)
end_less behind rest (inr e) = let k = ap length e in omega (arith, k)

pub passes_end : (from : Cursor) (text behind : List ℕ) (rest : Bor (List ℕ)) (row : ScannedLine)
    → IsSplit is_printable from.rest.now text behind → EndsLine behind rest.now → IsRow from.line from.begun text row
    → Passes from row (record { rest = rest; line = from.line + 1; begun = row.begun })
passes_end from text behind rest row s ends h = record {
  comes =
      ap (to_come from.line from.begun) s.parts
      ∙ row_ended from.line from.begun text behind rest.now row s.every ends h;
  shorter =
      let k = ap length s.parts in
      let less = end_less behind rest.now ends in
      omega (arith, k, less, length-append text behind);
}

pub next_end : (last : Option TokenLine) (old : List TokenLine) (line : ℕ) (begun : Option ℕ) (rest : List ℕ)
    → length rest ≡ 0 → to_come line begun rest ≡ old → Next last (to_come line begun []) []
    → Next last old (to_come line None rest)
next_end last old line begun (b ∷ bs) none comes h = absurd (omega (arith, none))
next_end last old line begun [] none comes h = rw (none_comes line, ← comes) h

-- What is to come of a text depends on nothing that was read before but the number of the line and what stands open.
use Rattle.std.proofs.Common.{◌≡◌, inl, inr, ℕ, ◌+◌, Bool, true, false, cond, eqb, List, [], ◌∷◌, ◌++◌, length, Some}
use Rattle.std.proofs.Common.{None, refl, sym, ap, ◌∙◌, append_assoc, append-nil}
use Rattle.std.specs.List.{list_all}
use Rattle.deck_scan.specs.declared.token.Token.{Token}
use Rattle.deck_scan.specs.declared.token.Token.TheVariants.{Open, Unclosed}
use Rattle.deck_scan.specs.declared.token.TokenLine.{TokenLine}
use Rattle.deck_scan.specs.Pieces.{Piece, Plain, Quoted, Hexed, Sign, Blank, Comment, LineEnd, LoneSlash, StrayByte}
use Rattle.deck_scan.specs.Pieces.{OpenQuote, OpenHexed, OpenComment, spelled, is_in_comment, are_pieces, lines_with}
use Rattle.deck_scan.specs.Pieces.{Place, with_token, with_sign, apart, next_line, over, past, past_all, without_cr}
use Rattle.deck_scan.specs.Scan.{Scan, InBlank, InComment, scan_from}
use Rattle.deck_scan.specs.Rows.{at_row}
use Rattle.deck_scan.proofs.Said.{state, place_of, at_end, star_after, comment_run, comment_close, ends_there, unclosed}
use Rattle.deck_scan.proofs.Said.{over_from, all_run}
use Rattle.deck_scan.proofs.Found.{found_pieces, Comments, found_comment}
use Rattle.deck_scan.proofs.Pieced.{cr_passed, blank_first}

-- ---- lines that were read before stay in front

module _ (ls : List TokenLine) where
  abbrev behind : Place → Place
  behind p = record p { lines = ls ++ p.lines }

  pub lines_with-append : (at : ℕ) (ts : List Token) (joined : Bool) (xs : List TokenLine)
      → lines_with at ts joined (ls ++ xs) ≡ ls ++ lines_with at ts joined xs
  lines_with-append at ts joined xs = go (eqb (length ts) 0)
    where
      new : TokenLine
      new = record { at = at; tokens = ts; joined = joined }

      go : (none : Bool) → cond none (ls ++ xs) ((ls ++ xs) ++ new ∷ []) ≡ ls ++ cond none xs (xs ++ new ∷ [])
      go true = refl
      go false = append_assoc ls xs (new ∷ [])

  next_line-behind : (p : Place) → next_line (behind p) ≡ behind (next_line p)
  next_line-behind p =
      ap (λ (xs : List TokenLine). record { line = p.line + 1; tokens = []; near = false; joined = false; lines = xs })
      (lines_with-append p.line p.tokens p.joined p.lines)

  over-behind : (c : List ℕ) (p : Place) → over c (behind p) ≡ behind (over c p)
  over-behind [] p = refl
  over-behind (b ∷ bs) p = go (eqb b 10) (λ q. over-behind bs q)
    where
      go : (lf : Bool) → ((q : Place) → over bs (behind q) ≡ behind (over bs q))
          → over bs (cond lf (next_line (behind p)) (behind p)) ≡ behind (over bs (cond lf (next_line p) p))
      go true next = ap (over bs) (next_line-behind p) ∙ next (next_line p)
      go false next = next p

  sign-behind : (t : Token) (p : Place) → with_sign t (behind p) ≡ behind (with_sign t p)
  sign-behind Open p = refl
  sign-behind _ p = refl

  past-behind : (q : Piece) (p : Place) → past q (behind p) ≡ behind (past q p)
  past-behind (Sign t) p = sign-behind t p
  past-behind (Comment c) p = over-behind c (apart p)
  past-behind LineEnd p = next_line-behind p
  past-behind (OpenComment c) p =
      ap (λ (x : Place). record (with_token Unclosed (next_line x)) { line = p.line }) (over-behind c (apart p))
      ∙ ap (λ (x : Place). record (with_token Unclosed x) { line = p.line }) (next_line-behind (over c (apart p)))
  past-behind (Plain w) p = refl
  past-behind (Quoted n) p = refl
  past-behind (Hexed ds) p = refl
  past-behind Blank p = refl
  past-behind LoneSlash p = refl
  past-behind (StrayByte b) p = refl
  past-behind (OpenQuote n) p = refl
  past-behind (OpenHexed ds) p = refl

  all-behind : (qs : List Piece) (p : Place) → past_all qs (behind p) ≡ behind (past_all qs p)
  all-behind [] p = refl
  all-behind (q ∷ qs) p = ap (past_all qs) (past-behind q p) ∙ all-behind qs (past q p)

  said-behind : (qs : List Piece) (p : Place)
      → (next_line (past_all qs (behind p))).lines ≡ ls ++ (next_line (past_all qs p)).lines
  said-behind qs p =
      ap (λ (x : Place). (next_line x).lines) (all-behind qs p)
      ∙ ap (λ (x : Place). x.lines) (next_line-behind (past_all qs p))

-- ---- nothing stands open

pub read_said : (r : Scan) (text : List ℕ) → (ok : list_all is_in_comment (without_cr text) ≡ true)
    → at_end (scan_from (state InBlank [] r) text)
    ≡ (next_line (past_all (found_pieces (without_cr text) ok).0 (place_of r))).lines
read_said r text ok =
    let k = found_pieces (without_cr text) ok in
    ap at_end (cr_passed text (state InBlank [] r))
    ∙ ap (λ (t : List ℕ). at_end (scan_from (state InBlank [] r) t)) k.1
    ∙ all_run Blank k.0 r (blank_first (spelled k.0)) k.2

-- What is read of a text is told by the place where it stands.
pub by_place : (r s : Scan) (text : List ℕ) → list_all is_in_comment (without_cr text) ≡ true → place_of r ≡ place_of s
    → at_end (scan_from (state InBlank [] r) text) ≡ at_end (scan_from (state InBlank [] s) text)
by_place r s text ok same =
    read_said r text ok
    ∙ ap (λ (p : Place). (next_line (past_all (found_pieces (without_cr text) ok).0 p)).lines) same
    ∙ sym (read_said s text ok)

-- a line begins behind these lines
abbrev pub fresh : ℕ → ℕ → ℕ → List TokenLine → Scan
fresh line begun high ls = record {
  line = line;
  begun = begun;
  high = high;
  mode = InBlank;
  part = [];
  tokens = [];
  near = false;
  joined = false;
  lines = ls;
}

abbrev pub fresh_place : ℕ → List TokenLine → Place
fresh_place line ls = record { line = line; tokens = []; near = false; joined = false; lines = ls }

pub apart_ahead : (line begun high : ℕ) (ls : List TokenLine) (text : List ℕ)
    → list_all is_in_comment (without_cr text) ≡ true
    → at_end (scan_from (fresh line begun high ls) text) ≡ ls ++ at_end (scan_from (at_row line None) text)
apart_ahead line begun high ls text ok =
    let qs = (found_pieces (without_cr text) ok).0 in
    read_said (fresh line begun high ls) text ok
    ∙ ap (λ (xs : List TokenLine). (next_line (past_all qs (fresh_place line xs))).lines) (sym (append-nil ls))
    ∙ said-behind ls qs (fresh_place line [])
    ∙ ap (λ (xs : List TokenLine). ls ++ xs) (sym (read_said (at_row line None) text ok))

-- ---- a comment stands open

abbrev pub inside : ℕ → ℕ → ℕ → List TokenLine → Scan
inside line begun high ls = record {
  line = line;
  begun = begun;
  high = high;
  mode = InComment;
  part = [];
  tokens = [];
  near = false;
  joined = false;
  lines = ls;
}

module _ (text : List ℕ) (k : Comments (without_cr text)) where
  -- in a comment that is closed, and behind it
  closed_said : (ps : List Piece) → k.tail ≡ 42 ∷ 47 ∷ spelled ps → are_pieces ps ≡ true → (r : Scan)
      → at_end (scan_from (state InComment [] r) text) ≡ (next_line (past_all ps (over k.c (place_of r)))).lines
  closed_said ps is are r =
      let run = comment_run false k.c (42 ∷ 47 ∷ spelled ps) r (refl, k.no_end) k.every in
      ap at_end (cr_passed text (state InComment [] r))
      ∙ ap (λ (t : List ℕ). at_end (scan_from (state InComment [] r) t)) (k.is ∙ ap (λ (t : List ℕ). k.c ++ t) is)
      ∙ ap at_end (run.same ∙ comment_close (star_after false k.c) (spelled ps) run.after)
      ∙ all_run Blank ps run.after (blank_first (spelled ps)) are
      ∙ ap (λ (p : Place). (next_line (past_all ps p)).lines) run.place

  -- in a comment that is not closed
  open_said : k.tail ≡ [] → (r : Scan)
      → at_end (scan_from (state InComment [] r) text) ≡ (next_line (over_from (over k.c (place_of r)) r.begun)).lines
  unfolding scan_from
  open_said none r =
      let run = comment_run false k.c [] r (refl, k.no_end) k.every in
      ap at_end (cr_passed text (state InComment [] r))
      ∙ ap (λ (t : List ℕ). at_end (scan_from (state InComment [] r) t)) (k.is ∙ ap (λ (t : List ℕ). k.c ++ t) none)
      ∙ ap at_end run.same
      ∙ ends_there (OpenComment k.c) run.after
      ∙ ap (λ (p : Place). (next_line p).lines) (unclosed k.c run.after
      ∙ ap (λ (p : Place). over_from p run.after.begun) run.place
      ∙ ap (over_from (over k.c (place_of r))) run.begun)

  comment_first : (line begun high : ℕ) (ls : List TokenLine)
      → at_end (scan_from (inside line begun high ls) text) ≡ ls ++ at_end (scan_from (at_row line (Some begun)) text)
  comment_first line begun high ls = elim k.ends [ inl e ↦ closed e.ps e.is e.are | inr e ↦ opened e ]
    where
      front : over k.c (fresh_place line ls)
          ≡ record (over k.c (fresh_place line [])) { lines = ls ++ (over k.c (fresh_place line [])).lines }
      front =
          ap (λ (xs : List TokenLine). over k.c (fresh_place line xs)) (sym (append-nil ls))
          ∙ over-behind ls k.c (fresh_place line [])

      closed : (ps : List Piece) → k.tail ≡ 42 ∷ 47 ∷ spelled ps → are_pieces ps ≡ true
          → at_end (scan_from (inside line begun high ls) text)
          ≡ ls ++ at_end (scan_from (at_row line (Some begun)) text)
      closed ps is are =
          closed_said ps is are (inside line begun high ls)
          ∙ ap (λ (p : Place). (next_line (past_all ps p)).lines) front
          ∙ said-behind ls ps (over k.c (fresh_place line []))
          ∙ ap (λ (xs : List TokenLine). ls ++ xs) (sym (closed_said ps is are (at_row line (Some begun))))

      opened : k.tail ≡ []
          → at_end (scan_from (inside line begun high ls) text)
          ≡ ls ++ at_end (scan_from (at_row line (Some begun)) text)
      opened none =
          let p = over k.c (fresh_place line []) in
          open_said none (inside line begun high ls)
          ∙ ap (λ (x : Place). (next_line (over_from x begun)).lines) front
          ∙ ap (λ (x : Place). (next_line (record (with_token Unclosed x) { line = begun })).lines)
          (next_line-behind ls p)
          ∙ ap (λ (x : Place). x.lines) (next_line-behind ls (over_from p begun))
          ∙ ap (λ (xs : List TokenLine). ls ++ xs) (sym (open_said none (at_row line (Some begun))))

pub comment_ahead : (line begun high : ℕ) (ls : List TokenLine) (text : List ℕ)
    → list_all is_in_comment (without_cr text) ≡ true
    → at_end (scan_from (inside line begun high ls) text) ≡ ls ++ at_end (scan_from (at_row line (Some begun)) text)
comment_ahead line begun high ls text ok = comment_first text (found_comment (without_cr text) ok) line begun high ls

-- The lines of a text behind a line of its own.
use Rattle.std.proofs.Common.{◌≡◌, ℕ, Bool, true, false, cond, eqb, List, [], ◌∷◌, ◌++◌, length, refl, sym, ap, ◌∙◌}
use Rattle.deck_scan.specs.declared.token.Token.{Token}
use Rattle.deck_scan.specs.declared.token.Token.TheVariants.{Word, Name, Open, Close, Comma, Equals, Stray, Unclosed}
use Rattle.deck_scan.specs.declared.token.TokenLine.{TokenLine}
use Rattle.deck_scan.specs.Pieces.{Piece, Plain, Quoted, Hexed, Sign, Blank, Comment, LineEnd, LoneSlash, StrayByte}
use Rattle.deck_scan.specs.Pieces.{OpenQuote, OpenHexed, OpenComment, hex_token, Place, with_token, apart, next_line}
use Rattle.deck_scan.specs.Pieces.{over, over_open, past, past_all, first_place, lines_said}
use Rattle.rnl_syntax.specs.Lines.{begins_operand, begins_operands}

-- the tokens of each line
abbrev rows : List TokenLine → List (List Token)
rows [] = []
rows (l ∷ ls) = l.tokens ∷ rows ls

rows-push : (ls : List TokenLine) (l : TokenLine) → rows (ls ++ l ∷ []) ≡ rows ls ++ l.tokens ∷ []
rows-push [] l = refl
rows-push (m ∷ ms) l = ap (λ (x : List (List Token)). m.tokens ∷ x) (rows-push ms l)

-- a text that stands here has this line first, and behind it the tokens of a text that stands there
record Behind (l : TokenLine) (here there : Place) : Type 0 where
  tokens : here.tokens ≡ there.tokens
  more : List TokenLine
  lines : here.lines ≡ l ∷ more
  same : rows more ≡ rows there.lines

token_more : (l : TokenLine) (here there : Place) (t : Token) → Behind l here there
    → Behind l (with_token t here) (with_token t there)
token_more l here there t
    h = record { tokens = ap (λ (x : List Token). x ++ t ∷ []) h.tokens; more = h.more; lines = h.lines; same = h.same }

ended : (l : TokenLine) (here there : Place) → Behind l here there → Behind l (next_line here) (next_line there)
ended l here there h = go (eqb (length there.tokens) 0) refl
  where
    new : TokenLine
    new = record { at = here.line; tokens = here.tokens; joined = here.joined }

    old : TokenLine
    old = record { at = there.line; tokens = there.tokens; joined = there.joined }

    go : (b : Bool) → eqb (length there.tokens) 0 ≡ b → Behind l (next_line here) (next_line there)
    go true e = record { tokens = refl; more = h.more; lines = rw (h.tokens, e) h.lines; same = rw e h.same }
    go false e = record {
      tokens = refl;
      more = h.more ++ new ∷ [];
      lines = rw (h.tokens, e, h.lines) refl;
      same =
          rw e (rows-push h.more new
          ∙ ap (λ (x : List (List Token)). x ++ here.tokens ∷ []) h.same
          ∙ ap (λ (x : List Token). rows there.lines ++ x ∷ []) h.tokens
          ∙ sym (rows-push there.lines old));
    }

over_more : (l : TokenLine) (c : List ℕ) (here there : Place) → Behind l here there
    → Behind l (over c here) (over c there)
over_more l [] here there h = h
over_more l (b ∷ bs) here there h =
    over_more l bs (cond (eqb b 10) (next_line here) here) (cond (eqb b 10) (next_line there) there) (go (eqb b 10))
  where
    go : (x : Bool) → Behind l (cond x (next_line here) here) (cond x (next_line there) there)
    go true = ended l here there h
    go false = h

apart_more : (l : TokenLine) (here there : Place) → Behind l here there → Behind l (apart here) (apart there)
apart_more l here there h = record { tokens = h.tokens; more = h.more; lines = h.lines; same = h.same }

open_more : (l : TokenLine) (c : List ℕ) (here there : Place) → Behind l here there
    → Behind l (over_open c here) (over_open c there)
open_more l c here there h =
    let n =
    ended l (over c (apart here)) (over c (apart there))
    (over_more l c (apart here) (apart there) (apart_more l here there h)) in
    record { tokens = refl; more = n.more; lines = n.lines; same = n.same }

as_token : (l : TokenLine) (here there : Place) (t : Token) → Behind l here there → (a b : Place)
    → a.tokens ≡ here.tokens ++ t ∷ [] → b.tokens ≡ there.tokens ++ t ∷ [] → a.lines ≡ here.lines
    → b.lines ≡ there.lines → Behind l a b
as_token l here there t h a b p q r s = record {
  tokens = p ∙ ap (λ (x : List Token). x ++ t ∷ []) h.tokens ∙ sym q;
  more = h.more;
  lines = r ∙ h.lines;
  same = h.same ∙ ap rows (sym s);
}

piece_more : (l : TokenLine) (p : Piece) (here there : Place) → Behind l here there
    → Behind l (past p here) (past p there)
piece_more l (Plain w) here there h =
    as_token l here there (Word w) h (past (Plain w) here) (past (Plain w) there) refl refl refl refl
piece_more l (Quoted n) here there h = token_more l here there (Name n) h
piece_more l (Hexed ds) here there h = token_more l here there (hex_token ds) h
piece_more l (Sign Open) here there h =
    as_token l here there Open h (past (Sign Open) here) (past (Sign Open) there) refl refl refl refl
piece_more l (Sign (Word w)) here there h = token_more l here there (Word w) h
piece_more l (Sign (Name w)) here there h = token_more l here there (Name w) h
piece_more l (Sign Close) here there h = token_more l here there Close h
piece_more l (Sign Comma) here there h = token_more l here there Comma h
piece_more l (Sign Equals) here there h = token_more l here there Equals h
piece_more l (Sign Stray) here there h = token_more l here there Stray h
piece_more l (Sign Unclosed) here there h = token_more l here there Unclosed h
piece_more l Blank here there h = apart_more l here there h
piece_more l (Comment c) here there h = over_more l c (apart here) (apart there) (apart_more l here there h)
piece_more l LineEnd here there h = ended l here there h
piece_more l LoneSlash here there h = token_more l here there Stray h
piece_more l (StrayByte b) here there h = token_more l here there Stray h
piece_more l (OpenQuote n) here there h = token_more l here there Stray h
piece_more l (OpenHexed ds) here there h = token_more l here there Stray h
piece_more l (OpenComment c) here there h = open_more l c here there h

pieces_more : (l : TokenLine) (ps : List Piece) (here there : Place) → Behind l here there
    → Behind l (past_all ps here) (past_all ps there)
pieces_more l [] here there h = h
pieces_more l (p ∷ ps) here there h = pieces_more l ps (past p here) (past p there) (piece_more l p here there h)

-- the lines behind
pub record LinesBehind (l : TokenLine) (ps : List Piece) (here : Place) : Type 0 where
  pub more : List TokenLine
  pub lines : (next_line (past_all ps here)).lines ≡ l ∷ more
  pub first : begins_operands more ≡ begins_operands (lines_said ps)

first_rows : (ls ms : List TokenLine) → rows ls ≡ rows ms → begins_operands ls ≡ begins_operands ms
first_rows [] [] e = refl
first_rows [] (m ∷ ms) e = absurd cc
first_rows (l ∷ ls) [] e = absurd cc
first_rows (l ∷ ls) (m ∷ ms) e = let same : l.tokens ≡ m.tokens = cc in ap begins_operand same

-- Behind a line that has ended, a text says its own lines.
pub lines_behind : (l : TokenLine) (ps : List Piece) (line : ℕ)
    → LinesBehind l ps (record { line = line; tokens = []; near = false; joined = false; lines = l ∷ [] })
lines_behind l ps line =
    let here : Place = record { line = line; tokens = []; near = false; joined = false; lines = l ∷ [] } in
    let start : Behind l here first_place = record { tokens = refl; more = []; lines = refl; same = refl } in
    let all = ended l (past_all ps here) (past_all ps first_place) (pieces_more l ps here first_place start) in
    record { more = all.more; lines = all.lines; first = first_rows all.more (lines_said ps) all.same }

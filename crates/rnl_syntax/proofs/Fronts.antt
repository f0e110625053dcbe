-- Lines that end with a closing parenthesis are spelled by a front of the text that ends with it.
use Rattle.std.proofs.Common.{◌≡◌, ℕ, ◌+◌, Bool, true, false, cond, not, eqb, List, [], ◌∷◌, ◌++◌, length, Some, None}
use Rattle.std.proofs.Common.{refl, sym, ap, subst, ◌∙◌, arith, length-append, append_assoc, inl, inr}
use Rattle.std.specs.Prelude.{◌⊎◌, ◌&&◌, ◌||◌}
use Rattle.std.proofs.lemmas.Bool.{and_parts, and_from, ne_eqb}
use Rattle.std.proofs.lemmas.List.Elements.{filter-append}
use Rattle.grs_base.specs.Printed.{is_printable}
use Rattle.deck_scan.specs.declared.token.Token.{Token}
use Rattle.deck_scan.specs.declared.token.Token.TheVariants.{Word, Name, Open, Close, Comma, Equals, Stray, Unclosed}
use Rattle.deck_scan.specs.declared.token.TokenLine.{TokenLine}
use Rattle.deck_scan.specs.Bytes.{begins, is_allowed, bad_line}
use Rattle.deck_scan.specs.Pieces.{Piece, Plain, Quoted, Hexed, Sign, Blank, Comment, LineEnd, LoneSlash, StrayByte}
use Rattle.deck_scan.specs.Pieces.{OpenQuote, OpenHexed, OpenComment, spelling, spelled, is_piece, is_hexed, unhex}
use Rattle.deck_scan.specs.Pieces.{hex_token, followed_by, are_pieces, Place, lines_with, apart, next_line, over, past}
use Rattle.deck_scan.specs.Pieces.{past_all, first_place, lines_said, without_cr, SpellsLines}
use Rattle.rnl_syntax.proofs.Closed.{is_close, line_closes, last_closes-append, line_closes-snoc, close_is}

-- ---- lists

-- these come first
abbrev Starts : {A : Type 0} → List A → List A → Type 0
Starts {A} xs all = (more : List A) × (all ≡ xs ++ more)

first_same : {A : Type 0} (x y : A) (xs ys : List A) → x ∷ xs ≡ y ∷ ys → (x ≡ y) × (xs ≡ ys)
first_same x y xs ys e = (cc, cc)

none_left : {A : Type 0} (xs ys : List A) → [] ≡ xs ++ ys → xs ≡ []
none_left [] ys e = refl
none_left (x ∷ xs) ys e = absurd cc

-- what comes first before one more comes first without it, or is all
snoc_starts : {A : Type 0} (xs all more : List A) (x : A) → all ++ x ∷ [] ≡ xs ++ more
    → Starts xs all ⊎ (xs ≡ all ++ x ∷ [])
snoc_starts [] all more x e = inl (all, refl)
snoc_starts {A} (y ∷ ys) [] more x e =
    let h = first_same x y [] (ys ++ more) e in
    inr (rw (none_left ys more h.1, h.0) refl)
snoc_starts {A} (y ∷ ys) (z ∷ zs) more x e = go (snoc_starts ys zs more x h.1)
  where
    h : (z ≡ y) × (zs ++ x ∷ [] ≡ ys ++ more)
    h = first_same z y (zs ++ x ∷ []) (ys ++ more) e

    go : Starts ys zs ⊎ (ys ≡ zs ++ x ∷ []) → Starts (y ∷ ys) (z ∷ zs) ⊎ (y ∷ ys ≡ (z ∷ zs) ++ x ∷ [])
    go (inl s) = inl (s.0, rw (h.0, s.1) refl)
    go (inr s) = inr (rw (h.0, s) refl)

-- ---- one piece

-- the lines of a text that stands here
abbrev ended : Place → List TokenLine
ended p = (next_line p).lines

long : (xs : List Token) (t : Token) → eqb (length (xs ++ t ∷ [])) 0 ≡ false
long xs t = ne_eqb _ 0 (λ e. omega (arith, e, length-append xs (t ∷ [])))

starts_with : (ls lines : List TokenLine) (at : ℕ) (tokens : List Token) (joined : Bool) → Starts ls lines
    → Starts ls (lines_with at tokens joined lines)
starts_with ls lines at tokens joined h = go (eqb (length tokens) 0)
  where
    go : (b : Bool) → Starts ls (cond b lines (lines ++ record { at = at; tokens = tokens; joined = joined } ∷ []))
    go true = h
    go false = (h.0 ++ record { at = at; tokens = tokens; joined = joined } ∷ [], rw h.1 (append_assoc ls h.0 _))

-- a token more
token_starts : (ls : List TokenLine) (p : Place) (at : ℕ) (t : Token) (joined : Bool)
    → Starts ls (lines_with at (p.tokens ++ t ∷ []) joined p.lines) → line_closes ls ≡ true
    → Starts ls (ended p) ⊎ ((t ≡ Close) × (lines_with at (p.tokens ++ t ∷ []) joined p.lines ≡ ls))
token_starts ls p at t joined h closes = go (snoc_starts ls p.lines h.0 new (sym made ∙ h.1))
  where
    new : TokenLine
    new = record { at = at; tokens = p.tokens ++ t ∷ []; joined = joined }

    made : lines_with at (p.tokens ++ t ∷ []) joined p.lines ≡ p.lines ++ new ∷ []
    made = rw (long p.tokens t) refl

    go : Starts ls p.lines ⊎ (ls ≡ p.lines ++ new ∷ [])
        → Starts ls (ended p) ⊎ ((t ≡ Close) × (lines_with at (p.tokens ++ t ∷ []) joined p.lines ≡ ls))
    go (inl s) = inl (starts_with ls p.lines p.line p.tokens p.joined s)
    go (inr e) =
        inr (
          close_is t (sym (last_closes-append p.tokens [] t)
              ∙ sym (line_closes-snoc p.lines new)
              ∙ ap line_closes (sym e)
              ∙ closes),
          made ∙ sym e,
        )

other_starts : (ls : List TokenLine) (p : Place) (at : ℕ) (t : Token) (joined : Bool) → is_close t ≡ false
    → Starts ls (lines_with at (p.tokens ++ t ∷ []) joined p.lines) → line_closes ls ≡ true → Starts ls (ended p)
other_starts ls p at t joined unlike h closes = go (token_starts ls p at t joined h closes)
  where
    go : Starts ls (ended p) ⊎ ((t ≡ Close) × (lines_with at (p.tokens ++ t ∷ []) joined p.lines ≡ ls))
        → Starts ls (ended p)
    go (inl s) = s
    go (inr x) = absurd (let z : true ≡ false = ap is_close (sym x.0) ∙ unlike in cc)

hex_other : (ds : List ℕ) → is_close (hex_token ds) ≡ false
hex_other ds = go (is_hexed ds)
  where
    go : (b : Bool) → is_close (cond b (Name (unhex ds)) Stray) ≡ false
    go true = refl
    go false = refl

-- a comment leaves the lines
over_ended : (c : List ℕ) (p : Place) → ended (over c p) ≡ ended p
over_ended [] p = refl
over_ended (b ∷ bs) p = over_ended bs (cond (eqb b 10) (next_line p) p) ∙ go (eqb b 10)
  where
    go : (x : Bool) → ended (cond x (next_line p) p) ≡ ended p
    go true = refl
    go false = refl

-- a piece more
piece_starts : (ls : List TokenLine) (q : Piece) (p : Place) → is_piece q ≡ true → Starts ls (ended (past q p))
    → line_closes ls ≡ true → Starts ls (ended p) ⊎ ((q ≡ Sign Close) × (ended (past q p) ≡ ls))
piece_starts ls (Plain w) p h s closes = inl (other_starts ls p p.line (Word w) (p.joined || p.near) refl s closes)
piece_starts ls (Quoted n) p h s closes = inl (other_starts ls p p.line (Name n) (p.joined || p.near) refl s closes)
piece_starts ls (Hexed ds) p h s closes =
    inl (other_starts ls p p.line (hex_token ds) (p.joined || p.near) (hex_other ds) s closes)
piece_starts ls (Sign Open) p h s closes = inl (other_starts ls p p.line Open p.joined refl s closes)
piece_starts ls (Sign Close) p h s closes = go (token_starts ls p p.line Close (p.joined || p.near) s closes)
  where
    go : Starts ls (ended p) ⊎ ((Close ≡ Close) × (ended (past (Sign Close) p) ≡ ls))
        → Starts ls (ended p) ⊎ ((Sign Close ≡ Sign Close) × (ended (past (Sign Close) p) ≡ ls))
    go (inl x) = inl x
    go (inr x) = inr (refl, x.1)
piece_starts ls (Sign Comma) p h s closes = inl (other_starts ls p p.line Comma (p.joined || p.near) refl s closes)
piece_starts ls (Sign Equals) p h s closes = inl (other_starts ls p p.line Equals (p.joined || p.near) refl s closes)
piece_starts ls (Sign _) p h s closes = absurd cc
piece_starts ls Blank p h s closes = inl s
piece_starts ls (Comment c) p h s closes =
    inl (subst (λ (all : List TokenLine). Starts ls all) (over_ended c (apart p)) s)
piece_starts ls LineEnd p h s closes = inl s
piece_starts ls LoneSlash p h s closes = inl (other_starts ls p p.line Stray (p.joined || p.near) refl s closes)
piece_starts ls (StrayByte b) p h s closes = inl (other_starts ls p p.line Stray (p.joined || p.near) refl s closes)
piece_starts ls (OpenQuote n) p h s closes = inl (other_starts ls p p.line Stray (p.joined || p.near) refl s closes)
piece_starts ls (OpenHexed ds) p h s closes = inl (other_starts ls p p.line Stray (p.joined || p.near) refl s closes)
piece_starts ls (OpenComment c) p h s closes =
    inl (subst (λ (all : List TokenLine). Starts ls all) (over_ended c (apart p))
    (other_starts ls (next_line (over c (apart p))) p.line Unclosed false refl s closes))

-- ---- pieces

-- some pieces up to a closing parenthesis say the lines
record Fronted (ps : List Piece) (p : Place) (ls : List TokenLine) : Type 0 where
  own : List Piece
  more : List Piece
  parts : ps ≡ own ++ Sign Close ∷ more
  says : ended (past_all (own ++ Sign Close ∷ []) p) ≡ ls

pieces_front : (ps : List Piece) (p : Place) (ls : List TokenLine) → are_pieces ps ≡ true
    → Starts ls (ended (past_all ps p)) → line_closes ls ≡ true → Starts ls (ended p) ⊎ Fronted ps p ls
pieces_front [] p ls h s closes = inl s
pieces_front (q ∷ qs) p ls h s closes = go (pieces_front qs (past q p) ls j.1 s closes)
  where
    k : (is_piece q ≡ true) × ((followed_by q (spelled qs) && are_pieces qs) ≡ true)
    k = and_parts (is_piece q) (followed_by q (spelled qs) && are_pieces qs) h

    j : (followed_by q (spelled qs) ≡ true) × (are_pieces qs ≡ true)
    j = and_parts (followed_by q (spelled qs)) (are_pieces qs) k.1

    one : Starts ls (ended p) ⊎ ((q ≡ Sign Close) × (ended (past q p) ≡ ls))
        → Starts ls (ended p) ⊎ Fronted (q ∷ qs) p ls
    one (inl x) = inl x
    one (inr x) =
        inr (record {
          own = [];
          more = qs;
          parts = ap (λ (z : Piece). z ∷ qs) x.0;
          says = subst (λ (z : Piece). ended (past z p) ≡ ls) x.0 x.1;
        })

    go : Starts ls (ended (past q p)) ⊎ Fronted qs (past q p) ls → Starts ls (ended p) ⊎ Fronted (q ∷ qs) p ls
    go (inl x) = one (piece_starts ls q p k.0 x closes)
    go (inr f) =
        inr (record { own = q ∷ f.own; more = f.more; parts = ap (λ (z : List Piece). q ∷ z) f.parts; says = f.says })

no_lines : (ls : List TokenLine) → Starts ls [] → line_closes ls ≡ true → ⊥
no_lines [] s closes = cc
no_lines (l ∷ ls) s closes = let e = s.1 in cc

said_front : (ps : List Piece) (ls : List TokenLine) → are_pieces ps ≡ true → Starts ls (lines_said ps)
    → line_closes ls ≡ true → Fronted ps first_place ls
said_front ps ls h s closes = go (pieces_front ps first_place ls h s closes)
  where
    go : Starts ls [] ⊎ Fronted ps first_place ls → Fronted ps first_place ls
    go (inl x) = absurd (no_lines ls x closes)
    go (inr f) = f

spelled-append : (ps qs : List Piece) → spelled (ps ++ qs) ≡ spelled ps ++ spelled qs
spelled-append [] qs = refl
spelled-append (p ∷ ps) qs = rw (spelled-append ps qs) (sym (append_assoc (spelling p) (spelled ps) (spelled qs)))

same_next : (p : Piece) (xs ys : List ℕ) → followed_by p (xs ++ 41 ∷ []) ≡ followed_by p (xs ++ 41 ∷ ys)
same_next p [] ys = refl
same_next p (x ∷ xs) ys = refl

cut_pieces : (qs rs : List Piece) → are_pieces (qs ++ Sign Close ∷ rs) ≡ true
    → are_pieces (qs ++ Sign Close ∷ []) ≡ true
cut_pieces [] rs h = refl
cut_pieces (q ∷ qs) rs h =
    let k =
    and_parts (is_piece q) (followed_by q (spelled (qs ++ Sign Close ∷ rs)) && are_pieces (qs ++ Sign Close ∷ rs)) h in
    let j = and_parts (followed_by q (spelled (qs ++ Sign Close ∷ rs))) (are_pieces (qs ++ Sign Close ∷ rs)) k.1 in
    let next : followed_by q (spelled (qs ++ Sign Close ∷ [])) ≡ followed_by q (spelled (qs ++ Sign Close ∷ rs)) =
    ap (followed_by q) (spelled-append qs (Sign Close ∷ []))
    ∙ same_next q (spelled qs) (spelled rs)
    ∙ ap (followed_by q) (sym (spelled-append qs (Sign Close ∷ rs))) in
    and_from (is_piece q) _ k.0
    (and_from (followed_by q (spelled (qs ++ Sign Close ∷ []))) _ (next ∙ j.0) (cut_pieces qs rs j.1))

-- ---- the bytes, with their CRs

record Cut (text xs : List ℕ) : Type 0 where
  front : List ℕ
  back : List ℕ
  parts : text ≡ front ++ 41 ∷ back
  is : without_cr front ≡ xs

none_cut : (xs ys : List ℕ) → [] ≡ xs ++ 41 ∷ ys → ⊥
none_cut [] ys e = cc
none_cut (x ∷ xs) ys e = cc

cut : (text xs ys : List ℕ) → without_cr text ≡ xs ++ 41 ∷ ys → Cut text xs
cut [] xs ys e = absurd (none_cut xs ys e)
cut (b ∷ bs) xs ys e = go (eqb b 13) refl e (λ zs k. cut bs zs ys k)
  where
    here : (zs : List ℕ) → eqb b 13 ≡ false → b ∷ without_cr bs ≡ zs ++ 41 ∷ ys
        → ((us : List ℕ) → without_cr bs ≡ us ++ 41 ∷ ys → Cut bs us) → Cut (b ∷ bs) zs
    here [] is k next =
        let h = first_same b 41 (without_cr bs) ys k in
        record { front = []; back = bs; parts = ap (λ (x : ℕ). x ∷ bs) h.0; is = refl }
    here (z ∷ zs) is k next =
        let h = first_same b z (without_cr bs) (zs ++ 41 ∷ ys) k in
        let c = next zs h.1 in
        record {
          front = b ∷ c.front;
          back = c.back;
          parts = ap (λ (x : List ℕ). b ∷ x) c.parts;
          is = rw (is, c.is, h.0) refl;
        }

    go : (x : Bool) → eqb b 13 ≡ x → cond (not x) (b ∷ without_cr bs) (without_cr bs) ≡ xs ++ 41 ∷ ys
        → ((us : List ℕ) → without_cr bs ≡ us ++ 41 ∷ ys → Cut bs us) → Cut (b ∷ bs) xs
    go true is k next =
        let c = next xs k in
        record { front = b ∷ c.front; back = c.back; parts = ap (λ (x : List ℕ). b ∷ x) c.parts; is = rw is c.is }
    go false is k next = here xs is k next

same_begin : (front back : List ℕ) → begins 10 (front ++ 41 ∷ []) ≡ begins 10 (front ++ 41 ∷ back)
same_begin [] back = refl
same_begin (x ∷ xs) back = refl

pub cut_allowed : (front back : List ℕ) (n : ℕ) → bad_line n (front ++ 41 ∷ back) ≡ None
    → bad_line n (front ++ 41 ∷ []) ≡ None
unfolding bad_line is_allowed
cut_allowed [] back n h = refl
cut_allowed (x ∷ xs) back n h =
    rw (same_begin xs back)
    (go (is_printable x || eqb x 10 || (eqb x 13 && begins 10 (xs ++ 41 ∷ back))) h (λ m k. cut_allowed xs back m k))
  where
    go : (ok : Bool) → cond ok (bad_line (cond (eqb x 10) (n + 1) n) (xs ++ 41 ∷ back)) (Some n) ≡ None
        → ((m : ℕ) → bad_line m (xs ++ 41 ∷ back) ≡ None → bad_line m (xs ++ 41 ∷ []) ≡ None)
        → cond ok (bad_line (cond (eqb x 10) (n + 1) n) (xs ++ 41 ∷ [])) (Some n) ≡ None
    go true k next = next _ k
    go false k next = absurd cc

-- ---- a front of a text

pub record FrontSpells (text : List ℕ) (ls : List TokenLine) : Type 0 where
  pub front : List ℕ
  pub back : List ℕ
  pub parts : text ≡ front ++ 41 ∷ back
  pub spells : SpellsLines (front ++ 41 ∷ []) ls

-- Lines with which a text begins, and which end with a closing parenthesis, have a front of their own.
pub front_spells : (text : List ℕ) (ls more : List TokenLine) → SpellsLines text (ls ++ more) → line_closes ls ≡ true
    → FrontSpells text ls
front_spells text ls more h closes =
    let f = said_front h.pieces ls h.are (more, sym h.says) closes in
    let c =
    cut text (spelled f.own) (spelled f.more)
    (h.spells ∙ ap spelled f.parts ∙ spelled-append f.own (Sign Close ∷ f.more)) in
    let bytes : without_cr (c.front ++ 41 ∷ []) ≡ spelled (f.own ++ Sign Close ∷ []) =
    filter-append (λ (b : ℕ). not (eqb b 13)) c.front (41 ∷ [])
    ∙ ap (λ (x : List ℕ). x ++ 41 ∷ []) c.is
    ∙ sym (spelled-append f.own (Sign Close ∷ [])) in
    record {
      front = c.front;
      back = c.back;
      parts = c.parts;
      spells = record {
        allowed = cut_allowed c.front c.back 1 (subst (λ (t : List ℕ). bad_line 1 t ≡ None) c.parts h.allowed);
        pieces = f.own ++ Sign Close ∷ [];
        spells = bytes;
        are = cut_pieces f.own f.more (subst (λ (x : List Piece). are_pieces x ≡ true) f.parts h.are);
        says = sym f.says;
      };
    }

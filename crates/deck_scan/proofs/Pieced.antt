-- A text of allowed bytes spells just the lines that are read.
use Rattle.std.proofs.Common.{◌≡◌, ℕ, ◌+◌, Bool, true, false, cond, not, eqb, ltb, List, [], ◌∷◌, length, ◌≤◌, Option}
use Rattle.std.proofs.Common.{Some, None, Ok, refl, sym, ap, subst, ◌∙◌}
use Rattle.std.specs.Prelude.{◌&&◌, ◌||◌}
use Rattle.std.specs.List.{list_all}
use Rattle.std.proofs.lemmas.Bool.{and_from, le-ltb}
use Rattle.grs_base.specs.Printed.{is_printable}
use Rattle.grs_base.specs.declared.fault.Kind.TheVariants.{TooLong}
use Rattle.deck_scan.specs.declared.token.TokenLine.{TokenLine}
use Rattle.deck_scan.specs.Bytes.{begins, is_allowed, bad_line}
use Rattle.deck_scan.specs.Scan.{Scan, step, scan_from, start, lines_of}
use Rattle.deck_scan.specs.Pieces.{Blank, is_in_comment, followed_by, spelled, without_cr, SpellsLines}
use Rattle.deck_scan.specs.Reading.{most_text_bytes, bad_byte, byte_fault, lines_or_fault}
use Rattle.deck_scan.proofs.Said.{at_end, all_run}
use Rattle.deck_scan.proofs.Found.{found_pieces}

pub cr_passed : (text : List ℕ) (s : Scan) → scan_from s text ≡ scan_from s (without_cr text)
unfolding scan_from step
cr_passed [] s = refl
cr_passed (b ∷ bs) s = go (eqb b 13) refl (λ x. cr_passed bs x)
  where
    go : (cr : Bool) → eqb b 13 ≡ cr → ((x : Scan) → scan_from x bs ≡ scan_from x (without_cr bs))
        → scan_from (step s b) bs ≡ scan_from s (cond (not cr) (b ∷ without_cr bs) (without_cr bs))
    go true e rest = rest (step s b) ∙ ap (λ (x : Scan). scan_from x (without_cr bs)) (rw e refl)
    go false e rest = rest (step s b)

lines-read : (text : List ℕ) → lines_of text ≡ at_end (scan_from start (without_cr text))
unfolding lines_of
lines-read text = ap at_end (cr_passed text start)

pub blank_first : (t : List ℕ) → followed_by Blank t ≡ true
blank_first [] = refl
blank_first (b ∷ bs) = refl

-- What a text spells is what is read.
pub spelled_is : (text : List ℕ) (lines : List TokenLine) → SpellsLines text lines → lines_of text ≡ lines
spelled_is text lines h =
    lines-read text
    ∙ ap (λ (t : List ℕ). at_end (scan_from start t)) h.spells
    ∙ all_run Blank h.pieces start (blank_first (spelled h.pieces)) h.are
    ∙ sym h.says

by_lf : {A : Type 0} (lf : Bool) (n : ℕ) (o : Option ℕ) → (o ≡ None → A) → cond lf o (Some n) ≡ None → A
by_lf true n o f k = f k
by_lf false n o f k = absurd cc

pub allowed_holds : (text : List ℕ) (n : ℕ) → bad_line n text ≡ None → list_all is_in_comment (without_cr text) ≡ true
unfolding bad_line is_allowed
allowed_holds [] n h = refl
allowed_holds (b ∷ bs) n h = go (is_printable b) (eqb b 10) (eqb b 13) refl refl refl (λ m k. allowed_holds bs m k) h
  where
    go : (p lf cr : Bool) → is_printable b ≡ p → eqb b 10 ≡ lf → eqb b 13 ≡ cr
        → ((m : ℕ) → bad_line m bs ≡ None → list_all is_in_comment (without_cr bs) ≡ true)
        → cond (p || lf || (cr && begins 10 bs)) (bad_line (cond lf (n + 1) n) bs) (Some n) ≡ None
        → list_all is_in_comment (cond (not cr) (b ∷ without_cr bs) (without_cr bs)) ≡ true
    go true lf true x y z next k = next _ k
    go true lf false x y z next k =
        and_from (is_in_comment b) (list_all is_in_comment (without_cr bs)) (rw x refl) (next _ k)
    go false true true x y z next k = next _ k
    go false true false x y z next k =
        and_from (is_in_comment b) (list_all is_in_comment (without_cr bs)) (rw (x, y) refl) (next _ k)
    go false false true x y z next k = by_lf (begins 10 bs) n (bad_line n bs) (next n) k
    go false false false x y z next k = absurd cc

-- An allowed text spells the lines that are read.
pub spelled_found : (text : List ℕ) → bad_line 1 text ≡ None → SpellsLines text (lines_of text)
spelled_found text allowed =
    let k = found_pieces (without_cr text) (allowed_holds text 1 allowed) in
    record {
      allowed = allowed;
      pieces = k.0;
      spells = k.1;
      are = k.2;
      says =
          lines-read text
          ∙ ap (λ (t : List ℕ). at_end (scan_from start t)) k.1
          ∙ all_run Blank k.0 start (blank_first (spelled k.0)) k.2;
    }

pub one_spelled : (text : List ℕ) (a b : List TokenLine) → SpellsLines text a → SpellsLines text b → a ≡ b
one_spelled text a b h k = sym (spelled_is text a h) ∙ spelled_is text b k

pub no_bad : (text : List ℕ) → byte_fault text ≡ None → bad_line 1 text ≡ None
no_bad text e = go (ltb most_text_bytes (length text)) (bad_line 1 text) e
  where
    go : (x : Bool) (o : Option ℕ) → cond x (Some (record { line = 0; kind = TooLong })) (bad_byte o) ≡ None → o ≡ None
    go true o k = absurd cc
    go false None k = refl
    go false (Some n) k = absurd cc

-- ---- the lines of a deck

no_fault : (text : List ℕ) → length text ≤ most_text_bytes → None ≡ bad_line 1 text → byte_fault text ≡ None
no_fault text short good = rw (le-ltb most_text_bytes (length text) short, ← good) refl

pub deck_spelled : (text : List ℕ) (ls : List TokenLine) → length text ≤ most_text_bytes → None ≡ bad_line 1 text
    → ls ≡ lines_of text → (byte_fault text ≡ None) × SpellsLines text ls
deck_spelled text ls short good
    is = (no_fault text short good, subst (SpellsLines text) (sym is) (spelled_found text (sym good)))

pub deck_read : (text : List ℕ) (ls : List TokenLine) → length text ≤ most_text_bytes → None ≡ bad_line 1 text
    → ls ≡ lines_of text → lines_or_fault text ≡ Ok ls
unfolding lines_or_fault
deck_read text ls short good is = rw (no_fault text short good, is) refl

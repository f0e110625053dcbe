-- A text of any bytes, as it is read.
use Rattle.std.proofs.Common.{◌≡◌, ℕ, ◌+◌, Bool, true, false, cond, eqb, List, [], ◌∷◌, Some, None, refl, sym, ap}
use Rattle.std.proofs.Common.{subst}
use Rattle.std.specs.Prelude.{◌&&◌, ◌||◌}
use Rattle.grs_base.specs.Printed.{is_printable}
use Rattle.deck_scan.specs.declared.token.TokenLine.{TokenLine}
use Rattle.deck_scan.specs.Bytes.{begins, is_allowed, bad_line}
use Rattle.deck_scan.specs.Pieces.{SpellsLines}
use Rattle.deck_scan.specs.AnyBytes.{wrong_byte, readable}
use Rattle.deck_scan.specs.Scan.{lines_of}
use Rattle.deck_scan.proofs.Pieced.{spelled_found}

-- ---- bytes

-- LF is allowed
lf_allowed : (b : ℕ) (bs : List ℕ) → is_allowed b bs ≡ false → eqb b 10 ≡ false
unfolding is_allowed
lf_allowed b bs h = go (is_printable b) (eqb b 10) h
  where
    go : (p lf : Bool) → (p || lf || (eqb b 13 && begins 10 bs)) ≡ false → lf ≡ false
    go p false k = refl
    go true true k = absurd cc
    go false true k = absurd cc

-- whether LF comes next is seen in what is read
pub same_begin : (bs : List ℕ) → begins 10 (readable bs) ≡ begins 10 bs
unfolding readable
same_begin [] = refl
same_begin (b ∷ bs) = go (is_allowed b bs) refl
  where
    go : (ok : Bool) → is_allowed b bs ≡ ok → begins 10 (cond ok (b ∷ readable bs) wrong_byte) ≡ eqb b 10
    go true e = refl
    go false e = sym (lf_allowed b bs e)

same_allowed : (b : ℕ) (bs : List ℕ) → is_allowed b (readable bs) ≡ is_allowed b bs
unfolding is_allowed
same_allowed b bs = rw (same_begin bs) refl

wrong_allowed : (n : ℕ) → bad_line n wrong_byte ≡ None
unfolding bad_line is_allowed
wrong_allowed n = refl

-- What is read has no byte that a deck may not have.
pub readable_allowed : (text : List ℕ) (n : ℕ) → bad_line n (readable text) ≡ None
unfolding readable bad_line
readable_allowed [] n = refl
readable_allowed (b ∷ bs) n = go (is_allowed b bs) refl (λ m. readable_allowed bs m)
  where
    go : (ok : Bool) → is_allowed b bs ≡ ok → ((m : ℕ) → bad_line m (readable bs) ≡ None)
        → bad_line n (cond ok (b ∷ readable bs) wrong_byte) ≡ None
    go true e next = rw (same_allowed b bs, e) (next (cond (eqb b 10) (n + 1) n))
    go false e next = wrong_allowed n

-- A text of bytes that a deck may have is read whole.
pub readable_all : (text : List ℕ) (n : ℕ) → bad_line n text ≡ None → readable text ≡ text
unfolding readable bad_line
readable_all [] n h = refl
readable_all (b ∷ bs) n h = go (is_allowed b bs) h (λ m k. readable_all bs m k)
  where
    go : (ok : Bool) → cond ok (bad_line (cond (eqb b 10) (n + 1) n) bs) (Some n) ≡ None
        → ((m : ℕ) → bad_line m bs ≡ None → readable bs ≡ bs) → cond ok (b ∷ readable bs) wrong_byte ≡ b ∷ bs
    go true k next = ap (λ (x : List ℕ). b ∷ x) (next _ k)
    go false k next = absurd cc

-- What a deck's text spells is what is read of it as a text of any bytes.
pub any_text : (text : List ℕ) (lines : List TokenLine) → SpellsLines text lines → SpellsLines (readable text) lines
any_text text lines h = subst (λ (t : List ℕ). SpellsLines t lines) (sym (readable_all text 1 h.allowed)) h

-- Each text of any bytes spells lines.
pub some_lines : (text : List ℕ) → SpellsLines (readable text) (lines_of (readable text))
some_lines text = spelled_found (readable text) (readable_allowed text 1)

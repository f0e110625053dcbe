-- A text without a fault of length or bytes is read as the lines that it spells, and no other is read.
use Rattle.std.proofs.Common.{◌≡◌, ℕ, ◌≤◌, Bool, true, false, cond, ltb, List, length, Option, Some, None, Result, Ok}
use Rattle.std.proofs.Common.{Err, refl, subst}
use Rattle.std.proofs.lemmas.Bool.{ltb-false, le-ltb}
use Rattle.grs_base.specs.declared.fault.DeckFault.{DeckFault}
use Rattle.grs_base.specs.declared.fault.Kind.TheVariants.{TooLong}
use Rattle.deck_scan.specs.declared.token.TokenLine.{TokenLine}
use Rattle.deck_scan.specs.Bytes.{bad_line}
use Rattle.deck_scan.specs.Scan.{lines_of}
use Rattle.deck_scan.specs.Pieces.{SpellsLines}
use Rattle.deck_scan.specs.Gives.{◌>>=◌}
use Rattle.deck_scan.specs.Reading.{most_text_bytes, bad_byte, byte_fault, unless_fault, lines_or_fault}
use Rattle.deck_scan.proofs.Pieced.{spelled_is, spelled_found, no_bad}

pub bind_ok : {A B : Type 0} (r : Result A DeckFault) (f : A → Result B DeckFault) (y : B) → (r >>= f) ≡ Ok y
    → (x : A) × (r ≡ Ok x) × (f x ≡ Ok y)
bind_ok (Ok x) f y e = (x, refl, e)
bind_ok (Err d) f y e = absurd cc

-- a text that is short enough and spells these lines
pub record IsText (text : List ℕ) (lines : List TokenLine) : Type 0 where
  pub short : length text ≤ most_text_bytes
  pub spelled : SpellsLines text lines

is_short : (text : List ℕ) → byte_fault text ≡ None → length text ≤ most_text_bytes
is_short text h = go (ltb most_text_bytes (length text)) refl h
  where
    go : (b : Bool) → ltb most_text_bytes (length text) ≡ b
        → cond b (Some (record { line = 0; kind = TooLong })) (bad_byte (bad_line 1 text)) ≡ None
        → length text ≤ most_text_bytes
    go true is k = absurd cc
    go false is k = ltb-false most_text_bytes (length text) is

pub text_of : (text : List ℕ) → byte_fault text ≡ None → IsText text (lines_of text)
text_of text none = record { short = is_short text none; spelled = spelled_found text (no_bad text none) }

-- What is read is spelled.
pub read_text : (text : List ℕ) (lines : List TokenLine) → lines_or_fault text ≡ Ok lines → IsText text lines
unfolding lines_or_fault
read_text text lines h = go (byte_fault text) refl h
  where
    go : (f : Option DeckFault) → byte_fault text ≡ f → unless_fault f (lines_of text) ≡ Ok lines → IsText text lines
    go None e k = let same : lines_of text ≡ lines = cc in subst (IsText text) same (text_of text e)
    go (Some f) e k = absurd cc

-- What is spelled is read.
pub text_read : (text : List ℕ) (lines : List TokenLine) → length text ≤ most_text_bytes → SpellsLines text lines
    → lines_or_fault text ≡ Ok lines
unfolding lines_or_fault
text_read text lines short spelled =
    rw (le-ltb most_text_bytes (length text) short, spelled.allowed, spelled_is text lines spelled) refl

-- A text that has a deck, and a report behind it.
use Rattle.std.specs.Prelude.{◌≡◌, ◌≤◌, ◌<◌, ◌⊎◌, ◌+◌, ℕ, suc, Bool, true, ◌&&◌, ◌==◌, cond, List, [], ◌∷◌, length, take}
use Rattle.std.specs.Prelude.{drop, codes}
use Rattle.std.specs.Str.{bytes_eq}
use Rattle.grs_base.specs.declared.fault.DeckFault.{DeckFault}
use Rattle.grs_base.specs.declared.fault.Kind.TheVariants.{TooLong}
use Rattle.grs_deck.specs.Faults.{IsFault}
use Rattle.grs_deck.specs.Spells.{SpellsDeck}
use Rattle.grs_wire.specs.declared.deck.Deck.{Deck}
use Rattle.grs_audit.specs.Lines.{lines_in, front}

-- how many bytes a deck and a report may have together
abbrev pub most_audited_bytes : ℕ
most_audited_bytes = 268435456

-- the line with which a report begins
abbrev pub report_word : List ℕ
report_word = codes "GRS REPORT 1"

-- how many bytes stand before the first line that is this one; a text begins at the start of a line, or within one
abbrev pub report_at : Bool → List ℕ → ℕ
report_at start [] = 0
report_at start (b ∷ bs) =
    cond (start && bytes_eq (front 10 (b ∷ bs)) report_word) 0 (suc (report_at (b == 10) bs))

-- the deck's text is what stands before that line, or all where there is no such line; and the report's what begins there
abbrev pub deck_part : List ℕ → List ℕ
deck_part text = take (report_at true text) text

abbrev pub report_part : List ℕ → List ℕ
report_part text = drop (report_at true text) text

-- the number of the report's first line
abbrev pub first_line : List ℕ → ℕ
first_line text = 1 + length (lines_in (deck_part text))

-- a deck, a text that should be a report of it, and the number of that text's first line
pub record Audited : Type 0 where
  pub deck : Deck
  pub report : List ℕ
  pub first : ℕ

-- A text that isn't too long has this deck and this report.
pub record SpellsAudited (text : List ℕ) (x : Audited) : Type 0 where
  pub short : length text ≤ most_audited_bytes
  pub deck : SpellsDeck (deck_part text) x.deck
  pub report : x.report ≡ report_part text
  pub first : x.first ≡ first_line text

-- This is the first fault of a text: that it is too long, on line 0, or else that of its deck.
abbrev pub IsFaultOfAudited : List ℕ → DeckFault → Type 0
IsFaultOfAudited text f =
    ((most_audited_bytes < length text) × (f ≡ record { line = 0; kind = TooLong }))
    ⊎ ((length text ≤ most_audited_bytes) × IsFault (deck_part text) f)

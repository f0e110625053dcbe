-- Reports that are judged.
use Rattle.std.specs.Prelude.{◌<◌, ◌^◌, ℕ, All, length}
use Rattle.grs_legal.specs.Legal.{Legal}
use Rattle.grs_report.specs.Report.{report}
use Rattle.grs_wire.specs.Decks.{IsDeck, IsEventOf}
use Rattle.grs_wire.specs.declared.deck.Deck.{Deck}
use Rattle.grs_wire.specs.declared.seen.Seen.{Seen}
use Rattle.grs_audit.specs.Verdicts.{IsVerdict}
use Rattle.grs_audit.specs.declared.verdict.Verdict.TheVariants.{Yes}

-- A report of a deck whose history is legal is answered Yes, whatever else it shows, where its events are of the deck and
-- it has fewer than 2^64 bytes.
abbrev pub ReportsAreYes : Type 0
ReportsAreYes =
    (deck : Deck) (seen : Seen) (first : ℕ) → IsDeck deck → Legal deck seen.hist
    → All (IsEventOf deck.systems deck.entries) seen.events → length (report deck seen) < 2 ^ 64
    → IsVerdict deck (report deck seen) first Yes

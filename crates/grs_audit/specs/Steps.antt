-- What one entry more comes to.
use Rattle.std.specs.Prelude.{◌≡◌, ℕ, List, [], ◌∷◌, ◌++◌, length, Option, Some, None}
use Rattle.grs_wire.specs.declared.deck.Deck.{Deck}
use Rattle.grs_wire.specs.declared.history.HistEntry.{HistEntry}
use Rattle.grs_wire.specs.declared.seen.Names.{Names}
use Rattle.grs_report.specs.History.{history_line}
use Rattle.grs_track.specs.Tracks.{TracksView, GoesOn}
use Rattle.grs_audit.specs.Compared.{Parts}
use Rattle.grs_audit.specs.Lines.{lines_in}
use Rattle.grs_audit.specs.Way.{IsWhole, IsOff}
use Rattle.grs_audit.specs.Words.{next_by_line}
use Rattle.grs_audit.specs.declared.compare.Compared.{Compared}
use Rattle.grs_audit.specs.declared.compare.Compared.TheVariants as compared

-- Lines go on with those of an entry of a number, which is then carried out; or they don't.
abbrev pub GoesBy : Names → ℕ → TracksView → HistEntry → List (List ℕ) → Compared → TracksView → Type 0
GoesBy names number v h ls (compared.All rest) v' =
    (ls ≡ lines_in (history_line names number h) ++ lines_in rest.now) × GoesOn v h v'
GoesBy names number v h ls (compared.Some n) v' = Parts (lines_in (history_line names number h)) ls n

-- The same of the entry that the first line says, if it says one.
abbrev pub StepsBy : Names → ℕ → TracksView → Option HistEntry → List (List ℕ) → Compared → TracksView → Type 0
StepsBy names number v (Some h) ls step v' = GoesBy names number v h ls step v'
StepsBy names number v None ls (compared.All rest) v' = ⊥
StepsBy names number v None ls (compared.Some n) v' = n ≡ 0

abbrev pub first_in : List (List ℕ) → List ℕ
first_in [] = []
first_in (l ∷ ls) = l

abbrev pub Steps : Names → ℕ → TracksView → List (List ℕ) → Compared → TracksView → Type 0
Steps names number v ls step v' = StepsBy names number v (next_by_line v (first_in ls)) ls step v'

-- Lines behind `HISTORY n` are a whole history and TOLD, or so many of them are on the way.
abbrev pub IsJudged : Deck → ℕ → List (List ℕ) → Option ℕ → Type 0
IsJudged deck n ls None = IsWhole deck n ls
IsJudged deck n ls (Some k) = IsOff deck n ls k

-- Who asks by a line of a history, and what they may ask.
use Rattle.std.specs.Prelude.{◌≡◌, ◌<◌, ◌≤◌, ◌+◌, ◌^◌, ◌⊎◌, ℕ, cond, List, [], ◌∷◌, ◌++◌, length, Option, Some, None}
use Rattle.grs_base.specs.declared.resource.SysId.{SysId}
use Rattle.grs_base.specs.declared.resource.TaskId.{TaskId}
use Rattle.grs_wire.specs.Decks.{IsDeck}
use Rattle.grs_wire.specs.declared.deck.Deck.{Deck}
use Rattle.grs_wire.specs.declared.deck.SystemDef.{SystemDef}
use Rattle.grs_wire.specs.declared.history.HistEntry.{HistEntry}
use Rattle.grs_deck.specs.Places.{system_at, task_in}
use Rattle.grs_display.specs.Names.{names_of}
use Rattle.grs_legal.specs.Legal.{Legal}
use Rattle.grs_report.specs.History.{history_line}
use Rattle.grs_track.specs.Tracks.{TracksView, IsBehind, next_of, next_removal}
use Rattle.grs_audit.specs.Lines.{front, behind, holds}
use Rattle.grs_audit.specs.Way.{told_word, printed, IsOnTheWay}

-- the third word of a line, and what stands behind it
abbrev pub asker_word : List ℕ → List ℕ
asker_word l = front 32 (behind 32 (behind 32 l))

abbrev pub behind_asker : List ℕ → List ℕ
behind_asker l = behind 32 (behind 32 (behind 32 l))

abbrev pub next_of_task : TracksView → Option TaskId → Option HistEntry
next_of_task v None = None
next_of_task v (Some t) = next_of v t

abbrev pub removal_of : TracksView → SysId → Option (SysId × SystemDef) → Option HistEntry
removal_of v by None = None
removal_of v by (Some x) = next_removal v by x.0

-- what may be asked by a line that begins with a system's name: behind a point it is a task of the system, by the names
-- of its job and its own, and else the system removes another
abbrev pub next_by_system : TracksView → List ℕ → Option (SysId × SystemDef) → Option HistEntry
next_by_system v l None = None
next_by_system v l (Some x) =
    cond (holds 46 (asker_word l))
    (next_of_task v (task_in x.0 x.1 (front 46 (behind 46 (asker_word l))) (behind 46 (behind 46 (asker_word l)))))
    (removal_of v x.0 (system_at v.deck.systems (behind 32 (behind_asker l))))

-- the one entry that may stand next by what a line says of who asks, if one may
abbrev pub next_by_line : TracksView → List ℕ → Option HistEntry
next_by_line v l = next_by_system v l (system_at v.deck.systems (front 46 (asker_word l)))

-- Behind the lines of a legal history of at most n entries a line is on the way only as TOLD, behind n entries, or as the
-- first line of the one entry that may stand next by what the line says of who asks.
abbrev pub NextLineIsSaid : Type 0
NextLineIsSaid =
    (deck : Deck) (n : ℕ) (hist : List HistEntry) (v : TracksView) (l : List ℕ) → IsDeck deck
    → length hist + 2 < 2 ^ 64 → length hist ≤ n → Legal deck hist → IsBehind hist v → v.deck ≡ deck
    → IsOnTheWay deck n (printed deck 1 hist ++ l ∷ [])
    → ((length hist ≡ n) × (l ≡ told_word))
    ⊎ ((h : HistEntry) × (next_by_line v l ≡ Some h)
    × (l ≡ front 10 (history_line (names_of deck) (1 + length hist) h)))

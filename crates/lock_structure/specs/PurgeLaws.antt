-- Laws of a removal: whose interest it ends, who manages an entry behind it, and what the others get to know of it.
use Rattle.std.specs.Prelude.{◌≡◌, ◌≢◌, ◌<◌, ◌≤◌, ℕ, suc, Bool, true, false, cond, not, ◌==◌, ◌&&◌, nat_lt, List, []}
use Rattle.std.specs.Prelude.{length, filter, map, Option, Some}
use Rattle.std.specs.List.{All, list_all}
use Rattle.grs_base.specs.declared.resource.SysId.{SysId}
use Rattle.grs_wire.specs.LockWords.{interest, manager, epoch, is_manager}
use Rattle.grs_wire.specs.Masks.{has}
use Rattle.lock_structure.specs.Words.{word_at, ManagerIsBelow, MaskIsBelow}
use Rattle.lock_structure.specs.RankedRows.{rises}
use Rattle.lock_structure.specs.Laws.{IsManaged, is_interested}
use Rattle.lock_structure.specs.Purge.{last_epoch, purged_word, purged_words, moved_at, moved, moved_for}

-- ---- one word

-- Those have interest who had, but not the removed system.
abbrev pub PurgeTakesTarget : Type 0
PurgeTakesTarget =
    (w : ℕ) (t : SysId) (s : ℕ) → has (interest (purged_word w t)) s ≡ (has (interest w) s && not (s == t.0))

-- What another system manages it still does, in the epoch that it was.
abbrev pub PurgeKeepsOthers : Type 0
PurgeKeepsOthers = (w : ℕ) (t : SysId) → is_manager (manager w) t ≡ false →
    (manager (purged_word w t) ≡ manager w) × (epoch (purged_word w t) ≡ epoch w)

-- What the removed system managed another one does that has interest, and none that has is less.
abbrev pub PurgeNamesLeast : Type 0
PurgeNamesLeast =
    (w : ℕ) (t s : SysId) → is_manager (manager w) t ≡ true → manager (purged_word w t) ≡ Some s →
    (s.0 ≢ t.0)
    × (has (interest w) s.0 ≡ true)
    × ((k : ℕ) → k < s.0 → k ≢ t.0 → has (interest w) k ≡ false)

-- Its epoch is the next, up to the last one. So epochs never fall.
abbrev pub PurgeCounts : Type 0
PurgeCounts =
    (w : ℕ) (t : SysId) → is_manager (manager w) t ≡ true → epoch w < last_epoch
    → epoch (purged_word w t) ≡ suc (epoch w)

abbrev pub EpochsNeverFall : Type 0
EpochsNeverFall = (w : ℕ) (t : SysId) → epoch w ≤ epoch (purged_word w t)

-- There stays a manager exactly where somebody has interest, and it is one of those who have.
abbrev pub PurgeKeepsManaged : Type 0
PurgeKeepsManaged = (w : ℕ) (t : SysId) → IsManaged w → IsManaged (purged_word w t)

-- A word in which the removed system has no part stays as it is.
abbrev pub PurgeKeepsWord : Type 0
PurgeKeepsWord =
    (w : ℕ) (t : SysId) → has (interest w) t.0 ≡ false → is_manager (manager w) t ≡ false → purged_word w t ≡ w

-- ---- the words of all entries

abbrev pub PurgeKeepsAllManaged : Type 0
PurgeKeepsAllManaged = (words : List ℕ) (t : SysId) → All IsManaged words → All IsManaged (purged_words words t)

-- Words that name some of so many systems alone, as interested and as managers, do so behind a removal.
abbrev pub PurgeKeepsNames : Type 0
PurgeKeepsNames =
    (systems : ℕ) (words : List ℕ) (t : SysId) → All (MaskIsBelow systems) words → All (ManagerIsBelow systems) words
    → All (MaskIsBelow systems) (purged_words words t) × All (ManagerIsBelow systems) (purged_words words t)

-- What is made known of an entry, once: its manager, who has interest in it, and its epoch, as its word has them behind
-- the removal, where the removed system managed it and somebody has interest in it.
abbrev pub MovedOnce : Type 0
MovedOnce =
    (words : List ℕ) (t : SysId) (e : ℕ) → e < length words
    → filter (λ m. m.entry == e) (moved words t) ≡ moved_at e (word_at words e) t

-- Of no other entry is anything made known, and it goes by their numbers.
abbrev pub MovedAreEntries : Type 0
MovedAreEntries =
    (words : List ℕ) (t : SysId) → list_all (λ m. nat_lt m.entry (length words)) (moved words t) ≡ true

abbrev pub MovedInOrder : Type 0
MovedInOrder = (words : List ℕ) (t : SysId) → rises (map (λ m. m.entry) (moved words t)) ≡ true

-- A system gets to know of the entries in which it has interest, and of no others.
abbrev pub MovedForInterested : Type 0
MovedForInterested =
    (words : List ℕ) (t s : SysId) (e : ℕ) → e < length words
    → filter (λ m. m.entry == e) (moved_for words t s)
    ≡ cond (is_interested (purged_words words t) e s.0) (moved_at e (word_at words e) t) []

-- The removed system itself gets to know of none.
abbrev pub MovedForOthers : Type 0
MovedForOthers = (words : List ℕ) (t : SysId) → moved_for words t t ≡ []

-- The lock words of all entries: where a request goes, and the words after a call.
use Rattle.std.specs.Prelude.{◌≡◌, ◌≤◌, ◌<◌, ℕ, Bool, true, false, not, cond, ◌==◌, ◌&&◌, ◌||◌, nat_lt, List}
use Rattle.std.specs.Prelude.{slice_index, slice_set}
use Rattle.std.specs.Prelude.{Option, Some, None}
use Rattle.grs_base.specs.Limits.{most_systems}
use Rattle.grs_base.specs.declared.resource.SysId.{SysId}
use Rattle.grs_wire.specs.LockWords.{interest, manager, manager_number, submitted, left_word}
use Rattle.grs_wire.specs.Masks.{has, all_others}
use Rattle.lock_structure.specs.declared.word.Route.{Route}
use Rattle.lock_structure.specs.declared.word.Route.TheVariants.{Sole, To}

-- the word of an entry
abbrev pub word_at : List ℕ → ℕ → ℕ
word_at words entry = slice_index words entry

-- Where a request of c goes: to the manager; nowhere where c manages the entry itself, or nobody did before it.
abbrev pub route_by : Option SysId → SysId → Route
route_by None c = Sole
route_by (Some s) c = cond (s.0 == c.0) Sole (To s)

unfoldable pub route : ℕ → SysId → Route
route w c = route_by (manager w) c

-- the words after a request of c on an entry
abbrev pub submitted_words : List ℕ → ℕ → SysId → List ℕ
submitted_words words entry c = slice_set words entry (submitted (word_at words entry) c)

-- the words after c has given up its interest in an entry
abbrev pub left_words : List ℕ → ℕ → SysId → List ℕ
left_words words entry c = slice_set words entry (left_word (word_at words entry) c)

-- whether the manager of a word, if it has one, is one of so many systems
abbrev pub ManagerIsBelow : ℕ → ℕ → Type 0
ManagerIsBelow systems w = manager_number (manager w) ≤ systems

-- whether all that have interest by a word are of so many systems
abbrev pub MaskIsBelow : ℕ → ℕ → Type 0
MaskIsBelow systems w = (s : ℕ) → has (interest w) s ≡ true → s < systems

-- whether a lock word names some of so many systems alone, and its manager has interest; a word of 0 has no manager
abbrev pub manager_fits : ℕ → ℕ → Option SysId → Bool
manager_fits systems w None = false
manager_fits systems w (Some s) = nat_lt s.0 systems && has (interest w) s.0

abbrev pub word_fits : ℕ → ℕ → Bool
word_fits systems w =
    (w == 0)
    || (manager_fits systems w (manager w)
    && all_others most_systems 0 (λ s. not (has (interest w) s) || nat_lt s systems))

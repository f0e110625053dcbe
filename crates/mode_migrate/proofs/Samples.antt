-- Worked tables, by which the definitions of the change to star mode are checked: the words and the parts of the
-- systems are what the rules give by hand.
use Rattle.std.proofs.Common.{◌≡◌, ℕ, true, false, [], ◌∷◌, Some, refl, codes}
use Rattle.grs_base.specs.State.{State}
use Rattle.grs_base.specs.declared.resource.Ctl.{Ctl}
use Rattle.grs_base.specs.declared.resource.Ctl.TheVariants.{E, S}
use Rattle.grs_base.specs.declared.resource.Elem.{Elem}
use Rattle.grs_base.specs.declared.resource.Res.{Res}
use Rattle.grs_base.specs.declared.resource.Res.TheVariants.{System, Systems}
use Rattle.grs_base.specs.declared.resource.SysId.{SysId}
use Rattle.grs_wire.specs.LockWords.{manager, lock_word}
use Rattle.grs_wire.specs.Masks.{has, with_also}
use Rattle.lock_structure.specs.RankedRows.{IsLoadable}
use Rattle.lock_structure.specs.Entries.{entry_of_res}
use Rattle.lock_structure.specs.Words.{word_fits}
use Rattle.mode_migrate.specs.Migrate.{table_words, managed_by, interested_by, ranked_by, part_of, part_by}

abbrev sys : ℕ → SysId
sys n = record { 0 = n }

-- an element of a task of a system
abbrev by : ℕ → ℕ → Ctl → Elem
by s n c = record { task = record { system = sys s; job = 0; task = n }; ctl = c }

-- two resources of entry 1 of two, and one of entry 0
abbrev ab : Res
ab = Systems (codes "A") (codes "B")

abbrev ac : Res
ac = Systems (codes "A") (codes "C")

abbrev ad : Res
ad = Systems (codes "A") (codes "D")

entries_of_two : (entry_of_res 2 ab ≡ Some 0) × (entry_of_res 2 ac ≡ Some 1) × (entry_of_res 2 ad ≡ Some 0)
entries_of_two = (refl, refl, refl)

-- In order of arrival: system 2 owns the second resource by name, and system 1 waits for it; system 1 shares the first
-- with system 3, and system 0 waits there. A resource of one system has no entry.
table : State
table =
    (ad, by 2 0 E) ∷ (ab, by 1 0 S) ∷ (ad, by 1 1 E) ∷ (ab, by 3 0 S)
    ∷ (System (sys 7) (codes "A") (codes "B"), by 7 0 E) ∷ (ab, by 0 0 E) ∷ []

-- The least system with an element in the entry manages it, though it waits. Nobody has an element in the other entry.
words :
    (table_words 2 table ≡ 271 ∷ 0 ∷ [])
    × (word_fits 4 271 ≡ true)
    -- not by order of arrival, and not by who owns
    × (table_words 2 ((ac, by 3 0 E) ∷ (ac, by 1 0 E) ∷ []) ≡ 0 ∷ 522 ∷ [])
    × (table_words 1 [] ≡ 0 ∷ [])
    -- such a word is none that a complex of three systems may have
    × (word_fits 3 271 ≡ false)
unfolding table has with_also lock_word manager
words = (refl, refl, refl, refl, refl)

-- who manages, and who has interest
roles :
    (managed_by 2 (sys 0) table ≡ 0 ∷ [])
    × (managed_by 2 (sys 1) table ≡ [])
    × (interested_by 2 (sys 1) table ≡ 0 ∷ [])
    × (interested_by 2 (sys 4) table ≡ [])
    × (interested_by 2 (sys 7) table ≡ [])
    × (managed_by 1 (sys 2) ((ab, by 3 0 E) ∷ (ac, by 2 0 E) ∷ []) ≡ 0 ∷ [])
unfolding table
roles = (refl, refl, refl, refl, refl, refl)

-- The elements of the entry are ranked on from 1: first those of the resource that is shown first, though they came
-- later, each list in its own order. Waiters of a higher system keep their place.
ranks :
    (ranked_by 2 table
    ≡ (record { res = ab; elems = by 1 0 S ∷ by 3 0 S ∷ by 0 0 E ∷ []; owners = 2 }, 1 ∷ 2 ∷ 3 ∷ [])
    ∷ (record { res = ad; elems = by 2 0 E ∷ by 1 1 E ∷ []; owners = 1 }, 4 ∷ 5 ∷ []) ∷ [])
    × (part_of 2 1 (ranked_by 2 table) ≡ [])
    -- each entry begins with 1 again
    × (ranked_by 2 ((ac, by 3 0 E) ∷ (ab, by 1 0 E) ∷ [])
    ≡ (record { res = ab; elems = by 1 0 E ∷ []; owners = 1 }, 1 ∷ [])
    ∷ (record { res = ac; elems = by 3 0 E ∷ []; owners = 1 }, 1 ∷ []) ∷ [])
    -- a manager may load them as they are
    × (IsLoadable 2 0 (part_of 2 0 (ranked_by 2 table)))
    × (part_of 2 0 (ranked_by 2 table) ≡ part_by 2 table 0)
unfolding table
ranks = (
  refl,
  refl,
  refl,
  record { of_entry = refl; once = refl; apart = refl; ranked = refl; rising = refl; distinct = refl; small = refl },
  refl,
)

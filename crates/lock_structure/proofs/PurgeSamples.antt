-- Worked examples of a removal at the lock words.
use Rattle.std.proofs.Common.{◌≡◌, ℕ, List, [], ◌∷◌, refl}
use Rattle.grs_base.specs.declared.resource.SysId.{SysId}
use Rattle.grs_wire.specs.LockWords.{manager, lock_word, submitted}
use Rattle.grs_wire.specs.Masks.{has, without, with_also}
use Rattle.grs_wire.specs.declared.gather.Moved.{Moved}
use Rattle.lock_structure.specs.Purge.{purged_word, purged_words, moved, moved_for}
use Rattle.lock_structure.specs.Words.{submitted_words}

abbrev sys : ℕ → SysId
sys n = record { 0 = n }

-- Three systems have interest in an entry, and the first manages it: it is removed, and then the second. The third
-- system is left, and it manages the entry in the second epoch.
abbrev of_three : List ℕ
of_three = 263 ∷ []

removals :
    (purged_words of_three (sys 0) ≡ 4614 ∷ [])
    × (purged_words (4614 ∷ []) (sys 1) ≡ 8964 ∷ [])
    -- the last one leaves an entry without a manager, but the epoch
    × (purged_words (8964 ∷ []) (sys 2) ≡ 12288 ∷ [])
    -- who asks next manages it, in that epoch
    × (submitted_words (12288 ∷ []) 0 (sys 4) ≡ 13584 ∷ [])
    -- another than the manager is removed: it loses its interest, and no more happens
    × (purged_words of_three (sys 2) ≡ 259 ∷ [])
    × (purged_words of_three (sys 5) ≡ 263 ∷ [])
    -- the last epoch stays
    × (purged_words (61703 ∷ []) (sys 0) ≡ 61958 ∷ [])
unfolding has without with_also manager lock_word submitted purged_word
removals = (refl, refl, refl, refl, refl, refl, refl)

-- what the two that are left get to know, and the removed one doesn't
abbrev first_left : List Moved
first_left = record { entry = 0; manager = sys 1; mask = 6; epoch = 1 } ∷ []

known :
    (moved of_three (sys 0) ≡ first_left)
    × (moved_for of_three (sys 0) (sys 1) ≡ first_left)
    × (moved_for of_three (sys 0) (sys 2) ≡ first_left)
    × (moved_for of_three (sys 0) (sys 0) ≡ [])
    × (moved of_three (sys 2) ≡ [])
    -- of an entry in which nobody is left nothing is made known
    × (moved (257 ∷ []) (sys 0) ≡ [])
unfolding has without with_also manager lock_word purged_word
known = (refl, refl, refl, refl, refl, refl)

-- Of four entries the first system manages two, in one of them beside the second and third system, in the other beside
-- the third alone. The second system manages one, and nobody has interest in one.
abbrev of_four : List ℕ
of_four = 263 ∷ 0 ∷ 514 ∷ 261 ∷ []

entries :
    (purged_words of_four (sys 0) ≡ 4614 ∷ 0 ∷ 514 ∷ 4868 ∷ [])
    × (moved_for of_four (sys 0) (sys 1) ≡ first_left)
    × (moved_for of_four (sys 0) (sys 2)
    ≡ record { entry = 0; manager = sys 1; mask = 6; epoch = 1 }
    ∷ record { entry = 3; manager = sys 2; mask = 4; epoch = 1 }
    ∷ [])
unfolding has without with_also manager lock_word purged_word
entries = (refl, refl, refl)

-- Worked words, by which the rules of lock words are checked. As a number a word is its set of systems, 256 times
-- the manager's number plus one, and 4096 times the epoch.
use Rattle.std.proofs.Common.{◌≡◌, ℕ, true, false, List, [], ◌∷◌, Some, None, refl, arith}
use Rattle.grs_base.specs.declared.resource.SysId.{SysId}
use Rattle.grs_wire.specs.declared.medium.Reply.TheVariants.{Left, Kept}
use Rattle.grs_wire.specs.LockWords.{interest, manager, epoch, lock_word, is_manager, submitted, leave_reply}
use Rattle.grs_wire.specs.LockWords.{leave_changes, left_word}
use Rattle.grs_wire.specs.Masks.{has, without, with_also}
use Rattle.lock_structure.specs.declared.word.Route.TheVariants.{Sole, To}
use Rattle.lock_structure.specs.Words.{route, submitted_words, left_words}
use Rattle.lock_structure.specs.Laws.{IsManaged, has_others, is_interested, manager_at}

abbrev sys : ℕ → SysId
sys n = record { 0 = n }

-- The first to ask manages the entry; a second one has interest, and its request goes to the first.
joining :
    (submitted_words (0 ∷ 0 ∷ []) 1 (sys 0) ≡ 0 ∷ 257 ∷ [])
    × (route 0 (sys 0) ≡ Sole)
    × (is_manager (manager 0) (sys 0) ≡ false)
    × (submitted_words (0 ∷ 257 ∷ []) 1 (sys 1) ≡ 0 ∷ 259 ∷ [])
    × (route 257 (sys 1) ≡ To (sys 0))
    × (is_manager (manager 257) (sys 1) ≡ false)
    -- the manager's own request, and a further one of the other: neither changes the word, but that goes to the manager
    × (route 259 (sys 0) ≡ Sole)
    × (is_manager (manager 259) (sys 0) ≡ true)
    × (submitted_words (259 ∷ []) 0 (sys 0) ≡ 259 ∷ [])
    × (route 259 (sys 1) ≡ To (sys 0))
    × (is_manager (manager 259) (sys 1) ≡ false)
    × (submitted_words (259 ∷ []) 0 (sys 1) ≡ 259 ∷ [])
    -- the last of eight systems manages alone
    × (submitted_words (0 ∷ []) 0 (sys 7) ≡ 2176 ∷ [])
unfolding has without with_also manager lock_word submitted route
joining = (refl, refl, refl, refl, refl, refl, refl, refl, refl, refl, refl, refl, refl)

-- The manager stays as long as others have interest; then the word is empty, but for its epoch.
leaving :
    (leave_reply 259 (sys 0) ≡ Kept 3)
    × (leave_changes 259 (sys 0) ≡ false)
    × (left_words (259 ∷ []) 0 (sys 0) ≡ 259 ∷ [])
    × (leave_reply 259 (sys 1) ≡ Left)
    × (left_words (259 ∷ []) 0 (sys 1) ≡ 257 ∷ [])
    × (leave_reply 257 (sys 0) ≡ Left)
    × (left_words (257 ∷ []) 0 (sys 0) ≡ 0 ∷ [])
    -- who has no interest changes nothing
    × (leave_reply 257 (sys 2) ≡ Left)
    × (leave_changes 257 (sys 2) ≡ false)
    × (left_words (257 ∷ []) 0 (sys 2) ≡ 257 ∷ [])
    -- three systems, of which the first manages, in its second epoch
    × (leave_reply 8455 (sys 0) ≡ Kept 7)
    × (left_words (8455 ∷ []) 0 (sys 1) ≡ 8453 ∷ [])
    × (left_words (8449 ∷ []) 0 (sys 0) ≡ 8192 ∷ [])
unfolding has without with_also manager lock_word leave_reply leave_changes left_word
leaving = (refl, refl, refl, refl, refl, refl, refl, refl, refl, refl, refl, refl, refl)

-- whether another system has interest: two others, one, none beside the caller, and one beside a caller that has none
others :
    (has_others 7 (sys 1) ≡ true)
    × (has_others 3 (sys 0) ≡ true)
    × (has_others 1 (sys 0) ≡ false)
    × (has_others 0 (sys 0) ≡ false)
    × (has_others 128 (sys 0) ≡ true)
    × (has_others 128 (sys 7) ≡ false)
unfolding has with_also
others = (refl, refl, refl, refl, refl, refl)

-- the parts of a word
parts :
    (interest 263 ≡ 7)
    × (manager 263 ≡ Some (sys 0))
    × (epoch 263 ≡ 0)
    × (lock_word 7 (Some (sys 0)) 2 ≡ 8455)
    × (interest 8455 ≡ 7)
    × (manager 8455 ≡ Some (sys 0))
    × (epoch 8455 ≡ 2)
    × (manager 8192 ≡ None)
unfolding manager lock_word
parts = (refl, refl, refl, refl, refl, refl, refl, refl)

-- ---- a manager exactly where somebody has interest, and one of them
managed : IsManaged 0 × IsManaged 257 × IsManaged 259 × IsManaged 8455 × IsManaged 8192
unfolding has manager
managed = (refl, refl, refl, refl, refl)

-- interest without a manager, a manager without interest, and one that has none where another has
refuses_unmanaged : IsManaged 3 → ⊥
unfolding manager
refuses_unmanaged h = let never : 3 ≡ 0 = h in absurd (omega arith)

refuses_manager_alone : IsManaged 256 → ⊥
unfolding has manager
refuses_manager_alone h = let never : false ≡ true = h in cc

refuses_other_manager : IsManaged 258 → ⊥
unfolding has manager
refuses_other_manager h = let never : false ≡ true = h in cc

-- Of two entries, the second system joins the first at one, and is alone at the other: it gets interest where it asked.
abbrev joined_words : List ℕ
joined_words = submitted_words (514 ∷ 257 ∷ []) 1 (sys 1)

interest_after :
    (is_interested joined_words 1 0 ≡ true)
    × (is_interested joined_words 1 1 ≡ true)
    × (is_interested joined_words 1 2 ≡ false)
    × (is_interested joined_words 0 0 ≡ false)
    × (manager_at joined_words 1 ≡ Some (sys 0))
    -- it gives it up again; then the manager does, behind whom there is none
    × (is_interested (left_words joined_words 1 (sys 1)) 1 1 ≡ false)
    × (is_interested (left_words joined_words 1 (sys 1)) 1 0 ≡ true)
    × (manager_at (left_words joined_words 1 (sys 1)) 1 ≡ Some (sys 0))
    × (manager_at (left_words (left_words joined_words 1 (sys 1)) 1 (sys 0)) 1 ≡ None)
unfolding has without with_also manager lock_word submitted leave_changes left_word
interest_after = (refl, refl, refl, refl, refl, refl, refl, refl, refl)

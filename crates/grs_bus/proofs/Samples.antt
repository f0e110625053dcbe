-- Worked journals, by which the rules of entries are checked.
use Rattle.std.proofs.Common.{◌≡◌, ℕ, true, false, List, [], ◌∷◌, refl}
use Rattle.grs_base.specs.declared.resource.SysId.{SysId}
use Rattle.grs_wire.specs.LockWords.{manager, lock_word, submitted, leave_reply, leave_changes, left_word}
use Rattle.grs_wire.specs.Masks.{has, without, with_also}
use Rattle.grs_wire.specs.declared.medium.Act.{Act}
use Rattle.grs_wire.specs.declared.medium.Act.TheVariants.{Turn, Take, Leave, Purge, Rest}
use Rattle.grs_wire.specs.declared.medium.Call.{Call}
use Rattle.grs_wire.specs.declared.medium.JEntry.{JEntry}
use Rattle.grs_wire.specs.declared.medium.Reply.TheVariants.{Purged, Resting, Stale}
use Rattle.lock_structure.specs.Purge.{purged_word}
use Rattle.rsa_message.specs.Message.{departed, first_after, any_unseen, cleared, stamped, turn_reply, wakes}
use Rattle.rsa_message.specs.Message.{rest_after_turn}
use Rattle.rsa_message.specs.Message.{turned, turn_changes, dropped, closed_by}
use Rattle.grs_wire.specs.Unseen.{unseen}
use Rattle.grs_medium.specs.Apply.{turn_row, switch_row, submit_row, take_row, mail_row, leave_row, purge_row, rest_row}
use Rattle.grs_medium.specs.Apply.{row, apply, row_changes, changes}
use Rattle.grs_medium.specs.Medium.{MediumState, first_medium, medium_at_end}
use Rattle.lock_structure.specs.Words.{route}
use Rattle.grs_bus.specs.Journal.{is_entered, entry_of, after_all, entries_of}

abbrev sys : ℕ → SysId
sys n = record { 0 = n }

abbrev call : ℕ → Act → Call
call known act = record { known = known; act = act }

-- two systems in ring mode, and in star mode
abbrev ring : MediumState
ring = first_medium 2 1 false

abbrev star : MediumState
star = first_medium 2 1 true

-- A call that changes the medium is entered, and so is one whose reply its caller acts on. The others are not: the
-- message is elsewhere, an inbox is empty, a flag of rest is set already, the caller was removed.
entered :
    (is_entered ring (sys 0) (call 0 Rest) ≡ true)
    × (is_entered ring (sys 0) (call 0 (Turn [])) ≡ true)
    × (is_entered ring (sys 0) (call 2 Rest) ≡ true)
    × (is_entered ring (sys 0) (call 0 (Purge (sys 1))) ≡ true)
    × (is_entered ring (sys 0) (call 0 (Purge (sys 5))) ≡ true)
    × (is_entered star (sys 0) (call 0 (Purge (sys 1))) ≡ true)
    × (is_entered star (sys 0) (call 0 (Leave 0)) ≡ true)
    × (is_entered ring (sys 1) (call 0 (Turn [])) ≡ false)
    × (is_entered star (sys 0) (call 0 Take) ≡ false)
    × (is_entered (record ring { rest = 1 }) (sys 0) (call 0 Rest) ≡ false)
    × (is_entered (record ring { removed = 1 }) (sys 0) (call 1 Rest) ≡ false)
unfolding is_entered has without with_also first_after unseen any_unseen cleared stamped turn_reply wakes
    rest_after_turn turned turn_changes dropped departed closed_by manager lock_word submitted purged_word leave_reply
    leave_changes
    left_word medium_at_end turn_row switch_row submit_row route take_row mail_row leave_row purge_row rest_row row
    apply row_changes changes
entered = (refl, refl, refl, refl, refl, refl, refl, refl, refl, refl, refl)

-- The journal of a complex in which one system comes to rest and is then removed by the other.
removal : List JEntry
removal =
    entry_of (sys 1) (call 0 Rest) Resting ∷ entry_of (sys 0) (call 0 (Purge (sys 1))) Purged
    ∷ entry_of (sys 0) (call 0 Rest) (Stale 2) ∷ []

journals :
    ((after_all ring removal).removed ≡ 2)
    × ((after_all ring removal).rest ≡ 2)
    × (entries_of 1 removal ≡ entry_of (sys 1) (call 0 Rest) Resting ∷ [])
    × (entries_of 0 removal
    ≡ entry_of (sys 0) (call 0 (Purge (sys 1))) Purged ∷ entry_of (sys 0) (call 0 Rest) (Stale 2) ∷ [])
    × (entries_of 2 removal ≡ [])
unfolding removal has without with_also first_after unseen any_unseen cleared stamped turn_reply wakes rest_after_turn
    turned turn_changes dropped departed closed_by manager lock_word submitted purged_word leave_reply leave_changes
    left_word medium_at_end
    turn_row switch_row submit_row route take_row mail_row leave_row purge_row rest_row row apply row_changes changes
journals = (refl, refl, refl, refl, refl)

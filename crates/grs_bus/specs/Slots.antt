-- What a call does to the slot.
use Rattle.std.specs.Prelude.{◌≡◌, Bool}
use Rattle.grs_base.specs.declared.resource.SysId.{SysId}
use Rattle.grs_wire.specs.declared.medium.Call.{Call}
use Rattle.grs_wire.specs.declared.medium.Reply.{Reply}
use Rattle.grs_medium.specs.Apply.{reply_to, medium_after}
use Rattle.grs_bus.specs.Journal.{is_entered}
use Rattle.grs_bus.specs.Seats.{with_entry}
use Rattle.grs_bus.specs.declared.slot.Slot.{Slot}

-- The reply and the new medium are the medium's, and the journal has the call where it is entered.
abbrev pub Answers : SysId → Call → Slot → Slot → Reply × Bool → Type 0
Answers c call old new told =
    (told.0 ≡ reply_to old.medium.state c call)
    × (told.1 ≡ is_entered old.medium.state c call)
    × (new.journal.items ≡ with_entry old.journal.items c call told)
    × (new.medium.state ≡ medium_after old.medium.state c call)

abbrev pub IsUnchanged : Slot → Slot → Type 0
IsUnchanged old new = (new.journal.items ≡ old.journal.items) × (new.medium.state ≡ old.medium.state)

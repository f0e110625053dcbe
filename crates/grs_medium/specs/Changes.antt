-- What is said of calls that change the medium, and of calls that don't.
use Rattle.std.specs.Prelude.{◌≡◌, ◌<◌, ◌≤◌, Bool, true, false, length}
use Rattle.grs_base.specs.declared.resource.SysId.{SysId}
use Rattle.grs_wire.specs.LockWords.{manager, manager_number}
use Rattle.grs_wire.specs.declared.medium.Act.{Act}
use Rattle.grs_wire.specs.declared.medium.Act.TheVariants.{Submit, Settle, Tell, Leave}
use Rattle.grs_wire.specs.declared.medium.Call.{Call}
use Rattle.grs_medium.specs.Apply.{medium_after, changes}
use Rattle.grs_medium.specs.Medium.{MediumState, word}

-- A call that isn't said to change the medium leaves it as it was.
abbrev pub LeavesTheRest : Type 0
LeavesTheRest = (m : MediumState) (c : SysId) (call : Call) → changes m c call ≡ false → medium_after m c call ≡ m

-- The lock entry that an act names is there, and so is the inbox that gets its mail.
abbrev pub NamesWhatIsThere : MediumState → Act → Type 0
NamesWhatIsThere m (Submit entry req) =
    (entry < length m.words) × (manager_number (manager (word m entry)) ≤ length m.inboxes)
NamesWhatIsThere m (Settle to mail) = to.0 < length m.inboxes
NamesWhatIsThere m (Tell to mail) = to.0 < length m.inboxes
NamesWhatIsThere m (Leave entry) = entry < length m.words
NamesWhatIsThere m act = Unit {0}

-- A call that is said to change the medium doesn't leave it as it was.
abbrev pub ChangesWhatItSays : Type 0
ChangesWhatItSays =
    (m : MediumState) (c : SysId) (call : Call) → NamesWhatIsThere m call.act → changes m c call ≡ true
    → ¬ (medium_after m c call ≡ m)

-- What is said of a call, whether it changes the medium: so where the medium isn't what it was, and there alone.
abbrev pub TellsChanges : MediumState → SysId → Call → Bool → Type 0
TellsChanges m c call told =
    (told ≡ true → ¬ (medium_after m c call ≡ m)) × (told ≡ false → medium_after m c call ≡ m)

-- Which calls are entered, said by the medium itself.
use Rattle.std.specs.Prelude.{◌≡◌, ◌⊎◌, ◌≤◌, ℕ, Bool, true, false, List}
use Rattle.grs_base.specs.Limits.{most_systems}
use Rattle.grs_base.specs.declared.resource.SysId.{SysId}
use Rattle.grs_wire.specs.declared.medium.Call.{Call}
use Rattle.grs_wire.specs.declared.medium.JEntry.{JEntry}
use Rattle.grs_medium.specs.Apply.{reply_to, medium_after, MayCall}
use Rattle.grs_medium.specs.Medium.{MediumState, first_medium}
use Rattle.grs_bus.specs.Journal.{is_acted_on, is_entered, after_all, AreRight}

-- Behind a call that is entered the medium differs, or its reply is one that is entered anyhow; one that isn't leaves
-- the medium as it was, and has no such reply.
abbrev pub IsEnteredJust : MediumState → SysId → Call → Type 0
IsEnteredJust m c call =
    (is_entered m c call ≡ true → (¬ (medium_after m c call ≡ m)) ⊎ (is_acted_on (reply_to m c call) ≡ true))
    × (is_entered m c call ≡ false → (medium_after m c call ≡ m) × (is_acted_on (reply_to m c call) ≡ false))

-- That is so wherever a journal leads from a first medium.
abbrev pub EntersJustThese : Type 0
EntersJustThese =
    (systems entries : ℕ) (star : Bool) (journal : List JEntry) → systems ≤ most_systems
    → AreRight (first_medium systems entries star) journal → (c : SysId) (call : Call)
    → MayCall (after_all (first_medium systems entries star) journal) c call
    → IsEnteredJust (after_all (first_medium systems entries star) journal) c call

-- When a command writes all that it has to.
use Rattle.std.specs.Prelude.{◌≡◌, ◌≢◌, ◌<◌, ◌⊎◌, ℕ, List, Option, None, Some}
use Rattle.std.specs.Io.KnownBytes.{Appends}
use Rattle.grs_base.specs.declared.fault.DeckFault.{DeckFault}
use Rattle.grs_io.specs.Faults.{last_count}
use Rattle.grs_top.specs.declared.status.Status.{Status}
use Rattle.grs_top.specs.declared.status.Status.TheVariants as statuses
use Rattle.grs_top.specs.declared.words.Command.{Command}
use Rattle.grs_top.specs.Commands.{InputOf, SpellsInput, IsFaultOf, IsTextOf}
use Rattle.grs_top.specs.Due.{fault_line}
use Rattle.grs_top.specs.Answers.{Streams, Answers}

-- the source tells its bytes, and for the command these spell the input
abbrev pub Tells : (c : Command) → Option (List ℕ) → InputOf c → Type 0
Tells c None input = ⊥
Tells c (Some text) input = SpellsInput c text input

-- No read and no write failed: neither count rose, and neither stands at its last value, where it can't.
pub record HasNoFault (old new : Streams) : Type 0 where
  pub failed_reads : new.failed_reads ≡ old.failed_reads
  pub failed_writes : new.failed_writes ≡ old.failed_writes
  pub failed_reads_below : old.failed_reads < last_count
  pub failed_writes_below : old.failed_writes < last_count

-- What the command writes for the input is written whole, and the status says how the command ends.
pub record IsWhole (c : Command) (input : InputOf c) (old new : Streams) (status : Status) : Type 0 where
  pub out : List ℕ
  pub written : Appends old.written new.written out
  pub is_text : IsTextOf c input out status

-- A source whose bytes spell an input of the command and no fault give the whole text, unless memory is wanted.
abbrev pub WholeUnlessMemory : Type 0
WholeUnlessMemory = (c : Command) (input : InputOf c) (old new : Streams) (status : Status)
    → Answers c old new status → Tells c old.left input → HasNoFault old new
    → IsWhole c input old new status ⊎ (status ≡ statuses.NoMemory)

-- the first fault that the bytes which the source tells have for the command
abbrev pub TellsFault : Command → Option (List ℕ) → DeckFault → Type 0
TellsFault c None f = ⊥
TellsFault c (Some text) f = IsFaultOf c text f

-- A source whose bytes have a fault is answered by the line of the first one, unless memory is wanted or a call fails.
abbrev pub RefusedUnlessMemory : Type 0
RefusedUnlessMemory = (c : Command) (f : DeckFault) (old new : Streams) (status : Status)
    → Answers c old new status → TellsFault c old.left f → HasNoFault old new
    → (Appends old.written new.written (fault_line f) × (status ≡ statuses.Deck)) ⊎ (status ≡ statuses.NoMemory)

-- Where no call of the source and the sink fails, as none of a source and a sink does whose counts are always 0, neither status
-- of a failed call comes.
abbrev pub FaultsAreFailedCalls : Type 0
FaultsAreFailedCalls = (c : Command) (old new : Streams) (status : Status)
    → Answers c old new status → HasNoFault old new
    → (status ≢ statuses.ReadFault) × (status ≢ statuses.WriteFault)

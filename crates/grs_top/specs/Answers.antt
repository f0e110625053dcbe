-- What a command does to its source and its sink, by the status that it answers.
use Rattle.std.specs.Prelude.{◌≡◌, ◌+◌, ◌⊎◌, ℕ, List, [], Option, None, Some}
use Rattle.std.specs.Io.KnownBytes.{Appends}
use Rattle.grs_io.specs.Faults.{HasRisen}
use Rattle.grs_io.specs.Moved.{TakesFirst, AppendsPart}
use Rattle.grs_top.specs.declared.status.Status.{Status}
use Rattle.grs_top.specs.declared.status.Status.TheVariants as statuses
use Rattle.grs_top.specs.declared.words.Command.{Command}
use Rattle.grs_top.specs.Commands.{limit_of}
use Rattle.grs_top.specs.Due.{IsRefused, IsAnswered, IsDue}

-- What is seen of a source and a sink: the bytes left and the bytes written, where these are told, and how
-- many reads and writes failed.
pub record Streams : Type 0 where
  pub left : Option (List ℕ)
  pub written : Option (List ℕ)
  pub failed_reads : ℕ
  pub failed_writes : ℕ

abbrev pub streams : Option (List ℕ) → Option (List ℕ) → ℕ → ℕ → Streams
streams left written failed_reads failed_writes = record {
  left = left;
  written = written;
  failed_reads = failed_reads;
  failed_writes = failed_writes;
}

-- A text is all bytes that were left, and none is left now.
abbrev pub TakesAll : Option (List ℕ) → Option (List ℕ) → List ℕ → Type 0
TakesAll None new text = Unit {0}
TakesAll (Some xs) None text = ⊥
TakesAll (Some xs) (Some ys) text = (text ≡ xs) × (ys ≡ [])

-- What is due for the text that was read.
pub record ReadsDue (c : Command) (old new : Option (List ℕ)) (out : List ℕ) (status : Status) : Type 0 where
  pub text : List ℕ
  pub read : TakesFirst (limit_of c + 1) old new text
  pub due : IsDue c text out status

-- What is due is written whole, and answered by its status, or a write failed and only a part is written.
abbrev pub Writes : Option (List ℕ) → Option (List ℕ) → ℕ → ℕ → List ℕ → Status → Status → Type 0
Writes old new failed_writes failed_writes' out status result =
    (Appends old new out × (failed_writes' ≡ failed_writes) × (result ≡ status))
    ⊎ (AppendsPart old new out × HasRisen failed_writes failed_writes' × (result ≡ statuses.WriteFault))

-- Done, Waits and Bad: the source was read to its end, no read or write failed, and what the command writes for
-- what the text spells is written whole.
pub record Completes (c : Command) (old new : Streams) (status : Status) : Type 0 where
  pub text : List ℕ
  pub out : List ℕ
  pub read : TakesAll old.left new.left text
  pub answered : IsAnswered c text out status
  pub written : Appends old.written new.written out
  pub failed_reads : new.failed_reads ≡ old.failed_reads
  pub failed_writes : new.failed_writes ≡ old.failed_writes

-- Deck: the source was read to its end, or as far as a text may reach and one byte more; no read or write
-- failed, and the line of the text's first fault is written whole.
pub record Refuses (c : Command) (old new : Streams) : Type 0 where
  pub text : List ℕ
  pub out : List ℕ
  pub read : TakesFirst (limit_of c + 1) old.left new.left text
  pub refused : IsRefused c text out
  pub written : Appends old.written new.written out
  pub failed_reads : new.failed_reads ≡ old.failed_reads
  pub failed_writes : new.failed_writes ≡ old.failed_writes

-- ReadFault: a read failed, and nothing is written.
pub record FailsToRead (old new : Streams) : Type 0 where
  pub failed_reads : HasRisen old.failed_reads new.failed_reads
  pub written : new.written ≡ old.written
  pub failed_writes : new.failed_writes ≡ old.failed_writes

-- WriteFault: the text was read, a write failed, and a part of what is due for the text is written, but not
-- all of it.
pub record FailsToWrite (c : Command) (old new : Streams) : Type 0 where
  pub text : List ℕ
  pub out : List ℕ
  pub status : Status
  pub read : TakesFirst (limit_of c + 1) old.left new.left text
  pub due : IsDue c text out status
  pub written : AppendsPart old.written new.written out
  pub failed_reads : new.failed_reads ≡ old.failed_reads
  pub failed_writes : HasRisen old.failed_writes new.failed_writes

-- NoMemory: no read or write failed, and nothing is written.
pub record WantsMemory (old new : Streams) : Type 0 where
  pub written : new.written ≡ old.written
  pub failed_reads : new.failed_reads ≡ old.failed_reads
  pub failed_writes : new.failed_writes ≡ old.failed_writes

-- What stands after a command, by its status. It has its words already, so it never answers Words.
abbrev pub Answers : Command → Streams → Streams → Status → Type 0
Answers c old new statuses.Done = Completes c old new statuses.Done
Answers c old new statuses.Waits = Completes c old new statuses.Waits
Answers c old new statuses.Deck = Refuses c old new
Answers c old new statuses.Words = ⊥
Answers c old new statuses.ReadFault = FailsToRead old new
Answers c old new statuses.WriteFault = FailsToWrite c old new
Answers c old new statuses.NoMemory = WantsMemory old new
Answers c old new statuses.Bad = Completes c old new statuses.Bad

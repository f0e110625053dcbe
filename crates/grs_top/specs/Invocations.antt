-- What the program does to its source and its sink, by what its words ask for.
use Rattle.std.specs.Prelude.{◌≡◌, ℕ}
use Rattle.grs_top.specs.declared.status.Status.{Status}
use Rattle.grs_top.specs.declared.words.Invocation.{Invocation}
use Rattle.grs_top.specs.declared.words.Invocation.TheVariants.{OfText, Generate}
use Rattle.grs_top.specs.Answers.{Streams, Answers}
use Rattle.grs_top.specs.Commands.{NamesStatus}
use Rattle.grs_top.specs.Generated.{AnswersGen}

-- The source is as it was, and the line of the number is written.
pub record Generates (n : ℕ) (old new : Streams) (status : Status) : Type 0 where
  pub left : new.left ≡ old.left
  pub failed_reads : new.failed_reads ≡ old.failed_reads
  pub line : AnswersGen n old.written new.written old.failed_writes new.failed_writes status

-- A text is read, and answered by the command with a status that is named for it; or nothing is read, and a number is
-- answered.
abbrev pub AnswersInvocation : Invocation → Streams → Streams → Status → Type 0
AnswersInvocation (OfText command) old new status = Answers command old new status × NamesStatus command status
AnswersInvocation (Generate n) old new status = Generates n old new status

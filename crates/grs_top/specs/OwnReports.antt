-- A deck with its own report behind it.
use Rattle.std.specs.Prelude.{◌≡◌, ◌≤◌, ℕ, true, List, [], ◌∷◌, ◌++◌, length}
use Rattle.grs_audit.specs.Halves.{most_audited_bytes, report_at}
use Rattle.grs_audit.specs.Text.{verdict_text}
use Rattle.grs_audit.specs.declared.verdict.Verdict.TheVariants.{Yes}
use Rattle.grs_top.specs.Due.{IsAnswered}
use Rattle.grs_top.specs.Spared.{IsSpared}
use Rattle.grs_top.specs.declared.status.Status.{Status}
use Rattle.grs_top.specs.declared.status.Status.TheVariants.{Done}
use Rattle.grs_top.specs.declared.words.Command.{Command}
use Rattle.grs_top.specs.declared.words.Command.TheVariants.{Replay, Run, Stop, Audit}

-- A command that answers by the report of a run.
abbrev pub Reports : Command → Type 0
Reports Replay = Unit {0}
Reports Run = Unit {0}
Reports (Stop x) = Unit {0}
Reports _ = ⊥

-- The last line of a text has its end, and no line is the one with which a report begins.
pub record IsWithoutReport (text : List ℕ) : Type 0 where
  pub before : List ℕ
  pub ends : text ≡ before ++ 10 ∷ []
  pub none : report_at true text ≡ length text

-- Such a text of a deck, with what `replay`, `run` or `stop` is to write for it behind it, is to be answered Yes, where
-- both aren't too long together, and the run is spared (`IsSpared`).
abbrev pub OwnReportsAreYes : Type 0
OwnReportsAreYes =
    (c : Command) (text out : List ℕ) (status : Status) → Reports c → (a : IsAnswered c text out status)
    → IsSpared c text out status a → IsWithoutReport text
    → length (text ++ out) ≤ most_audited_bytes → IsAnswered Audit (text ++ out) (verdict_text Yes) Done

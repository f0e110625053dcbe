-- Where lines begin a history, and where a text begins a report.
use Rattle.std.specs.Prelude.{◌≡◌, ◌≤◌, ◌+◌, ◌^◌, ◌-◌, ℕ, min, List, length, take, Some, None}
use Rattle.grs_audit.specs.Halves.{deck_part, report_part, first_line}
use Rattle.grs_audit.specs.Lines.{lines_in}
use Rattle.grs_audit.specs.Verdicts.{Head, head_in}
use Rattle.grs_audit.specs.declared.head.Found.{Found}
use Rattle.grs_audit.specs.declared.head.Found.TheVariants.{At, Nowhere}

-- a number, or the largest one of 64 bits where it is larger
abbrev pub capped : ℕ → ℕ
capped n = min n (2 ^ 64 - 1)

-- What is found is the first line that begins a history.
abbrev pub IsFound : List (List ℕ) → Found → Type 0
IsFound ls (At place count rest) =
    (h : Head) × (head_in ls ≡ Some h) × (place ≡ h.place) × (count ≡ capped h.count) × (h.lines ≡ lines_in rest.now)
IsFound ls (Nowhere lines) = (head_in ls ≡ None) × (lines ≡ length ls)

-- What stands from this part of a text on is the report, and so many lines stand before.
pub record IsReportAt (text rest : List ℕ) (lines : ℕ) : Type 0 where
  pub deck : take (length text - length rest) text ≡ deck_part text
  pub report : rest ≡ report_part text
  pub first : lines + 1 ≡ first_line text
  pub few : lines + length rest ≤ length text

-- Told lines under numbers, and how they were sorted.
use Rattle.std.specs.Prelude.{ℕ, ◌==◌, Bool, false, List, [], filter, slice_get, unwrap_or}
use Rattle.grs_wire.specs.declared.told.ToldLine.{ToldLine}
use Rattle.grs_wire.specs.declared.told.ToldLine.TheVariants.{Coded, Shown, Post, Ended, Desk}
use Rattle.grs_wire.specs.declared.told.Told.{Told}

-- the lines under a number, and none where nothing was put
abbrev pub lines_under : ℕ → List (List Told) → List Told
lines_under number shelves = unwrap_or (slice_get shelves number) []

-- whether a line is told to the task of this number, of whatever job
abbrev pub has_number : ℕ → ToldLine → Bool
has_number number (Coded t k part verb code) = t.task == number
has_number number (Shown t k verb code rows) = t.task == number
has_number number (Post t k) = t.task == number
has_number number (Ended t code) = t.task == number
has_number number (Desk k said) = false

-- what the tasks of a number were told
abbrev pub told_under : ℕ → List Told → List Told
told_under number told = filter (λ t. has_number number t.line) told

-- Which lines a task has passed, and which of them are told by a code or by rows.
use Rattle.std.specs.Prelude.{◌-◌, ℕ, Bool, true, false, cond, Option, Some, None}
use Rattle.grs_legal.specs.declared.meaning.Meaning.{Meaning}
use Rattle.grs_legal.specs.declared.meaning.Meaning.TheVariants as lines
use Rattle.grs_wire.specs.declared.request.Want.{Want}
use Rattle.grs_wire.specs.declared.request.Want.TheVariants.{Enq, Deq, Release, Look}
use Rattle.task_state.specs.declared.state.Asked.{Asked}
use Rattle.task_state.specs.declared.state.Phase.{Phase}
use Rattle.task_state.specs.declared.state.Phase.TheVariants as phases
use Rattle.task_state.specs.declared.state.TaskState.{TaskState}

-- whether a task's line is there, and its task is told its code or its rows when it passes it
abbrev pub has_code : Option Meaning → Bool
has_code None = false
has_code (Some (lines.Enq r c ret unit)) = true
has_code (Some (lines.Deq r have)) = true
has_code (Some (lines.Wait r)) = true
has_code (Some (lines.Shows d)) = true
has_code (Some lines.Nothing) = false

-- whether a task in this phase is still at the last line that it took: it is held there, or its request isn't answered
abbrev pub is_at_line : Phase → Bool
is_at_line phases.HeldAnswer = true
is_at_line (phases.HeldLine r) = true
is_at_line phases.ToSend = true
is_at_line phases.Sent = true
is_at_line phases.Ready = false
is_at_line (phases.Ending c) = false
is_at_line phases.Ended = false

-- how many lines a task has passed that took so many and asks for this: all but the last, which asks for it; a release
-- is of no line
abbrev pub passed_asking : Want → ℕ → ℕ
passed_asking (Enq r c ret full) n = n - 1
passed_asking (Deq r have) n = n - 1
passed_asking (Release r) n = n
passed_asking (Look first count filter) n = n - 1

-- the same by its request that isn't answered, if it has one, and its phase
abbrev pub passed_by : Option Asked → Phase → ℕ → ℕ
passed_by None p n = cond (is_at_line p) (n - 1) n
passed_by (Some a) p n = passed_asking a.req.want n

-- how many lines a task has passed
abbrev pub lines_passed : TaskState → ℕ
lines_passed x = passed_by x.outstanding x.phase x.line

-- whether a task has ended
abbrev pub has_ended : Phase → Bool
has_ended phases.Ended = true
has_ended _ = false

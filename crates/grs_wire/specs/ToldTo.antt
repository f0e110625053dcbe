-- To whom a line is told.
use Rattle.std.specs.Prelude.{Bool, false}
use Rattle.grs_base.specs.Same.{same_task}
use Rattle.grs_base.specs.declared.resource.TaskId.{TaskId}
use Rattle.grs_wire.specs.declared.told.ToldLine.{ToldLine}
use Rattle.grs_wire.specs.declared.told.ToldLine.TheVariants.{Coded, Shown, Post, Ended, Desk}

-- whether a line is told to this task
abbrev pub is_told_to : TaskId → ToldLine → Bool
is_told_to t (Coded u k part verb code) = same_task t u
is_told_to t (Shown u k verb code rows) = same_task t u
is_told_to t (Post u k) = same_task t u
is_told_to t (Ended u code) = same_task t u
is_told_to t (Desk k said) = false

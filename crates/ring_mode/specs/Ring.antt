-- What a system does with the entries of the authority message, one by one: its table of the Systems resources,
-- and what its tasks are told.
use Rattle.std.specs.Prelude.{Bool, false, cond, ◌&&◌, Option, Some, None}
use Rattle.grs_base.specs.State.{State}
use Rattle.grs_wire.specs.contracts.request.WantPartialEq.TheImpl.{eq-value as same_want}
use Rattle.grs_wire.specs.Wants.{answer_to, after_want, is_for_all, res_wanted, new_owners}
use Rattle.grs_wire.specs.declared.request.Answer.{Answer}
use Rattle.grs_wire.specs.declared.request.Req.{Req}
use Rattle.grs_wire.specs.declared.request.Want.{Want}
use Rattle.task_state.specs.declared.state.Asked.{Asked}
use Rattle.task_state.specs.View.{TasksView, is_task, state_of, is_sent}
use Rattle.task_state.specs.Replies.{tell_answer_any, tell_new}

-- the ring's part of a system: its tasks, and its table of the Systems resources
pub record Side : Type 0 where
  pub tasks : TasksView
  pub shared : State

abbrev pub side_of : TasksView → State → Side
side_of tasks shared = record { tasks = tasks; shared = shared }

-- whether a task's outstanding request is this one
abbrev pub is_asked : Want → Option Asked → Bool
is_asked w None = false
is_asked w (Some a) = same_want.it w a.req.want

-- a task of this system that has sent this request gets its answer
unfoldable pub answer_own : TasksView → Req → Answer → TasksView
answer_own v q answer =
    cond (is_task v q.task && (is_sent (state_of v q.task).phase && is_asked q.want (state_of v q.task).outstanding))
    (tell_answer_any v q.task answer (state_of v q.task).outstanding)
    v

-- A request is processed: it is answered by the table. If a task of this system asked, it is told the answer
-- first; then control is told to the tasks that became owners.
unfoldable pub process : Side → Req → Side
process n q = record {
  tasks =
      tell_new (answer_own n.tasks q (answer_to n.shared q.task q.want)) (res_wanted q.want)
      (new_owners n.shared q.task q.want);
  shared = after_want n.shared q.task q.want;
}

-- A request that the message brought is processed. One that is for a resource of one system alone has no effect.
unfoldable pub process_entry : Side → Req → Side
process_entry n q = cond (is_for_all (res_wanted q.want)) (process n q) n

-- Laws of what mail does to the tasks of a system.
use Rattle.std.specs.Prelude.{◌≡◌, ℕ, Some, None}
use Rattle.grs_base.specs.declared.resource.Res.{Res}
use Rattle.grs_base.specs.declared.resource.TaskId.{TaskId}
use Rattle.grs_wire.specs.Wants.{res_wanted}
use Rattle.grs_wire.specs.declared.request.Answer.{Answer}
use Rattle.star_client.specs.Client.{tell_answer_ranked}
use Rattle.task_state.specs.View.{TasksView, state_of, record_of}
use Rattle.task_state.specs.declared.state.Asked.{Asked}
use Rattle.task_state.specs.declared.state.Rec.{Rec}

-- Where a task had no record of the resource for which its request is answered, and has one then, that has the rank
-- which came with the answer.
abbrev pub AnswersGiveRanks : Type 0
AnswersGiveRanks =
    (v : TasksView) (t : TaskId) (a : Asked) (answer : Answer) (rank : ℕ) (r : Res) (x : Rec)
    → res_wanted a.req.want ≡ Some r → record_of (state_of v t).records r ≡ None
    → record_of (state_of (tell_answer_ranked v t a answer rank) t).records r ≡ Some x → x.rank ≡ rank

-- What a system decides on a request of its own task as the manager of its entry, part by part.
use Rattle.std.proofs.Common.{◌≡◌, ℕ, List, [], ◌∷◌, Option, Some, ap, sym, ◌∙◌, Result, Ok, Err, IfOk}
use Rattle.contention_mgr.specs.Manager.{after_request}
use Rattle.grs_wire.specs.declared.request.Answer.{Answer}
use Rattle.grs_base.specs.declared.resource.TaskId.{TaskId}
use Rattle.grs_node.specs.Star.{StarPart, answer_for, decide_own, own_step, owners_by, rank_of, request_of, starred}
use Rattle.grs_wire.specs.Wants.{res_wanted}
use Rattle.grs_wire.specs.declared.request.Fixed.{Fixed}
use Rattle.grs_wire.specs.declared.request.Fixed.TheVariants as fixes
use Rattle.grs_wire.specs.declared.request.Req.{Req}
use Rattle.star_client.specs.Client.{tell_answer_any_ranked}
use Rattle.task_state.specs.Replies.{tell_new}
use Rattle.task_state.specs.View.{TasksView, state_of}
use Rattle.task_state.specs.declared.state.Asked.{Asked}

-- the answer to a request is told, and control to who became owners
abbrev pub told_ranked : TasksView → Req → Answer → ℕ → List TaskId → TasksView
told_ranked v q answer rank owners =
    tell_new (tell_answer_any_ranked v q.task answer rank (state_of v q.task).outstanding) (res_wanted q.want) owners

pub told-same : (v : TasksView) (p : StarPart) (q : Req) (answer : Answer) (rank : ℕ) (owners : List TaskId)
    → answer ≡ answer_for p q → rank ≡ rank_of p q → owners ≡ owners_by p q
    → told_ranked v q answer rank owners ≡ told_ranked v q (answer_for p q) (rank_of p q) (owners_by p q)
told-same v p q answer rank owners first ranked others =
    ap (λ (a : Answer). told_ranked v q a rank owners) first
    ∙ (ap (λ (n : ℕ). told_ranked v q (answer_for p q) n owners) ranked
    ∙ ap (told_ranked v q (answer_for p q) (rank_of p q)) others)

-- where a task asks for something, what it comes to is what was decided
pub decided-own :
    (v : TasksView) (p : StarPart) (t : TaskId) (a : Asked) (q : Req) (tasks : TasksView) (part : StarPart)
    (fixed : List Fixed)
    → Some a ≡ (state_of v t).outstanding → q ≡ request_of t a
    → tasks ≡ told_ranked v q (answer_for p q) (rank_of p q) (owners_by p q) →
    part ≡ record p { manager = after_request p.manager q.task q.want } → fixed ≡ fixes.Asked q ∷ []
    → starred tasks part fixed ≡ own_step v p t (state_of v t).outstanding
unfolding decide_own
decided-own v p t a q tasks part fixed asks is told after one =
    ap (λ (x : TasksView). starred x part fixed) (told
    ∙ (ap (λ (r : Req). told_ranked v r (answer_for p r) (rank_of p r) (owners_by p r)) is
    ∙ ap (λ (o : Option Asked).
    tell_new (tell_answer_any_ranked v t (answer_for p (request_of t a)) (rank_of p (request_of t a)) o)
    (res_wanted a.req.want) (owners_by p (request_of t a)))
    (sym asks)))
    ∙ (ap (λ (x : StarPart). starred new x fixed)
    (after ∙ ap (λ (r : Req). record p { manager = after_request p.manager r.task r.want }) is)
    ∙ (ap (λ (xs : List Fixed). starred new (record p { manager = after_request p.manager t a.req.want }) xs)
    (one ∙ ap (λ (r : Req). fixes.Asked r ∷ []) is)
    ∙ ap (own_step v p t) asks))
  where
    new : TasksView
    new =
        tell_new (tell_answer_any_ranked v t (answer_for p (request_of t a)) (rank_of p (request_of t a)) (Some a))
        (res_wanted a.req.want) (owners_by p (request_of t a))

-- with what was fixed, if there was memory for it
pub decided-fixed :
    {E : Type 0} (r : Result (List Fixed) E) (v : TasksView) (p : StarPart) (t : TaskId) (a : Asked) (q : Req)
    (tasks : TasksView) (part : StarPart)
    → Some a ≡ (state_of v t).outstanding → q ≡ request_of t a
    → tasks ≡ told_ranked v q (answer_for p q) (rank_of p q) (owners_by p q) →
    part ≡ record p { manager = after_request p.manager q.task q.want } → IfOk r (λ fixed. fixed ≡ fixes.Asked q ∷ [])
    → IfOk r (λ fixed. starred tasks part fixed ≡ own_step v p t (state_of v t).outstanding)
decided-fixed (Ok fixed) v p t a q tasks part asks is told after one =
    decided-own v p t a q tasks part fixed asks is told after one
decided-fixed (Err e) v p t a q tasks part asks is told after one = tt

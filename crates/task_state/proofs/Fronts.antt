-- What was told before stands in front of what is told after.
use Rattle.std.proofs.Common.{◌≡◌, ℕ, Bool, true, false, cond, List, [], ◌∷◌, ◌++◌, Option, None, Some, refl, ap, sym}
use Rattle.std.proofs.Common.{◌∙◌, subst, append-nil, append_assoc}
use Rattle.std.specs.Prelude.{◌&&◌, ◌==◌, Result, Ok, Err, OnErr}
use Rattle.grs_base.specs.declared.decision.Code.{Code}
use Rattle.grs_base.specs.declared.resource.Ctl.{Ctl}
use Rattle.grs_base.specs.declared.resource.Res.{Res}
use Rattle.grs_base.specs.declared.resource.Ret.{Ret}
use Rattle.grs_base.specs.declared.resource.Row.{Row}
use Rattle.grs_base.specs.declared.resource.TaskId.{TaskId}
use Rattle.grs_wire.specs.declared.told.ToldLine.{ToldLine}
use Rattle.task_state.proofs.Keeps.{either}
use Rattle.task_state.specs.Replies.{IsFront, is_changed, is_held, is_held_for, is_leaving, is_queued, passes_wait}
use Rattle.task_state.specs.Replies.{record_enq, tell_all, tell_control, tell_line, tell_untold}
use Rattle.task_state.specs.View.{TasksView, is_task, record_of, state_of, telling, with_exclusive, with_outstanding}
use Rattle.task_state.specs.View.{with_phase, with_record, with_rows, with_state, with_told, without_record}
use Rattle.task_state.specs.View.{without_rows}
use Rattle.task_state.specs.declared.state.Asked.{Asked}
use Rattle.task_state.specs.declared.state.Phase.{Phase}
use Rattle.task_state.specs.declared.state.Rec.{Rec}

-- ---- what is told stays where a task alone changes
pub lines-phase : (v : TasksView) (t : TaskId) (p : Phase) → (with_phase v t p).told ≡ v.told
unfolding with_phase with_state
lines-phase v t p = refl

pub lines-outstanding : (v : TasksView) (t : TaskId) (q : Option Asked) → (with_outstanding v t q).told ≡ v.told
unfolding with_outstanding with_state
lines-outstanding v t q = refl

pub lines-record : (v : TasksView) (t : TaskId) (x : Rec) → (with_record v t x).told ≡ v.told
unfolding with_record with_state
lines-record v t x = refl

pub lines-without : (v : TasksView) (t : TaskId) (r : Res) → (without_record v t r).told ≡ v.told
unfolding without_record with_state
lines-without v t r = refl

pub lines-told : (v : TasksView) (t : TaskId) (r : Res) → (with_told v t r).told ≡ v.told
unfolding with_told with_state
lines-told v t r = refl

pub lines-exclusive : (v : TasksView) (t : TaskId) (r : Res) → (with_exclusive v t r).told ≡ v.told
unfolding with_exclusive with_state
lines-exclusive v t r = refl

pub lines-rows : (v : TasksView) (t : TaskId) (rs : List Row) → (with_rows v t rs).told ≡ v.told
unfolding with_rows with_state
lines-rows v t rs = refl

pub lines-no_rows : (v : TasksView) (t : TaskId) → (without_rows v t).told ≡ v.told
unfolding without_rows with_state
lines-no_rows v t = refl

pub lines-enq : (v : TasksView) (t : TaskId) (r : Res) (c : Ctl) (unit : Option ℕ) (ret : Ret) (code : Code)
    → (record_enq v t r c unit ret code).told ≡ v.told
unfolding record_enq
lines-enq v t r c unit ret code =
    either (λ (w : TasksView). w.told) (is_queued ret code) _ _ _ (lines-record v t _)
    (either (λ (w : TasksView). w.told) (is_changed ret code) _ _ _ (lines-exclusive v t r) refl)

pub ruleset lines = (
  lines-phase,
  lines-outstanding,
  lines-record,
  lines-without,
  lines-told,
  lines-exclusive,
  lines-rows,
  lines-no_rows,
  lines-enq,
)

-- ---- what is told before stands in front
pub front-same : (front lines : List ToldLine) → front ≡ lines → IsFront front lines
front-same front lines e = ([], sym e ∙ sym (append-nil front))

pub front-trans : (a b c : List ToldLine) → IsFront a b → IsFront b c → IsFront a c
front-trans a b c f g =
    (f.0 ++ g.0, g.1 ∙ ap (λ (xs : List ToldLine). xs ++ g.0) f.1 ∙ append_assoc a f.0 g.0)

pub front-telling : (v : TasksView) (l : ToldLine) → IsFront v.told (telling v l).told
unfolding telling
front-telling v l = (l ∷ [], refl)

front-either : (a : List ToldLine) (b : Bool) (x y : TasksView) → IsFront a x.told → IsFront a y.told
    → IsFront a (cond b x y).told
front-either a true x y f g = f
front-either a false x y f g = g

pub front-passes : (v : TasksView) (t : TaskId) (r : Res) → IsFront v.told (passes_wait v t r).told
unfolding passes_wait with_phase with_state
front-passes v t r =
    front-either v.told (is_held_for r (state_of v t).phase) _ v (front-telling (with_phase v t _) _)
    (front-same _ _ refl)

pub front-line : (v : TasksView) (t : TaskId) (r : Res) (k : ℕ) → IsFront v.told (tell_line v t r k).told
unfolding tell_line with_phase with_told with_state
front-line v t r k =
    front-either v.told (is_held (state_of v t).phase && (k == (state_of v t).line)) _ _
    (front-telling (with_phase (with_told v t r) t _) _)
    (front-trans v.told _ _ (front-telling (with_told v t r) _) (front-passes (telling (with_told v t r) _) t r))

front-untold : (v : TasksView) (t : TaskId) (r : Res) (o : Option Rec) → IsFront v.told (tell_untold v t r o).told
unfolding tell_untold with_told with_state
front-untold v t r None = front-same _ _ refl
front-untold v t r (Some x) =
    front-either v.told x.told v _ (front-same _ _ refl)
    (front-either v.told (is_leaving r (state_of v t).outstanding) (with_told v t r) _ (front-same _ _ refl)
    (front-line v t r x.line))

front-control : (v : TasksView) (r : Res) (t : TaskId) → IsFront v.told (tell_control v r t).told
unfolding tell_control
front-control v r t =
    front-either v.told (is_task v t) _ v (front-untold v t r (record_of (state_of v t).records r))
    (front-same _ _ refl)

pub front-all : (v : TasksView) (r : Res) (ts : List TaskId) → IsFront v.told (tell_all v r ts).told
unfolding tell_all
front-all v r [] = front-same _ _ refl
front-all v r (t ∷ ts) =
    front-trans v.told _ _ (front-control v r t) (front-all (tell_control v r t) r ts)

-- What stands in front before a change of one task stands there behind it.
pub front-by : (v w : TasksView) (lines : List ToldLine) → w.told ≡ v.told → IsFront v.told lines
    → IsFront w.told lines
front-by v w lines same f = subst (λ (front : List ToldLine). IsFront front lines) (sym same) f

-- What stands in front of what the first task is told does so in what all are told.
pub front-next : (v : TasksView) (r : Res) (t : TaskId) (ts rest : List TaskId) (front : List ToldLine)
    → rest ≡ t ∷ ts → IsFront front (tell_control v r t).told → IsFront front (tell_all v r rest).told
unfolding tell_all
front-next v r t ts rest front is f =
    subst (λ (us : List TaskId). IsFront front (tell_all v r us).told) (sym is)
    (front-trans front _ _ f (front-all (tell_control v r t) r ts))

-- what holds anyway holds on an error
pub on-err : {A B P : Type 0} (r : Result A B) → P → OnErr r P
on-err (Ok x) p = tt
on-err (Err e) p = p

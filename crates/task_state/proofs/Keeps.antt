-- Which tasks there are stays where a task is answered or told control.
use Rattle.std.proofs.Common.{◌≡◌, ℕ, Bool, true, false, cond, Option, length, refl}
use Rattle.grs_base.specs.declared.resource.Ctl.{Ctl}
use Rattle.grs_base.specs.declared.resource.Res.{Res}
use Rattle.grs_base.specs.declared.resource.Ret.{Ret}
use Rattle.grs_base.specs.declared.resource.TaskId.{TaskId}
use Rattle.grs_base.specs.declared.decision.Code.{Code}
use Rattle.task_state.specs.View.{TasksView}
use Rattle.task_state.specs.Replies.{is_queued, is_changed, record_enq}
use Rattle.task_state.proofs.Stays.{stays, system-record, count-record, system-exclusive, count-exclusive}

-- a number that both of two values have, one of them has
pub either : {X : Type 0} {Y : Type 0} (f : X → Y) (b : Bool) (x y : X) (z : Y) → f x ≡ z → f y ≡ z → f (cond b x y) ≡ z
either f true x y z p q = p
either f false x y z p q = q

pub system-enq : (v : TasksView) (t : TaskId) (r : Res) (c : Ctl) (unit : Option ℕ) (ret : Ret) (code : Code)
    → (record_enq v t r c unit ret code).system ≡ v.system
unfolding record_enq
system-enq v t r c unit ret code =
    either (λ (w : TasksView). w.system) (is_queued ret code) _ _ _ (system-record v t _)
    (either (λ (w : TasksView). w.system) (is_changed ret code) _ _ _ (system-exclusive v t r) refl)

pub count-enq : (v : TasksView) (t : TaskId) (r : Res) (c : Ctl) (unit : Option ℕ) (ret : Ret) (code : Code)
    → length (record_enq v t r c unit ret code).tasks ≡ length v.tasks
unfolding record_enq
count-enq v t r c unit ret code =
    either (λ (w : TasksView). length w.tasks) (is_queued ret code) _ _ _ (count-record v t _)
    (either (λ (w : TasksView). length w.tasks) (is_changed ret code) _ _ _ (count-exclusive v t r) refl)

pub ruleset keeps = (stays, system-enq, count-enq)

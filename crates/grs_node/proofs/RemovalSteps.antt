-- What an entry that is taken up, and a system that is lost, come to step by step.
use Rattle.std.proofs.Common.{◌≡◌, ℕ, List, Result, Some, length, filter, ap, ◌∙◌}
use Rattle.std.specs.Prelude.{not, ◌==◌, OnOk}
use Rattle.std.proofs.lemmas.Result.{on_ok_weaker}
use Rattle.contention_mgr.specs.Installs.{installed, own_owners}
use Rattle.contention_mgr.specs.Loses.{gained, after_losing}
use Rattle.contention_mgr.specs.Manager.{ManagerView, with_entry}
use Rattle.grs_base.specs.declared.resource.Res.{Res}
use Rattle.grs_base.specs.declared.resource.SysId.{SysId}
use Rattle.grs_base.specs.declared.resource.TaskId.{TaskId}
use Rattle.grs_node.specs.Removal.{standing, installing, take_up, lose}
use Rattle.grs_node.specs.Star.{StarPart}
use Rattle.grs_wire.specs.declared.gather.PartRec.{PartRec}
use Rattle.grs_wire.specs.declared.request.Req.{Req}
use Rattle.system_purge.specs.Gather.{part_of, gathered}
use Rattle.system_purge.specs.Gathers.{GathersView, gathering_at, parts_in, without_entry, behind_loss}
use Rattle.system_purge.specs.Purge.{tell_each}
use Rattle.task_state.specs.View.{TasksView}

pub taken-made : {X Y : Type 0} (r : Result X Y) (names : List TaskId) (e n : ℕ) (v w : TasksView) (p q : StarPart)
    (own : List PartRec) (parts : List (List PartRec)) (recs : List PartRec) (m : ManagerView) (gs : GathersView)
    (owners : List (TaskId × Res))
    → p ≡ q → n ≡ length p.manager.entries → own ≡ part_of n e names v
    → parts ≡ parts_in (gathering_at p.gathers e) → recs ≡ gathered own parts
    → m ≡ with_entry p.manager (Some e) (Some (installed p.manager.system.0 recs)) → gs ≡ without_entry p.gathers e
    → owners ≡ own_owners m e → OnOk r (w ≡ tell_each v owners)
    → OnOk r (standing w (record p { manager = m; gathers = gs }) ≡ take_up names (standing v q) e)
taken-made r names e n v w p q own parts recs m gs owners view many mine theirs made installs left told tells =
    on_ok_weaker r last tells
  where
    all : m ≡ installing names (standing v p) e
    all =
        installs
        ∙ ap (λ (x : List PartRec). with_entry p.manager (Some e) (Some (installed p.manager.system.0 x)))
        (made
        ∙ (ap (λ (x : List PartRec). gathered x parts) (mine ∙ ap (λ (k : ℕ). part_of k e names v) many)
        ∙ ap (gathered (part_of (length p.manager.entries) e names v)) theirs))

    last : w ≡ tell_each v owners
        → standing w (record p { manager = m; gathers = gs }) ≡ take_up names (standing v q) e
    last is =
        ap (λ (x : TasksView). standing x (record p { manager = m; gathers = gs }))
        (is ∙ ap (tell_each v) (told ∙ ap (λ (k : ManagerView). own_owners k e) all))
        ∙ (ap (λ (k : ManagerView).
        standing (tell_each v (own_owners (installing names (standing v p) e) e))
        (record p { manager = k; gathers = gs })) all
        ∙ (ap (λ (g : GathersView).
        standing (tell_each v (own_owners (installing names (standing v p) e) e))
        (record p { manager = installing names (standing v p) e; gathers = g })) left
        ∙ ap (λ (x : StarPart). take_up names (standing v x) e) view))

pub lost-made : {X Y : Type 0} (r : Result X Y) (s : SysId) (v w : TasksView) (p q : StarPart) (m : ManagerView)
    (gs : GathersView) (held : List Req) (owners : List (TaskId × Res))
    → p ≡ q → m ≡ after_losing p.manager s → gs ≡ behind_loss p.gathers s
    → held ≡ filter (λ x. not (s.0 == x.task.system.0)) p.held → owners ≡ gained p.manager s
    → OnOk r (w ≡ tell_each v owners)
    → OnOk r (standing w (record p { manager = m; gathers = gs; held = held }) ≡ lose (standing v q) s)
lost-made r s v w p q m gs held owners view after behind left told tells = on_ok_weaker r last tells
  where
    last : w ≡ tell_each v owners
        → standing w (record p { manager = m; gathers = gs; held = held }) ≡ lose (standing v q) s
    last is =
        ap (λ (x : TasksView). standing x (record p { manager = m; gathers = gs; held = held }))
        (is ∙ ap (tell_each v) told)
        ∙ (ap (λ (k : ManagerView).
        standing (tell_each v (gained p.manager s)) (record p { manager = k; gathers = gs; held = held })) after
        ∙ (ap (λ (g : GathersView).
        standing (tell_each v (gained p.manager s))
        (record p { manager = after_losing p.manager s; gathers = g; held = held })) behind
        ∙ (ap (λ (xs : List Req).
        standing (tell_each v (gained p.manager s))
        (record p { manager = after_losing p.manager s; gathers = behind_loss p.gathers s; held = xs })) left
        ∙ ap (λ (x : StarPart). lose (standing v x) s) view)))

use Rattle.std.proofs.Common.{◌≡◌, ◌⊎◌, ◌∙◌, true, List, [], ap, sym, subst}
use Rattle.grs_base.specs.declared.resource.TaskId.{TaskId}
use Rattle.grs_analyze.specs.Walk.{is_cycle, reported_cycle}
use Rattle.grs_analyze.proofs.CycleLaws.{cycle_some, cycle_none}
use Rattle.grs_analyze.proofs.analysis.analyze.Goals as goal

pub returns-clause-cycle : goal.returns-clause-cycle
returns-clause-cycle c =
    subst (λ (ts : List TaskId). (ts ≡ []) ⊎ (is_cycle c.args.rows.now ts ≡ true))
    (sym (c.in_ok-cycle.ensures ∙ ap reported_cycle c.as_slice-rows.ensures)) (cycle_some c.args.rows.now)

pub returns-clause-none : goal.returns-clause-none
returns-clause-none c =
    λ no. cycle_none c.args.rows.now (sym (c.in_ok-cycle.ensures ∙ ap reported_cycle c.as_slice-rows.ensures) ∙ no)

use Rattle.std.proofs.Common.{◌∙◌, ap, filter, List}
use Rattle.std.specs.List.{range_with_len}
use Rattle.grs_base.specs.Rows.{rows_of}
use Rattle.grs_base.specs.declared.resource.Row.{Row}
use Rattle.grs_wire.specs.LockWords.{is_manager}
use Rattle.mode_migrate.specs.Groups.{groups_of, group_at, is_among, manager_of}
use Rattle.mode_migrate.proofs.GroupLaws.{managed-in, interested-in}
use Rattle.mode_migrate.proofs.roles.roles_of.Goals as goal

pub returns-clause-managed : goal.returns-clause-managed
returns-clause-managed g c =
    c.in_ok-managed.ensures
    ∙ ap (λ (groups : List (List Row)).
    filter (λ e. is_manager (manager_of (group_at groups e)) c.args.system) (range_with_len 0 c.args.entries))
    (c.in_ok-groups.ensures ∙ ap (groups_of c.args.entries) c.in_ok-rows.ensures)
    ∙ managed-in c.args.entries c.args.system (rows_of c.args.table.now.elements)

pub returns-clause-interest : goal.returns-clause-interest
returns-clause-interest g c =
    c.in_ok-interest.ensures
    ∙ ap (λ (groups : List (List Row)).
    filter (λ e. is_among (group_at groups e) c.args.system.0) (range_with_len 0 c.args.entries))
    (c.in_ok-groups.ensures ∙ ap (groups_of c.args.entries) c.in_ok-rows.ensures)
    ∙ interested-in c.args.entries c.args.system.0 (rows_of c.args.table.now.elements)

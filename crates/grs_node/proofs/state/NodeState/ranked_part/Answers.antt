use Rattle.std.proofs.Common.{◌≡◌, true, List, ap, length, sym, ◌∙◌, subst}
use Rattle.std.specs.List.{flat_map, list_all}
use Rattle.lock_structure.specs.RankedRows.{RankedRow}
use Rattle.mode_migrate.specs.Migrate.{has_small_ranks, ranked_by, AreApart, AreLoadable}
use Rattle.mode_migrate.proofs.PartLaws.{length-parts_by, parts-joined, parts_are_loadable}
use Rattle.grs_node.specs.Change.{part_by_table}
use Rattle.grs_node.specs.Node.{NodeState}
use Rattle.grs_node.proofs.Loading.{part-of-roles}
use Rattle.grs_node.proofs.state.NodeState.ranked_part.Goals as goal

pub by_roles-requires-clause-parts : goal.by_roles-requires-clause-parts
by_roles-requires-clause-parts c =
    ap (λ (parts : List (List RankedRow)). length parts) c.in_ok-roles.ensures.parts
    ∙ length-parts_by c.args.entries c.self.inside.shared.elements

pub by_roles-requires-clause-rows : goal.by_roles-requires-clause-rows
by_roles-requires-clause-rows c =
    let apart = subst (λ (n : NodeState). AreApart n.shared) (sym c.self.view_is) c.requires.apart in
    let small =
    subst (λ (parts : List (List RankedRow)). list_all has_small_ranks parts ≡ true) c.in_ok-roles.ensures.parts
    c.in_ok-roles.ensures.small in
    subst (AreLoadable c.args.entries) (sym c.in_ok-roles.ensures.parts)
    (parts_are_loadable c.args.entries c.self.inside.shared.elements apart small)

pub returns-clause-part : goal.returns-clause-part
returns-clause-part c =
    part-of-roles c.args.entries c.system-system.result c.self.inside.tasks.system c.self.inside.shared.elements
    c.in_ok-roles.roles.managed c.in_ok-roles.roles.interest c.in_ok-roles.roles.parts c.in_ok-part.part
    c.system-system.ensures c.in_ok-roles.ensures.managed c.in_ok-roles.ensures.interest c.in_ok-roles.ensures.parts
    c.in_ok-part.ensures
    ∙ ap (λ (n : NodeState). part_by_table c.args.entries (record { 0 = n.tasks.system }) n.shared) c.self.view_is

pub returns-clause-ranked : goal.returns-clause-ranked
returns-clause-ranked c =
    ap (λ (parts : List (List RankedRow)). flat_map (λ part. part) parts) c.in_ok-roles.ensures.parts
    ∙ parts-joined c.args.entries c.self.inside.shared.elements
    ∙ ap (λ (n : NodeState). ranked_by c.args.entries n.shared) c.self.view_is

use Rattle.std.proofs.Common.{◌≡◌, drop}
use Rattle.std.specs.List.{list_all}
use Rattle.star_client.specs.Client.{can_show}
use Rattle.star_client.proofs.answers.can_show_each.Given as goal

abbrev pub invariant-loop-row : goal.invariant-loop-row
invariant-loop-row l =
    list_all (can_show l.first l.count l.filter) (drop l.row-index l.rows)
    ≡ list_all (can_show l.first l.count l.filter) l.rows

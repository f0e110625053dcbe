use Rattle.std.proofs.Common.{◌≡◌, ◌++◌, drop}
use Rattle.std.specs.Prelude.{filter}
use Rattle.std.specs.List.{flat_map}
use Rattle.grs_base.specs.State.{is_systems, list_of}
use Rattle.grs_enf.specs.Notices.{notices_at}
use Rattle.grs_enf.proofs.watch.put_systems.Given as goal

abbrev pub invariant-loop-row : goal.invariant-loop-row
invariant-loop-row l =
    l.out
    ++ flat_map (λ row. notices_at row.res row.elems (list_of l.table.elements row.res))
    (filter (λ row. is_systems row.res) (drop l.row-index l.rows))
    ≡ l.initial.out
    ++ flat_map (λ row. notices_at row.res row.elems (list_of l.table.elements row.res))
    (filter (λ row. is_systems row.res) l.rows)

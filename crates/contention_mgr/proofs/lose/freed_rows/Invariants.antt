use Rattle.std.proofs.Common.{◌≡◌, map, take}
use Rattle.freed_owners.specs.Freed.{freed}
use Rattle.contention_mgr.proofs.lose.freed_rows.Given as goal

abbrev pub invariant-loop-row : goal.invariant-loop-row
invariant-loop-row l = l.all ≡ map (λ x. (x.res, freed l.target.0 x.res x.elems)) (take l.row-index l.rows)

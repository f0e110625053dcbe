use Rattle.std.proofs.Common.{◌≡◌, ◌++◌, drop}
use Rattle.std.specs.List.{flat_map}
use Rattle.contention_mgr.specs.Installs.{own_in}
use Rattle.contention_mgr.proofs.install.owners_in.Given as goal

abbrev pub invariant-loop-row : goal.invariant-loop-row
invariant-loop-row l =
    l.owners ++ flat_map (own_in l.system.0) (drop l.row-index l.rows) ≡ flat_map (own_in l.system.0) l.rows

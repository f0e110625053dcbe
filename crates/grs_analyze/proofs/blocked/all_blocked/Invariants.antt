use Rattle.std.proofs.Common.{◌≡◌, ◌++◌, drop}
use Rattle.std.specs.List.{flat_map}
use Rattle.grs_analyze.specs.Waits.{blocked_in}
use Rattle.grs_analyze.proofs.blocked.all_blocked.Given as goal

abbrev pub invariant-loop-row : goal.invariant-loop-row
invariant-loop-row l = l.waits ++ flat_map blocked_in (drop l.row-index l.rows) ≡ flat_map blocked_in l.rows

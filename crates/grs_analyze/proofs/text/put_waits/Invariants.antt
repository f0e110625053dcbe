use Rattle.std.proofs.Common.{◌≡◌, ◌++◌, drop}
use Rattle.std.specs.List.{flat_map}
use Rattle.grs_analyze.specs.Text.{wait_line}
use Rattle.grs_analyze.proofs.text.put_waits.Given as goal

abbrev pub invariant-loop-wait : goal.invariant-loop-wait
invariant-loop-wait l =
    l.out ++ flat_map (wait_line l.names) (drop l.wait-index l.waits)
    ≡ l.initial.out ++ flat_map (wait_line l.names) l.waits

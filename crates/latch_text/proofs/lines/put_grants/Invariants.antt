use Rattle.std.proofs.Common.{◌≡◌, ◌++◌, drop}
use Rattle.std.specs.List.{flat_map}
use Rattle.latch_text.specs.Text.{grant_line}
use Rattle.latch_text.proofs.lines.put_grants.Given as goal

abbrev pub invariant-loop-grant : goal.invariant-loop-grant
invariant-loop-grant l =
    l.out ++ flat_map (grant_line l.set) (drop l.grant-index l.grants)
    ≡ l.initial.out ++ flat_map (grant_line l.set) l.grants

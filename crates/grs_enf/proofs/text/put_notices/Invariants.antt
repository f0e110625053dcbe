use Rattle.std.proofs.Common.{◌≡◌, ◌++◌, drop}
use Rattle.std.specs.List.{flat_map}
use Rattle.grs_enf.specs.Text.{notice_line}
use Rattle.grs_enf.proofs.text.put_notices.Given as goal

abbrev pub invariant-loop-one : goal.invariant-loop-one
invariant-loop-one l =
    l.out ++ flat_map (notice_line l.names) (drop l.one-index l.noted)
    ≡ l.initial.out ++ flat_map (notice_line l.names) l.noted

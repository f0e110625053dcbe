use Rattle.std.proofs.Common.{◌≡◌, ◌++◌, drop}
use Rattle.std.specs.List.{flat_map}
use Rattle.system_purge.specs.Gather.{all_of}
use Rattle.system_purge.proofs.gather.all_of.Given as goal

abbrev pub invariant-loop-part : goal.invariant-loop-part
invariant-loop-part l = l.recs ++ flat_map (λ part. part) (drop l.part-index l.parts) ≡ all_of l.own l.parts

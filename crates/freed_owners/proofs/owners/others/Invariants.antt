use Rattle.std.proofs.Common.{◌≡◌, take}
use Rattle.std.specs.Prelude.{filter}
use Rattle.grs_base.specs.State.{is_of_other}
use Rattle.freed_owners.proofs.owners.others.Given as goal

abbrev pub invariant-loop-elem : goal.invariant-loop-elem
invariant-loop-elem l = l.left ≡ filter (is_of_other l.system.0) (take l.elem-index l.elems)

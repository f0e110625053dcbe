use Rattle.std.proofs.Common.{◌≡◌, drop}
use Rattle.grs_base.specs.Lists.{is_apart}
use Rattle.star_client.proofs.ApartLaws.{is_apart_behind}
use Rattle.star_client.proofs.apart.are_apart.Given as goal

abbrev pub invariant-loop-elem : goal.invariant-loop-elem
invariant-loop-elem l = is_apart_behind l.tasks.keys (drop l.elem-index l.elems) ≡ is_apart l.elems

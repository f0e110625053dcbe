use Rattle.std.proofs.Common.{◌≡◌, ◌++◌, map}
use Rattle.grs_wire.specs.declared.request.Fixed.TheVariants as fixes
use Rattle.grs_node.proofs.turn.all_asked.Given as goal

abbrev pub invariant-loop-req : goal.invariant-loop-req
invariant-loop-req l = l.fixed ++ map fixes.Asked l.req-iterator.rest.items ≡ map fixes.Asked l.fn.reqs.items

use Rattle.std.proofs.Common.{◌≡◌, take, map}
use Rattle.grs_top.specs.Beside.{logs_of}
use Rattle.grs_top.proofs.beside.logs_of.Given as goal

abbrev pub invariant-loop-node : goal.invariant-loop-node
invariant-loop-node l = map (λ x. x.now) l.logs.items ≡ logs_of (take l.node-index l.nodes)

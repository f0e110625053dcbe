use Rattle.std.proofs.Common.{◌≡◌, take, map}
use Rattle.grs_history.proofs.order.merge.Given as goal

abbrev pub invariant-loop-log : goal.invariant-loop-log
invariant-loop-log l = map (λ r. r.now) l.lent.items ≡ map (λ x. x.steps) (take l.log-index l.logs)

use Rattle.std.proofs.Common.{ℕ, drop, ap, ◌∙◌, arith}
use Rattle.grs_history.proofs.MergeLaws.{rests-set}
use Rattle.grs_history.proofs.order.Merging.go_on.Goals as goal

pub returns-clause-rests : goal.returns-clause-rests
returns-clause-rests c =
    rests-set (λ r. r.now) c.args.rests.now.items c.args.system c.index-steps.result.now c.split_at.result.1
    (omega arith) c.index-steps.ensures
    (c.split_at.ensures.back ∙ ap (λ (n : ℕ). drop n c.index-steps.result.now.now) c.run_count.ensures.count)

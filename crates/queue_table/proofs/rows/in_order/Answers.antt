use Rattle.std.proofs.Common.{rules}
use Rattle.queue_table.proofs.RowLemmas.{sort-sorted, sort-stable}
use Rattle.queue_table.proofs.rows.in_order.Goals as goal

pub returns-in-Ok-clause-sorted : goal.returns-in-Ok-clause-sorted
returns-in-Ok-clause-sorted c = sort-sorted (λ a o f' k. search rules) _ c.in-Ok.ensures.sorted

pub returns-in-Ok-clause-stable : goal.returns-in-Ok-clause-stable
returns-in-Ok-clause-stable c = sort-stable (λ a o f' k. search rules) _ _ c.in-Ok.ensures.stable

use Rattle.std.proofs.Common.{List, ℕ, Option, ◌∙◌, ap, arith}
use Rattle.queue_table.specs.Classes.{end_at}
use Rattle.queue_table.proofs.EndLemmas.{end_at-more}
use Rattle.queue_table.proofs.classes.reserve_last.Goals as goal

pub returns-in-Ok-clause-last : goal.returns-in-Ok-clause-last
returns-in-Ok-clause-last c = λ k.
    ap (λ (l : List (Option ℕ)). end_at l k) c.in-Ok.ensures.items
    ∙ end_at-more c.args.last.now.items 320 _ k
    (omega (arith, c.if-held-ge-MOST_CLASSES.false, c.len-held.ensures, c.args.last.now.ok.0))

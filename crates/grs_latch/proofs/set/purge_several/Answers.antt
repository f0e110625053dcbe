use Rattle.std.proofs.Common.{refl}
use Rattle.grs_latch.proofs.NumberLemmas.{lists_at-purged}
use Rattle.grs_latch.proofs.set.purge_several.Goals as goal

pub returns-clause-lists : goal.returns-clause-lists
returns-clause-lists c =
    lists_at-purged c.args.numbers.now _ _ _ c.args.task c.take_all.ensures.elements refl

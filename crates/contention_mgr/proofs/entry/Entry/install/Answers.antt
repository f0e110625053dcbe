use Rattle.std.proofs.Common.{arith}
use Rattle.contention_mgr.specs.Installs.{ranks_on}
use Rattle.contention_mgr.proofs.LoadLemmas.{small-next}
use Rattle.contention_mgr.proofs.entry.Entry.install.Goals as goal

pub overflow_add-result : goal.overflow_add-result
overflow_add-result c =
    let small = small-next c.greatest_of.result (ranks_on c.args.recs.now) c.greatest_of.ensures c.requires.small in
    omega (arith, small)

use Rattle.std.proofs.Common.{arith}
use Rattle.lock_structure.specs.RankedRows.{ranks_of}
use Rattle.contention_mgr.proofs.LoadLemmas.{rows-free_none, small-next}
use Rattle.contention_mgr.proofs.entry.Entry.load.Goals as goal

pub add_rows-requires-clause-free : goal.add_rows-requires-clause-free
add_rows-requires-clause-free c =
    rows-free_none c.new-table.result.elements c.args.rows.now c.new-table.ensures c.requires.once

pub overflow_add-result : goal.overflow_add-result
overflow_add-result c =
    let small = small-next c.greatest_rank.result (ranks_of c.args.rows.now) c.greatest_rank.ensures c.requires.small in
    omega (arith, small)

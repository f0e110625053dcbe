use Rattle.std.proofs.Common.{◌≡◌, ◌<◌, ◌+◌, [], length, arith}
use Rattle.grs_wire.specs.History.{fixed_entries}
use Rattle.grs_top.proofs.HistoryLen.{answered-more}
use Rattle.grs_top.proofs.generate.history_len.Goals as goal

pub loop-entry-preserved : goal.loop-entry-preserved
loop-entry-preserved c =
    let x = c.entry-item.result in
    let within : c.loop-entry.entry-index < length c.args.fixed.now =
    omega (arith, c.loop-entry-test.true, c.loop-entry.auto.entry-index-end) in
    let entries : length (fixed_entries [] x.0 x.1) ≡ c.entry_count.result = c.entry_count.ensures [] x.0 in
    let next = answered-more c.args.fixed.now c.loop-entry.entry-index x within c.entry-item.is in
    omega (arith, c.in_ok-count.ensures, entries, next, c.loop-entry.invariant)

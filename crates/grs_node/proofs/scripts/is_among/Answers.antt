use Rattle.std.proofs.Common.{◌<◌, ◌≤◌, length, sym, ◌∙◌, arith}
use Rattle.grs_node.proofs.Deck.{walk-within, walk-behind}
use Rattle.grs_node.proofs.scripts.is_among.Goals as goal

pub returns-then-place-count : goal.returns-then-place-count
returns-then-place-count c =
    let here : c.loop-number.number < length c.args.jobs.now = omega (arith, c.loop-number-test.true) in
    let within : c.loop-number.place < length c.index-jobs-number.result.tasks =
    omega (arith, c.len-count.ensures, c.if-place-count.true) in
    sym (walk-within c.args.task.job c.loop-number.number c.loop-number.place c.args.jobs.now c.index-jobs-number.result
    here c.index-jobs-number.is within)
    ∙ c.loop-number.invariant

pub loop-number-preserved : goal.loop-number-preserved
loop-number-preserved c =
    let here : c.loop-number.number < length c.args.jobs.now = omega (arith, c.loop-number-test.true) in
    let behind : c.len-count.result ≤ c.loop-number.place = omega (arith, c.if-place-count.false) in
    sym (walk-behind c.args.task.job c.loop-number.number c.loop-number.place c.len-count.result c.args.jobs.now
    c.index-jobs-number.result here c.index-jobs-number.is c.len-count.ensures behind)
    ∙ c.loop-number.invariant

use Rattle.grs_analyze.proofs.NumberLemmas.{rows-next, lines-next, lines-push}
use Rattle.grs_analyze.proofs.numbered.lines.Goals as goal

pub loop-row-preserved : goal.loop-row-preserved
loop-row-preserved c = record {
  tasks =
      rows-next c.loop-row.tasks.keys c.line_of.new.tasks.keys _ c.row-item.result c.args.rows.now c.loop-row.row-index
      c.as_slice.result.now c.loop-row-test.true c.row-item.is c.as_slice.ensures c.in_ok-line_of.ensures.tasks
      c.loop-row.invariant.tasks;
  lines =
      lines-next c.row-item.result c.args.rows.now c.loop-row.row-index c.as_slice.result.now c.loop-row.lines
      c.push.new.self c.in_ok-line_of.field-0 c.loop-row-test.true c.row-item.is c.as_slice.ensures
      c.in_ok-line_of.ensures.front c.in_ok-line_of.ensures.waiters c.in_ok-push.ensures.ok c.loop-row.invariant.lines;
  named =
      lines-push c.loop-row.tasks.keys c.line_of.new.tasks.keys c.as_slice.result.now c.loop-row.lines c.push.new.self
      c.in_ok-line_of.field-0 c.in_ok-line_of.ensures.tasks c.in_ok-line_of.ensures.named c.in_ok-push.ensures.ok
      c.loop-row.invariant.named;
}

use Rattle.grs_analyze.proofs.NumberLemmas.{numbered-is}
use Rattle.grs_analyze.proofs.numbered.number_rows.Goals as goal

pub returns : goal.returns
returns c =
    numbered-is c.args.rows.now c.in_ok-tasks.tasks c.lines.new.tasks.keys c.new-tasks.result.keys c.in_ok-lines.lines
    c.new-tasks.ensures.len c.in_ok-lines.ensures.tasks c.in_ok-tasks.ensures c.in_ok-lines.ensures.lines
    c.in_ok-lines.ensures.named

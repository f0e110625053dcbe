use Rattle.job_syntax.proofs.ReadLaws.{answers, only}
use Rattle.job_syntax.proofs.read.read_line.Goals as goal

pub returns-clause-exact : goal.returns-clause-exact
returns-clause-exact c =
    answers c.args.text.now c.of_any-lines.result c.one_line.result c.of_any-lines.ensures.spelled c.one_line.ensures

pub returns-clause-only : goal.returns-clause-only
returns-clause-only c =
    only c.args.text.now c.one_line.result
    (answers c.args.text.now c.of_any-lines.result c.one_line.result c.of_any-lines.ensures.spelled c.one_line.ensures)

use Rattle.job_syntax.proofs.Answered.{behind_answers}
use Rattle.job_syntax.proofs.line_ask.line_ask_at.Goals as goal

pub returns-clause-exact : goal.returns-clause-exact
returns-clause-exact c = behind_answers c.by_line_word.result c.args.line_word c.args.ts.now c.by_line_word.ensures

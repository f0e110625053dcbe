use Rattle.rnl_syntax.proofs.Answered.{rnldef_answers}
use Rattle.rnl_syntax.proofs.operands.rnldef_at.Goals as goal

pub returns-clause-exact : goal.returns-clause-exact
returns-clause-exact c = rnldef_answers c.operands_at.result c.args.ts.now c.operands_at.ensures

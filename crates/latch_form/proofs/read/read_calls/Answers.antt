use Rattle.latch_form.proofs.First.{answers, only}
use Rattle.latch_form.proofs.Whole.{whole}
use Rattle.latch_form.proofs.read.read_calls.Goals as goal

pub returns-clause-exact : goal.returns-clause-exact
returns-clause-exact c = answers c.args.text.now c.read_all.result c.read_all.ensures

pub returns-clause-only : goal.returns-clause-only
returns-clause-only c = only c.args.text.now c.read_all.result c.read_all.ensures

pub returns-clause-whole : goal.returns-clause-whole
returns-clause-whole c = whole c.args.text.now c.read_all.result c.read_all.ensures

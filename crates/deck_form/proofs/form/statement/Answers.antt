use Rattle.deck_form.proofs.Unknown.{answers}
use Rattle.deck_form.proofs.form.statement.Goals as goal

pub returns-clause-exact : goal.returns-clause-exact
returns-clause-exact c = answers c.read_form.result c.args.scheduled c.args.entries c.args.line.now c.read_form.ensures

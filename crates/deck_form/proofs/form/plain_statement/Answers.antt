use Rattle.std.proofs.Common.{true}
use Rattle.deck_form.proofs.Unknown.{answers}
use Rattle.deck_form.proofs.form.plain_statement.Goals as goal

pub returns-clause-exact : goal.returns-clause-exact
returns-clause-exact c = answers c.read_plain.result true c.args.entries c.args.line.now c.read_plain.ensures

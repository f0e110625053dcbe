use Rattle.std.proofs.Common.{refl}
use Rattle.deck_scan.specs.Scan.{lines_of}
use Rattle.deck_scan.specs.Rows.{to_come}
use Rattle.deck_scan.proofs.AnyLemmas.{some_lines}
use Rattle.deck_scan.proofs.cursor.Lines.of_any.Goals as goal

pub returns-clause-spelled : goal.returns-clause-spelled
unfolding to_come lines_of
returns-clause-spelled c = some_lines c.args.text.now

pub returns-clause-read : goal.returns-clause-read
unfolding to_come lines_of
returns-clause-read c = refl

use Rattle.std.proofs.Common.{sym}
use Rattle.deck_scan.proofs.Rows.{last_wrong_ok}
use Rattle.deck_scan.proofs.cursor.read_last.Goals as goal

pub returns-else-is_empty : goal.returns-else-is_empty
returns-else-is_empty c =
    last_wrong_ok c.args.at c.args.begun c.args.text.now c.args.behind.now c.read_wrong.result c.requires.printable
    (sym c.if-is_empty.ensures) c.requires.stops c.requires.last c.read_wrong.ensures

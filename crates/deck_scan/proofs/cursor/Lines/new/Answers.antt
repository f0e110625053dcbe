use Rattle.std.proofs.Common.{sym, ap, ◌∙◌}
use Rattle.deck_scan.specs.Scan.{lines_of}
use Rattle.deck_scan.proofs.AnyLemmas.{readable_all}
use Rattle.deck_scan.proofs.Pieced.{deck_spelled, deck_read}
use Rattle.deck_scan.proofs.cursor.Lines.new.Goals as goal

pub returns-in-None-clause-exact : goal.returns-in-None-clause-exact
returns-in-None-clause-exact c =
    deck_spelled c.args.text.now c.of_any.result c.if-text-gt-MOST_TEXT_BYTES.false c.in-None.ensures
    (c.of_any.ensures.read ∙ ap lines_of (readable_all c.args.text.now 1 (sym c.in-None.ensures)))

pub returns-in-None-clause-read : goal.returns-in-None-clause-read
returns-in-None-clause-read c =
    deck_read c.args.text.now c.of_any.result c.if-text-gt-MOST_TEXT_BYTES.false c.in-None.ensures
    (c.of_any.ensures.read ∙ ap lines_of (readable_all c.args.text.now 1 (sym c.in-None.ensures)))
